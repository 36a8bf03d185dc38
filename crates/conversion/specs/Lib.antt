pub mod Refusals
pub mod Converts
pub mod Worked
pub mod Flags
pub mod Beyond
pub mod Shapes
pub mod Charts
pub mod Listed
