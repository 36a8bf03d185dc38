pub mod Split
pub mod Past
