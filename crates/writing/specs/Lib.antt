pub mod Written
pub mod Writes
pub mod Steps
pub mod Refusals
