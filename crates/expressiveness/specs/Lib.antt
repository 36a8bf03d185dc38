pub mod Order
pub mod Floors
