pub mod Sets
pub mod Fills
pub mod Copies
pub mod Facts
