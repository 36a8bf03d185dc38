pub mod Sets
pub mod Ladders
pub mod Rank
pub mod House
pub mod Rows
pub mod Laws
pub mod Everywhere
