pub mod Numbers
pub mod Posts
pub mod Filled
