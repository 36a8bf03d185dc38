pub mod Tells
pub mod Deciding
pub mod Numbered
