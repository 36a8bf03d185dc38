pub mod Policies
pub mod Lists
pub mod ListMeaning
