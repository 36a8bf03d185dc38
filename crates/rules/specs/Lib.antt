pub mod Letters
pub mod Models
pub mod Requests
pub mod Rules
pub mod Filled
