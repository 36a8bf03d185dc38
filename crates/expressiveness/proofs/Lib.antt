pub mod Search
pub mod Rising
pub mod Ground
pub mod Told
pub mod Requests
pub mod Lists
pub mod Laws
pub mod Agreeing
