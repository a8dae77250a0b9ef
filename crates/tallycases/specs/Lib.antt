pub mod Ends
pub mod Laws
pub mod Lists
pub mod Text
