pub mod Lists
pub mod Cuts
mod Forms
