pub mod Lists
pub mod Rules
pub mod Sums
pub mod Tallies
