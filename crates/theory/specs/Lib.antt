pub mod Lists
pub mod Model
pub mod Rules
pub mod Algebra
pub mod Tallies
