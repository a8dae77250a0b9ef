pub mod Means
pub mod Stands
pub mod Text
