pub mod Closes
pub mod Names
pub mod Took
pub mod Entries
