pub mod Checks
pub mod Alls
pub mod Sounds
pub mod Keeps
pub mod Runs
pub mod Lookups
pub mod Fields
mod Said
mod Ends
mod Groups
mod Builds
