mod Ranks
mod Indices
pub mod Names
