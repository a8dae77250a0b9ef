pub mod Text
pub mod Form
pub mod Read
pub mod Held
