pub mod Closing
mod Rooms
mod Takes
mod Lasts
mod Entries
mod Pushes
