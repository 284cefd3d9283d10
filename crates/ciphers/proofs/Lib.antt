pub mod Lookups
pub mod Moves
pub mod Nibbles
pub mod Steps
pub mod Turning
