pub mod Makes
pub mod Meanings
pub mod Faults
pub mod Calls
pub mod Flats
