pub mod Spans
pub mod Writes
pub mod Ran
pub mod Done
pub mod Erasing
