pub mod Buffers
pub mod Digits
pub mod Answers
pub mod Steps
