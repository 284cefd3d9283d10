pub mod Bytes
pub mod Lines
pub mod Numbers
pub mod Words
pub mod Scanner
