pub mod Bytes
pub mod Field
pub mod Aes
pub mod Present
pub mod Rules
pub mod Counter
pub mod Kinds
