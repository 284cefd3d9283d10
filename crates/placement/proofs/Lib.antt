pub mod Distinct
pub mod Lowests
