pub mod Sections
pub mod Acts
pub mod Costs
pub mod Did
pub mod Records
