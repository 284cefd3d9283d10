mod Powers
pub mod Stacking
mod Tables
mod Rows
