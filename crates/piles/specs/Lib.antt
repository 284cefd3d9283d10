pub mod Slots
pub mod Stacks
pub mod Laws
