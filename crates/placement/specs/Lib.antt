pub mod Spans
pub mod Regions
pub mod Faults
pub mod Misplaced
