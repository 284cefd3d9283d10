pub mod Shapes
pub mod Places
pub mod Policies
pub mod Layers
pub mod Laid
pub mod Direct
pub mod Lru
pub mod Laws
