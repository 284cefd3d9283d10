mod Erased
mod Few
mod Laid
mod Writing
