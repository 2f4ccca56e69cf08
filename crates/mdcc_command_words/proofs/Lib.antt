pub mod Asked
pub mod Each
pub mod Few
pub mod Hyphens
pub mod Local
pub mod Shapes
pub mod Slices
pub mod Taken
