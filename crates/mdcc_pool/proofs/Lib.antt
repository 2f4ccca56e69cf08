pub mod Chains
pub mod Copying
pub mod Fresh
pub mod Held
pub mod Kept
pub mod Pieces
pub mod Readings
