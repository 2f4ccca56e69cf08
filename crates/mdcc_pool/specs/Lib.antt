pub mod Chains
pub mod Held
pub mod Pool
pub mod Reading
pub mod Sizes
