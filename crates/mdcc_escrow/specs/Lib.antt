pub mod Capped
pub mod Laws
pub mod Sums
pub mod Weights
pub mod WithinRange
