pub mod Adding
pub mod Listed
pub mod Past
pub mod Walks
pub mod Weights
