pub mod Pieces
pub mod ReadBack
pub mod Joined
pub mod Runs
