pub mod Answered
pub mod Lengths
pub mod Proposing
pub mod Ticks
