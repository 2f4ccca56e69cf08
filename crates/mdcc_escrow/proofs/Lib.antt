pub mod Bounded
pub mod Capped
pub mod Weighing
pub mod WithinRoom
