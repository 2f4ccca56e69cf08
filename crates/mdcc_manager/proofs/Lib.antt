pub mod Acts
pub mod Kept
pub mod Numbered
pub mod Sides
pub mod Ticked
