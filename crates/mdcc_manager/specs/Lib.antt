pub mod Begin
pub mod Numbered
pub mod Opened
pub mod Sides
pub mod Represents
pub mod Ticks
