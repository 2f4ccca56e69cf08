pub mod FirstLines
pub mod MoreBounds
pub mod Spelled
pub mod Steps
pub mod ValueTexts
