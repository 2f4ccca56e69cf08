pub mod Example
pub mod Histories
pub mod Lives
pub mod Told
