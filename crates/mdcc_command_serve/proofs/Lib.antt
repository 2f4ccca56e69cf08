pub mod Completed
pub mod Known
pub mod Refused
pub mod Served
pub mod Untaken
mod Waiting
