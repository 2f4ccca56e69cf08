pub mod ActLists
pub mod Caused
pub mod Completed
pub mod Doings
pub mod Ended
pub mod Few
pub mod Replied
pub mod Seen
pub mod Turns
mod Waiting
