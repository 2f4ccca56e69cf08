pub mod Acts
pub mod Answers
pub mod Asking
pub mod Commands
pub mod Effects
pub mod Orders
pub mod Requests
pub mod Texts
