pub mod Answers
pub mod Extending
pub mod Leads
pub mod Promises
pub mod Represents
