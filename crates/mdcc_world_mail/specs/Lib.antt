pub mod StoredMessages
pub mod Waiting
