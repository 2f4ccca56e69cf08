pub mod Entries
pub mod Inclusion
pub mod Order
pub mod Ordered
pub mod Reports
pub mod Values
pub mod Votes
pub mod Walks
