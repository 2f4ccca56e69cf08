pub mod Accepting
pub mod Deciding
pub mod Messages
pub mod RoundTrips
pub mod Example
pub mod Worlds
pub mod Cells
pub mod Refusals
