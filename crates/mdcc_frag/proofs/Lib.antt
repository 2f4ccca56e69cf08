pub mod LaidOut
pub mod Entries
pub mod Arrived
pub mod Taken
