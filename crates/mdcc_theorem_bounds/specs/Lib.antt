pub mod Held
pub mod Rooms
