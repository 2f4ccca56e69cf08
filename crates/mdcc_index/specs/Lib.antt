pub mod Crowding
pub mod Loads
pub mod Marks
pub mod Stores
