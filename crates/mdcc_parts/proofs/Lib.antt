pub mod Elements
pub mod Pushed
