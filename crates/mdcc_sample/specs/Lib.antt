pub mod Draws
pub mod Orders
pub mod Shop
pub mod Texts
