pub mod Beside
pub mod Found
pub mod InCells
