pub mod HeldVersions
pub mod InCells
pub mod Numbers
pub mod UnresolvedNumbers
