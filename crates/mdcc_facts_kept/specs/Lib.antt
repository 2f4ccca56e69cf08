pub mod Adding
pub mod Kept
pub mod Next
pub mod Void
