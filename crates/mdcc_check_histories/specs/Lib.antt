pub mod Grammar
pub mod Slots
pub mod Tallies
pub mod Texts
