pub mod Ascending
mod Blocks
pub mod Filtered
mod Indexed
mod Linked
mod OnWay
