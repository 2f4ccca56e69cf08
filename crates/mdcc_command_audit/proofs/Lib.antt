pub mod Completed
pub mod Ended
pub mod Facts
pub mod Places
pub mod Refusals
pub mod Stages
pub mod Totals
