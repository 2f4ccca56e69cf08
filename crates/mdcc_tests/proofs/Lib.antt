pub mod Read
pub mod Voted
