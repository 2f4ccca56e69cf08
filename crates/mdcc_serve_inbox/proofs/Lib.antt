pub mod Lengths
pub mod Read
