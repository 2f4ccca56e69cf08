pub mod Moments
pub mod Read
pub mod TraceDisks
