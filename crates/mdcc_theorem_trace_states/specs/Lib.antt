pub mod Invariant
pub mod VolatileInvariant
pub mod Sound
pub mod MessageMeaning
pub mod Steps
pub mod Words
