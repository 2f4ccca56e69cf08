pub mod AllowedFacts
pub mod AllowedLedgers
pub mod AllowedStructures
pub mod BootTest
pub mod Ledger
