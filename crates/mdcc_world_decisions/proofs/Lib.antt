pub mod ByLedger
pub mod Kept
pub mod Ranges
pub mod Walks
pub mod Stood
pub mod Sums
pub mod Txs
