pub mod LedgerTest
