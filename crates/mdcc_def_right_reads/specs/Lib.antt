pub mod RightReads
