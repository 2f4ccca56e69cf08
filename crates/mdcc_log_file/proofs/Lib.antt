pub mod Appends
pub mod Bytes
pub mod Calls
pub mod Copies
pub mod FrameRead
pub mod Gates
pub mod Joined
pub mod LogRead
pub mod Moments
pub mod OnlyReads
pub mod ReadCalls
pub mod Records
mod Repairs
