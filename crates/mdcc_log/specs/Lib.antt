pub mod AtRest
pub mod Checkpoint
pub mod Crash
pub mod Examples
pub mod Frames
pub mod Groups
pub mod Invariant
pub mod Kept
pub mod Opening
pub mod Reading
pub mod Repair
pub mod Room
pub mod Settling
pub mod Tails
-- what areas are, and what calls at two of them leave, is passed on
pub use Rattle.mdcc_log_file.specs.Area
pub use Rattle.mdcc_log_file.specs.Both
pub use Rattle.mdcc_log_file.specs.Copying
