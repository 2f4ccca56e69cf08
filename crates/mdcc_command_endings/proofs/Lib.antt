pub mod Accepted
pub mod Causes
pub mod LogEnds
pub mod StatusLines
