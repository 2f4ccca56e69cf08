pub mod Commands
pub mod Dumps
pub mod Texts
