pub mod Asks
pub mod Commands
pub mod Grammar
