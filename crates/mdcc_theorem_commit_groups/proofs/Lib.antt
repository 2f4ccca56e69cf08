pub mod Alone
pub mod Booting
pub mod Durable
pub mod Lasts
pub mod Nodes
