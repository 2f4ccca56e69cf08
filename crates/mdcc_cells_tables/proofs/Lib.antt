pub mod Accepted
pub mod Entries
pub mod HeldMore
pub mod KeyPut
pub mod UnresolvedMore
pub mod UnresolvedRead
