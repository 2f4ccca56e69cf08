pub mod EnoughPromises
pub mod Plain
