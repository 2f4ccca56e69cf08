pub mod Brought
pub mod Centres
pub mod Inputs
pub mod Laws
pub mod Told
pub mod Without
