pub mod Admission
pub mod Boots
pub mod Laws
pub mod Loading
