pub mod Bounds
pub mod Equality
pub mod Held
pub mod OneCopy
pub mod Parts
pub mod Schema
pub mod StoreMap
pub mod Transaction
