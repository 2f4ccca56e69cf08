pub mod AmountParts
pub mod HexBodies
pub mod Numerals
pub mod Onto
pub mod Parts
pub mod Seams
pub mod Spelled
pub mod ValueParts
