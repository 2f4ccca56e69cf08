pub mod Counted
pub mod Floored
pub mod Held
pub mod Origins
