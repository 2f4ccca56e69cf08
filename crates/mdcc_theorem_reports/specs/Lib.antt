pub mod Growth
pub mod Order
pub mod Origins
pub mod Replays
