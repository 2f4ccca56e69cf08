mod Again
mod AreaRead
pub mod Around
pub mod Choice
mod Closes
pub mod Dues
pub mod Followed
pub mod Groups
pub mod Idles
mod Keeps
mod Loads
pub mod LogReads
mod OpenStays
mod Opened
mod Opens
mod Outcomes
mod Packs
pub mod Rooms
mod Settles
mod Stands
mod Takes
mod Theorems
pub mod Uses
