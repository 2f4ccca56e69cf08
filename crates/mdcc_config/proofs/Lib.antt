mod HostTexts
mod Missing
mod Objects
mod Pairs
pub mod Ports
