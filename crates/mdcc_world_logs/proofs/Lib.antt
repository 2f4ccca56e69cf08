mod Begun
mod Calls
mod Copied
mod Made
mod Nodes
mod Payloads
pub mod Refusals
mod Stages
mod Standing
mod Starts
mod Stops
mod Tails
