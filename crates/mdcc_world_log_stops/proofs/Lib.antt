mod Memories
mod StopCalls
pub mod Stopped
