pub mod Begun
pub mod RoundMessages
pub mod RoundSteps
pub mod RoundTicks
pub mod Rounds
pub mod Short
pub mod Small
pub mod Walks
