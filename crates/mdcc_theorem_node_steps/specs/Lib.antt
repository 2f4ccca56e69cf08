pub mod AddedFacts
pub mod StepAnswers
pub mod NodeInvariant
pub mod Inputs
pub mod WellFormedVolatile
