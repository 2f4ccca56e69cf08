pub mod BootEffects
pub mod MethodEffects
pub mod Laws
pub mod StepPlans
pub mod NodeHistory
pub mod Represents
pub mod StepAnswers
pub mod StepParts
