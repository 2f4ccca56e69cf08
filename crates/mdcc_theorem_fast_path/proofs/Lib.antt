pub mod Lists
pub mod Chosen
pub mod FastPaths
pub mod OpenSteps
pub mod OpenWorlds
pub mod States
pub mod Accepting
pub mod Splitting
