pub mod Centres
pub mod Free
pub mod Headers
pub mod Numbers
pub mod PartsOfWords
pub mod Spelled
pub mod Texts
