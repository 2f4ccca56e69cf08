pub mod Known
pub mod Printed
pub mod NoMemory
