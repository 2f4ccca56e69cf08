pub mod Completed
pub mod Dumped
pub mod Ended
pub mod Facts
pub mod Places
pub mod Printed
pub mod Said
