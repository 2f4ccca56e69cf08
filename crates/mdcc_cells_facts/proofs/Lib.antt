pub mod Ticketed
