pub mod Keys
pub mod Resolving
pub mod Stepping
pub mod Ways
