pub mod Holders
pub mod Kept
pub mod Lists
pub mod Locks
pub mod Plans
pub mod Samples
