pub mod Passing
pub mod Rereading
pub mod Rows
pub mod Search
