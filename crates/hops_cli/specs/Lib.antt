pub mod Built
pub mod Ends
pub mod Run
pub mod Status
pub mod Turning
pub mod Words
