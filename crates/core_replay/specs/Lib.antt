pub mod Built
pub mod Ends
pub mod Events
pub mod Input
pub mod Parts
pub mod Replay
pub mod Status
pub mod Told
