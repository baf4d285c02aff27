pub mod Children
pub mod Slots
pub mod Table
