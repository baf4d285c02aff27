pub mod EndLaws
pub mod InputLaws
pub mod ReadLists
pub mod ReplayLaws
