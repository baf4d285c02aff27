pub mod PathLaws
pub mod PathLemmas
pub mod Spelling
pub mod Tells
pub mod TextLemmas
