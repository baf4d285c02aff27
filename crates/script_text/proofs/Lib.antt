mod Arguments
mod Calls
mod Canonical
mod Exact
mod Forms
mod Generated
mod GeneratedScripts
pub mod Literals
pub mod NoFloat
mod OneScript
mod ReadBack
pub mod Reading
pub mod ScriptLaws
pub mod ValueFacts
mod Values
pub mod ViewLemmas
mod WrittenText
