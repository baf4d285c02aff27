pub mod ConflictLemmas
pub mod EditLemmas
pub mod HolderLemmas
pub mod KeptLemmas
pub mod LockLaws
pub mod PlanLaws
pub mod PlanLemmas
pub mod SampleLemmas
