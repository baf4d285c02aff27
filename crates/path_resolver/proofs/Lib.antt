pub mod CountLaws
pub mod PlanLaws
pub mod ReadLemmas
pub mod RowLaws
pub mod StepLaws
pub mod TakeLaws
pub mod TrailLemmas
