pub mod CountLaws
pub mod LeftLaws
pub mod MarkLaws
pub mod SpotLaws
pub mod StandLaws
pub mod StepLaws
