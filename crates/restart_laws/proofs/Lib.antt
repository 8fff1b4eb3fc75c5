pub mod RowLaws
pub mod RestartLaws
pub mod HonestLaws
pub mod StepLaws
pub mod HistoryLaws
pub mod RunLaws
pub mod HoldLaws
