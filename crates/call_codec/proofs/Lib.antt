pub mod OneReadings
pub mod OneAnswers
