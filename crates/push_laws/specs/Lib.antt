pub mod PushVerdicts
pub mod PushReplays
pub mod Pushes
pub mod PushLaws
pub mod Alike
pub mod Given
pub mod Examples
pub mod StreamExamples
