pub mod OverviewPage
pub mod PredictPages
pub mod LookPages
pub mod RepairPages
pub mod TopicPages
pub mod Constants
pub mod Pages
pub mod Options
