pub mod CountLemmas
pub mod ObjectLemmas
pub mod ReportLemmas
