pub mod ReportLemmas
pub mod TextLemmas
