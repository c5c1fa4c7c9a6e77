pub mod CountLemmas
pub mod LoggedLemmas
pub mod ChainLemmas
pub mod GoesLemmas
pub mod BreakLemmas
pub mod ReportLemmas
