pub mod PrintLemmas
pub mod TellLemmas
pub mod ReportLemmas
pub mod EndLemmas
pub mod HexLemmas
