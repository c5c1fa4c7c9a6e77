pub mod CountLemmas
pub mod ExportLemmas
pub mod ChangeLemmas
pub mod UsableLemmas
pub mod ImportAskLemmas
pub mod ImportLemmas
pub mod LineLemmas
