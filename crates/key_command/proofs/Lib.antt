pub mod ReadingLemmas
pub mod CutLemmas
pub mod AlongLemmas
pub mod FindLemmas
pub mod LineLemmas
pub mod JudgedLemmas
pub mod TextLemmas
