pub mod ApartLemmas
pub mod BuildLemmas
pub mod DataLemmas
pub mod FocusLemmas
pub mod LineLemmas
pub mod TextLemmas
pub mod WholeLemmas
