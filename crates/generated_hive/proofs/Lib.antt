pub mod CountLemmas
pub mod NameLemmas
pub mod TestLemmas
pub mod SoundLemmas
pub mod SizeLemmas
pub mod LoadLemmas
