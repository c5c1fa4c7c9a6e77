pub mod ObjectLemmas
pub mod LoggedLemmas
pub mod SaidLemmas
pub mod PieceLemmas
pub mod SweptLemmas
