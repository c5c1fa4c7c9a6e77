pub mod Apart
pub mod Lists
pub mod Phases
pub mod Untried
