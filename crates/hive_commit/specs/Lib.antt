pub mod Alone
pub mod Calls
pub mod Commits
pub mod Cuts
pub mod Growing
pub mod Stages
pub mod Stops
pub mod Untouched
