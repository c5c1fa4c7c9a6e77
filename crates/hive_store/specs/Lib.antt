pub mod Checks
pub mod Edits
pub mod Session
pub mod Found
pub mod Loading
pub mod Commits
pub mod Changes
pub mod Same
