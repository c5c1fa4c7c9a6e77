pub mod Told
pub mod Blocks
pub mod Stacks
pub mod Findings
pub mod Bare
pub mod Lost
pub mod Repaired
pub mod Started
