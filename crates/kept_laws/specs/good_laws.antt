pub mod Ready
pub mod Unguarded
