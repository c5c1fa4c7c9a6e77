pub mod Awake
pub mod Told
pub mod Twinned
