pub mod Wide
pub mod Filled
pub mod Pages
