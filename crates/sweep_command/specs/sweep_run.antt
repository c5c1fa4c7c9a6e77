pub mod Swept
pub mod Played
