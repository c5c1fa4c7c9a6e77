pub mod replay_text
pub mod replay_command
pub mod salvage_command
