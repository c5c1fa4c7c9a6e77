pub mod sweep_inputs
pub mod sweep_run
pub mod sweep_command
