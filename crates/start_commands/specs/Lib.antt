pub mod start_inputs
pub mod why_command
pub mod graph_command
pub mod whatif_command
