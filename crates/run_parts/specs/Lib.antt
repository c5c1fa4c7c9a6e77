pub mod run_parts
pub mod printed_parts
