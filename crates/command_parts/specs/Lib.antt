pub mod command_parts
pub mod input_search
