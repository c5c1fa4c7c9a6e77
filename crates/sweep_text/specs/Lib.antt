pub mod sweep_text
pub mod sweep_lines
