pub mod line_text
pub mod line_objects
