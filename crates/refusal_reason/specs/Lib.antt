pub mod reason_lines
pub mod refusal_reason
