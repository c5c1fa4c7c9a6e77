pub mod why_place
pub mod why_pulled
pub mod why_answer
