pub mod why_state
pub mod why_needs
