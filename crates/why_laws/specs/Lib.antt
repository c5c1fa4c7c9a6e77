pub mod why_laws
pub mod cycle_laws
pub mod course_laws
