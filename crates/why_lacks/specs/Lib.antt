pub mod why_items
pub mod why_lacks
pub mod why_cycle
