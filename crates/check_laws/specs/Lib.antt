pub mod Laws
pub mod Unmet
pub mod Demand
pub mod Freed
