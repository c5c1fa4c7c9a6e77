pub mod Driver
pub mod Faults
pub mod Deep
pub mod FullHives
pub mod Named
