pub mod Samples
pub mod Trees
pub mod Looking
pub mod Cuts
pub mod Whole
pub mod Opened
pub mod Rows
pub mod Both
