pub mod Counted
pub mod Leaving
pub mod Listing
pub mod Truth
pub mod Columns
pub mod Counting
pub mod Turning
