pub mod Parts
pub mod Values
mod Lists
pub mod Told
mod Printable
pub mod Units
pub mod LineKinds
pub mod Words
mod StartLines
mod TreeKind
mod TreeCounts
pub mod ReportLemmas
