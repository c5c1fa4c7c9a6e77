pub mod Applied
pub mod Outside
pub mod Results
pub mod Runs
pub mod Sectors
