pub mod Logged
pub mod Stages
pub mod Calls
pub mod Said
pub mod Words
pub mod Report
