pub mod Values
pub mod Drivers
pub mod Database
pub mod Devices
pub mod Classes
pub mod Report
