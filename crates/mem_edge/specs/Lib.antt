pub mod Calls
pub mod Files
pub mod Hosts
pub mod Laws
pub mod Orders
pub mod Seen
pub mod State
pub mod Views
