pub mod Matching
pub mod Hits
pub mod Lines
pub mod Places
pub mod Narrower
pub mod AsKey
pub mod Cases
