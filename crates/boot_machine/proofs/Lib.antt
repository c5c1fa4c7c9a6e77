pub mod PartLemmas
pub mod Places
pub mod QueueLemmas
pub mod StartLemmas
pub mod Noted
pub mod Attempts
pub mod PathLemmas
