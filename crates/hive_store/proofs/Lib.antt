pub mod Holding
pub mod LoadingLemmas
pub mod EditingLemmas
pub mod CommittingLemmas
pub mod LoadingCalls
pub mod SizedLemmas
pub mod KeepLemmas
pub mod LastLemmas
