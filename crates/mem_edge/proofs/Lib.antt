pub mod ArmLemmas
pub mod CallLemmas
pub mod CutLemmas
pub mod FlightLemmas
pub mod KeepLemmas
pub mod RoomLemmas
pub mod StopLemmas
