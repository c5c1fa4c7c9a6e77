pub mod FileLemmas
pub mod PrintedLemmas
pub mod NotesLemmas
pub mod RoomLemmas
pub mod LawLemmas
pub mod RefusalLemmas
