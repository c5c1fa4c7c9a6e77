-- What does a call answer? What the program does on these words and files, with the same clauses. (this project's own)
use Rattle.std.specs.Prelude.{◌≡◌, ◌++◌, ℕ, true, List, [], Option, codes, drop, length, take}
use Rattle.std.specs.Option.{unwrap_or}
use Rattle.nt_edge.specs.Disk.{DiskState}
use Rattle.nt_edge.specs.Host.{Files, HostState}
use Rattle.command_words.specs.Reading.{reading_of}
use Rattle.command_parts.specs.command_parts.Exits.{exit_of}
use Rattle.command_parts.specs.command_parts.Leaves.{Leaves}
use Rattle.command_parts.specs.declared.command_parts.status.Status.{Status}
use Rattle.ntboot_cli.specs.Answer.{EndsWords, LeavesFiles}
use Rattle.ntboot_c.specs.declared.answer.Answer.{Answer}
use Rattle.ntboot_c.specs.Words.{AreWords}

-- the bytes of a file, none where there is no such file
abbrev pub bytes_of : Option (List ℕ) → List ℕ
bytes_of found = unwrap_or found []

-- a host without faults that has these files, and to which nothing was printed yet
pub record IsNew (files : Files) (host : HostState) : Type 0 where
  pub tells : host.tells ≡ true
  pub quiet : host.quiet ≡ true
  pub holds : (q : List ℕ) → host.files q ≡ files q
  pub unsaid : host.said ≡ []

-- what was printed on a host, and its files `saved` and `saved.log`, with this status
pub record IsLeftOn (status : Status) (host : HostState) (answer : Answer) : Type 0 where
  pub ended : answer.status ≡ status
  pub said : answer.said ≡ host.said
  pub saved_hive : answer.saved_hive ≡ bytes_of (host.files (codes "saved"))
  pub saved_log : answer.saved_log ≡ bytes_of (host.files (codes "saved.log"))

-- the program's answer on these words and files: its status, all that it printed, and what it saved
pub record Answers (text : List ℕ) (files : Files) (answer : Answer) : Type 0 where
  pub words : List (List ℕ)
  pub old : HostState
  pub new : HostState
  pub disk : DiskState
  pub given : AreWords text words
  pub ready : IsNew files old
  pub leaves : Leaves (EndsWords (reading_of words) old.files new.files disk) answer.status old new
  pub changes : LeavesFiles (reading_of words) answer.status disk old.files new.files
  pub left : IsLeftOn answer.status new answer

-- memory of the caller: what is in it before and after a call, and the length in bytes that it is told of
pub record Room : Type 0 where
  pub before : List ℕ
  pub after : List ℕ
  pub told : ℕ

-- it has the first bytes of a whole, as many as there is room for, and its length is told
pub record IsGiven (whole : List ℕ) (room : Room) : Type 0 where
  pub told : room.told ≡ length whole
  pub front : room.after ≡ take (length room.before) whole ++ drop (length whole) room.before

-- the status and the texts of an answer are given
pub record IsAnswered (text : List ℕ) (files : Files) (status : ℕ) (said saved_hive saved_log : Room) : Type 0 where
  pub answer : Answer
  pub answers : Answers text files answer
  pub ended : status ≡ exit_of answer.status
  pub told : IsGiven answer.said said
  pub given_hive : IsGiven answer.saved_hive saved_hive
  pub given_log : IsGiven answer.saved_log saved_log

-- out of memory, before anything is given
pub record HasNoMemory (status said saved_hive saved_log : ℕ) : Type 0 where
  pub ended : status ≡ 9
  pub unsaid : said ≡ 0
  pub no_hive : saved_hive ≡ 0
  pub no_log : saved_log ≡ 0
