-- What does a search of the host's files find, and how many files does it ask for? This project's own.
--
-- A search is written once, as its steps in their order: what it finds and how many files it asks for are two readings of it.
use Rattle.std.specs.Prelude.{◌≡◌, ◌+◌, ℕ, true, List, Option, Some, None, Result, Ok}
use Rattle.nt_bytes.specs.Reading.{◌>>=◌ as ok_then}
use Rattle.nt_edge.specs.Host.{Files, HostState}
use Rattle.boot_ini.specs.declared.boot_ini.ini.BootIni.{BootIni}
use Rattle.command_parts.specs.declared.command_parts.refusal.Refusal.{Refusal}
use Rattle.command_parts.specs.declared.command_parts.refusal.Obstacle.{Obstacle}
use Rattle.command_parts.specs.declared.command_parts.inputs.HiveFiles.{HiveFiles}
use Rattle.command_parts.specs.command_parts.Inputs.{file_in, bytes_in, ini_in, hive_in, behind_step, asks_hive}
use Rattle.command_parts.specs.command_parts.Leaves.{AsksUntil, Looks, named}
use Rattle.command_parts.specs.declared.input_search.searching.BootFiles.{BootFiles}

-- by the host's files, what a search finds or its first refusal, and how many files it asks for up to there
pub record Search (A : Type 0) : Type 0 where
  pub found : Files → Result A Refusal
  pub asked : Files → ℕ

-- one search, and then another by what it found
unfoldable pub searched : {A B : Type 0} → Search A → (A → Search B) → Search B
searched one next = record {
  found = λ files. ok_then (one.found files) (λ a. (next a).found files);
  asked = λ files. one.asked files + behind_step (one.found files) (λ a. (next a).asked files);
}

abbrev pub ◌>>=◌ : {A B : Type 0} → Search A → (A → Search B) → Search B
◌>>=◌ one next = searched one next

-- ---- the steps

-- no file is asked for
abbrev pub reads : {A : Type 0} → Result A Refusal → Search A
reads result = record { found = λ files. result; asked = λ files. 0 }

-- and this is found
abbrev pub finds : {A : Type 0} → A → Search A
finds a = reads (Ok a)

-- a file
abbrev pub file : List ℕ → Search (List ℕ)
file name = record { found = λ files. file_in name (files name); asked = λ files. 1 }

-- one that the command line may leave out: it is empty where it does
abbrev pub file_or_empty : Option (List ℕ) → Search (List ℕ)
file_or_empty name = record { found = λ files. bytes_in files name; asked = λ files. named name }

-- one that the command line may leave out
abbrev pub file_if : Option (List ℕ) → Search (Option (List ℕ))
file_if None = finds None
file_if (Some name) = do
  bytes ← file name
  finds (Some bytes)

-- a hive and its log
abbrev pub hive : List ℕ → Option (List ℕ) → Search HiveFiles
hive name log = record { found = λ files. hive_in files name log; asked = λ files. asks_hive files name log }

-- boot.ini, with its entries for a system of this path
abbrev pub entries : Option (List ℕ) → List ℕ → Search BootIni
entries name system = do
  text ← file_or_empty name
  reads (ini_in text system)

-- boot.ini, and then a hive and its log
abbrev pub boot_files : Option (List ℕ) → List ℕ → List ℕ → Option (List ℕ) → Search BootFiles
boot_files boot_ini system name log = do
  ini ← entries boot_ini system
  files ← hive name log
  finds (record { ini = ini; hive = files })

-- ---- a call

-- its files were asked for, each once and in their order, up to the first refusal or stop
abbrev pub AsksFor : {A B : Type 0} → Search A → Result B Obstacle → HostState → HostState → Type 0
AsksFor search result old new = old.tells ≡ true → AsksUntil (search.asked old.files) result old.gets new.gets

-- a call made this search: nothing was printed, and no file changed
pub record Seeks {A : Type 0} (search : Search A) (result : Result A Obstacle) (old new : HostState) : Type 0 where
  pub looks : Looks (search.found old.files) result old new
  pub asks : AsksFor search result old new
