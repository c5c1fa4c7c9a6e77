-- What is the program called with, and which files are there? (this project's own)
use Rattle.std.specs.Prelude.{◌≡◌, ℕ, true, false, List, [], ◌∷◌, ◌++◌, Some, codes}
use Rattle.nt_bytes.specs.declared.version.HiveVersion.TheVariants.{V3}
use Rattle.hive_model.specs.Load.{state_of}
use Rattle.nt_edge.specs.Host.{HostState}
use Rattle.start_model.specs.Possible.{Woken}
use Rattle.generated_hive.specs.Generated.{generated}

-- the command line
abbrev pub words : List (List ℕ)
words =
    codes "run" ∷ codes "--hive" ∷ codes "hive" ∷ codes "--boot-ini" ∷ codes "boot.ini" ∷ codes "--script" ∷ codes "script" ∷ []

-- the text of boot.ini: one entry, of the usual system
abbrev pub ini_text : List ℕ
ini_text =
    codes "[boot loader]\n"
    ++ codes "timeout=30\n"
    ++ codes "default=multi(0)disk(0)rdisk(0)partition(1)\\WINDOWS\n"
    ++ codes "[operating systems]\n"
    ++ codes "multi(0)disk(0)rdisk(0)partition(1)\\WINDOWS=\"Windows\" /fastdetect\n"

-- what the hive loads as: a generated system with three services, one in each phase; it is clean, and its sequence number is 1
abbrev pub made : Woken
made = record { state = state_of (generated 3) 1 V3; dirty = false }

-- the host reports its files and refuses no call, has these files, and nothing was printed to it
pub record IsReady (primary text : List ℕ) (host : HostState) : Type 0 where
  pub tells : host.tells ≡ true
  pub quiet : host.quiet ≡ true
  pub unsaid : host.said ≡ []
  pub hive : host.files (codes "hive") ≡ Some primary
  pub ini : host.files (codes "boot.ini") ≡ Some ini_text
  pub script : host.files (codes "script") ≡ Some text
