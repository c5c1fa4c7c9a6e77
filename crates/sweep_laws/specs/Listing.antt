-- Which sectors does the table list, and which are written? (This project's own.)
use Rattle.std.specs.Prelude.{ℕ, List, map, codes, if◌then◌else◌}
use Rattle.std.specs.Str.{bytes_eq}
use Rattle.hive_model.specs.Image.{File, Primary, Log, Address, Write}
use Rattle.sweep_text.specs.sweep_text.Stages.{Stage}

-- the file of this word: `log`, or `hive`
abbrev pub file_of : List ℕ → File
file_of word = if bytes_eq word (codes "log") then Log else Primary

-- the sectors of each stage of the table, in order
abbrev pub listed_in : List Stage → List (List Address)
listed_in stages = map (λ s. map (λ n. record { file = file_of s.file; sector = n }) s.sectors) stages

-- the sectors to which the writes of each stage go, in order
abbrev pub written_in : List (List Write) → List (List Address)
written_in stages = map (λ writes. map (λ w. w.0) writes) stages
