-- A column turns once.
use Rattle.std.proofs.Common.{◌≡◌, ◌+◌, ℕ, zero, suc, Bool, true, false, List, [], ◌∷◌, ◌++◌, length, replicate, refl, ap}
use Rattle.std.specs.List.{range_with_len}
use Rattle.nt_edge.specs.declared.disk.Keep.{Keep}
use Rattle.nt_edge.specs.declared.disk.Keep.TheVariants.{Nothing, Everything, OddOnes, Torn}
use Rattle.sweep_text.specs.declared.sweep_text.logged.Logged.{Logged}
use Rattle.sweep_text.specs.sweep_text.Report.{stages_by}
use Rattle.sweep_text.specs.sweep_text.Stages.{Stage, recovery_stages, commit_stages}
use Rattle.sweep_laws.specs.Columns.{column}
use Rattle.sweep_laws.specs.Turning.{TurnsOnce}

-- more words `before` in front
more_before : {words : List Bool} (n : ℕ) → TurnsOnce words → TurnsOnce (replicate n false ++ words)
more_before zero turns = turns
more_before (suc n) turns =
    let more = more_before n turns in
    record { before = suc more.before; after = more.after; is = ap (λ (w : List Bool). false ∷ w) more.is }

-- nothing but `after`
record AreAfter (words : List Bool) : Type 0 where
  count : ℕ
  is : words ≡ replicate count true

more_after : {words : List Bool} (n : ℕ) → AreAfter words → AreAfter (replicate n true ++ words)
more_after zero are = are
more_after (suc n) are =
    let more = more_after n are in
    record { count = suc more.count; is = ap (λ (w : List Bool). true ∷ w) more.is }

turned : {words : List Bool} → AreAfter words → TurnsOnce words
turned are = record { before = 0; after = are.count; is = are.is }

no_words : TurnsOnce []
no_words = record { before = 0; after = 0; is = refl }

-- the words of the writes to the log, all `before`
abbrev logged : ℕ → List ℕ → ℕ
logged bitmap sectors = length (range_with_len 0 (1 + bitmap + length sectors))

-- the last two stages of a commit
last_stages : (sectors : List ℕ) → AreAfter (replicate (length sectors) true ++ true ∷ true ∷ true ∷ [])
last_stages sectors = more_after (length sectors) (record { count = 3; is = refl })

commit_turns : (keep : Keep) (bitmap : ℕ) (sectors : List ℕ) → TurnsOnce (column keep (commit_stages bitmap sectors))
commit_turns Nothing bitmap sectors =
    more_before (logged bitmap sectors) (more_before 3 (turned (last_stages sectors)))
commit_turns Everything bitmap sectors =
    more_before (logged bitmap sectors) (more_before 2 (turned (more_after 1 (last_stages sectors))))
commit_turns OddOnes bitmap sectors =
    more_before (logged bitmap sectors) (more_before 2 (turned (more_after 1 (last_stages sectors))))
commit_turns Torn bitmap sectors =
    more_before (logged bitmap sectors) (more_before 2 (turned (more_after 1 (last_stages sectors))))

recovery_turns : (keep : Keep) (sectors : List ℕ) (stages : List Stage) → TurnsOnce (column keep stages)
    → TurnsOnce (column keep (recovery_stages sectors ++ stages))
recovery_turns Nothing sectors stages turns = more_before (length sectors) (more_before 3 turns)
recovery_turns Everything sectors stages turns = more_before (length sectors) (more_before 3 turns)
recovery_turns OddOnes sectors stages turns = more_before (length sectors) (more_before 3 turns)
recovery_turns Torn sectors stages turns = more_before (length sectors) (more_before 3 turns)

pub column_turns : (keep : Keep) (recovered committed : Bool) (recovery commit : Logged)
    → TurnsOnce (column keep (stages_by recovered committed recovery commit))
column_turns keep false false recovery commit = no_words
column_turns keep false true recovery commit = commit_turns keep commit.bitmap commit.sectors
column_turns keep true false recovery commit = recovery_turns keep recovery.sectors [] no_words
column_turns keep true true recovery commit =
    recovery_turns keep recovery.sectors (commit_stages commit.bitmap commit.sectors)
    (commit_turns keep commit.bitmap commit.sectors)
