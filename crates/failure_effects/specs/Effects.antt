-- What is reported of single failures? (this project's own)
use Rattle.std.specs.Prelude.{ℕ, Bool, true, List, [], ◌∷◌, ◌++◌, Option, Some, None}
use Rattle.nt_bytes.specs.Folding.{folds_same}
use Rattle.nt_bytes.specs.declared.version.HiveVersion.{HiveVersion}
use Rattle.hive_model.specs.Tree.{Tree}
use Rattle.start_model.specs.Entries.{entries_of}
use Rattle.report_words.specs.declared.words.Verdict.TheVariants as verdicts
use Rattle.failure_effects.specs.declared.lines.EffectLine.{EffectLine}
use Rattle.failure_effects.specs.declared.lines.EffectLine.TheVariants as lines
use Rattle.failure_effects.specs.declared.opening.Opening.{Opening}
use Rattle.failure_effects.specs.declared.opening.Opening.TheVariants.{NoSet, NoPhase, Begun}
use Rattle.failure_effects.specs.declared.opening.StartChoice.{StartChoice}
use Rattle.failure_effects.specs.declared.opening.Taken.{Taken}
use Rattle.failure_effects.specs.declared.told.Told.{Told}
use Rattle.failure_effects.specs.Opening.{opening_of}
use Rattle.failure_effects.specs.Played.{played}
use Rattle.failure_effects.specs.Lost.{blocks_where}
use Rattle.failure_effects.specs.States.{spelled, state_of}
use Rattle.failure_effects.specs.Leans.{leans_lines}

-- the entry of this name is asked for: each is, where no name is
abbrev pub is_asked : Option (List ℕ) → List ℕ → Bool
is_asked None name = true
is_asked (Some asked) name = folds_same asked name

-- what the plain start says of the entries that it takes: no attempt of it fails
abbrev pub plain_told : Taken → List Told
plain_told taken = played taken taken.set None

-- what the plain start made of the name that is asked for
abbrev pub of_lines : Taken → List Told → Option (List ℕ) → List EffectLine
of_lines taken plain None = []
of_lines taken plain (Some name) = lines.Of (state_of taken.set plain name) (spelled taken.set name) ∷ []

-- who leans on the name that is asked for
abbrev pub leaning_lines : Taken → List Told → Option (List ℕ) → List EffectLine
leaning_lines taken plain None = []
leaning_lines taken plain (Some name) = leans_lines plain name (entries_of taken.set)

-- what follows the verdict, by what the plain start says
abbrev pub told_lines : Taken → Option (List ℕ) → List Told → List EffectLine
told_lines taken of plain = of_lines taken plain of ++ blocks_where (is_asked of) taken plain ++ leaning_lines taken plain of

-- by what becomes of the plain start
abbrev pub opened_lines : Opening → Option (List ℕ) → List EffectLine
opened_lines (NoSet verdict) of = lines.Verdict verdict ∷ []
opened_lines (NoPhase number on_good verdict) of = lines.Set number on_good ∷ lines.Verdict verdict ∷ []
opened_lines (Begun taken) of = lines.Set taken.number taken.on_good ∷ lines.Verdict verdicts.Running ∷ told_lines taken of (plain_told taken)

-- All lines on a tree that a hive of this version loads as: of each entry that the plain start takes, or of the name that is
-- asked for.
unfoldable pub effects_of : HiveVersion → Tree → StartChoice → Option (List ℕ) → List EffectLine
effects_of version tree choice of = lines.Start ∷ opened_lines (opening_of version tree choice) of ++ lines.End ∷ []
