-- Who has a line that it leans on a name? (this project's own)
use Rattle.std.specs.Prelude.{◌≡◌, ℕ, zero, suc, ◌==◌, false, Bool, not, if◌then◌else◌, List, [], ◌∷◌, ◌++◌, filter, length}
use Rattle.std.specs.List.{Contains}
use Rattle.nt_bytes.specs.Folding.{folds_same}
use Rattle.start_model.specs.Entries.{Entry}
use Rattle.failure_effects.specs.declared.lines.EffectLine.{EffectLine}
use Rattle.failure_effects.specs.declared.lines.EffectLine.TheVariants as lines
use Rattle.failure_effects.specs.declared.leaning.Layer.{Layer}
use Rattle.failure_effects.specs.Leans.{layer_of, first_layer, needs_one}

-- the name of a line that says so
abbrev pub name_in : EffectLine → List (List ℕ)
name_in lines.Start = []
name_in (lines.Set number on_good) = []
name_in (lines.Verdict verdict) = []
name_in (lines.Of state name) = []
name_in (lines.Fail judgement lost name) = []
name_in (lines.Off lost name) = []
name_in (lines.Unmet name) = []
name_in (lines.Untaken name) = []
name_in (lines.Leans steps by state name) = name ∷ []
name_in lines.End = []

-- the entries that reach a layer, among those that are in none so far
abbrev pub leaning_from : ℕ → Layer → List Entry → List Entry
leaning_from zero layer rest = []
leaning_from (suc n) layer rest =
    let near : List Entry = filter (needs_one layer) rest in
    if length near == 0 then [] else near ++ leaning_from n (layer_of near) (filter (λ e. not (needs_one layer e)) rest)

-- the entries of a set that lean on a name
abbrev pub leaning_on : List ℕ → List Entry → List Entry
leaning_on name entries = leaning_from (length entries) (first_layer name entries) (filter (λ e. not (folds_same name e.name)) entries)

-- an entry of the set other than the name
pub record IsOther (name : List ℕ) (entries : List Entry) (e : Entry) : Type 0 where
  pub there : Contains entries e
  pub other : folds_same name e.name ≡ false

-- the first entry needs the second one: it needs one of the layer that has that alone
abbrev pub needs_entry : Entry → Entry → Bool
needs_entry e m = needs_one (layer_of (m ∷ [])) e
