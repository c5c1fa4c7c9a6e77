-- Where does the entry of a name stand?
use Rattle.std.specs.Prelude.{◌≡◌, ℕ, Bool, false, nat_eq, List, Option, position, slice_get}
use lib.Pointwise.{pointwise}
use Rattle.std.specs.List.{AllPairs}
use Rattle.std.specs.Option.{option_map_or}
use Rattle.nt_bytes.specs.Folding.{folded, folds_same}
use Rattle.start_model.specs.Entries.{Entry}

-- the place of the first entry whose folded name this is
abbrev pub place_named : List ℕ → List Entry → Option ℕ
place_named name entries = position (λ e. pointwise nat_eq name (folded e.name)) entries

-- no two entries have names that fold to one
abbrev pub NamesDiffer : List Entry → Type 0
NamesDiffer entries = AllPairs (λ (a b : Entry). folds_same b.name a.name ≡ false) entries

-- the entry at a place has this name, whatever the case of its letters
abbrev pub is_named_at : List ℕ → List Entry → ℕ → Bool
is_named_at name entries q = option_map_or (λ e. folds_same name e.name) (slice_get entries q) false

-- the entry at a place has this name where that is the place, and nowhere else
abbrev pub IsOnlyPlace : List ℕ → List Entry → Option ℕ → Type 0
IsOnlyPlace name entries place = (q : ℕ) → is_named_at name entries q ≡ option_map_or (nat_eq q) place false
