-- Names seen so far, kept folded.
use Rattle.std.specs.Prelude.{◌≡◌, ℕ, Bool, false, List}
use Rattle.std.specs.List.{list_any}
use Rattle.std.specs.Ordering.{is_eq, is_lt, nat_cmp}
use Rattle.std.specs.Cmp.Lexicographic.{slice_cmp}
use Rattle.nt_bytes.specs.Folding.{folded, folds_same}
use Rattle.cell_forms.specs.declared.stored.StoredName.{StoredName}
use Rattle.cell_forms.specs.Views.{name_of}

-- the name folds to this key
abbrev pub folds_to : List ℕ → List ℕ → Bool
folds_to name key = is_eq (slice_cmp nat_cmp (folded name) key)

-- a name that folds alike is among the keys
unfoldable pub has_name : List (List ℕ) → List ℕ → Bool
has_name keys name = list_any (folds_to name) keys

-- the keys are those of these names
abbrev pub Knows : List (List ℕ) → List (List ℕ) → Type 0
Knows keys names = (name : List ℕ) → has_name keys name ≡ list_any (folds_same name) names

-- ---- names that are left where they stand

-- the key of a name that is in a cell
abbrev pub folded_name : StoredName → List ℕ
folded_name n = folded (name_of n)

-- the key comes after the name
abbrev pub is_behind : List ℕ → List ℕ → Bool
is_behind name key = is_lt (slice_cmp nat_cmp (folded name) key)

-- no key comes after the name
abbrev pub NoneBehind : List ℕ → List (List ℕ) → Type 0
NoneBehind name keys = list_any (is_behind name) keys ≡ false
