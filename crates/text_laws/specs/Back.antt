-- Which edits does the registry text of a key give, and what do they make? (this project's own)
use Rattle.std.specs.Prelude.{◌≡◌, ◌<◌, ℕ, false, List, [], ◌∷◌, ◌++◌, Option, Some, None}
use Rattle.std.specs.List.{All, AllPairs, list_any}
use Rattle.std.specs.Ordering.{is_gt}
use Rattle.nt_bytes.specs.Folding.{folded_order}
use Rattle.hive_model.specs.Edit.{Step, set_value}
use Rattle.hive_model.specs.Tree.{Item, Tree, Trees, key, none, more, listed, head, find_key}
use Rattle.hive_model.specs.Valid.{ItemsDiffer, KeysDiffer}
use Rattle.nt_bytes.specs.Text.{is_backslash}
use Rattle.reg_text.specs.Reading.{making}

-- ---- the edits

-- each value of a key is set, in its order
abbrev pub value_steps : List (List ℕ) → List Item → List Step
value_steps path [] = []
value_steps path (v ∷ values) = set_value path v.name v.kind v.bytes ∷ value_steps path values

-- the keys of the path are made from the top, then the values of the last one are set; and the same of each key below
abbrev mutual
  pub key_steps : List (List ℕ) → Tree → List Step
  key_steps path (key h ts) = making [] path ++ (value_steps path h.values ++ keys_steps path ts)

  -- of the children of the key at a path
  pub keys_steps : List (List ℕ) → Trees → List Step
  keys_steps path none = []
  keys_steps path (more t ts) = key_steps (path ++ (head t).name ∷ []) t ++ keys_steps path ts

-- ---- what can be read back

-- A value whose type and bytes fit their fields, as those of a program's values do.
pub record FitsFields (v : Item) : Type 0 where
  pub kind : v.kind < 4294967296
  pub bytes : All (λ b. b < 256) v.bytes

-- a name without a backslash, which parts the names of a path
abbrev pub IsPart : List ℕ → Type 0
IsPart name = list_any is_backslash name ≡ false

-- the values of the key fit their fields, and each key below has such a name, and such values
abbrev mutual
  pub IsTextual : Tree → Type 0
  IsTextual (key h ts) = All FitsFields h.values × AreTextual ts

  -- each of these keys
  pub AreTextual : Trees → Type 0
  AreTextual none = Unit {0}
  AreTextual (more t ts) = IsPart (head t).name × IsTextual t × AreTextual ts

-- ---- what they make

-- the tree without what a text doesn't hold: flags, stamps, classes and descriptors
abbrev mutual
  pub bare : Tree → Tree
  bare (key h ts) = key (record { name = h.name; flags = 0; stamp = 0; class = []; security = []; values = h.values }) (bares ts)

  -- each of these trees without it
  pub bares : Trees → Trees
  bares none = none
  bares (more t ts) = more (bare t) (bares ts)

-- keys are in rising order of their folded names
abbrev pub Rise : List Tree → Type 0
Rise keys = AllPairs (λ a b. is_gt (folded_order (head a).name (head b).name) ≡ false) keys

-- no two values and no two children of a key have names that fold to one, and children are in rising order
abbrev mutual
  pub IsOrdered : Tree → Type 0
  IsOrdered (key h ts) = ItemsDiffer h.values × KeysDiffer (listed ts) × Rise (listed ts) × AreOrdered ts

  -- each of these trees is so
  pub AreOrdered : Trees → Type 0
  AreOrdered none = Unit {0}
  AreOrdered (more t ts) = IsOrdered t × AreOrdered ts

-- there is no such key, or it has neither values nor children
abbrev pub IsFree : Option Tree → Type 0
IsFree None = Unit {0}
IsFree (Some (key h ts)) = (h.values ≡ []) × (ts ≡ none)

-- nothing is at the path
abbrev pub IsFreeAt : List (List ℕ) → Tree → Type 0
IsFreeAt path root = IsFree (find_key path root)

-- the key has the values of another, and the same below it but for what a text doesn't hold
abbrev pub HasSame : Tree → Tree → Type 0
HasSame (key h ts) (key i us) = (i.values ≡ h.values) × (bares us ≡ bares ts)

-- a key is at the path that has the same as the one that was written
abbrev pub HasBack : List (List ℕ) → Tree → Tree → Type 0
HasBack path written made = (k : Tree) × (find_key path made ≡ Some k) × HasSame written k
