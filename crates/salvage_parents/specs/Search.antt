-- Which keys are found by their parents, and what is printed for them (this project's own)?
--
-- The incomplete keys are gone through in order, and those that become so meanwhile come at the end. Of one key each key node that names
-- it as its parent is judged as one more child, in the order of their places, with all below it; of one that is in use, or is left out
-- otherwise, nothing is printed. Where one of them stands, all children of the key are put in the order of their folded names.
use Rattle.std.specs.Prelude.{ℕ, zero, suc, ◌+◌, ◌-◌, ◌==◌, if◌then◌else◌, List, [], ◌∷◌, ◌++◌, length, map, slice_get, Option, Some, None}
use Rattle.hive_model.specs.Tree.{Head, Tree}
use Rattle.salvage_bins.specs.Ground.{Ground}
use Rattle.salvage_walk.specs.declared.lines.WalkLine.{WalkLine}
use Rattle.salvage_walk.specs.declared.lines.Incomplete.{Incomplete}
use Rattle.salvage_walk.specs.Walked.{Walked}
use Rattle.salvage_walk.specs.Keys.{judged_key, salvaged}
use Rattle.salvage_walk.specs.Incomplete.{notes_key, incomplete}
use Rattle.salvage_walk.specs.Found.{found_next, found_notes}
use Rattle.salvage_parents.specs.declared.search.ParentLine.{ParentLine}
use Rattle.salvage_parents.specs.declared.search.ParentLine.TheVariants as said
use Rattle.salvage_parents.specs.declared.search.SearchedTree.{SearchedTree}
use Rattle.salvage_parents.specs.Naming.{naming}
use Rattle.salvage_parents.specs.Arranged.{arranged}
use Rattle.salvage_parents.specs.Change.{changed_at}

-- what was used and said, which keys are incomplete, and how many children were found of the last one
pub record Adopted : Type 0 where
  pub walked : Walked
  pub notes : List Incomplete
  pub count : ℕ

-- children, in order if there are new ones
abbrev pub arranged_if : ℕ → List Tree → List Tree
arranged_if count keys = if count == 0 then keys else arranged keys

abbrev pub adopted_as : ℕ → List Tree × Walked → List Incomplete → List Tree × Adopted
adopted_as before found notes =
    (arranged_if (length found.0 - before) found.0, record { walked = found.1; notes = notes; count = length found.0 - before })

-- the children of an incomplete key that has this descriptor and these children, with those that are found
unfoldable pub adopted : Ground → Incomplete → Walked → List Incomplete → List ℕ → List Tree → List Tree × Adopted
adopted hive own w notes security keys =
    let left = 511 - length own.path in
    let places = naming hive own.at hive.slots in
    adopted_as (length keys) (found_next (judged_key left hive) security own.path places keys w)
    (found_notes (judged_key left hive) (notes_key left hive) security own.path places keys w notes)

-- nothing is found
abbrev pub adopted_none : Walked → List Incomplete → Adopted
adopted_none w notes = record { walked = w; notes = notes; count = 0 }

-- a tree in which children of an incomplete key are found, where they are
abbrev pub adopted_at : Ground → Incomplete → Walked → List Incomplete → List (List ℕ) → Tree → Tree × Adopted
adopted_at hive own w notes path t = changed_at path (λ (h : Head). adopted hive own w notes h.security) (adopted_none w notes) t

-- the line of an incomplete key, where children were found
abbrev pub found_line : ℕ → List (List ℕ) → List ParentLine
found_line count path = if count == 0 then [] else said.Found count path ∷ []

-- the tree so far, what was used, what was printed, and the incomplete keys so far
pub record Search : Type 0 where
  pub tree : Tree
  pub used : Walked
  pub said : List ParentLine
  pub notes : List Incomplete

-- no lines, and the same uses
abbrev pub without_lines : Walked → Walked
without_lines w = record { claims = w.claims; lines = [] }

abbrev pub search_done : Search → Incomplete → Tree × Adopted → Search
search_done s own r = record {
  tree = r.0;
  used = without_lines r.1.walked;
  said = s.said ++ (map said.Walked r.1.walked.lines ++ found_line r.1.count own.path);
  notes = r.1.notes;
}

-- the search after one more incomplete key
unfoldable pub search_step : Ground → Incomplete → Search → Search
search_step hive own s = search_done s own (adopted_at hive own s.used s.notes own.path s.tree)

abbrev pub searched_on : (Search → Search) → Ground → Search → Option Incomplete → Search
searched_on more hive s (Some own) = more (search_step hive own s)
searched_on more hive s None = s

-- The search after at most n more incomplete keys, the first being that at a place in their list. As each key has a node of its own,
-- there are no more of them than places.
unfoldable pub searched : Ground → ℕ → ℕ → Search → Search
searched hive zero place s = s
searched hive (suc n) place s = searched_on (searched hive n (place + 1)) hive s (slice_get s.notes place)

-- ---- all of it

abbrev pub search_from : Tree → Walked → List Incomplete → Search
search_from t w notes = record { tree = t; used = w; said = []; notes = notes }

-- the tree, and what is printed
abbrev pub tree_and_said : Search → Tree × List ParentLine
tree_and_said s = (s.tree, s.said)

abbrev pub searched_tree : List WalkLine → Tree × List ParentLine → SearchedTree
searched_tree lines r = record { tree = Some r.0; lines = lines; said = r.1 }

abbrev pub searched_by : Ground → List Incomplete → Option Tree × Walked → SearchedTree
searched_by hive notes (Some t, w) =
    searched_tree w.lines (tree_and_said (searched hive hive.slots 0 (search_from t (without_lines w) notes)))
searched_by hive notes (None, w) = record { tree = None; lines = w.lines; said = [] }

-- what is salvaged from a root, with the children that name their parents
unfoldable pub salvaged_by_parents : Ground → ℕ → SearchedTree
salvaged_by_parents hive root = searched_by hive (incomplete hive root) (salvaged hive root)
