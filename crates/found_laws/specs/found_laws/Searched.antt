-- What is salvaged where keys are looked for by their parents, in which cells, and what is printed?
use Rattle.std.specs.Prelude.{◌≡◌, ℕ, List, [], ◌∷◌, ◌++◌, take, Option, Some, None}
use Rattle.hive_model.specs.Tree.{Tree}
use Rattle.salvage_bins.specs.Ground.{Ground}
use Rattle.salvage_walk.specs.declared.claims.Claim.{Claim}
use Rattle.salvage_walk.specs.declared.lines.Incomplete.{Incomplete}
use Rattle.salvage_walk.specs.Walked.{Walked}
use Rattle.salvage_walk.specs.Keys.{salvaged}
use Rattle.salvage_walk.specs.Incomplete.{incomplete}
use Rattle.salvage_parents.specs.declared.search.ParentLine.{ParentLine}
use Rattle.salvage_parents.specs.declared.search.SearchedTree.{SearchedTree}
use Rattle.salvage_parents.specs.Search.{Search, search_from, searched, without_lines}
use Rattle.found_laws.specs.found_laws.Found.{KeyFound}

-- one incomplete key of a tree, and those after it
pub record NextFound (hive : Ground) (used : List Claim) (own : Incomplete) (t : Tree) (uses : List Claim) (said : List ParentLine)
    (Rest : Tree → List Claim → List ParentLine → Type 0) : Type 0 where
  pub between : Tree
  pub own_uses : List Claim
  pub own_said : List ParentLine
  pub rest_uses : List Claim
  pub rest_said : List ParentLine
  pub uses_are : uses ≡ own_uses ++ rest_uses
  pub said_is : said ≡ own_said ++ rest_said
  pub first : KeyFound hive used own t between own_uses own_said
  pub rest : Rest between rest_uses rest_said

-- a tree after these incomplete keys in turn, what was used for it and what was printed
abbrev pub SearchLeft : Ground → List Claim → List Incomplete → Tree → Tree → List Claim → List ParentLine → Type 0
SearchLeft hive used [] t u uses said = (u ≡ t) × (uses ≡ []) × (said ≡ [])
SearchLeft hive used (own ∷ more) t u uses said =
    NextFound hive used own t uses said (λ between uses said. SearchLeft hive used more between u uses said)

-- ---- all of it

-- the search at its end
abbrev pub search_end : Ground → ℕ → Tree → Walked → Search
search_end hive root t w = searched hive hive.slots 0 (search_from t (without_lines w) (incomplete hive root))

abbrev pub end_uses : Ground → ℕ → Option Tree × Walked → List Claim
end_uses hive root (Some t, w) = (search_end hive root t w).used.claims
end_uses hive root (None, w) = w.claims

-- all uses of what is salvaged from a root, with the children that name their parents
abbrev pub uses_by_parents : Ground → ℕ → List Claim
uses_by_parents hive root = end_uses hive root (salvaged hive root)

abbrev pub end_notes : Ground → ℕ → Option Tree × Walked → List Incomplete
end_notes hive root (Some t, w) = (search_end hive root t w).notes
end_notes hive root (None, w) = []

-- all incomplete keys
abbrev pub notes_by_parents : Ground → ℕ → List Incomplete
notes_by_parents hive root = end_notes hive root (salvaged hive root)

-- What is salvaged by the lists of keys, and then what is found of the incomplete keys, in turn: those of the walk come first. There are
-- no more turns than places.
pub data IsFoundSalvage (hive : Ground) (root : ℕ) (used : List Claim) (notes : List Incomplete) : SearchedTree → Type 0 where
  with_found : (t u : Tree) (w : Walked) (later : List Incomplete) (uses : List Claim) (said : List ParentLine)
      → salvaged hive root ≡ (Some t, w) → used ≡ w.claims ++ uses → notes ≡ incomplete hive root ++ later
      → SearchLeft hive used (take hive.slots notes) t u uses said
      → IsFoundSalvage hive root used notes (record { tree = Some u; lines = w.lines; said = said })
  with_nothing : (w : Walked) → salvaged hive root ≡ (None, w) → used ≡ w.claims → notes ≡ []
      → IsFoundSalvage hive root used notes (record { tree = None; lines = w.lines; said = [] })
