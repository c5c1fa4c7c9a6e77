-- What a step leaves where it was, and what steps in order leave (this project's own).
use Rattle.std.specs.Prelude.{◌≡◌, ◌⊎◌, ℕ, List, [], ◌∷◌, Ok}
use Rattle.hive_model.specs.Bins.{Cells}
use Rattle.hive_model.specs.Tree.{Tree}
use Rattle.hive_model.specs.Edit.{Step, after_step}
use Rattle.edited_cells.specs.Owned.{Role, Owns, IsMatched}

-- no allocated cell begins there
abbrev pub IsUnheld : Cells → ℕ → Type 0
IsUnheld b o = (q : List ℕ) → b.payload o ≡ Ok q → ⊥

-- A step from cells b to cells c changes no allocated cell but those that it names (rest), and what is owned after it was owned, or
-- was no cell, or is among those (owned).
pub record IsFramed (b c : Cells) (root : ℕ) (t : Tree) (step : Step) : Type 0 where
  pub owned : (path : List (List ℕ)) (role : Role) (o : ℕ) → Owns c root path role o
      → Owns b root path role o ⊎ (IsUnheld b o ⊎ IsMatched b root t step o)
  pub rest : (o : ℕ) (q : List ℕ) → b.payload o ≡ Ok q → (IsMatched b root t step o → ⊥) → c.payload o ≡ Ok q

-- the steps in order, none refused, each framed by the cells that it is made on
abbrev pub Edits : ℕ → Cells → Tree → List Step → Cells → Type 0
Edits root b t [] c = b ≡ c
Edits root b t (step ∷ steps) c = (u : Tree) × (m : Cells) × (after_step step t ≡ Ok u) × IsFramed b m root t step × Edits root m u steps c

-- From old cells a to cells b: outside some offsets allocated cells are the same, and what b owns in a cell that is allocated in a,
-- a owns.
pub record Frames (a b : Cells) (root : ℕ) (F : ℕ → Type 0) : Type 0 where
  pub kept : (o : ℕ) (q : List ℕ) → a.payload o ≡ Ok q → (F o → ⊥) → b.payload o ≡ Ok q
  pub owned : (path : List (List ℕ)) (role : Role) (o : ℕ) (q : List ℕ) → Owns b root path role o → a.payload o ≡ Ok q → (F o → ⊥)
      → Owns a root path role o
