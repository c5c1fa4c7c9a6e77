-- What an edit in place owes for a step (this project's own).
use Rattle.std.specs.Prelude.{◌≡◌, ℕ, List, [], ◌∷◌, Ok}
use Rattle.hive_model.specs.Bins.{Cells}
use Rattle.hive_model.specs.Tree.{Tree, Item}
use Rattle.hive_model.specs.Edit.{Step, after_step}
use Rattle.hive_model.specs.Stands.{IsWellFormed}
use Rattle.edited_cells.specs.Framed.{IsFramed}
use Rattle.edited_cells.specs.Parents.{NamesParents}

-- a value of this name, type and data
abbrev pub item : List ℕ → ℕ → List ℕ → Item
item name kind bytes = record { name = name; kind = kind; bytes = bytes }

-- From cells b to cells c, of one version, a step is done that makes the one tree of the other: the cells are well-formed with the tree
-- after it, those that the step doesn't name are as they were, and what is owned after it was owned, is new, or is among those that it
-- names. Where each key below another named the node of that one as its parent, each does.
pub record IsDone (b c : Cells) (root : ℕ) (t u : Tree) (step : Step) : Type 0 where
  pub version : c.version ≡ b.version
  pub stands : IsWellFormed c root u
  pub framed : IsFramed b c root t step
  pub parents : NamesParents b root → NamesParents c root

-- the steps are done in order, none refused, from the one cells and tree to the other
abbrev pub AreDone : ℕ → Cells → Tree → List Step → Cells → Tree → Type 0
AreDone root b t [] c u = (b ≡ c) × (t ≡ u)
AreDone root b t (step ∷ steps) c u = (v : Tree) × (m : Cells) × (after_step step t ≡ Ok v) × IsDone b m root t v step × AreDone root m v steps c u
