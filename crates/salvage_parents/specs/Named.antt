-- How are keys kept by their folded names? (this project's own)
use Rattle.std.specs.Prelude.{◌≡◌, ℕ, List}
use Rattle.std.specs.List.{All}
use Rattle.std.specs.Global.{Vec}
use Rattle.std.specs.Ordering.{nat_cmp}
use Rattle.std.specs.Cmp.Lexicographic.{slice_cmp}
use Rattle.std.specs.declared.cmp.Ordering.TheVariants.{Equal}
use Rattle.nt_bytes.specs.Folding.{folded}
use Rattle.hive_model.specs.Tree.{Tree, head}

-- each key is under its folded name
abbrev pub AreByName : List (Vec ℕ × Tree) → Type 0
AreByName entries = All (λ e. slice_cmp nat_cmp e.0.items (folded (head e.1).name) ≡ Equal) entries
