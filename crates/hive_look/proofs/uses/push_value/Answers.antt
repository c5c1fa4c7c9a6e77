use Rattle.std.proofs.Common.{ap, sym, List, ℕ, [], ◌∷◌, ◌++◌, ◌∙◌, false}
use Rattle.hive_cells.specs.Sources.{cells_of}
use Rattle.edited_cells.specs.Uses.{plain}
use Rattle.hive_look.proofs.UsesLemmas.{use_of, joined_uses, value_with_data}
use Rattle.hive_look.proofs.uses.push_value.Goals as goal

pub returns : goal.returns
returns c =
    let cells = cells_of c.args.cells.now in
    let at = c.args.at in
    let same = c.as_slice.ensures ∙ c.in_ok-data.ensures in
    joined_uses c.args.uses.now.items c.push.new.self.items c.push_plain.new.uses.items (use_of at false ∷ [])
    (plain c.as_slice.result.now) c.in_ok-push.ensures.items c.in_ok-push_plain.ensures
    ∙ ap (λ (l : List ℕ). c.args.uses.now.items ++ plain (at ∷ l)) same
    ∙ ap (λ (l : List ℕ). c.args.uses.now.items ++ plain l) (sym (value_with_data cells at c.requires))
