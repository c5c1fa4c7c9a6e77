use Rattle.std.proofs.Common.{List, ℕ, Bool, ◌++◌, ap, sym, subst, ◌∙◌, ◌-◌, arith}
use Rattle.std.specs.Prelude.{flat_map}
use Rattle.std.specs.List.{All}
use Rattle.hive_cells.specs.Sources.{cells_of}
use Rattle.edited_cells.specs.Uses.{own_uses, tree_uses}
use Rattle.hive_look.specs.Places.{IsKeyAt}
use Rattle.hive_look.proofs.UsesLemmas.{joined_uses, tree_more, kids_stand}
use Rattle.hive_look.proofs.uses.+uses.Goals as goal

pub push_key-push_keys-requires : goal.push_key-push_keys-requires
push_key-push_keys-requires t c = (
  omega (arith, c.if-left-eq0.false),
  subst (All (IsKeyAt (cells_of c.args.cells.now))) (sym (c.as_slice.ensures ∙ c.in_ok-below.ensures.places))
      (kids_stand (cells_of c.args.cells.now) c.args.at c.requires),
)

pub push_key-returns : goal.push_key-returns
push_key-returns t c =
    let cells = cells_of c.args.cells.now in
    joined_uses c.args.uses.now.items c.push_own.new.uses.items c.push_keys.new.uses.items (own_uses cells c.args.at)
    (flat_map (tree_uses (c.args.left - 1) cells) c.as_slice.result.now)
    c.in_ok-push_own.ensures c.in_ok-push_keys.ensures
    ∙ ap (λ (os : List ℕ). c.args.uses.now.items
    ++ (own_uses cells c.args.at ++ flat_map (tree_uses (c.args.left - 1) cells) os))
    (c.as_slice.ensures ∙ c.in_ok-below.ensures.places)
    ∙ ap (λ (l : List (ℕ × Bool)). c.args.uses.now.items ++ l)
    (tree_more cells c.args.left c.args.at c.if-left-eq0.false)
