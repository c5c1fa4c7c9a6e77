use Rattle.std.proofs.Common.{◌-◌, ℕ, List, [], length, take, drop, get_or, Ok, sym, ap, ◌∙◌}
use Rattle.std.proofs.lemmas.List.{append-nil}
use Rattle.hive_cells.specs.Sources.{cells_of}
use Rattle.hive_model.specs.Walk.{joined_at, leaves_checks}
use Rattle.hive_read.specs.Walked.{walk}
use Rattle.hive_read.proofs.Walks.{stopped, stops-on, none-left, first-and-rest}
use Rattle.hive_read.proofs.ListWalks.{leaves-off, leaves-on, joined-one}
use Rattle.hive_read.proofs.list.read_leaves.Goals as goal

pub returns-in_default : goal.returns-in_default
returns-in_default c =
    let cells = cells_of c.args.cells.now in
    let z = none-left c.lists.rest.now c.in_default.len_below in
    rw c.from_vec.ensures (
      sym c.lists.invariant.told ∙ ap (λ r. walk cells c.lists.used (leaves_checks cells r)) z,
      c.lists.invariant.stand [] (ap (joined_at cells) z) ∙ ap (λ (vs : List ℕ). Ok vs) (append-nil c.lists.all.items),
    )

pub returns-in_err-leaf : goal.returns-in_err-leaf
returns-in_err-leaf c =
    rw (stopped c.from_residual.result c.in_err-leaf.field-0.0 c.from_residual.ensures.1)
    (stops-on c.in_err-leaf.field-0.0 _ _ (λ f e. sym c.lists.invariant.told
    ∙ leaves-off (cells_of c.args.cells.now) c.lists.used c.lists.rest.now f c.in-len1-up.len_at_least e)
    c.in_err-leaf.ensures)

pub lists-preserved : goal.lists-preserved
lists-preserved c =
    let i = c.lists.invariant in
    let rest = c.lists.rest.now in
    let r = first-and-rest rest c.in-len1-up.len_at_least in
    let s = c.in_ok-leaf.ensures in
    rw (c.in_ok-extend_from_slice.ensures.items, c.as_slice.ensures) (record {
      told = sym (leaves-on (cells_of c.args.cells.now) c.lists.used c.use_leaf.new.used rest (get_or rest 0 0)
          (take (length rest - 1) (drop 1 rest)) r s.0) ∙ i.told;
      stand = joined-one (cells_of c.args.cells.now) rest (take (length rest - 1) (drop 1 rest)) c.args.lists.now (get_or rest 0 0)
          c.lists.all.items c.in_ok-leaf.leaf r s.1 i.stand;
    })
