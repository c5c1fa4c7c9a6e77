use Rattle.std.proofs.Common.{List, sym, ap, subst, ◌∙◌}
use Rattle.std.specs.List.{All}
use Rattle.std.specs.Option.{IsSome}
use Rattle.hive_model.specs.Bins.{Bin, look_up}
use Rattle.hive_model.specs.Lists.{AreHints}
use Rattle.hive_cells.specs.Held.{held_at}
use Rattle.key_index.specs.Lists.{lists_at}
use Rattle.key_index.proofs.Runs.{lists_held, hints_four}
use Rattle.key_index.proofs.change.remove_child.Goals as goal

pub shorten-requires-clause-held : goal.shorten-requires-clause-held
shorten-requires-clause-held c =
    let bins = c.args.cells.now.bins in
    let gone = c.deref.ensures.value ∙ c.in_ok-plan.ensures.gone
    ∙ ap (λ (b : List Bin). lists_at (look_up c.args.version b) c.args.list c.args.count) c.cells.ensures in
    subst (All (λ o. IsSome (held_at bins o))) (sym gone)
    (lists_held c.args.version bins c.args.list c.args.count c.requires.siblings)

pub shorten-requires-clause-four : goal.shorten-requires-clause-four
shorten-requires-clause-four c =
    subst AreHints (sym (c.deref-3.ensures.value ∙ c.in_ok-plan.ensures.hints)) (hints_four _ _)
