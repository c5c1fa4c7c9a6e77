use Rattle.std.proofs.Common.{sym, subst}
use Rattle.std.specs.Option.{IsSome}
use Rattle.edited_cells.specs.Owned.{In}
use Rattle.edited_cells.proofs.Ins.{contains_from}
use Rattle.edited_cells.proofs.Pairs.{in_at}
use Rattle.hive_edit.proofs.give.refer.Goals as goal

pub free_all-requires-clause-held : goal.free_all-requires-clause-held
free_all-requires-clause-held c = λ k d lt.
    let gone = c.args.gone.now in
    subst IsSome (sym (c.patch.ensures.others _
    (λ e. c.requires.outside (contains_from gone c.args.at (subst (In gone) e (in_at gone k d lt))))))
    (c.requires.held k d lt)
