use Rattle.std.proofs.Common.{sym, ap, ◌∙◌}
use Rattle.std.specs.Ordering.{is_lt}
use Rattle.nt_bytes.specs.Folding.{folded_order}
use Rattle.hive_model.specs.Tree.{Tree}
use Rattle.reg_tree.proofs.Halving.{rising_push, not_of}
use Rattle.reg_tree.proofs.Sound.{key_name}
use Rattle.reg_tree.proofs.halves.still_rising.Goals as goal

pub returns-in-Some : goal.returns-in-Some
returns-in-Some c = λ follows.
    let more = c.args.more.now in
    rising_push key_name c.args.keys.now more (c.requires c.if-not-rising.false)
    (λ some d.
    sym (ap (λ (t : Tree). is_lt (folded_order (key_name more) (key_name t))) (c.in-Some.ensures.item.3.1 d))
    ∙ not_of _ (sym c.may_follow.ensures ∙ follows))
