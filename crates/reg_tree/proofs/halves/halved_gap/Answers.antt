use Rattle.std.proofs.Common.{rules, sym}
use Rattle.std.proofs.lemmas.Fn.{always_returns_same}
use Rattle.reg_tree.proofs.Halving.{not_greater, not_greater_first, halved_gap}
use Rattle.reg_tree.proofs.Sound.{key_name}
use Rattle.reg_tree.proofs.halves.halved_gap.Goals as goal

pub returns : goal.returns
returns c =
    let keys = c.args.keys.now in
    let name = c.args.name.now in
    let end = c.partition_point in
    sym
    (halved_gap key_name name keys end.result
    (end.ensures.partitioned (not_greater key_name name) (always_returns_same _ _ _ (λ a r f k. search rules))
    (not_greater_first key_name name keys c.requires)) end.ensures.bound)
