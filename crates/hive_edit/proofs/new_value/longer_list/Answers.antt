use Rattle.std.proofs.Common.{◌++◌, List, ℕ, ap, ◌∙◌, arith}
use Rattle.std.specs.Int.{w32, to_le_bytes}
use Rattle.hive_model.specs.Lists.{numbers_in}
use Rattle.hive_edit.proofs.NewRunLemmas.{numbers_spelled, more_spelled}
use Rattle.hive_edit.proofs.new_value.longer_list.Goals as goal

pub returns : goal.returns
returns c =
    let s = numbers_spelled c.args.count c.args.list.now (λ k. omega (arith, c.type_inv.list k)) c.requires.long in
    c.in_ok-put_u32.ensures.ok
    ∙ ap (λ (xs : List ℕ). xs ++ to_le_bytes w32 c.args.more)
    (c.in_ok-offsets.ensures ∙ c.first_bytes-first.ensures ∙ s.1)
    ∙ more_spelled (numbers_in 4 c.args.count c.args.list.now) c.args.more
