use Rattle.std.proofs.Common.{ℕ, List, length, ap, arith}
use Rattle.hive_edit.proofs.ToldLemmas.{class_short}
use Rattle.hive_edit.proofs.telling.class_len.Goals as goal

pub overflow_cast-result : goal.overflow_cast-result
overflow_cast-result c =
    let same = ap (λ (l : List ℕ). length l) c.class.ensures in
    omega (arith, same, class_short c.args.key.now c.requires)
