use Rattle.std.proofs.Common.{◌≡◌, ◌≤◌, ◌+◌, ◌-◌, ap}
use Rattle.hive_model.specs.Tree.{Tree}
use Rattle.hive_model.specs.Size.{size}
use Rattle.hive_model.specs.Stands.{IsWellFormed}
use Rattle.hive_cells.specs.Sources.{cells_of}
use Rattle.hive_edit.proofs.DeletingLemmas.{below_seen}
use Rattle.hive_edit.proofs.key_size.below_len.Goals as goal
use Rattle.hive_edit.proofs.key_size.below_len.Goals.{After-security_len-less}

seen : (c : After-security_len-less) (t : Tree) → IsWellFormed (cells_of c.args.cells.now) c.args.at t
    → let all = c.in_ok-bulk.bulk + c.security_len-more.result in let less = 32 + c.security_len-less.result in
    (less ≤ all) × (all - less ≡ size c.args.cells.now.version c.args.shared.now t)
seen c t well =
    below_seen c.args.cells.now.version c.args.shared.now c.descriptor_at-own.result.now t c.in_ok-bulk.bulk
    c.security_len-more.result (32 + c.security_len-less.result) (c.in_ok-bulk.ensures.exact t well)
    (c.descriptor_at-own.ensures.is t well) c.in_ok-bulk.ensures.low c.security_len-more.ensures.exact
    (ap (λ n. 32 + n) c.security_len-less.ensures.exact)

pub overflow_sub-result : goal.overflow_sub-result
overflow_sub-result c =
    (seen (goal.at.overflow_sub-result c).After-security_len-less c.requires.here.0 c.requires.here.1).0

pub returns-clause-exact : goal.returns-clause-exact
returns-clause-exact c = λ t well. (seen (goal.at.returns-clause-exact c).After-security_len-less t well).1
