use Rattle.std.proofs.Common.{◌-◌, length, take, drop, refl, ◌∙◌}
use Rattle.hive_read.specs.Taken.{folded_name}
use Rattle.hive_read.proofs.FewLemmas.{first-item, one-gathered}
use Rattle.hive_read.proofs.taken.gather.Goals as goal

pub names-preserved : goal.names-preserved
names-preserved c = λ p.
    let rest = c.names.rest.now in
    one-gathered (λ k. folded_name k.name) p c.names.set.keys c.insert.new.self.keys _ rest
    (take (length rest - 1) (drop 1 rest)) _
    c.in_ok-_fresh.ensures.keys refl (first-item rest _ c.in-len1-up.len_at_least) ∙ c.names.invariant p
