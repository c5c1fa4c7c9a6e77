use Rattle.std.proofs.Common.{ℕ, ◌+◌, ◌-◌, ◌*◌, sym, ap, ◌∙◌}
use Rattle.hive_model.specs.Size.{segment_count}
use Rattle.hive_pack.proofs.Rows.{segments_size}
use Rattle.hive_look.proofs.measure.segments_len.Goals as goal

pub returns-clause-exact : goal.returns-clause-exact
returns-clause-exact c = ap (λ (k : ℕ). (segment_count c.args.n - 1) * 16352 + k) c.cell_len.ensures
    ∙ sym (segments_size c.args.n c.requires.some)
