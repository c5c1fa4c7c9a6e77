use Rattle.std.proofs.Common.{◌∙◌}
use Rattle.hive_edit.specs.Making.{bare}
use Rattle.hive_edit.proofs.adding.new_child.Goals as goal

pub returns : goal.returns
returns c = λ t well.
    c.in_ok-key.ensures
    ∙ (λ i. bare c.args.name.now (c.stamp_at-stamp.ensures t well i) (c.descriptor_at-security.ensures.is t well i))
