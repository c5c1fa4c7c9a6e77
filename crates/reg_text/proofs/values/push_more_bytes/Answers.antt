use Rattle.std.proofs.Common.{◌++◌}
use Rattle.std.specs.Prelude.{codes}
use Rattle.std.specs.List.{flat_map}
use Rattle.reg_text.specs.Writing.{byte_digits}
use Rattle.reg_text.proofs.FourLemmas.{by_fours}
use Rattle.reg_text.proofs.values.push_more_bytes.Goals as goal

pub fours-preserved : goal.fours-preserved
fours-preserved c =
    by_fours (λ b. codes "," ++ byte_digits b) c.fours.rest.now c.fours.out.items c.push_four_bytes.new.out.items
    (c.args.out.now.items ++ flat_map (λ b. codes "," ++ byte_digits b) c.args.bytes.now) c.in-len4-up.len_at_least
    c.in_ok-push_four_bytes.ensures c.fours.invariant
