use Rattle.std.proofs.Common.{arith}
use Rattle.hive_look.proofs.ItemLemmas.{value_long}
use Rattle.hive_look.proofs.values.stored_bytes.Goals as goal

pub u16_at-size-requires : goal.u16_at-size-requires
u16_at-size-requires c = omega (arith, value_long c.args.value.now c.requires)

pub slice_bounds-result-end : goal.slice_bounds-result-end
slice_bounds-result-end c =
    let long = value_long c.args.value.now c.requires in
    grind (arith, long)
