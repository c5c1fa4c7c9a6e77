use Rattle.std.proofs.Common.{length, ap, arith}
use Rattle.key_index.proofs.Runs.{run_long, starts_more}
use Rattle.key_index.proofs.change.set_starts.Goals as goal

pub overwrite-requires : goal.overwrite-requires
overwrite-requires c =
    omega (
      arith,
      ap length c.to_le_bytes.ensures,
      run_long c.args.run.now c.loop-i.run c.loop-i.i c.args.place (omega (arith, c.requires.inside))
          c.loop-i.invariant,
      c.requires.inside,
    )

pub loop-i-preserved : goal.loop-i-preserved
loop-i-preserved c =
    starts_more c.args.run.now c.loop-i.run c.overwrite.new.self c.to_le_bytes.result c.loop-i.i c.args.place
    (omega (arith, c.requires.inside))
    c.loop-i.invariant c.to_le_bytes.ensures c.overwrite.ensures
