use Rattle.std.proofs.Common.{None}
use Rattle.hive_model.specs.Image.{Image}
use Rattle.hive_model.specs.Load.{Loads}
use Rattle.nt_edge.specs.Crash.{EachCrash}
use Rattle.ntboot_cli.specs.Made.{made_state}
use Rattle.ntboot_cli.proofs.MakeLemmas.{played_summary, played_made, played_part}
use Rattle.ntboot_cli.proofs.RunLemmas.{placed_down, placed_loads}
use Rattle.ntboot_cli.proofs.making.generate.Given.{Over}
use Rattle.ntboot_cli.proofs.making.generate.Goals as goal
use Rattle.ntboot_cli.proofs.making.generate.Goals.{In-Ok}

-- what was placed loads as the tree that was made
made_loads : (g : Over) (c : In-Ok g) → let w = made_state c.args.count in
    EachCrash (g.B.Disk.state c.place.new.bench) (λ (i : Image). Loads i w.state w.dirty)
made_loads g c =
    placed_loads (record { primary = c.in_ok-primary.primary; log = None }) (g.B.Disk.state c.place.new.bench)
    (made_state c.args.count) c.in-Ok.ensures.placed c.in_ok-primary.ensures.loads

pub play-requires : goal.play-requires
play-requires g c = record {
  down = placed_down (record { primary = c.in_ok-primary.primary; log = None }) (g.B.Disk.state c.place.new.bench)
      c.in-Ok.ensures.placed
      (made_state c.args.count, c.in_ok-primary.ensures.loads);
}

pub returns-in-Ok-clause-summary : goal.returns-in-Ok-clause-summary
returns-in-Ok-clause-summary g c =
    played_summary c.args.usual.now c.args.count c.in_ok-primary.primary (g.B.Disk.state c.place.new.bench)
    (g.B.Disk.state c.play.new.bench)
    c.in-Ok.ensures.placed (g.met.B.Bench.ordered c.play.new.bench) c.play.result
    (c.play.ensures.played (made_state c.args.count)
    (made_loads g (goal.at.returns-in-Ok-clause-summary g c).In-Ok))

pub returns-in-Ok-clause-made : goal.returns-in-Ok-clause-made
returns-in-Ok-clause-made g c =
    played_made c.args.usual.now c.args.count c.in_ok-primary.primary (g.B.Disk.state c.place.new.bench)
    (g.B.Disk.state c.play.new.bench)
    c.in-Ok.ensures.placed (g.met.B.Bench.ordered c.play.new.bench) c.play.result
    (c.play.ensures.played (made_state c.args.count)
    (made_loads g (goal.at.returns-in-Ok-clause-made g c).In-Ok))

pub returns-in-Ok-clause-part : goal.returns-in-Ok-clause-part
returns-in-Ok-clause-part g c =
    played_part c.args.usual.now c.args.count c.in_ok-primary.primary (g.B.Disk.state c.place.new.bench)
    (g.B.Disk.state c.play.new.bench)
    c.in-Ok.ensures.placed (g.met.B.Bench.ordered c.play.new.bench) c.play.result
    (c.play.ensures.played (made_state c.args.count)
    (made_loads g (goal.at.returns-in-Ok-clause-part g c).In-Ok))
