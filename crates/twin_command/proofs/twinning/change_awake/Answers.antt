use Rattle.twin_command.proofs.AwakeLemmas.{WasAwake, sound, lost_never, failed_never, told_part, awake_told}
use Rattle.twin_command.proofs.twinning.change_awake.Given.{Over}
use Rattle.twin_command.proofs.twinning.change_awake.Goals as goal
use Rattle.twin_command.proofs.twinning.change_awake.Goals.{After-power_off}

was_awake : (g : Over) (c : After-power_off g) → WasAwake g.S.Scheme.stands (g.B.Disk.state c.args.bench.now)
    (g.B.Disk.state c.change_default-done.new.disk) (g.B.Disk.state c.power_off.new.self)
was_awake g c = record {
  off_is = c.power_off.ensures.off;
  awake = c.requires.awake;
  keeps = g.met.B.Bench.ordered c.change_default-done.new.disk;
  some = c.requires.some;
}

pub told_by-requires-clause-sound : goal.told_by-requires-clause-sound
told_by-requires-clause-sound g c =
    sound _ c.args.number _ _ _ (was_awake g (goal.at.told_by-requires-clause-sound g c).After-power_off)
    c.change_default-done.result (c.change_default-done.ensures.answers g.met.B.Bench.told)

pub told_by-requires-clause-powered : goal.told_by-requires-clause-powered
told_by-requires-clause-powered g c =
    lost_never _ c.args.number _ _ _ (was_awake g (goal.at.told_by-requires-clause-powered g c).After-power_off)
    c.change_default-done.result c.change_default-done.ensures.goes

pub told_by-requires-clause-working : goal.told_by-requires-clause-working
told_by-requires-clause-working g c =
    failed_never _ c.args.number _ _ _ (was_awake g (goal.at.told_by-requires-clause-working g c).After-power_off)
    c.change_default-done.result c.change_default-done.ensures.goes

pub returns-clause-told : goal.returns-clause-told
returns-clause-told g c =
    awake_told _ c.args.number _ _ _ (was_awake g (goal.at.returns-clause-told g c).After-power_off)
    c.change_default-done.result (c.change_default-done.ensures.answers g.met.B.Bench.told) c.change_default-done.ensures.goes
    (c.change_default-done.ensures.mended g.met.B.Bench.told) c.told_by.result c.told_by.ensures

pub returns-clause-part : goal.returns-clause-part
returns-clause-part g c =
    told_part _ c.args.number _ _ _ (was_awake g (goal.at.returns-clause-part g c).After-power_off)
    c.change_default-done.result c.change_default-done.ensures.goes c.told_by.result
