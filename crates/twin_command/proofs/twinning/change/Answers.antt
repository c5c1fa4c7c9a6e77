use Rattle.std.proofs.Common.{◌∙◌}
use Rattle.twin_command.proofs.TwinnedLemmas.{woke, is_awake, some_awake, twinned_ok, part_ok, part_placed}
use Rattle.twin_command.proofs.twinning.change.Goals as goal

pub change_awake-requires-clause-awake : goal.change_awake-requires-clause-awake
change_awake-requires-clause-awake g c =
    is_awake c.args.files.now (g.B.Disk.state c.power_on.new.self)
    (woke c.args.files.now (g.B.Disk.state c.args.bench.now) (g.B.Disk.state c.power_on.new.self)
    c.requires.placed c.in-Ok.ensures.woken.0 c.in-Ok.ensures.woken.1 c.in-Ok.ensures.woken.2)

pub change_awake-requires-clause-some : goal.change_awake-requires-clause-some
change_awake-requires-clause-some g c =
    some_awake g.S.Scheme.stands c.args.files.now (g.B.Disk.state c.power_on.new.self)
    (woke c.args.files.now (g.B.Disk.state c.args.bench.now) (g.B.Disk.state c.power_on.new.self)
    c.requires.placed c.in-Ok.ensures.woken.0 c.in-Ok.ensures.woken.1 c.in-Ok.ensures.woken.2) c.requires.some

pub returns-in-Ok-clause-told : goal.returns-in-Ok-clause-told
returns-in-Ok-clause-told g c =
    twinned_ok g.S.Scheme.stands c.args.files.now c.args.number (g.B.Disk.state c.power_on.new.self)
    (g.B.Disk.state c.change_awake.new.bench)
    (woke c.args.files.now (g.B.Disk.state c.args.bench.now) (g.B.Disk.state c.power_on.new.self)
    c.requires.placed c.in-Ok.ensures.woken.0 c.in-Ok.ensures.woken.1 c.in-Ok.ensures.woken.2)
    c.change_awake.result c.change_awake.ensures.told

pub returns-in-Ok-clause-part : goal.returns-in-Ok-clause-part
returns-in-Ok-clause-part g c =
    part_ok c.args.files.now (g.B.Disk.state c.power_on.new.self) (g.B.Disk.state c.change_awake.new.bench)
    (woke c.args.files.now (g.B.Disk.state c.args.bench.now) (g.B.Disk.state c.power_on.new.self)
    c.requires.placed c.in-Ok.ensures.woken.0 c.in-Ok.ensures.woken.1 c.in-Ok.ensures.woken.2)
    c.change_awake.result c.change_awake.ensures.part

pub returns-in-Err-clause-part : goal.returns-in-Err-clause-part
returns-in-Err-clause-part g c =
    part_placed c.args.files.now (g.B.Disk.state c.power_on.new.self) (c.in-Err.ensures.before ∙ c.requires.placed)
