use Rattle.std.proofs.Common.{subst}
use Rattle.std.specs.Prelude.{Err}
use Rattle.nt_bytes.specs.declared.fault.ReadStop.{ReadStop}
use Rattle.hive_alt.specs.Plans.{ChecksFor}
use Rattle.nt_bytes.specs.declared.fault.HiveFault.{HiveFault}
use Rattle.command_parts.specs.declared.command_parts.refusal.Refusal.TheVariants as refusals
use Rattle.command_parts.specs.command_parts.Leaves.{Leaves}
use Rattle.command_parts.specs.command_parts.Placed.{image_in}
use Rattle.command_parts.specs.command_parts.Refusals.{Ends, refusal}
use Rattle.command_parts.specs.command_parts.Views.{saves_seen}
use Rattle.twin_command.proofs.TwinnedLemmas.{fault_twins, unchecked}
use Rattle.twin_command.proofs.twinning.begin.Goals as goal

pub returns-in-Err-Fault : goal.returns-in-Err-Fault
returns-in-Err-Fault g c =
    let fault = subst (λ (s : ReadStop). ChecksFor g.S.Scheme.stands (image_in c.args.files.now) (Err s))
    c.in-Err-Fault.field-0-is c.in-Err-Fault.ensures in
    let leaves = subst (λ (f : HiveFault). Leaves (Ends (refusal (refusals.HiveFault f))) c.refuse.result
    (g.H.Host.state c.args.host.now) (g.H.Host.state c.refuse.new.host))
    c.in-Err-Fault.fault-is c.refuse.ensures.leaves in
    fault_twins c.args.form g.S.Scheme.stands c.args.files.now c.args.number (saves_seen c.args.saves)
    c.in-Err-Fault.fault c.refuse.result (g.H.Host.state c.args.host.now) (g.H.Host.state c.refuse.new.host)
    (g.B.Disk.state c.args.bench.now)
    fault c.requires.fresh leaves c.refuse.ensures.files c.refuse.ensures.unasked c.refuse.ensures.kept

pub returns-in-Err-Memory : goal.returns-in-Err-Memory
returns-in-Err-Memory g c =
    unchecked c.args.form g.S.Scheme.stands c.args.files.now c.args.number (saves_seen c.args.saves)
    (g.H.Host.state c.args.host.now) (g.B.Disk.state c.args.bench.now) c.requires.fresh
