use Rattle.std.proofs.Common.{subst}
use Rattle.std.specs.Prelude.{Err}
use Rattle.nt_bytes.specs.declared.fault.HiveFault.{HiveFault}
use Rattle.nt_bytes.specs.declared.fault.ReadStop.{ReadStop}
use Rattle.hive_model.specs.Load.{state_of}
use Rattle.hive_store.specs.Checks.{ChecksAs}
use Rattle.command_parts.specs.declared.command_parts.refusal.Refusal.TheVariants as refusals
use Rattle.command_parts.specs.command_parts.Leaves.{Leaves}
use Rattle.command_parts.specs.command_parts.Placed.{image_in}
use Rattle.command_parts.specs.command_parts.Refusals.{Ends, refusal}
use Rattle.command_words.specs.Views.{find_seen}
use Rattle.find_command.specs.Answer.{question_on}
use Rattle.find_command.proofs.EndLemmas.{answers_alone, fault_alone, memory_alone}
use Rattle.find_command.proofs.command.find_in.Goals as goal

pub find_on-requires : goal.find_on-requires
find_on-requires g c = c.in-Ok.ensures.valid.keys

pub returns-in-Ok : goal.returns-in-Ok
returns-in-Ok g c =
    let loads = c.in-Ok.ensures.checks in
    answers_alone (question_on c.args.form (find_seen c.args.words.now) c.args.files.now)
    (record { state = state_of c.in-Ok.root c.in-Ok.field-0-1 c.in-Ok.field-0-2; dirty = loads.0 }) c.find_on.result
    (g.H.Host.state c.args.host.now) (g.H.Host.state c.find_on.new.host) loads.1 c.find_on.ensures

pub returns-in-Err-Fault : goal.returns-in-Err-Fault
returns-in-Err-Fault g c =
    let a = g.H.Host.state c.args.host.now in
    let b = g.H.Host.state c.refuse.new.host in
    let faults = subst (λ (s : ReadStop). ChecksAs (image_in c.args.files.now) (Err s)) c.in-Err-Fault.field-0-is c.in-Err-Fault.ensures.checks in
    let leaves = subst (λ (f : HiveFault). Leaves (Ends (refusal (refusals.HiveFault f))) c.refuse.result a b) c.in-Err-Fault.fault-is
    c.refuse.ensures.leaves in
    fault_alone (question_on c.args.form (find_seen c.args.words.now) c.args.files.now) c.in-Err-Fault.fault c.refuse.result a b faults leaves
    c.refuse.ensures.files c.refuse.ensures.unasked c.refuse.ensures.kept

pub returns-in-Err-Memory : goal.returns-in-Err-Memory
returns-in-Err-Memory g c = memory_alone (question_on c.args.form (find_seen c.args.words.now) c.args.files.now) (g.H.Host.state c.args.host.now)
