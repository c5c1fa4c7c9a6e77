use Rattle.std.proofs.Common.{length, ap, arith}
use Rattle.std.proofs.lemmas.List.{length-map}
use Rattle.start_model.specs.Entries.{need_of}
use Rattle.boot_machine.proofs.QueueLemmas.{new_queue}
use Rattle.boot_machine.proofs.boot_machine.queue.Queue.new.Goals as goal

pub new-requires : goal.new-requires
new-requires c = omega (
  arith,
  ap length c.in_ok-needs.ensures.needs,
  length-map c.args.entries.items need_of,
  c.requires,
)

pub returns : goal.returns
returns c =
    new_queue _ _ _ _ _
    c.in_ok-waiting.ensures.state c.in_ok-needs.ensures.needs c.in_ok-needs.ensures.rests
