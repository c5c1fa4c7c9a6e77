use Rattle.std.proofs.lemmas.Result.{on_ok_weaker}
use Rattle.line_parts.specs.Views.{all_seen}
use Rattle.services_command.proofs.EntryLemmas.{front_is}
use Rattle.services_command.proofs.entry_parts.put_front.Goals as goal

pub returns : goal.returns
returns c =
    on_ok_weaker c.put_place.result
    (front_is c.args.entry.now (all_seen c.args.parts.now.items) (all_seen c.put_head.new.parts.items)
    (all_seen c.put_values.new.parts.items) (all_seen c.put.new.parts.items) (all_seen c.put_place.new.parts.items)
    c.in_ok-put_head.ensures c.in_ok-put_values.ensures c.in_ok-put.ensures)
    c.put_place.ensures
