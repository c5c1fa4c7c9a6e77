use Rattle.std.proofs.Common.{◌≡◌, take}
use Rattle.std.specs.List.{filter_map}
use Rattle.why_lacks.specs.why_items.Items.{leads}
use Rattle.why_lacks.proofs.why_items.finding.all_leads.Given as goal

abbrev pub invariant-loop-name : goal.invariant-loop-name
invariant-loop-name l = l.out ≡ filter_map (leads l.needs l.at l.view) (take l.name-index l.names)
