use Rattle.std.proofs.Common.{◌∙◌}
use Rattle.std.specs.List.{filter_map}
use Rattle.why_lacks.specs.why_items.Items.{lacks_services, lacks_groups, leads}
use Rattle.why_lacks.proofs.GoneLemmas.{gone_more, both_found}
use Rattle.why_lacks.proofs.why_items.finding.look_by.Goals as goal

pub put_groups-requires-clause-gone : goal.put_groups-requires-clause-gone
put_groups-requires-clause-gone c =
    gone_more c.args.needs.now c.args.gone.now.keys c.args.found.now.keys
    (filter_map (leads c.args.needs.now c.args.at c.args.view.now) (lacks_services c.args.needs.now c.args.view.now c.args.entry.now))
    c.put_services.new.found.keys c.requires.gone c.in_ok-put_services.ensures

pub returns-clause-found : goal.returns-clause-found
returns-clause-found c =
    both_found c.put_groups.result c.args.needs.now c.args.at c.args.view.now
    (lacks_services c.args.needs.now c.args.view.now c.args.entry.now) (lacks_groups c.args.needs.now c.args.view.now c.args.entry.now)
    c.args.found.now.keys c.put_services.new.found.keys c.put_groups.new.found.keys c.as_slice.result.now c.in_ok-put_services.ensures
    (c.as_slice.ensures ∙ c.in_ok-groups.ensures) c.put_groups.ensures.found
