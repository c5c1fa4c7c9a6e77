use Rattle.std.proofs.Common.{◌∙◌, ap, map}
use Rattle.std.specs.List.{flat_map}
use Rattle.std.specs.Option.{option_to_list}
use Rattle.start_model.specs.Ready.{Label}
use Rattle.dependencies.proofs.OrderLemmas.{indexed}
use Rattle.dependencies.proofs.started.Started.of.Goals as goal

pub invariant_of-result : goal.invariant_of-result
invariant_of-result c =
    indexed c.args.entries.items c.in_ok-name_list.name_list.items c.in_ok-group_list.group_list.items
    c.in_ok-names.names.items c.in_ok-groups.groups.items
    (c.in_ok-name_list.ensures ∙ ap (map (λ (l : Label). l.0)) c.as_slice.ensures.value) c.in_ok-names.ensures
    (c.in_ok-group_list.ensures ∙ ap (flat_map (λ (l : Label). option_to_list l.1)) c.as_slice-2.ensures.value)
    c.in_ok-groups.ensures
