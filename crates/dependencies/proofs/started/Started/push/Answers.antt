use Rattle.std.proofs.Common.{Some, refl, ap, ◌∙◌, ◌++◌, ◌∷◌, []}
use Rattle.dependencies.proofs.OrderLemmas.{replaced, pushed}
use Rattle.dependencies.proofs.started.Started.push.Goals as goal

pub invariant_of-self-2 : goal.invariant_of-self-2
invariant_of-self-2 c =
    let room = c.make_room.ensures in
    let old = c.self.inside in
    let names = c.in_ok-names_kept in
    let groups = c.in_ok-groups_kept in
    pushed old.entries.items c.put.new.entries.items old.names.items c.replace.new.runs.items old.groups.items
    c.replace-2.new.runs.items
    c.args.name c.args.group c.args.group c.self.invariant
    (c.put.ensures ∙ ap (λ es. es ++ (c.args.name, c.args.group) ∷ []) room.entries)
    (replaced _ _ _ _ (Some c.args.name) (Some c.args.name) names.names_kept names.names c.as_slice.ensures.value room.names
    refl names.ensures c.replace.ensures)
    (λ q. refl)
    (replaced _ _ _ _ c.args.group c.args.group groups.groups_kept groups.groups c.as_slice-2.ensures.value room.groups refl groups.ensures
    c.replace-2.ensures)
