use Rattle.std.proofs.Common.{◌≡◌, ℕ, [], ◌∷◌, ◌++◌, List, length, map, sym, ap, ◌∙◌, subst, arith}
use Rattle.std.specs.List.{range_with_len}
use Rattle.wait_cycles.specs.Graph.{AreWaits, waits_in}
use Rattle.wait_cycles.proofs.InverseLemmas.{if_ok}
use Rattle.service_check.specs.Needs.{waits_of}
use Rattle.service_check.proofs.WaitLemmas.{AreParts, graph_made, graph_waits, graph_needs}
use Rattle.service_check.proofs.waits.waits.Goals as goal
use Rattle.service_check.proofs.waits.waits.Goals.{In_ok-own}

-- the three groups are the graph's parts, and each service waits for its own base
parts : (c : In_ok-own) → AreParts c.args.table.now c.bases_for-bases.result c.in_ok-boot.boot.items
    c.in_ok-system.system.items c.in_ok-taken.taken.items
parts c = record {
  boot_base = omega (arith, c.bases_for-bases.ensures.boot, c.len-count.ensures.len);
  system_base = omega (arith, c.bases_for-bases.ensures.system, c.len-count.ensures.len);
  taken_base = omega (arith, c.bases_for-bases.ensures.taken, c.len-count.ensures.len);
  of_boot = c.in_ok-boot.ensures.grouped;
  of_system = c.in_ok-system.ensures.grouped;
  of_taken = c.in_ok-taken.ensures.grouped;
}

own : (c : In_ok-own) → c.in_ok-own.own.items ≡ map (λ (p : ℕ). p ∷ []) (range_with_len 0 (length c.args.table.now))
own c = c.in_ok-own.ensures ∙ ap (λ (k : ℕ). map (λ (p : ℕ). p ∷ []) (range_with_len 0 k)) c.len-count.ensures.len

pub returns-clause-waits : goal.returns-clause-waits
returns-clause-waits c =
    let rows = c.args.table.now in
    let b = c.bases_for-bases.result in
    let boot = c.in_ok-boot.boot.items in
    let system = c.in_ok-system.system.items in
    let taken = c.in_ok-taken.taken.items in
    let mine = own (goal.at.returns-clause-waits c).In_ok-own in
    if_ok c.joined.result
    (λ g. g.items ≡ (((c.in_ok-entries.entries.items ++ c.in_ok-own.own.items) ++ boot) ++ system) ++ taken)
    (λ g. AreWaits (length rows) g.items)
    (λ g e. subst (λ (xs : List (List ℕ)). AreWaits (length rows) xs)
    (sym (e ∙ (λ j. (((c.in_ok-entries.ensures j ++ mine j) ++ boot) ++ system) ++ taken)
    ∙ sym (graph_made rows b boot system taken))) (graph_waits rows b boot system taken
    (parts (goal.at.returns-clause-waits c).In_ok-own)))
    c.joined.ensures

pub returns-clause-needs : goal.returns-clause-needs
returns-clause-needs c =
    let rows = c.args.table.now in
    let b = c.bases_for-bases.result in
    let boot = c.in_ok-boot.boot.items in
    let system = c.in_ok-system.system.items in
    let taken = c.in_ok-taken.taken.items in
    let mine = own (goal.at.returns-clause-needs c).In_ok-own in
    if_ok c.joined.result
    (λ g. g.items ≡ (((c.in_ok-entries.entries.items ++ c.in_ok-own.own.items) ++ boot) ++ system) ++ taken)
    (λ g. waits_in (length rows) g.items ≡ waits_of rows)
    (λ g e. ap (waits_in (length rows))
    (e ∙ (λ j. (((c.in_ok-entries.ensures j ++ mine j) ++ boot) ++ system) ++ taken)
    ∙ sym (graph_made rows b boot system taken)) ∙ graph_needs rows b boot system taken
    (parts (goal.at.returns-clause-needs c).In_ok-own))
    c.joined.ensures
