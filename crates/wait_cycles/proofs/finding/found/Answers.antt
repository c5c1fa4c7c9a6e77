use Rattle.std.proofs.Common.{◌≡◌, ℕ, List, get_or, ◌∙◌, subst}
use Rattle.std.specs.List.{flat_map, range_with_len}
use Rattle.wait_cycles.specs.Waits.{cycles_of}
use Rattle.wait_cycles.specs.Graph.{row_at, AreLeads}
use Rattle.wait_cycles.specs.Classes.{AreMembers, first_from}
use Rattle.wait_cycles.proofs.InverseLemmas.{if_ok}
use Rattle.wait_cycles.proofs.CycleLemmas.{edges_of}
use Rattle.wait_cycles.proofs.MemberLemmas.{cycles_are}
use Rattle.wait_cycles.proofs.finding.found.Goals as goal

pub classes-requires-clause-edges : goal.classes-requires-clause-edges
classes-requires-clause-edges c = edges_of c.args.rows.now c.args.places c.requires.rows

pub returns : goal.returns
returns c =
    let rows = c.args.rows.now in
    let places = c.args.places in
    let classes = c.in_ok-classes.classes.items in
    let members = c.in_ok-members.members.items in
    if_ok c.cycles_in.result
    (λ cycles. cycles
    ≡ flat_map (λ p. first_from p (row_at c.as_slice-3.result.now (get_or c.as_slice-2.result.now p 0)))
    (range_with_len 0 places))
    (λ cycles. (waits : List (List (List ℕ))) → AreLeads waits places rows → cycles ≡ cycles_of waits)
    (λ cycles e. cycles_are rows c.args.back.now places classes members cycles c.requires.rows c.requires.back
    c.in_ok-classes.ensures
    (subst (λ (xs : List ℕ). AreMembers xs places members) c.as_slice.ensures.value c.in_ok-members.ensures)
    (e ∙ (λ j. flat_map (λ p. first_from p (row_at (c.as_slice-3.ensures.value j)
    (get_or (c.as_slice-2.ensures.value j) p 0))) (range_with_len 0 places))))
    c.cycles_in.ensures
