use Rattle.std.proofs.Common.{◌≡◌, ℕ, Bool, List, sym, ap, ◌∙◌, subst}
use Rattle.wait_cycles.specs.Waits.{cycles_of}
use Rattle.wait_cycles.specs.Graph.{AreWaits, AreLeads, waits_in, left_rows}
use Rattle.wait_cycles.proofs.InverseLemmas.{if_ok}
use Rattle.wait_cycles.proofs.CycleLemmas.{edges_of}
use Rattle.wait_cycles.proofs.StuckLemmas.{waits_left, leads_left}
use Rattle.wait_cycles.proofs.finding.cycles.Goals as goal

pub inverse-requires : goal.inverse-requires
inverse-requires c = edges_of c.args.rows.now c.args.places c.requires

pub inverse-requires-2 : goal.inverse-requires-2
inverse-requires-2 c =
    let rows = c.args.rows.now in
    let left : c.as_slice-3.result.now ≡ left_rows c.in_ok-marks.marks.items rows =
    c.as_slice-3.ensures.value ∙ c.in_ok-left.ensures ∙ ap (λ (m : List Bool). left_rows m rows) c.as_slice-2.ensures.value in
    edges_of c.as_slice-3.result.now c.args.places (subst (λ (xs : List (List ℕ)). AreWaits c.args.places xs) (sym left)
    (waits_left c.in_ok-marks.marks.items rows c.args.places c.requires))

pub found-requires-clause-rows : goal.found-requires-clause-rows
found-requires-clause-rows c =
    let rows = c.args.rows.now in
    let left : c.as_slice-4.result.now ≡ left_rows c.in_ok-marks.marks.items rows =
    c.as_slice-4.ensures.value ∙ c.in_ok-left.ensures ∙ ap (λ (m : List Bool). left_rows m rows) c.as_slice-2.ensures.value in
    subst (λ (xs : List (List ℕ)). AreWaits c.args.places xs) (sym left)
    (waits_left c.in_ok-marks.marks.items rows c.args.places c.requires)

pub returns : goal.returns
returns c =
    let rows = c.args.rows.now in
    let places = c.args.places in
    let left : c.as_slice-4.result.now ≡ left_rows c.in_ok-marks.marks.items rows =
    c.as_slice-4.ensures.value ∙ c.in_ok-left.ensures ∙ ap (λ (m : List Bool). left_rows m rows) c.as_slice-2.ensures.value in
    if_ok c.found.result
    (λ cs. (waits : List (List (List ℕ))) → AreLeads waits places c.as_slice-4.result.now → cs ≡ cycles_of waits)
    (λ cs. cs ≡ cycles_of (waits_in places rows))
    (λ cs f. f (waits_in places rows) (subst (λ (xs : List (List ℕ)). AreLeads (waits_in places rows) places xs) (sym left)
    (leads_left rows places c.in_ok-marks.marks.items c.requires c.in_ok-marks.ensures)))
    c.found.ensures
