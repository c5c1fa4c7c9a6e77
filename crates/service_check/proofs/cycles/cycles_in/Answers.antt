use Rattle.std.proofs.Common.{◌≡◌, ℕ, List, length, sym, ap, ◌∙◌, subst}
use Rattle.wait_cycles.specs.Waits.{cycles_of}
use Rattle.wait_cycles.specs.Graph.{AreWaits, waits_in}
use Rattle.wait_cycles.proofs.InverseLemmas.{if_ok}
use Rattle.service_check.specs.Needs.{waits_of}
use Rattle.service_check.proofs.cycles.cycles_in.Goals as goal

pub cycles-requires : goal.cycles-requires
cycles-requires c =
    subst (λ (n : ℕ). AreWaits n c.as_slice.result.now) (sym c.len.ensures.len)
    (subst (λ (g : List (List ℕ)). AreWaits (length c.args.table.now) g) (sym c.as_slice.ensures.value)
    c.in_ok-rows.ensures.waits)

pub returns : goal.returns
returns c =
    if_ok c.cycles.result (λ cs. cs ≡ cycles_of (waits_in c.len.result c.as_slice.result.now))
    (λ cs. cs ≡ cycles_of (waits_of c.args.table.now))
    (λ cs e. e ∙ ap cycles_of ((λ j. waits_in (c.len.ensures.len j) (c.as_slice.ensures.value j)) ∙ c.in_ok-rows.ensures.needs))
    c.cycles.ensures
