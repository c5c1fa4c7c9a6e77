use Rattle.std.proofs.Common.{length, List, ℕ, sym, ap, ◌∙◌, subst}
use Rattle.wait_cycles.specs.Graph.{AreWaits, waits_in}
use Rattle.why_lacks.proofs.SharedLemmas.{shared_waits, shared_fits}
use Rattle.why_lacks.proofs.why_cycle.shared.shared_rows.Goals as goal

pub returns-clause-waits : goal.returns-clause-waits
returns-clause-waits c =
    ap (waits_in (length c.args.items.now.keys)) c.in_ok-rows.ensures ∙ shared_waits c.args.needs.now c.args.items.now.keys

pub returns-clause-fits : goal.returns-clause-fits
returns-clause-fits c =
    subst (λ (rows : List (List ℕ)). AreWaits (length c.args.items.now.keys) rows) (sym c.in_ok-rows.ensures)
    (shared_fits c.args.needs.now c.args.items.now.keys)
