use Rattle.std.proofs.Common.{ℕ, List, Vec, Global, map, sym, ap, ◌∙◌, subst}
use Rattle.std.specs.Prelude.{slice_get}
use Rattle.indexmap.specs.IndexMap.{set_value_at}
use Rattle.start_model.specs.Entries.{Entry}
use Rattle.boot_phases.specs.service_entries.Keyed.{AreKeyed}
use Rattle.boot_phases.specs.service_entries.Started.{with_start, with_start_at}
use Rattle.boot_phases.proofs.StartedLemmas.{kept_start, values_start, keyed_start}
use Rattle.boot_phases.proofs.service_entries.table.ServiceTable.put_start.Goals as goal

pub returns-in_err-entry-clause-after : goal.returns-in_err-entry-clause-after
returns-in_err-entry-clause-after c =
    c.self.view_is
    ∙ sym (kept_start c.args.self.now c.args.place c.args.start
    (ap (λ (es : List Entry). slice_get es c.args.place) (sym c.self.view_is) ∙ sym c.in_err-entry.ensures.value))

pub invariant_of-self-2 : goal.invariant_of-self-2
invariant_of-self-2 c =
    let es = c.self.inside.by_name.entries in
    let changed = ap (with_start c.args.start) c.entry.view_is in
    subst (λ (e : Entry). AreKeyed (set_value_at es c.args.place e)) (sym changed)
    (keyed_start es c.args.place c.args.start c.in_ok-entry.entry.now (sym c.in_ok-entry.ensures.value)
    c.self.invariant)

pub returns-clause-after : goal.returns-clause-after
returns-clause-after c =
    let es = c.self.inside.by_name.entries in
    let changed = ap (with_start c.args.start) c.entry.view_is in
    ap (λ (e : Entry). map (λ (p : Vec ℕ Global × Entry). p.1) (set_value_at es c.args.place e)) changed
    ∙ values_start es c.args.place c.args.start c.in_ok-entry.entry.now (sym c.in_ok-entry.ensures.value)
    ∙ ap (λ (xs : List Entry). with_start_at xs c.args.place c.args.start) c.self.view_is
