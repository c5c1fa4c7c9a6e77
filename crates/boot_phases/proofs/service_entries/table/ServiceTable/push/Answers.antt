use Rattle.std.proofs.Common.{◌∙◌, ap}
use Rattle.nt_bytes.specs.Folding.{folded}
use Rattle.start_model.specs.Entries.{Entry}
use Rattle.boot_phases.proofs.TableLemmas.{pushed, keyed_push, values_push, key_is, new_there}
use Rattle.boot_phases.proofs.service_entries.table.ServiceTable.push.Goals as goal

pub invariant_of-self-2 : goal.invariant_of-self-2
invariant_of-self-2 c =
    let is = c.into_vec.ensures ∙ c.in_ok-key.ensures ∙ key_is c.as_slice.ensures
    ∙ ap (λ (e : Entry). folded e.name) c.entry.view_is in
    let e = c.in_ok-insert.ensures.entries
    ∙ pushed _ _ c.args.entry c.self.invariant is (new_there c.args.entry.name c.self.view_is c.requires.new) in
    rw e (keyed_push _ _ c.args.entry c.self.invariant is (new_there c.args.entry.name c.self.view_is c.requires.new)
    (rw c.self.view_is c.requires.few))

pub returns : goal.returns
returns c =
    let is = c.into_vec.ensures ∙ c.in_ok-key.ensures ∙ key_is c.as_slice.ensures
    ∙ ap (λ (e : Entry). folded e.name) c.entry.view_is in
    let e = c.in_ok-insert.ensures.entries
    ∙ pushed _ _ c.args.entry c.self.invariant is (new_there c.args.entry.name c.self.view_is c.requires.new) in
    rw (e, ← c.self.view_is) (values_push _ _ c.args.entry)
