use Rattle.std.proofs.Common.{ℕ, List, ap, ◌∙◌}
use Rattle.std.specs.Prelude.{position}
use Rattle.std.specs.Option.{is_some}
use Rattle.nt_bytes.specs.Folding.{folds_same}
use Rattle.start_model.specs.Entries.{Entry, was_tried}
use Rattle.boot_phases.proofs.TriedLemmas.{is_tried}
use Rattle.boot_phases.proofs.boot_phases.tried.TriedNames.has.Goals as goal

pub returns : goal.returns
returns c =
    let names : List (List ℕ) = c.self.inside.names in
    let entry = c.args.entry.now in
    let name = c.as_slice.ensures ∙ ap (λ (e : Entry). e.name) c.entry.view_is in
    c.is_some.ensures ∙ ap is_some (c.place_of.ensures.place ∙ ap (λ n. position (folds_same n) names) name)
    ∙ is_tried names entry ∙ ap (λ ns. was_tried ns entry) c.self.view_is
