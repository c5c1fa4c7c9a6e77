use Rattle.std.proofs.Common.{◌≡◌, ap, ◌∙◌, arith}
use Rattle.std.proofs.lemmas.Grind.{common_steps}
use Rattle.boot_phases.specs.service_entries.Named.{place_named}
use Rattle.boot_phases.proofs.TableLemmas.{place_of_key}
use Rattle.boot_phases.proofs.service_entries.table.ServiceTable.place_of_folded.Goals as goal

pub returns-clause-place : goal.returns-clause-place
returns-clause-place c =
    let same : c.map.result ≡ c.get_index_of.result =
    grind (arith, common_steps, c.map.ensures.cases, c.map.ensures.variant) in
    same ∙ c.get_index_of.ensures.index ∙ place_of_key c.self.inside.by_name.entries c.args.folded.now c.self.invariant
    ∙ ap (place_named c.args.folded.now) c.self.view_is
