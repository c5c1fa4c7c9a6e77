use Rattle.std.proofs.Common.{List, sym, subst}
use Rattle.hive_model.specs.Tree.{Tree}
use Rattle.hive_model.specs.Valid.{KeysDiffer}
use Rattle.start_model.proofs.HeldLemmas.{services_differ, services_few}
use Rattle.boot_phases.proofs.service_entries.table.entries.Goals as goal

pub entries_among-requires-clause-differ : goal.entries_among-requires-clause-differ
entries_among-requires-clause-differ c =
    let P : List Tree → Type 0 = λ ts. KeysDiffer ts in
    subst P (sym c.services.ensures) (services_differ c.args.set.now c.requires)

pub entries_among-requires-clause-few : goal.entries_among-requires-clause-few
entries_among-requires-clause-few c = rw c.services.ensures (services_few c.args.set.now c.requires)
