use Rattle.std.proofs.Common.{sym, subst}
use Rattle.set_commands.specs.hive_sets.Shows.{ShowsHive}
use Rattle.set_commands.proofs.HiveSetsPartLemmas.{part_shows}
use Rattle.set_commands.proofs.ReadLemmas.{made_part}
use Rattle.set_commands.proofs.hive_sets.reading.part.Goals as goal

pub returns-clause-exact : goal.returns-clause-exact
returns-clause-exact c =
    made_part c.args.numbers.now c.args.hive.now.tree c.bare.result c.new.result c.in_ok-names.names c.as_slice.result.now
    c.in_ok-children.children c.new-2.result c.root-root.ensures.valid.keys c.new.ensures c.in_ok-names.ensures.names
    c.as_slice.ensures c.in_ok-children.ensures c.new-2.ensures c.bare.ensures

pub returns-clause-shows : goal.returns-clause-shows
returns-clause-shows c =
    subst (ShowsHive c.args.numbers.now c.args.hive.now.tree) (sym (returns-clause-exact c))
    (part_shows c.args.numbers.now c.args.hive.now.tree c.root-root.ensures.valid.keys)
