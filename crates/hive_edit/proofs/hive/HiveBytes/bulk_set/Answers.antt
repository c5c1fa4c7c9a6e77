use Rattle.std.proofs.Common.{sym, ◌∙◌}
use Rattle.hive_edit.proofs.NewValueLemmas.{placed_in}
use Rattle.hive_edit.proofs.hive.HiveBytes.bulk_set.Goals as goal

pub bulk_with-requires-clause-new : goal.bulk_with-requires-clause-new
bulk_with-requires-clause-new c =
    record { key = c.requires.may.key; absent = sym c.requires.may.there ∙ c.in-None.is; short = c.requires.may.short }

pub bulk_given-requires-clause-there : goal.bulk_given-requires-clause-there
bulk_given-requires-clause-there c =
    placed_in c.args.self.now c.args.path.now c.args.name.now c.args.place.key c.in-Some.at c.requires.may.key
    (sym c.in-Some.is ∙ c.requires.may.there)
