use Rattle.hive_edit.proofs.StrainedLemmas.{made_least, set_least}
use Rattle.hive_edit.proofs.hive.HiveBytes.least_room.Goals as goal

pub returns-in-SetValue-clause-least : goal.returns-in-SetValue-clause-least
returns-in-SetValue-clause-least c = rw c.in-SetValue.is (λ old made bulk.
    set_least old c.args.self.now c.in-SetValue.path c.in-SetValue.name c.in-SetValue.kind c.in-SetValue.bytes
    c.value_room.result c.value_room.ensures.within)

pub returns-in-MakeKey-clause-least : goal.returns-in-MakeKey-clause-least
returns-in-MakeKey-clause-least c = rw c.in-MakeKey.is (λ old made bulk.
    made_least old c.args.self.now c.in-MakeKey.parent c.in-MakeKey.name c.args.before c.made_room.result made bulk
    c.made_room.ensures.none c.made_room.ensures.within)
