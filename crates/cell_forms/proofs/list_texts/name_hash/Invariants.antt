use Rattle.std.proofs.Common.{◌≡◌, length}
use Rattle.hive_model.specs.Lists.{hash_from, hash_of}
use Rattle.cell_forms.proofs.list_texts.name_hash.Given as goal

abbrev pub invariant-units : goal.invariant-units
invariant-units l = hash_from l.hash l.rest ≡ hash_of l.units

abbrev pub decreases-units : goal.decreases-units
decreases-units l = length l.rest
