use Rattle.hive_model.specs.Bins.{look_up}
use Rattle.hive_model.specs.Packed.{packed, packed_bins}
use Rattle.hive_cells.proofs.Again.{not_both}
use Rattle.hive_read.proofs.One.{one_stands}
use Rattle.hive_read.proofs.Wellformed.{well-formed-passes}
use Rattle.hive_pack.proofs.Heap.{packed_is_bins}
use Rattle.hive_laws.proofs.RoundTrip.{well_formed_packed}
use Rattle.hive_laws.proofs.packing_laws.round_trip.a_packed_tree_is_read_back.Goals as goal

pub returns-clause-bins : goal.returns-clause-bins
returns-clause-bins c = λ version t room. (packed_bins version t, packed_is_bins version t room)

pub returns-clause-no_bad_bin : goal.returns-clause-no_bad_bin
returns-clause-no_bad_bin c = λ version t fault room fails.
    let is = packed_is_bins version t room in
    not_both (packed version t) (packed_bins version t) fault is.0 is.1 fails

pub returns-clause-no_fault : goal.returns-clause-no_fault
returns-clause-no_fault c =
    λ version t bins is. well-formed-passes (look_up version bins) 32 t (well_formed_packed version t bins is)

pub returns-clause-stands : goal.returns-clause-stands
returns-clause-stands c = λ version t bins is. (well_formed_packed version t bins is).stands

pub returns-clause-no_other : goal.returns-clause-no_other
returns-clause-no_other c =
    λ version t u bins is stands. one_stands (look_up version bins) 32 u t stands
    (well_formed_packed version t bins is).stands
