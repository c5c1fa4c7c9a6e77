use Rattle.std.proofs.Common.{refl}
use Rattle.mem_edge.specs.State.{state_of}
use Rattle.ntboot.proofs.BetweenLemmas.{clean_in}
use Rattle.ntboot.proofs.clean_hive.clean_primary.Goals as goal

pub returns : goal.returns
returns c =
    clean_in c.args.files.now (state_of c.wake.new.disk) c.recovered_primary.result c.in_ok-wake.ensures
    (c.recovered_primary.ensures refl)
