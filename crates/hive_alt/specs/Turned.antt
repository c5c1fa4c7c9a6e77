-- What a stop of a load is called by a change of the default set. (This project's own.)
use Rattle.std.specs.Prelude.{None}
use Rattle.hive_log.specs.declared.stops.LoadStop.{LoadStop}
use Rattle.hive_log.specs.declared.stops.LoadStop.TheVariants as load
use Rattle.hive_alt.specs.declared.change.ChangeStop.{ChangeStop}
use Rattle.hive_alt.specs.declared.change.ChangeStop.TheVariants as stops

abbrev pub load_stop_turned : LoadStop → ChangeStop
load_stop_turned (load.Fault f) = stops.Fault f
load_stop_turned load.PowerLost = stops.PowerLost None
load_stop_turned load.Device = stops.Device None
load_stop_turned load.Memory = stops.Memory
