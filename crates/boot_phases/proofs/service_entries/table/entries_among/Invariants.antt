use Rattle.std.proofs.Common.{◌≡◌, take}
use Rattle.std.specs.List.{filter_map}
use Rattle.start_model.specs.Entries.{entry_of}
use Rattle.boot_phases.proofs.service_entries.table.entries_among.Given as goal

abbrev pub invariant-loop-key : goal.invariant-loop-key
invariant-loop-key l = l.table ≡ filter_map entry_of (take l.key-index l.keys)
