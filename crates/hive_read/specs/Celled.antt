-- Data that a value doesn't hold itself: those of one cell, or big data.
use Rattle.std.specs.Prelude.{ℕ, false, if◌then◌else◌, List, Result}
use Rattle.nt_bytes.specs.declared.fault.HiveFaultKind.{HiveFaultKind}
use Rattle.hive_model.specs.Forms.{bytes_in}
use Rattle.hive_model.specs.Size.{is_big}
use Rattle.hive_model.specs.Bins.{Cells}
use Rattle.hive_model.specs.Walk.{Check, reading, use_as, big_checks}
use Rattle.hive_model.specs.Stands.{big_bytes_at}

-- what is judged of n bytes whose cell is at an offset
abbrev pub celled_checks : Cells → ℕ → ℕ → List Check
celled_checks cells n at = if is_big cells.version n then big_checks cells n at else use_as false (bytes_in n) cells at

-- these bytes
abbrev pub celled_bytes : Cells → ℕ → ℕ → Result (List ℕ) HiveFaultKind
celled_bytes cells n at = if is_big cells.version n then big_bytes_at cells n at else reading (bytes_in n) cells at
