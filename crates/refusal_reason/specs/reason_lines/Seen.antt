-- How are the tables and the faults of the program seen? With the texts in place of the references.
use Rattle.std.specs.Prelude.{option_map}
use Rattle.refusal_reason.specs.reason_lines.Kinds.{Row, PartReason}
use Rattle.refusal_reason.specs.reason_lines.Heard.{Heard, nothing, of_script, of_boot_ini, of_reg, of_hive, of_other}
use Rattle.refusal_reason.specs.reason_lines.Lines.{Pair}
use Rattle.refusal_reason.specs.declared.reason_lines.lines.Pair.{Pair as CodePair}
use Rattle.refusal_reason.specs.declared.reason_lines.kinds.Row.{Row as CodeRow}
use Rattle.refusal_reason.specs.declared.reason_lines.kinds.Found.{Found}
use Rattle.refusal_reason.specs.declared.reason_lines.heard.Heard.{Heard as CodeHeard}
use Rattle.refusal_reason.specs.declared.reason_lines.heard.Heard.TheVariants as code

-- a row
abbrev pub row_seen : CodeRow → Row
row_seen row = record { kind = row.kind.now; reason = row.reason.now }

-- a part with its reason
abbrev pub found_seen : Found → PartReason
found_seen found = record { part = found.part; reason = found.reason.now }

-- what a line says of a fault
abbrev pub heard_seen : CodeHeard → Heard
heard_seen code.Nothing = nothing
heard_seen (code.Script reason line) = of_script reason.now line
heard_seen (code.BootIni reason) = of_boot_ini reason.now
heard_seen (code.Reg reason line) = of_reg reason.now line
heard_seen (code.Hive part reason at) = of_hive part reason.now at
heard_seen (code.Other part reason at) = of_other part reason.now at

-- a hive's two files
abbrev pub pair_seen : CodePair → Pair
pair_seen pair = record { name = pair.name.now; log = option_map (λ t. t.now) pair.log; dirty = pair.dirty }
