use Rattle.std.proofs.Common.{◌≡◌, ◌++◌, take}
use Rattle.std.specs.List.{flat_map}
use Rattle.set_diff.specs.Services.{field_lines}
use Rattle.set_diff.proofs.service.put_fields.Given as goal

abbrev pub invariant-loop-field : goal.invariant-loop-field
invariant-loop-field l = l.lines ≡ l.initial.lines ++ flat_map (field_lines l.a l.b) (take l.field-index l.fields)
