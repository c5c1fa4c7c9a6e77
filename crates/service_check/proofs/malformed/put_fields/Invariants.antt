use Rattle.std.proofs.Common.{◌≡◌, ◌++◌, take, map, filter}
use Rattle.service_check.specs.Children.{malformed, has_malformed}
use Rattle.service_check.proofs.malformed.put_fields.Given as goal

abbrev pub invariant-loop-field : goal.invariant-loop-field
invariant-loop-field l = l.faults ≡ l.initial.faults ++ map malformed (filter (has_malformed l.key) (take l.field-index l.fields))
