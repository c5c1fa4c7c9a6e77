use Rattle.std.proofs.Common.{◌≡◌, take}
use Rattle.std.specs.List.{items_where_true, range_with_len}
use Rattle.service_control.proofs.lists.places_of.Given as goal

abbrev pub invariant-loop-place : goal.invariant-loop-place
invariant-loop-place l = l.places ≡ items_where_true (take l.place l.flags) (range_with_len 0 l.place)
