use Rattle.std.proofs.Common.{◌≡◌, false, take}
use Rattle.std.specs.List.{list_any}
use Rattle.service_check.specs.Check.{is_imaged}
use Rattle.service_check.proofs.checking.has_images.Given as goal

abbrev pub invariant-loop-key : goal.invariant-loop-key
invariant-loop-key l = list_any is_imaged (take l.key-index l.keys) ≡ false
