use Rattle.std.proofs.Common.{◌≡◌, length}
use Rattle.safe_boot.specs.Images.{after_last}
use Rattle.safe_boot.proofs.images.file_of.Given as goal

abbrev pub invariant-units : goal.invariant-units
invariant-units l = after_last l.last l.rest ≡ after_last l.path l.path

abbrev pub decreases-units : goal.decreases-units
decreases-units l = length l.rest
