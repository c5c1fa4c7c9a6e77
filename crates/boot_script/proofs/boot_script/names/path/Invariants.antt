use Rattle.std.proofs.Common.{◌≡◌, map}
use Rattle.boot_script.proofs.boot_script.names.path.Given as goal

abbrev pub invariant-loop-part : goal.invariant-loop-part
invariant-loop-part l = l.names ≡ map (λ x. x.now) l.yielded
