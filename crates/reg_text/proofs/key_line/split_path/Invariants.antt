use Rattle.std.proofs.Common.{◌≡◌, map}
use Rattle.reg_text.proofs.key_line.split_path.Given as goal

abbrev pub invariant-loop-part : goal.invariant-loop-part
invariant-loop-part l = l.names ≡ map (λ x. x.now) l.yielded
