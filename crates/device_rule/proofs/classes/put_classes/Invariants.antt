use Rattle.std.proofs.Common.{◌≡◌, ◌++◌, take}
use Rattle.device_rule.specs.Classes.{all_class_lines}
use Rattle.device_rule.proofs.classes.put_classes.Given as goal

abbrev pub invariant-loop-key : goal.invariant-loop-key
invariant-loop-key l = l.lines ≡ l.initial.lines ++ all_class_lines l.services l.of (take l.key-index l.keys)
