use Rattle.std.proofs.Common.{◌≡◌, take}
use Rattle.tree_diff.specs.Heads.{key_names}
use Rattle.tree_diff.proofs.keys.key_names.Given as goal

abbrev pub invariant-loop-key : goal.invariant-loop-key
invariant-loop-key l = l.names ≡ key_names (take l.key-index l.keys)
