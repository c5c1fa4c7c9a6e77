use Rattle.std.proofs.Common.{◌≡◌, ◌++◌, map, length}
use Rattle.std.specs.List.{flat_map}
use Rattle.sweep_text.specs.sweep_text.Words.{told_text}
use Rattle.sweep_text.proofs.sweep_text.said.push_said.Given as goal

abbrev pub invariant-lines : goal.invariant-lines
invariant-lines l =
    l.out.items ++ flat_map (told_text l.form) (map (λ t. t.now) l.waiting)
    ≡ l.fn.out.items ++ flat_map (told_text l.form) (map (λ t. t.now) l.said)

abbrev pub decreases-lines : goal.decreases-lines
decreases-lines l = length l.waiting
