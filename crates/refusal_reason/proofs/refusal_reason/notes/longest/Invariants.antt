use Rattle.std.proofs.Common.{◌≡◌, ◌≤◌, length, map, max}
use Rattle.refusal_reason.specs.refusal_reason.Notes.{longest}
use Rattle.refusal_reason.proofs.refusal_reason.notes.longest.Given as goal

abbrev pub invariant-words : goal.invariant-words
invariant-words l =
    (max l.most (longest (map (λ w. w.now) l.rest)) ≡ longest (map (λ w. w.now) l.words))
    × (l.most ≤ 9223372036854775807)

abbrev pub decreases-words : goal.decreases-words
decreases-words l = length l.rest
