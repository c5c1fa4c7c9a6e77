use Rattle.std.proofs.Common.{◌≡◌, map, length, find}
use Rattle.refusal_reason.specs.reason_lines.Files.{names, option_for}
use Rattle.refusal_reason.proofs.reason_lines.files.option_for.Given as goal

abbrev pub invariant-options : goal.invariant-options
invariant-options l =
    find (λ option. names (map (λ w. w.now) l.words) option l.file) (map (λ o. o.now) l.rest)
    ≡ option_for (map (λ w. w.now) l.words) l.file

abbrev pub decreases-options : goal.decreases-options
decreases-options l = length l.rest
