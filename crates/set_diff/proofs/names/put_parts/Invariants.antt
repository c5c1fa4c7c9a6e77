use Rattle.std.proofs.Common.{◌≡◌, ◌+◌, length}
use Rattle.set_diff.specs.Listed.{parts_from, parts_lines}
use Rattle.set_diff.proofs.names.put_parts.Given as goal

abbrev pub invariant-names : goal.invariant-names
invariant-names l = record {
  same : parts_from l.sequence l.place l.xs l.ys ≡ parts_lines l.sequence l.first l.second;
  lines : l.lines ≡ l.initial.lines;
  place : l.place + length l.xs ≡ 1 + length l.first;
}

abbrev pub decreases-names : goal.decreases-names
decreases-names l = length l.xs
