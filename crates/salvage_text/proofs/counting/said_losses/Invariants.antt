use Rattle.std.proofs.Common.{◌≡◌, ◌+◌, ◌≤◌, length}
use Rattle.salvage_text.specs.Counts.{said_losses}
use Rattle.salvage_text.proofs.counting.said_losses.Given as goal

abbrev pub invariant-lines : goal.invariant-lines
invariant-lines l = record {
  found : l.lost + said_losses l.rest ≡ said_losses l.lines;
  few : l.lost + length l.rest ≤ length l.lines;
}

abbrev pub decreases-lines : goal.decreases-lines
decreases-lines l = length l.rest
