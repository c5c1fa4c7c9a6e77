use Rattle.std.proofs.Common.{◌≡◌, ◌≤◌, length}
use Rattle.nt_bytes.specs.Text.{without_last_blanks}
use Rattle.reg_text.proofs.units.before_blanks.Given as goal

abbrev pub invariant-loop-rest : goal.invariant-loop-rest
invariant-loop-rest l = record {
  same : without_last_blanks l.rest ≡ without_last_blanks l.text;
  fewer : length l.rest ≤ length l.text;
}

abbrev pub decreases-loop-rest : goal.decreases-loop-rest
decreases-loop-rest l = length l.rest
