use Rattle.std.proofs.Common.{◌≡◌, ◌≤◌, ◌-◌, ◌*◌, ◌/◌, length}
use Rattle.windows_logs.specs.entry_log.Runs.{run_of, run_from}
use Rattle.windows_logs.proofs.Going.{after}
use Rattle.windows_logs.proofs.entry_log.run.read_run.Given as goal

abbrev pub invariant-loop-done : goal.invariant-loop-done
invariant-loop-done l = record {
  inside : 512 * l.sector ≤ length l.log;
  same : run_of l.log ≡ after l.entries (run_from (length l.log / 512 - l.done) l.log l.sector l.before);
}
