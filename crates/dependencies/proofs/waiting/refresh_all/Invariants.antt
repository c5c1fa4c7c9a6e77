use Rattle.std.proofs.Common.{◌≡◌, ℕ, ◌<◌, length}
use Rattle.start_model.specs.Demand.{member}
use Rattle.dependencies.specs.Wants.{is_ready_at}
use Rattle.dependencies.proofs.waiting.refresh_all.Given as goal

abbrev pub invariant-loop-place : goal.invariant-loop-place
invariant-loop-place l = record {
  len : length l.ready ≡ l.services.count;
  each : (p : ℕ) → p < l.place → member l.ready p ≡ is_ready_at l.waits l.services l.groups p;
}
