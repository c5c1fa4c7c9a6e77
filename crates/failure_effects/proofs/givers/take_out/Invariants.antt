use Rattle.std.proofs.Common.{◌≡◌, ℕ, ◌&&◌, not, length, take}
use Rattle.start_model.specs.Demand.{member}
use Rattle.failure_effects.specs.Givers.{has_place}
use Rattle.failure_effects.proofs.givers.take_out.Given as goal

abbrev pub invariant-loop-place : goal.invariant-loop-place
invariant-loop-place l = record {
  len : length l.rest.items ≡ length l.initial.rest.items;
  out : (p : ℕ) → member l.rest.items p ≡ (member l.initial.rest.items p && not (has_place p (take l.place-index l.places)));
}
