use Rattle.std.proofs.lemmas.List.{take_rest}
use Rattle.cell_forms.proofs.Steps.{numbers_next, room_next}
use Rattle.salvage_walk.proofs.fronts.numbers.Goals as goal

pub loop-left-preserved : goal.loop-left-preserved
loop-left-preserved c = record {
  so_far = rw take_rest (numbers_next _ _ _ _ _ _ _ c.loop-left-test.true c.u32_at.ensures c.in_ok-push.ensures.items
      c.loop-left.invariant.so_far);
  inside = rw take_rest (room_next _ _ _ c.loop-left-test.true c.loop-left.invariant.inside);
}
