use Rattle.std.proofs.Common.{◌≡◌, ◌++◌, ℕ, List, [], sym, ap, subst, ◌∙◌}
use Rattle.hive_model.specs.Packed.{ring}
use Rattle.hive_pack.specs.Writes.{IsRising}
use Rattle.hive_pack.proofs.Rising.{ring_rises}
use Rattle.hive_pack.proofs.below.cells_below.Goals as goal

after_nothing : (new kept_room : List ℕ) (z : List ℕ) → new ≡ [] → kept_room ≡ new ++ z → kept_room ≡ z
after_nothing new kept_room z e f = f ∙ ap (λ (o : List ℕ). o ++ z) e

pub write_key-requires-clause-rising : goal.write_key-requires-clause-rising
write_key-requires-clause-rising c =
    let places = ring c.args.version c.args.shared.now c.args.at c.args.key.now in
    let r = after_nothing c.new-ring.result.items c.ring_of.new.ring.items places c.new-ring.ensures.items
    c.in_ok-_end.ensures.listed in
    subst IsRising (sym (c.deref.ensures.value ∙ r))
    (ring_rises c.args.version c.args.shared.now c.args.at c.args.key.now)
