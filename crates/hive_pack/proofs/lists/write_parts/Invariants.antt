use Rattle.std.proofs.Common.{◌≡◌, ◌++◌, length}
use Rattle.hive_model.specs.Lists.{AreHints}
use Rattle.hive_model.specs.Packed.{text, parts}
use Rattle.hive_pack.proofs.lists.write_parts.Given as goal

abbrev pub invariant-parts : goal.invariant-parts
invariant-parts l = record {
  written : l.out ++ text (parts l.version l.left l.rest l.rest_hints) ≡ l.fn.out
      ++ text (parts l.version l.count l.places l.hints);
  same : length l.rest ≡ length l.rest_hints;
  four : AreHints l.rest_hints;
}

abbrev pub decreases-parts : goal.decreases-parts
decreases-parts l = l.left
