use Rattle.std.proofs.Common.{◌-◌, ◌+◌, ◌++◌, List, ◌∷◌, [], ℕ, sym, ap, ◌∙◌, append_assoc, arith}
use Rattle.hive_model.specs.Packed.{part_places}
use Rattle.hive_pack.proofs.Parts.{starts_next}
use Rattle.hive_pack.proofs.lists.part_starts.Goals as goal

pub starts-preserved : goal.starts-preserved
starts-preserved c =
    let i = c.starts.invariant in
    let old = c.starts.starts.items in
    let later = part_places (c.starts.left - 1) (c.starts.place + 4008) in
    record {
      listed = ap (λ (s : List ℕ). s ++ later) c.in_ok-push.ensures.items ∙ append_assoc old (c.starts.place ∷ []) later
          ∙ ap (λ (s : List ℕ). old ++ s) (sym (starts_next c.starts.left c.starts.place (omega arith))) ∙ i.listed;
      room = omega (arith, i.room);
    }
