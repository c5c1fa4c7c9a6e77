-- An index of places, extended by one place.
use Rattle.std.proofs.Common.{◌≡◌, ℕ, suc, ◌+◌, ◌*◌, Option, List, [], ◌++◌, refl, sym, ◌∙◌, arith}
use Rattle.std.specs.Global.{Vec}
use Rattle.std.specs.BTreeMap.{BTreeMap}
use Rattle.hive_model.specs.KeyNode.{key_node_at}
use Rattle.hive_model.specs.Walk.{reading}
use Rattle.salvage_bins.specs.Ground.{Ground}
use Rattle.salvage_parents.specs.Naming.{listed, naming, parent_in, place_if}

pub naming-next : (hive : Ground) (parent n at : ℕ) → at ≡ 8 * n
    → naming hive parent (n + 1) ≡ naming hive parent n ++ place_if parent (parent_in (reading key_node_at hive.cells at)) at
unfolding naming
naming-next hive parent n at e = rw e (up (n + 1) (omega arith))
  where
    up : (k : ℕ) → k ≡ suc n → naming hive parent k ≡ naming hive parent n ++ place_if parent (parent_in (reading key_node_at hive.cells (8 * n))) (8 * n)
    up k s = rw s refl

pub naming-none : (hive : Ground) (parent n : ℕ) → n ≡ 0 → naming hive parent n ≡ []
unfolding naming
naming-none hive parent n e = rw e refl

pub listed-none : (m : BTreeMap ℕ (Vec ℕ)) (parent : ℕ) → m.entries ≡ [] → listed m parent ≡ []
listed-none m parent e = rw e refl

pub index-next : (hive : Ground) (parent n at : ℕ) (old new : List ℕ) (o : Option ℕ) → at ≡ 8 * n → old ≡ naming hive parent n
    → o ≡ parent_in (reading key_node_at hive.cells at) → new ≡ old ++ place_if parent o at → new ≡ naming hive parent (n + 1)
index-next hive parent n at old new o e f g h =
    h ∙ rw (f, g) refl ∙ sym (naming-next hive parent n at e)
