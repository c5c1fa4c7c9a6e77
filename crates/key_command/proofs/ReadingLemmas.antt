-- What is read on the way, as far as it is read.
use Rattle.std.proofs.Common.{◌≡◌, ◌-◌, ℕ, zero, suc, List, ◌∷◌, Option, Result, Ok, Err, refl, arith}
use Rattle.nt_bytes.specs.declared.fault.HiveFaultKind.{HiveFaultKind}
use Rattle.nt_bytes.specs.declared.fault.ReadStop.{ReadStop}
use Rattle.nt_bytes.specs.declared.fault.ReadStop.TheVariants as stops
use Rattle.hive_model.specs.KeyNode.{KeyNode, key_node_at}
use Rattle.hive_model.specs.Bins.{Cells}
use Rattle.hive_model.specs.Walk.{reading}
use Rattle.key_command.specs.hive_levels.Reading.{Stops, children_of, below_node, cut_at, first_named, place_at, along_at}

-- where one stops, another does
pub stops_on : {F G : Type 0} (e : ReadStop) (a : Result F HiveFaultKind) (b : Result G HiveFaultKind)
    → ((k : HiveFaultKind) → a ≡ Err k → b ≡ Err k) → Stops a e → Stops b e
stops_on stops.Memory a b h s = tt
stops_on (stops.Fault f) a b h s = h f.kind s

-- no level is read where there is no node
pub cut_off : (n : ℕ) (cells : Cells) (at : ℕ) (k : HiveFaultKind) → reading key_node_at cells at ≡ Err k
    → cut_at n cells at ≡ Err k
cut_off zero cells at k e = rw e refl
cut_off (suc n) cells at k e = rw e refl

-- more levels are those below the node
pub cut_below : (n : ℕ) (cells : Cells) (at : ℕ) (node : KeyNode) → (n ≡ 0 → ⊥) → reading key_node_at cells at ≡ Ok node
    → cut_at n cells at ≡ below_node (cut_at (n - 1) cells) cells node
cut_below zero cells at node some e = absurd (some refl)
cut_below (suc n) cells at node some e =
    let less : suc n - 1 ≡ n = omega arith in
    rw (less, e) refl

-- a path ends where the child cannot be read
pub along_off : (path : List (List ℕ)) (name : List ℕ) (others : List (List ℕ)) (n : ℕ) (cells : Cells) (at : ℕ)
    (node : KeyNode) (offsets : List ℕ) (place : Option ℕ) (k : HiveFaultKind) → path ≡ name ∷ others
    → reading key_node_at cells at ≡ Ok node → children_of cells node ≡ Ok offsets
    → first_named cells name offsets ≡ Ok place → place_at (along_at others n cells) place ≡ Err k
    → along_at path n cells at ≡ Err k
along_off path name others n cells at node offsets place k is r c f e = rw (is, r, c, f, e) refl
