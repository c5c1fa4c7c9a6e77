-- The frame of a step, from what it does to the keys that it names.
use Rattle.std.proofs.Common.{◌≡◌, ℕ, Bool, true, false, cond, List, length, refl, ◌∙◌, ap, Ok, Err}
use Rattle.std.specs.Prelude.{◌==◌, not, ◌&&◌, if◌then◌else◌}
use Rattle.nt_bytes.specs.declared.fault.HiveFaultKind.TheVariants.{FormName}
use Rattle.nt_bytes.specs.Reading.{◌>>=◌}
use Rattle.hive_model.specs.Bins.{Cells}
use Rattle.hive_model.specs.Tree.{Tree, key}
use Rattle.hive_model.specs.KeyNode.{KeyNode, key_node_at}
use Rattle.hive_model.specs.Walk.{reading, node_at, all_checks}
use Rattle.hive_model.specs.Stands.{Stands, IsWellFormed}
use Rattle.edited_cells.specs.Owned.{Role, Owns}
use Rattle.edited_cells.proofs.Wellformed.{sound_hive, first_part}
use Rattle.edited_cells.proofs.Apart.{IsOne, owned_once}

-- ---- entries at one offset are one

pub record AreOnce (b : Cells) (root : ℕ) : Type 0 where
  pub one : (p q : List (List ℕ)) (r k : Role) (o : ℕ) → Owns b root p r o → Owns b root q k o → IsOne p r q k

root_reads : (cells : Cells) (at : ℕ) (n : KeyNode) → reading key_node_at cells at ≡ Ok n
    → reading (node_at true) cells at ≡ Ok n
unfolding node_at
root_reads cells at n read =
    let p = first_part (cells.payload at) key_node_at n read in
    ap (λ q. q >>= λ bytes. key_node_at bytes >>= λ m. if (length m.name == 0) && not true then Err FormName else Ok m)
    p.1
    ∙ ap (λ q. q >>= λ m. if (length m.name == 0) && not true then Err FormName else Ok m) p.2
    ∙ go (length n.name == 0)
  where
    go : (b : Bool) → cond (b && false) (Err FormName) (Ok n) ≡ Ok n
    go true = refl
    go false = refl

pub root_node : (cells : Cells) (root : ℕ) (t : Tree) → Stands cells root t
    → (n : KeyNode) × (reading (node_at true) cells root ≡ Ok n)
root_node cells root (key h ts) s = (s.1.node, root_reads cells root s.1.node s.1.read)

pub are_once : (b : Cells) (root : ℕ) (t : Tree) → IsWellFormed b root t → AreOnce b root
unfolding all_checks
are_once b root t w =
    let sound = sound_hive b root t w in let n = root_node b root t w.stands in
    record {
      one = λ p q r k o h g. owned_once 512 b true root n.0 sound.all n.1 w.once p q r k o
          (sound.shallow p h.at h.reached) (sound.shallow q g.at g.reached) h g;
    }

-- ---- what is owned, from keys that are kept

-- each owned cell is held
pub record AreHeld (b : Cells) (root : ℕ) : Type 0 where
  pub held : (p : List (List ℕ)) (r : Role) (o : ℕ) → Owns b root p r o → (q : List ℕ) × (b.payload o ≡ Ok q)
