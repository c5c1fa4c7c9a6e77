-- What a key's node says, as the code reads it.
use Rattle.std.proofs.Common.{◌≡◌, ℕ, ◌||◌, Bool, true, false, List, length, Ok, sym, ap, ◌∙◌}
use Rattle.std.specs.Prelude.{◌==◌}
use Rattle.std.specs.List.{list_any}
use Rattle.nt_bytes.specs.Fields.{u32_in, u64_in}
use Rattle.nt_bytes.specs.Text.{is_backslash}
use Rattle.hive_model.specs.Bins.{Cells}
use Rattle.hive_model.specs.KeyNode.{KeyNode, key_node_at}
use Rattle.hive_model.specs.Tree.{Tree, key, head}
use Rattle.hive_model.specs.Edit.{is_bad_name}
use Rattle.hive_model.specs.Walk.{reading}
use Rattle.hive_model.specs.Stands.{Stands, IsWellFormed}
use Rattle.key_index.specs.Lists.{payload_in}
use Rattle.hive_edit.specs.declared.making.Above.{Above}
use Rattle.hive_edit.specs.Making.{AboveIs}
use Rattle.hive_look.specs.Places.{IsKeyAt}
use Rattle.hive_look.proofs.ResultLemmas.{done, ok_same}
use Rattle.hive_look.proofs.NodeLemmas.{node_here as node_at_key}
use Rattle.hive_look.proofs.ParentLemmas.{node_stands}

pub no_slash : (name : List ℕ) → is_bad_name name ≡ false → list_any is_backslash name ≡ false
no_slash name e = go (length name == 0) (list_any is_backslash name) e
  where
    go : (a b : Bool) → (a || b) ≡ false → b ≡ false
    go true b e = absurd cc
    go false b e = e

pub node_read : (cells : Cells) (at : ℕ) (u : Tree) → Stands cells at u
    → (n : KeyNode) × (reading key_node_at cells at ≡ done n)
node_read cells at (key g ts) s = (s.1.node, s.1.read)

pub above_is : (cells : Cells) (at : ℕ) (p : List ℕ) (above : Above) → IsKeyAt cells at → p ≡ payload_in cells at
    → above.list ≡ u32_in p 28 → above.count ≡ u32_in p 20 → above.volatile ≡ u32_in p 24
    → above.security ≡ u32_in p 44 → (n : KeyNode) → reading key_node_at cells at ≡ Ok n → AboveIs above n
above_is cells at p above k e l c v s n read =
    let f = node_at_key cells at p k e in
    let same : f.node ≡ n = ok_same f.node n (sym f.read ∙ read) in
    record {
      list = l ∙ sym (ap (λ (m : KeyNode). m.child_list) f.is) ∙ ap (λ (m : KeyNode). m.child_list) same;
      count = c ∙ sym (ap (λ (m : KeyNode). m.child_count) f.is) ∙ ap (λ (m : KeyNode). m.child_count) same;
      volatile = v ∙ sym (ap (λ (m : KeyNode). m.volatile_count) f.is) ∙ ap (λ (m : KeyNode). m.volatile_count) same;
      security = s ∙ sym (ap (λ (m : KeyNode). m.security) f.is) ∙ ap (λ (m : KeyNode). m.security) same;
    }

pub stamp_is : (cells : Cells) (at : ℕ) (p : List ℕ) (stamp : ℕ) → IsKeyAt cells at → p ≡ payload_in cells at
    → stamp ≡ u64_in p 4 → (t : Tree) → IsWellFormed cells at t → stamp ≡ (head t).stamp
stamp_is cells at p stamp k e s t well =
    let f = node_at_key cells at p k e in
    s ∙ sym (ap (λ (m : KeyNode). m.stamp) f.is) ∙ sym (node_stands cells at t f.node well.stands f.read).stamp
