-- The cells of a key, by the fields of its node.
use Rattle.std.proofs.Common.{◌≡◌, ◌<◌, ℕ, zero, suc, ◌-◌, Bool, true, false, cond, List, [], ◌∷◌, ◌++◌, drop, Result, refl, sym, ap, subst, ◌∙◌, arith, append_assoc}
use Rattle.std.specs.Prelude.{◌==◌, flat_map, if◌then◌else◌}
use Rattle.std.specs.List.{All}
use Rattle.std.proofs.lemmas.Bool.{ne_eqb}
use Rattle.std.proofs.lemmas.List.{append-nil}
use Rattle.std.proofs.lemmas.List.Elements.{All-cons, All-nil}
use Rattle.nt_bytes.specs.declared.fault.HiveFaultKind.{HiveFaultKind}
use Rattle.nt_bytes.specs.Fields.{u16_in, u32_in}
use Rattle.hive_model.specs.Bins.{Cells}
use Rattle.hive_model.specs.Forms.{bytes_in}
use Rattle.hive_model.specs.KeyNode.{KeyNode}
use Rattle.hive_model.specs.KeyValue.{KeyValue}
use Rattle.hive_model.specs.Lists.{numbers_in}
use Rattle.hive_model.specs.Tree.{Tree, Trees, key, none, more}
use Rattle.hive_model.specs.Walk.{nowhere, use_as, class_checks, data_checks, value_checks, entries_checks}
use Rattle.hive_model.specs.Footprint.{of_read, used_in, child_places, security_cell_at, list_cells_at}
use Rattle.hive_model.specs.Stands.{IsWellFormed}
use Rattle.edited_cells.specs.Owned.{class_cell_at, value_list_at}
use Rattle.edited_cells.specs.Owned.{value_places as owned_places}
use Rattle.edited_cells.specs.Revalues.{all_value_cells, cells_of_values}
use Rattle.edited_cells.specs.Uses.{plain, secure, own_uses, tree_uses}
use Rattle.edited_cells.proofs.Out.{of_node_is}
use Rattle.edited_cells.proofs.FromCells.{value_uses}
use Rattle.key_index.specs.Lists.{payload_in, lists_at}
use Rattle.hive_look.specs.Places.{IsKeyAt, IsItemHere, data_places}
use Rattle.hive_look.proofs.OnceLemmas.{AllWellFormed, children_well_formed}
use Rattle.hive_look.proofs.ItemLemmas.{item_facts}
use Rattle.hive_look.proofs.NodeLemmas.{node_here, values_here, no_values_here}
use Rattle.hive_look.proofs.PlaceLemmas.{places_same}
use Rattle.hive_look.proofs.ParentLemmas.{security_at_node}
use Rattle.cell_forms.proofs.Steps.{numbers_more}
use Rattle.edited_cells.proofs.Wellformed.{places_are}

abbrev pub use_of : ℕ → Bool → ℕ × Bool
use_of o s = (o, s)

-- nothing comes
pub nothing_more : (us vs : List (ℕ × Bool)) → vs ≡ [] → us ≡ us ++ vs
nothing_more us vs e = sym (append-nil us) ∙ ap (λ (l : List (ℕ × Bool)). us ++ l) (sym e)

-- ---- the class

class_by : (cells : Cells) (at : ℕ) (p : List ℕ) → IsKeyAt cells at → p ≡ payload_in cells at
    → class_cell_at cells at ≡ cond (u16_in p 74 == 0) [] (u32_in p 48 ∷ [])
unfolding class_cell_at class_checks
class_by cells at p k e =
    let n = node_here cells at p k e in
    let size : n.node.class_length ≡ u16_in p 74 = ap (λ (m : KeyNode). m.class_length) n.is in
    let place : n.node.class ≡ u32_in p 48 = ap (λ (m : KeyNode). m.class) n.is in
    of_node_is cells at n.node (λ m. used_in (class_checks cells m)) n.read
    ∙ go n.node.class_length n.node.class (n.node.class_length == 0)
    ∙ (λ i. cond (size i == 0) [] (place i ∷ []))
  where
    go : (n x : ℕ) (b : Bool) → used_in (cond b [] (use_as false (bytes_in n) cells x)) ≡ cond b [] (x ∷ [])
    go n x true = refl
    go n x false = refl

pub no_class : (cells : Cells) (at : ℕ) (p : List ℕ) (size : ℕ) → IsKeyAt cells at → p ≡ payload_in cells at
    → size ≡ u16_in p 74 → size ≡ 0
    → plain (class_cell_at cells at) ≡ []
no_class cells at p size k e s z =
    ap plain (class_by cells at p k e) ∙ ap (λ (n : ℕ). plain (cond (n == 0) [] (u32_in p 48 ∷ []))) (sym s ∙ z)

pub one_class : (cells : Cells) (at : ℕ) (p : List ℕ) (size place : ℕ) → IsKeyAt cells at → p ≡ payload_in cells at
    → size ≡ u16_in p 74 → (size ≡ 0 → ⊥)
    → place ≡ u32_in p 48 → use_of place false ∷ [] ≡ plain (class_cell_at cells at)
one_class cells at p size place k e s some pl =
    let off : (u16_in p 74 == 0) ≡ false = ne_eqb (u16_in p 74) 0 (λ z. some (s ∙ z)) in
    ap (λ (o : ℕ). use_of o false ∷ []) pl
    ∙ sym (ap plain (class_by cells at p k e) ∙ ap (λ (b : Bool). plain (cond b [] (u32_in p 48 ∷ []))) off)

-- ---- the security

security_by : (cells : Cells) (at : ℕ) (p : List ℕ) → IsKeyAt cells at → p ≡ payload_in cells at
    → security_cell_at cells at ≡ cond (u32_in p 44 == nowhere) [] (u32_in p 44 ∷ [])
security_by cells at p k e =
    let n = node_here cells at p k e in
    security_at_node cells at n.node n.read
    ∙ ap (λ (m : KeyNode). cond (m.security == nowhere) [] (m.security ∷ [])) n.is

pub no_security : (cells : Cells) (at : ℕ) (p : List ℕ) (place : ℕ) → IsKeyAt cells at → p ≡ payload_in cells at
    → place ≡ u32_in p 44 → place ≡ nowhere
    → secure (security_cell_at cells at) ≡ []
no_security cells at p place k e s z =
    ap secure (security_by cells at p k e) ∙ ap (λ (n : ℕ). secure (cond (n == nowhere) [] (n ∷ []))) (sym s ∙ z)

pub one_security : (cells : Cells) (at : ℕ) (p : List ℕ) (place : ℕ) → IsKeyAt cells at → p ≡ payload_in cells at
    → place ≡ u32_in p 44 → (place ≡ nowhere → ⊥)
    → use_of place true ∷ [] ≡ secure (security_cell_at cells at)
one_security cells at p place k e s some =
    let off : (u32_in p 44 == nowhere) ≡ false = ne_eqb (u32_in p 44) nowhere (λ z. some (s ∙ z)) in
    ap (λ (o : ℕ). use_of o true ∷ []) s
    ∙ sym (ap secure (security_by cells at p k e) ∙ ap (λ (b : Bool). secure (cond b [] (u32_in p 44 ∷ []))) off)

-- ---- values

pub value_with_data : (cells : Cells) (at : ℕ) → IsItemHere cells at
    → used_in (value_checks cells [] at) ≡ at ∷ data_places cells at
value_with_data cells at h =
    let f = item_facts cells at h in
    value_uses cells at f.value f.read
    ∙ ap (λ (l : List ℕ). at ∷ l)
    (sym (ap (λ (r : Result KeyValue HiveFaultKind). of_read r (λ v. used_in (data_checks cells v))) f.read))

pub plain_append : (xs ys : List ℕ) → plain (xs ++ ys) ≡ plain xs ++ plain ys
plain_append [] ys = refl
plain_append (x ∷ xs) ys = ap (λ (l : List (ℕ × Bool)). use_of x false ∷ l) (plain_append xs ys)

-- the first of the values that are left, and the others
pub values_on : (cells : Cells) (left at : ℕ) (rest : List ℕ) (whole old now after : List (ℕ × Bool)) → 0 < left
    → at ≡ u32_in rest 0
    → after ≡ now ++ plain (used_in (value_checks cells [] at))
    → now ++ plain (cells_of_values cells (numbers_in 4 left rest)) ≡ old ++ whole
    → after ++ plain (cells_of_values cells (numbers_in 4 (left - 1) (drop 4 rest))) ≡ old ++ whole
values_on cells left at rest whole old now after lt is e so_far =
    let others = cells_of_values cells (numbers_in 4 (left - 1) (drop 4 rest)) in
    let mine = used_in (value_checks cells [] at) in
    ap (λ (l : List (ℕ × Bool)). l ++ plain others) e
    ∙ append_assoc now (plain mine) (plain others)
    ∙ ap (λ (l : List (ℕ × Bool)). now ++ l) (sym (plain_append mine others))
    ∙ ap (λ (os : List ℕ). now ++ plain (cells_of_values cells os))
    ((λ i. is i ∷ numbers_in 4 (left - 1) (drop 4 rest)) ∙ sym (numbers_more 4 left rest lt))
    ∙ so_far

value_list_by : (cells : Cells) (at : ℕ) (p : List ℕ) → IsKeyAt cells at → p ≡ payload_in cells at
    → value_list_at cells at ≡ cond (u32_in p 36 == 0) [] (u32_in p 40 ∷ [])
unfolding value_list_at
value_list_by cells at p k e =
    let n = node_here cells at p k e in
    of_node_is cells at n.node (λ m. if m.value_count == 0 then [] else m.value_list ∷ []) n.read
    ∙ ap (λ (m : KeyNode). cond (m.value_count == 0) [] (m.value_list ∷ [])) n.is

pub no_values : (cells : Cells) (at : ℕ) (p : List ℕ) (count : ℕ) → IsKeyAt cells at → p ≡ payload_in cells at
    → count ≡ u32_in p 36 → count ≡ 0
    → plain (all_value_cells cells at) ≡ []
no_values cells at p count k e c z =
    ap (λ (l : List ℕ). plain (l ++ cells_of_values cells (owned_places cells at)))
    (value_list_by cells at p k e ∙ ap (λ (n : ℕ). cond (n == 0) [] (u32_in p 40 ∷ [])) (sym c ∙ z))
    ∙ ap (λ (os : List ℕ). plain (cells_of_values cells os))
    (places_same cells at ∙ no_values_here cells at p count k e c z)

pub some_values : (cells : Cells) (at : ℕ) (p list : List ℕ) (count place : ℕ) → IsKeyAt cells at
    → p ≡ payload_in cells at → count ≡ u32_in p 36 → (count ≡ 0 → ⊥)
    → place ≡ u32_in p 40 → list ≡ payload_in cells place
    → use_of place false ∷ plain (cells_of_values cells (numbers_in 4 count list)) ≡ plain (all_value_cells cells at)
some_values cells at p list count place k e c some pl l =
    let v = values_here cells at p list count place k e c some pl l in
    let off : (u32_in p 36 == 0) ≡ false = ne_eqb (u32_in p 36) 0 (λ z. some (c ∙ z)) in
    let listed : value_list_at cells at ≡ place ∷ [] =
    value_list_by cells at p k e ∙ ap (λ (b : Bool). cond b [] (u32_in p 40 ∷ [])) off
    ∙ ap (λ (o : ℕ). o ∷ []) (sym pl) in
    sym (ap (λ (os : List ℕ). plain (os ++ cells_of_values cells (owned_places cells at))) listed
    ∙ ap (λ (os : List ℕ). plain (place ∷ cells_of_values cells os)) (places_same cells at ∙ v.places))

-- ---- lists

pub lists_by : (cells : Cells) (at : ℕ) (p : List ℕ) (list count : ℕ) → IsKeyAt cells at → p ≡ payload_in cells at
    → list ≡ u32_in p 28 → count ≡ u32_in p 20
    → lists_at cells list count ≡ list_cells_at cells at
unfolding lists_at list_cells_at
lists_by cells at p list count k e l c =
    let n = node_here cells at p k e in
    let a : n.node.child_list ≡ list = ap (λ (m : KeyNode). m.child_list) n.is ∙ sym l in
    let b : n.node.child_count ≡ count = ap (λ (m : KeyNode). m.child_count) n.is ∙ sym c in
    sym (of_node_is cells at n.node
    (λ m. if m.child_count == 0 then [] else used_in (entries_checks cells m.child_list)) n.read
    ∙ (λ i. cond (b i == 0) [] (used_in (entries_checks cells (a i)))))

pub no_lists : (cells : Cells) (at : ℕ) (p : List ℕ) (count : ℕ) → IsKeyAt cells at → p ≡ payload_in cells at
    → count ≡ u32_in p 20 → count ≡ 0
    → plain (list_cells_at cells at) ≡ []
unfolding lists_at
no_lists cells at p count k e c z =
    ap plain (sym (lists_by cells at p (u32_in p 28) count k e refl c)
    ∙ ap (λ (n : ℕ). cond (n == 0) [] (used_in (entries_checks cells (u32_in p 28)))) z)

-- ---- keys

-- each child is in well-formed cells
pub kids_stand : (cells : Cells) (at : ℕ) → IsKeyAt cells at → All (IsKeyAt cells) (child_places cells at)
kids_stand cells at k = go k.0 k.1
  where
    each : (offsets : List ℕ) (ts : Trees) → AllWellFormed cells offsets ts → All (IsKeyAt cells) offsets
    each offsets none s = subst (All (IsKeyAt cells)) (sym s) (All-nil (IsKeyAt cells))
    each offsets (more t ts) s =
        subst (All (IsKeyAt cells)) (sym s.2) (All-cons (IsKeyAt cells) s.0 s.1 (t, s.3) (each s.1 ts s.4))

    go : (t : Tree) → IsWellFormed cells at t → All (IsKeyAt cells) (child_places cells at)
    go (key h ts) w =
        subst (All (IsKeyAt cells)) (sym (places_are cells at h w.stands.0 w.stands.1))
        (each w.stands.0 ts (children_well_formed cells at h ts w))

-- ---- parts that come in sequence

pub joined_uses : (u0 u1 u2 a b : List (ℕ × Bool)) → u1 ≡ u0 ++ a → u2 ≡ u1 ++ b → u2 ≡ u0 ++ (a ++ b)
joined_uses u0 u1 u2 a b e f = f ∙ ap (λ (l : List (ℕ × Bool)). l ++ b) e ∙ append_assoc u0 a b

pub tree_more : (cells : Cells) (left at : ℕ) → (left ≡ 0 → ⊥)
    → own_uses cells at ++ flat_map (tree_uses (left - 1) cells) (child_places cells at) ≡ tree_uses left cells at
tree_more cells zero at some = absurd (some refl)
tree_more cells (suc left) at some =
    ap (λ (n : ℕ). own_uses cells at ++ flat_map (tree_uses n cells) (child_places cells at))
    (let e : suc left - 1 ≡ left = omega arith in e)
