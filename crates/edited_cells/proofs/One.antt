-- At most one tree is at an offset.
use Rattle.std.proofs.Common.{◌≡◌, ℕ, Bool, true, false, List, [], ◌∷◌, length, Result, Ok, refl, sym, ap, subst, ◌∙◌}
use Rattle.std.specs.Prelude.{MatchBool, ◌==◌}
use Rattle.nt_bytes.specs.declared.fault.HiveFaultKind.{HiveFaultKind}
use Rattle.hive_model.specs.KeyNode.{KeyNode, key_node_at}
use Rattle.hive_model.specs.Bins.{Cells}
use Rattle.hive_model.specs.Tree.{Tree, Trees, key, none, more, Head}
use Rattle.hive_model.specs.Walk.{reading, entries_at}
use Rattle.hive_model.specs.Stands.{tree_flags, class_of, security_of, values_of, ListsChildren, KeyStands, Stands, AllStand}

abbrev done : {A : Type 0} → A → Result A HiveFaultKind
done x = Ok x

ok_one : {A : Type 0} (r : Result A HiveFaultKind) (x y : A) → r ≡ done x → r ≡ done y → x ≡ y
ok_one r x y e d = cc

lists_one : (cells : Cells) (node : KeyNode) (xs ys : List ℕ) (b : Bool)
    → MatchBool b (xs ≡ []) ((entries_at cells node.child_list ≡ Ok xs) × (length xs ≡ node.child_count))
    → MatchBool b (ys ≡ []) ((entries_at cells node.child_list ≡ Ok ys) × (length ys ≡ node.child_count)) → xs ≡ ys
lists_one cells node xs ys true p q = p ∙ sym q
lists_one cells node xs ys false p q = ok_one (entries_at cells node.child_list) xs ys p.0 q.0

nodes_one : (cells : Cells) (at : ℕ) (h g : Head) (xs ys : List ℕ) → (s : KeyStands cells at h xs)
    (r : KeyStands cells at g ys) → s.node ≡ r.node
nodes_one cells at h g xs ys s r = ok_one (reading key_node_at cells at) s.node r.node s.read r.read

heads_one : (cells : Cells) (at : ℕ) (h g : Head) (xs ys : List ℕ) → KeyStands cells at h xs → KeyStands cells at g ys
    → h ≡ g
heads_one cells at h g xs ys s r =
    let same = nodes_one cells at h g xs ys s r in
    let name : h.name ≡ g.name = s.name ∙ ap (λ n. n.name) same ∙ sym r.name in
    let flags : h.flags ≡ g.flags = s.flags ∙ ap (λ n. tree_flags n.flags) same ∙ sym r.flags in
    let stamp : h.stamp ≡ g.stamp = s.stamp ∙ ap (λ n. n.stamp) same ∙ sym r.stamp in
    let class : h.class ≡ g.class =
    ok_one (class_of cells r.node) h.class g.class
    (subst (λ (n : KeyNode). class_of cells n ≡ Ok h.class) same s.class) r.class in
    let security : h.security ≡ g.security =
    ok_one (security_of cells r.node) h.security g.security
    (subst (λ (n : KeyNode). security_of cells n ≡ Ok h.security) same s.security) r.security in
    let values : h.values ≡ g.values =
    ok_one (values_of cells r.node) h.values g.values
    (subst (λ (n : KeyNode). values_of cells n ≡ Ok h.values) same s.values) r.values in
    λ i. record {
      name = name i;
      flags = flags i;
      stamp = stamp i;
      class = class i;
      security = security i;
      values = values i;
    }

offsets_one : (cells : Cells) (at : ℕ) (h g : Head) (xs ys : List ℕ) → KeyStands cells at h xs
    → KeyStands cells at g ys → xs ≡ ys
offsets_one cells at h g xs ys s r =
    lists_one cells r.node xs ys (r.node.child_count == 0)
    (subst (λ (n : KeyNode). ListsChildren cells n xs) (nodes_one cells at h g xs ys s r) s.children) r.children

pub first_one : (x y : ℕ) (xs ys : List ℕ) → x ∷ xs ≡ y ∷ ys → (x ≡ y) × (xs ≡ ys)
first_one x y xs ys e = (cc, cc)

mutual
  pub one_stands : (cells : Cells) (at : ℕ) (t u : Tree) → Stands cells at t → Stands cells at u → t ≡ u
  one_stands cells at (key h ts) (key g us) s r =
      let heads : h ≡ g = heads_one cells at h g s.0 r.0 s.1 r.1 in
      let offsets : s.0 ≡ r.0 = offsets_one cells at h g s.0 r.0 s.1 r.1 in
      let kids : ts ≡ us = all_one cells r.0 ts us (subst (λ (o : List ℕ). AllStand cells o ts) offsets s.2) r.2 in
      λ i. key (heads i) (kids i)

  all_one : (cells : Cells) (offsets : List ℕ) (ts us : Trees) → AllStand cells offsets ts → AllStand cells offsets us
      → ts ≡ us
  all_one cells offsets none none s r = refl
  all_one cells offsets none (more u us) s r = absurd (let e : [] ≡ r.0 ∷ r.1 = sym s ∙ r.2 in cc)
  all_one cells offsets (more t ts) none s r = absurd (let e : [] ≡ s.0 ∷ s.1 = sym r ∙ s.2 in cc)
  all_one cells offsets (more t ts) (more u us) s r =
      let same = first_one s.0 r.0 s.1 r.1 (sym s.2 ∙ r.2) in
      let one : t ≡ u = one_stands cells r.0 t u (subst (λ (o : ℕ). Stands cells o t) same.0 s.3) r.3 in
      let others : ts ≡ us = all_one cells r.1 ts us (subst (λ (o : List ℕ). AllStand cells o ts) same.1 s.4) r.4 in
      λ i. more (one i) (others i)
