-- Where a new child stands among the others, by the names of their nodes, and that lists that are read are held.
use Rattle.std.proofs.Common.{◌≡◌, ℕ, suc, ◌+◌, Bool, true, false, not, cond, List, [], ◌∷◌, ◌++◌, take, drop, Result, Ok, refl, sym, ap, subst, ◌∙◌, inl, inr, ⊎_elim, arith}
use Rattle.std.specs.Prelude.{if◌then◌else◌}
use Rattle.std.specs.List.{position_or_len}
use Rattle.std.specs.Ordering.{is_gt}
use Rattle.nt_bytes.specs.declared.fault.HiveFaultKind.{HiveFaultKind}
use Rattle.nt_bytes.specs.Folding.{folded_order}
use Rattle.nt_bytes.specs.Reading.{◌>>=◌}
use Rattle.hive_model.specs.Bins.{Cells}
use Rattle.hive_model.specs.KeyNode.{KeyNode, key_node_at}
use Rattle.hive_model.specs.Lists.{SubkeyList, list_at}
use Rattle.hive_model.specs.Walk.{reading, leaf_at, joined_at, entries_of, entries_at, is_list_of_lists, leaves_checks, entries_checks, below_of, names_of}
use Rattle.hive_model.specs.Footprint.{used_in, of_read}
use Rattle.edited_cells.specs.Owned.{In, first_or_empty, node_name}
use Rattle.edited_cells.specs.Relists.{HasPlace}
use Rattle.key_index.specs.Lists.{lists_at, name_in, name_of, payload_in}
use Rattle.hive_look.proofs.ResultLemmas.{done}
use Rattle.hive_read.proofs.FormFacts.{then-so}

-- ---- names

-- the name that is read of a node, said in two ways
pub name_read : (cells : Cells) (at : ℕ) (n : KeyNode) → reading key_node_at cells at ≡ done n
    → name_in cells at ≡ n.name
unfolding payload_in name_of
name_read cells at n r =
    let p = then-so (cells.payload at) key_node_at n r in
    ap (λ (q : Result (List ℕ) HiveFaultKind). of_read (key_node_at (of_read q (λ z. z))) (λ m. m.name)) p.1
    ∙ ap (λ (q : Result KeyNode HiveFaultKind). of_read q (λ m. m.name)) p.2

pub node_name_read : (cells : Cells) (at : ℕ) (n : KeyNode) → reading key_node_at cells at ≡ done n
    → node_name cells at ≡ n.name
node_name_read cells at n r =
    ap (λ (q : Result KeyNode HiveFaultKind). first_or_empty (names_of (λ (m : KeyNode). m.name) q)) r

-- ---- the place

-- before the first whose name folds greater
pub has_place : (b : Cells) (name : List ℕ) (f : ℕ → Bool) (offsets : List ℕ)
    → ((o : ℕ) → In offsets o → f o ≡ is_gt (folded_order (node_name b o) name))
    → HasPlace b name (take (position_or_len f offsets) offsets) (drop (position_or_len f offsets) offsets)
has_place b name f [] same = record { small = λ m i. absurd i; great = tt }
has_place b name f (o ∷ os) same = go (f o) refl (has_place b name f os (λ z i. same z (inr i)))
  where
    place : Bool → ℕ
    place v = cond (not v) (suc (position_or_len f os)) 0

    go : (v : Bool) → f o ≡ v → HasPlace b name (take (position_or_len f os) os) (drop (position_or_len f os) os)
        → HasPlace b name (take (position_or_len f (o ∷ os)) (o ∷ os)) (drop (position_or_len f (o ∷ os)) (o ∷ os))
    go true e rest =
        let is : position_or_len f (o ∷ os) ≡ 0 = rw e refl in
        rw is (record { small = λ m i. absurd i; great = sym (same o (inl refl)) ∙ e })
    go false e rest =
        let one : 1 + position_or_len f os ≡ suc (position_or_len f os) = omega arith in
        let is : position_or_len f (o ∷ os) ≡ suc (position_or_len f os) =
        ap (λ (w : Bool). cond (not w) (1 + position_or_len f os) 0) e ∙ one in
        rw is (record {
          small = λ m i. ⊎_elim
              (λ (z : node_name b o ≡ m). subst (λ (x : List ℕ). is_gt (folded_order x name) ≡ false) z
              (sym (same o (inl refl)) ∙ e))
              (λ j. rest.small m j) i;
          great = rest.great;
        })

-- ---- lists that are read are held

abbrev pub Held : Cells → ℕ → Type 0
Held cells o = (q : List ℕ) × (cells.payload o ≡ done q)

held_by : {F : Type 0} (form : List ℕ → Result F HiveFaultKind) (cells : Cells) (at o : ℕ) (x : F)
    → reading form cells at ≡ done x → at ≡ o → Held cells o
held_by form cells at o x r e =
    let p = then-so (cells.payload at) form x r in
    (p.0, ap cells.payload (sym e) ∙ p.1)

leaf_held : (cells : Cells) (lists offsets : List ℕ) (o : ℕ) → joined_at cells lists ≡ done offsets
    → In (used_in (leaves_checks cells lists)) o → Held cells o
leaf_held cells [] offsets o r h = absurd h
leaf_held cells (at ∷ rest) offsets o r h =
    let leaf = then-so (reading leaf_at cells at) (λ xs. joined_at cells rest >>= λ ys. Ok (xs ++ ys)) offsets r in
    let others = then-so (joined_at cells rest) (λ ys. Ok (leaf.0 ++ ys)) offsets leaf.2 in
    ⊎_elim (λ e. held_by leaf_at cells at o leaf.0 leaf.1 e) (λ i. leaf_held cells rest others.0 o others.1 i) h

pub entries_held : (cells : Cells) (at : ℕ) (offsets : List ℕ) (o : ℕ) → entries_at cells at ≡ done offsets
    → In (used_in (entries_checks cells at)) o → Held cells o
unfolding entries_at entries_checks
entries_held cells at offsets o r (inl e) =
    let p = then-so (reading list_at cells at) (entries_of cells) offsets r in held_by list_at cells at o p.0 p.1 e
entries_held cells at offsets o r (inr h) =
    let p = then-so (reading list_at cells at) (entries_of cells) offsets r in
    go p.0 (is_list_of_lists p.0.kind) p.2
    (subst (λ (q : Result SubkeyList HiveFaultKind). In
    (used_in (below_of q (λ list. if is_list_of_lists list.kind then leaves_checks cells list.offsets else []))) o)
    p.1 h)
  where
    go : (list : SubkeyList) (t : Bool) → cond t (joined_at cells list.offsets) (Ok list.offsets) ≡ done offsets
        → In (used_in (cond t (leaves_checks cells list.offsets) [])) o → Held cells o
    go list true r h = leaf_held cells list.offsets offsets o r h
    go list false r h = absurd h

-- a list of one
pub one_list : (cells : Cells) (at : ℕ) → lists_at cells at 1 ≡ used_in (entries_checks cells at)
unfolding lists_at
one_list cells at = refl
