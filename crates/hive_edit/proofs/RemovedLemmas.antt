-- A child that was taken out of its parent's cells: what the steps show is what the law of a deleted key asks.
use Rattle.std.proofs.Common.{◌≡◌, ◌<◌, ◌^◌, ℕ, suc, ◌-◌, Bool, true, false, not, cond, List, [], ◌∷◌, ◌++◌, length, Some, Result, Ok, inl, inr, ⊎_elim, refl, sym, ap, subst, ◌∙◌, arith}
use Rattle.std.specs.Prelude.{Contains}
use Rattle.std.proofs.lemmas.Bool.{ne_eqb, eq-eqb}
use Rattle.nt_bytes.specs.declared.fault.HiveFaultKind.{HiveFaultKind}
use Rattle.nt_bytes.specs.declared.version.HiveVersion.{HiveVersion}
use Rattle.nt_bytes.specs.Folding.{folds_same}
use Rattle.nt_bytes.specs.Reading.{◌>>=◌}
use Rattle.hive_model.specs.Bins.{Bin, Cells, look_up}
use Rattle.hive_model.specs.KeyNode.{KeyNode}
use Rattle.hive_model.specs.Security.{SecurityCell, security_at}
use Rattle.hive_model.specs.Tree.{Tree}
use Rattle.hive_model.specs.Walk.{entries_checks}
use Rattle.hive_model.specs.Footprint.{used_in, child_places, list_cells_at}
use Rattle.hive_cells.specs.Held.{held_at, patched}
use Rattle.hive_cells.proofs.HeldLemmas.{held_payload, payload_held}
use Rattle.edited_cells.specs.Owned.{In}
use Rattle.edited_cells.specs.Pairs.{Pairwise}
use Rattle.edited_cells.specs.Uses.{tree_uses}
use Rattle.edited_cells.specs.Relists.{descriptor_at, IsSecurityCell}
use Rattle.edited_cells.specs.Takes.{TakesChild}
use Rattle.edited_cells.proofs.Ins.{in_from, contains_from}
use Rattle.edited_cells.proofs.Pairs.{pairwise_from}
use Rattle.edited_cells.proofs.Patch.{folds_itself}
use Rattle.key_index.specs.Lists.{children_at, lists_at, name_in, without_child}
use Rattle.key_index.specs.Relists.{AreApart}
use Rattle.hive_edit.specs.declared.making.Above.{Above}
use Rattle.hive_edit.specs.Making.{AboveIs, child_fields}
use Rattle.hive_edit.specs.Dropped.{IsRemoved, left_children}
use Rattle.hive_look.proofs.ResultLemmas.{done, some, no_some}
use Rattle.hive_look.proofs.ParentLemmas.{IsParent, lists_are, children_are, siblings_are}
use Rattle.hive_edit.proofs.PlacedLemmas.{one_list}
use Rattle.hive_edit.proofs.DroppedLemmas.{shortened_keeps}
use Rattle.hive_edit.proofs.SecuredLemmas.{secure_reads}
use Rattle.hive_read.proofs.FormFacts.{then-so}

-- ---- children without one

none_without : (zs : List ℕ) (y : ℕ) → ((w : ℕ) → In zs w → w ≡ y → ⊥) → without_child y zs ≡ zs
none_without [] y apart = refl
none_without (z ∷ zs) y apart =
    ap (λ (b : Bool). cond (not b) (z ∷ without_child y zs) (without_child y zs)) (ne_eqb z y (apart z (inl refl)))
    ∙ ap (λ (l : List ℕ). z ∷ l) (none_without zs y (λ w i. apart w (inr i)))

-- a child among others, each of which is another
pub record SplitsAt (places : List ℕ) (y : ℕ) : Type 0 where
  pub front : List ℕ
  pub back : List ℕ
  pub whole : places ≡ front ++ y ∷ back
  pub others : without_child y places ≡ front ++ back

pub split_one : (places : List ℕ) (y : ℕ) → Pairwise (λ a b. a ≡ b → ⊥) places → In places y → SplitsAt places y
split_one [] y d i = absurd i
split_one (z ∷ zs) y d (inl e) = record {
  front = [];
  back = zs;
  whole = ap (λ (w : ℕ). w ∷ zs) e;
  others = ap (λ (b : Bool). cond (not b) (z ∷ without_child y zs) (without_child y zs)) (eq-eqb z y e)
      ∙ none_without zs y (λ w i f. d.0 w i (e ∙ sym f));
}
split_one (z ∷ zs) y d (inr i) =
    let s = split_one zs y d.1 i in
    record {
      front = z ∷ s.front;
      back = s.back;
      whole = ap (λ (l : List ℕ). z ∷ l) s.whole;
      others = ap (λ (b : Bool). cond (not b) (z ∷ without_child y zs) (without_child y zs)) (ne_eqb z y (d.0 y i))
          ∙ ap (λ (l : List ℕ). z ∷ l) s.others;
    }

names_apart : (cells : Cells) (os : List ℕ)
    → Pairwise (λ a b. folds_same (name_in cells b) (name_in cells a) ≡ false) os → Pairwise (λ a b. a ≡ b → ⊥) os
names_apart cells [] d = tt
names_apart cells (o ∷ os) d = (
  (λ w i e. let f : true ≡ false = sym (folds_itself (name_in cells o))
      ∙ ap (λ (z : ℕ). folds_same (name_in cells z) (name_in cells o)) e ∙ d.0 w i in absurd cc),
  names_apart cells os d.1,
)

-- the children of a parent are apart
pub kids_apart : (b : Cells) (root : ℕ) (t : Tree) (p : List (List ℕ)) (x : ℕ) (k : Tree) (n : KeyNode)
    → IsParent b root t p x k n
    → Pairwise (λ a b. a ≡ b → ⊥) (child_places b x)
kids_apart b root t p x k n h =
    names_apart b (child_places b x)
    (pairwise_from (λ a c. folds_same (name_in b c) (name_in b a) ≡ false) (child_places b x)
    (subst (λ (os : List ℕ). Rattle.key_index.specs.Lists.NamesDiffer b os) (children_are b root t p x k n h)
    (siblings_are b root t p x k n h).apart))

-- ---- the child is taken out

module _ (version : HiveVersion) (old new : List Bin) (root : ℕ) (t : Tree) (p : List (List ℕ)) (x : ℕ) (k : Tree)
    (n : KeyNode) (above : Above) (y left : ℕ)
    (uses : List (ℕ × Bool)) (h : IsParent (look_up version old) root t p x k n) (says : AboveIs above n)
    (s : SplitsAt (child_places (look_up version old) x) y)
    (few : above.count < 2 ^ 32) (all : uses ≡ tree_uses left (look_up version old) y)
    (apart : (v : Bool) → In uses (x, v) → ⊥)
    (r : IsRemoved version x above y uses old new) where
  abbrev cells_old : Cells
  cells_old = look_up version old

  lists_is : lists_at cells_old above.list above.count ≡ list_cells_at cells_old x
  lists_is = (λ i. lists_at cells_old (says.list i) (says.count i)) ∙ lists_are cells_old root t p x k n h

  children_is : children_at cells_old above.list above.count ≡ child_places cells_old x
  children_is = (λ i. children_at cells_old (says.list i) (says.count i)) ∙ children_are cells_old root t p x k n h

  pub left_is : left_children version above y old ≡ s.front ++ s.back
  left_is = ap (without_child y) children_is ∙ s.others

  counted : above.count ≡ suc (length (s.front ++ s.back))
  counted =
      says.count ∙ sym (siblings_are cells_old root t p x k n h).number
      ∙ ap (λ (l : List ℕ). length l) (children_are cells_old root t p x k n h ∙ s.whole) ∙ parts s.front s.back
    where
      parts : (front back : List ℕ) → length (front ++ y ∷ back) ≡ suc (length (front ++ back))
      parts [] back = refl
      parts (z ∷ front) back = ap suc (parts front back)

  pub fewer : above.count - 1 ≡ length (s.front ++ s.back)
  fewer = let e = counted in omega (arith, e)

  used_so : (o : ℕ) (v : Bool) → In uses (o, v) → In (tree_uses left cells_old y) (o, v)
  used_so o v i = subst (λ (l : List (ℕ × Bool)). In l (o, v)) all i

  used_there : (o : ℕ) (v : Bool) → In (tree_uses left cells_old y) (o, v) → In uses (o, v)
  used_there o v i = subst (λ (l : List (ℕ × Bool)). In l (o, v)) (sym all) i

  no_list : (o : ℕ) → (In (list_cells_at cells_old x) o → ⊥) → Contains (lists_at cells_old above.list above.count) o
      → ⊥
  no_list o out i = out (subst (λ (l : List ℕ). In l o) lists_is
      (in_from (lists_at cells_old above.list above.count) o i))

  -- the new lists, where a child is left
  written : (w : ℕ) (os : List ℕ) → s.front ++ s.back ≡ w ∷ os
      → Rattle.key_index.specs.Relists.AreRelisted version (lists_at cells_old above.list above.count)
      (left_children version above y old)
      (Rattle.key_index.specs.Lists.hints_in cells_old (left_children version above y old)) old r.listed r.list
  written w os e = ⊎_elim (λ a. a.1) (λ a. absurd (let d : [] ≡ w ∷ os = sym a.0 ∙ left_is ∙ e in cc)) r.lists

  pub takes : ((o : ℕ) → In (tree_uses left cells_old y) (o, true) → IsSecurityCell cells_old root o)
      → ((o : ℕ) → In (tree_uses left cells_old y) (o, true) → In (list_cells_at cells_old x) o → ⊥)
      → TakesChild cells_old (look_up version r.listed) (look_up version new) x left n s.front s.back y r.list
  takes secure_there no_secure_list = record {
    version = refl;
    read = h.read;
    places = s.whole;
    relisted = λ o q e out. held_payload r.listed o q
        (shortened_keeps version above y old r.listed r.list r.lists o q (payload_held old o q e) (no_list o out));
    lists = λ w os e. (written w os e).lists ∙ ap done left_is;
    fresh = λ w os e o i q f.
        no_some (held_at old o) q
        ((written w os e).fresh o (contains_from (used_in (entries_checks (look_up version r.listed) r.list)) o i))
        (payload_held old o q f);
    once = λ w os e. pairwise_from (λ u v. u ≡ v → ⊥) (used_in (entries_checks (look_up version r.listed) r.list))
        (subst AreApart (one_list (look_up version r.listed) r.list)
        (Rattle.key_index.proofs.Meeting.lists_apart (look_up version r.listed) r.list 1 (written w os e).once));
    volatile = subst (λ (z : ℕ). z < 2 ^ 32) says.volatile r.volatile;
    few = let e = counted in omega (arith, few, e);
    small = r.small;
    noted = λ q e. held_payload new x
        (patched 20 (child_fields (length (s.front ++ s.back)) n.volatile_count r.list) q)
        (r.dropped.others x apart ∙ r.fields.here q (payload_held r.listed x q e)
        ∙ (λ i. some (patched 20 (child_fields (fewer i) (says.volatile i) r.list) q)));
    others = λ o q e nx none. held_payload new o q
        (r.dropped.others o (λ v i. none v (used_so o v i)) ∙ r.fields.others o nx ∙ payload_held r.listed o q e);
    counted = λ o i. descriptor o i;
  }
    where
      descriptor : (o : ℕ) → In (tree_uses left cells_old y) (o, true)
          → descriptor_at (look_up version new) o ≡ descriptor_at cells_old o
      descriptor o i =
          let z = secure_reads cells_old root t h.well o (secure_there o i) in
          let q = then-so (cells_old.payload o) security_at z.0 z.1 in
          let held = payload_held old o q.0 q.1 in
          let nx : o ≡ x → ⊥ = λ same. apart true (subst (λ (w : ℕ). In uses (w, true)) same (used_there o true i)) in
          let noted : held_at r.noted o ≡ Some q.0 = r.fields.others o nx
          ∙ shortened_keeps version above y old r.listed r.list r.lists o q.0 held (no_list o (no_secure_list o i)) in
          let now = r.dropped.counted o q.0 (used_there o true i) noted in
          let says = now.2.says z.0 q.2 in
          ap (λ (w : Result (List ℕ) HiveFaultKind). w >>= security_at >>= λ c. Ok c.descriptor)
          (held_payload new o now.0 now.1)
          ∙ ap (λ (w : Result SecurityCell HiveFaultKind). w >>= λ c. Ok c.descriptor) says
          ∙ sym (ap (λ (w : Result SecurityCell HiveFaultKind). w >>= λ c. Ok c.descriptor) z.1)
