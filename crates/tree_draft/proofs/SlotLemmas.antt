-- What slots of values hold, and what each change of them keeps.
use Rattle.std.proofs.Common.{◌≡◌, ℕ, zero, suc, ◌<◌, Bool, true, false, List, [], ◌∷◌, ◌++◌, length, get_or, Option, Some, None, refl, sym, ap, subst, ◌∙◌, arith, inl, inr}
use Rattle.std.specs.Prelude.{find}
use Rattle.std.specs.Option.{is_some}
use Rattle.std.specs.Global.{Vec}
use Rattle.std.specs.BTreeMap.{BTreeMap, UpdatesBy, is_at}
use Rattle.std.specs.Map.{lookup, IsKeyTest, AreApart, KeepsOthers}
use Rattle.std.specs.Cmp.{eq_by_cmp_equiv}
use Rattle.std.specs.Cmp.Lexicographic.{slice_cmp, bytes_decides, nat_list_cmp_total, nat_list_eq_equiv}
use Rattle.std.specs.Ordering.{is_eq, nat_cmp}
use Rattle.std.specs.Str.{bytes_eq}
use Rattle.std.proofs.Math.ListN.{set}
use Rattle.std.proofs.lemmas.Bool.{cases_Bool, cases_eq, cases_lt, both_ways, false_from_ne_true}
use Rattle.std.proofs.lemmas.List.{length_push, get_or_append_left, get_or_push, get_or-set_same, get_or-set_other}
use Rattle.std.proofs.lemmas.Map.Text.{is_eq-slice_cmp}
use Rattle.nt_bytes.specs.Folding.{folded, folds_same}
use Rattle.nt_names.proofs.FoldLemmas.{same_from_order}
use Rattle.hive_model.specs.Tree.{Item, is_item}
use Rattle.hive_model.specs.Edit.{at_first, without_first, with_item}
use Rattle.tree_draft.specs.Slots.{held, place_in, IsNamed, IsIndexOf, given}

-- ---- names

same_bytes : (a b : List ℕ) → folds_same a b ≡ bytes_eq (folded b) (folded a)
same_bytes a b = same_from_order a b ∙ is_eq-slice_cmp (folded b) (folded a)

-- names that fold to one have one folded name
one_folded : (a b : List ℕ) → folds_same a b ≡ true → folded b ≡ folded a
one_folded a b same = (bytes_decides (folded b) (folded a)).0 (sym (same_bytes a b) ∙ same)

folded_one : (a b : List ℕ) → folded b ≡ folded a → folds_same a b ≡ true
folded_one a b same = same_bytes a b ∙ (bytes_decides (folded b) (folded a)).1 same

-- texts that f reports apart are apart
apart_by : {X : Type 0} (f : List ℕ → X) (a b : List ℕ) → (f a ≡ f b → ⊥) → bytes_eq a b ≡ false
apart_by f a b differ = false_from_ne_true _ (λ same. differ (ap f ((bytes_decides a b).0 same)))

-- what is not there is none
pub none_from : (o : Option ℕ) → is_some o ≡ false → o ≡ None
none_from None none = refl
none_from (Some k) none = absurd cc

-- ---- the map after a change at one name

-- a query for another key finds the same as before
module _ {K X : Type 0} (eq : K → K → Bool) (test : K → Bool) where
  others_keep : (old new : List (K × X)) → KeepsOthers eq test old new → (other : K → Bool)
      → IsKeyTest eq other → AreApart test other → lookup other new ≡ lookup other old
  unfolding KeepsOthers
  others_keep old new keeps = keeps

-- a change of the map at this name alone, as `insert` and `remove` say it
abbrev pub UpdatesAt : List ℕ → BTreeMap (Vec ℕ) ℕ → BTreeMap (Vec ℕ) ℕ → Option ℕ → Type 0
UpdatesAt name = UpdatesBy (λ (a b : Vec ℕ). slice_cmp nat_cmp a.items b.items)
    (λ (q : Vec ℕ). slice_cmp nat_cmp name q.items)

-- the map has w at this folded name, and at each other what it had
pub record ChangesAt (name : List ℕ) (old new : BTreeMap (Vec ℕ) ℕ) (w : Option ℕ) : Type 0 where
  here : place_in new name ≡ w
  others : (other : List ℕ) → bytes_eq name other ≡ false → place_in new other ≡ place_in old other

changed_place : (name : List ℕ) (old new : BTreeMap (Vec ℕ) ℕ) (w : Option ℕ) → UpdatesAt name old new w
    → ChangesAt name old new w
changed_place name old new w updates = record {
  here = updates.1;
  others = λ other apart. others_keep _ _ _ _ updates.3
      (is_at (λ (q : Vec ℕ). slice_cmp nat_cmp other q.items))
      (λ x y. (eq_by_cmp_equiv nat_list_cmp_total).congr other x.items y.items) (off other apart);
}
  where
    off : (other : List ℕ) → bytes_eq name other ≡ false → (q : Vec ℕ)
        → is_eq (slice_cmp nat_cmp name q.items) ≡ true → is_eq (slice_cmp nat_cmp other q.items) ≡ false
    off other apart q same =
        let one : bytes_eq name q.items ≡ true = sym (is_eq-slice_cmp name q.items) ∙ same in
        is_eq-slice_cmp other q.items ∙ nat_list_eq_equiv.symm other q.items
        ∙ sym (nat_list_eq_equiv.congr name q.items other one) ∙ apart

-- the same, where the call had the name as its key and w as its value
pub changes_at : (key name : List ℕ) (old new : BTreeMap (Vec ℕ) ℕ) (u w : Option ℕ) → key ≡ name → u ≡ w
    → UpdatesAt key old new u → ChangesAt name old new w
changes_at key name old new u w is has updates =
    subst (λ n. ChangesAt n old new w) is
    (subst (ChangesAt key old new) has (changed_place key old new u updates))

-- ---- values in slots

-- a slot with a value is one of the slots
inside : (slots : List (Option Item)) (k : ℕ) (v : Item) → get_or slots k None ≡ Some v → k < length slots
inside [] k v there = absurd cc
inside (o ∷ slots) zero v there = omega arith
inside (o ∷ slots) (suc k) v there = omega (arith, inside slots k v there)

-- no value in a slot passes
abbrev NonePasses : (Item → Bool) → List (Option Item) → Type 0
NonePasses p slots = (k : ℕ) (v : Item) → get_or slots k None ≡ Some v → p v ≡ false

-- what the list of values then is
record Nowhere (p : Item → Bool) (slots : List (Option Item)) : Type 0 where
  found : find p (held slots) ≡ None
  gone : without_first p (held slots) ≡ held slots

nowhere : (p : Item → Bool) (slots : List (Option Item)) → NonePasses p slots → Nowhere p slots
nowhere p [] none = record { found = refl; gone = refl }
nowhere p (None ∷ slots) none = let rest = nowhere p slots (λ k. none (suc k)) in
    record { found = rest.found; gone = rest.gone }
nowhere p (Some u ∷ slots) none =
    let rest = nowhere p slots (λ k. none (suc k)) in
    let off : p u ≡ false = none 0 u refl in
    record { found = rw off rest.found; gone = rw off (ap (λ vs. u ∷ vs) rest.gone) }

-- the value of slot k is the first that passes
record IsFirst (p : Item → Bool) (slots : List (Option Item)) (k : ℕ) (v : Item) : Type 0 where
  there : get_or slots k None ≡ Some v
  passes : p v ≡ true
  before : (j : ℕ) (u : Item) → j < k → get_or slots j None ≡ Some u → p u ≡ false

-- what the list of values then is, and what a change there makes of it
record AtSlot (p : Item → Bool) (change : Item → Item) (slots : List (Option Item)) (k : ℕ) (v : Item)
    : Type 0 where
  found : find p (held slots) ≡ Some v
  gone : without_first p (held slots) ≡ held (set slots k None)
  changed : at_first p change (held slots) ≡ held (set slots k (Some (change v)))

at_slot : (p : Item → Bool) (change : Item → Item) (slots : List (Option Item)) (k : ℕ) (v : Item)
    → IsFirst p slots k v → AtSlot p change slots k v
at_slot p change [] k v first = let there : None ≡ Some v = first.there in absurd cc
at_slot p change (None ∷ slots) zero v first = let there : None ≡ Some v = first.there in absurd cc
at_slot p change (Some u ∷ slots) zero v first =
    let there : Some u ≡ Some v = first.there in
    let same : u ≡ v = cc in
    let on : p u ≡ true = ap p same ∙ first.passes in
    record {
      found = rw on there;
      gone = rw on refl;
      changed = rw on (ap (λ x. change x ∷ held slots) same);
    }
at_slot p change (None ∷ slots) (suc k) v first =
    let rest = at_slot p change slots k v (record {
      there = first.there;
      passes = first.passes;
      before = λ j u lt. first.before (suc j) u (omega (arith, lt));
    }) in
    record { found = rest.found; gone = rest.gone; changed = rest.changed }
at_slot p change (Some u ∷ slots) (suc k) v first =
    let off : p u ≡ false = first.before 0 u (omega arith) refl in
    let rest = at_slot p change slots k v (record {
      there = first.there;
      passes = first.passes;
      before = λ j u lt. first.before (suc j) u (omega (arith, lt));
    }) in
    record {
      found = rw off rest.found;
      gone = rw off (ap (λ vs. u ∷ vs) rest.gone);
      changed = rw off (ap (λ vs. u ∷ vs) rest.changed);
    }

-- ---- what the index says

-- a slot that has this name has a value
named_value : (o : Option Item) (name : List ℕ) → IsNamed name o
    → (v : Item) × (o ≡ Some v) × (folded v.name ≡ name)
named_value None name named = absurd named
named_value (Some v) name named = (v, refl, named)

module _ (slots : List (Option Item)) (places : BTreeMap (Vec ℕ) ℕ) (index : IsIndexOf slots places)
    (name : List ℕ) where
  absent : place_in places (folded name) ≡ None → Nowhere (is_item name) slots
  absent none = nowhere (is_item name) slots (λ k v there. false_from_ne_true (is_item name v) (λ same.
      let named : place_in places (folded name) ≡ Some k =
      ap (place_in places) (sym (one_folded name v.name same)) ∙ index.each k v there in
      cc))

  -- where the map names no slot there is no value of this name
  pub none_held : place_in places (folded name) ≡ None → find (is_item name) (held slots) ≡ None
  none_held none = (absent none).found

  pub none_gone : place_in places (folded name) ≡ None
      → without_first (is_item name) (held slots) ≡ held slots
  none_gone none = (absent none).gone

  module _ (k : ℕ) (at : place_in places (folded name) ≡ Some k) where
    -- the value in the slot that the map names
    pub value_at : (v : Item) × (get_or slots k None ≡ Some v) × (folded v.name ≡ folded name)
    value_at = named_value (get_or slots k None) (folded name) (index.only (folded name) k at)

    pub is_inside : k < length slots
    is_inside = inside slots k value_at.0 value_at.1

    present : (change : Item → Item) → AtSlot (is_item name) change slots k value_at.0
    present change = at_slot (is_item name) change slots k value_at.0 (record {
      there = value_at.1;
      passes = folded_one name value_at.0.name value_at.2;
      before = λ j u lt there. false_from_ne_true (is_item name u) (λ same.
          let named : place_in places (folded name) ≡ Some j =
          ap (place_in places) (sym (one_folded name u.name same)) ∙ index.each j u there in
          let one : k ≡ j = cc in
          omega (arith, one, lt));
    })

    -- what the map names is there
    pub found_at : is_some (find (is_item name) (held slots)) ≡ true
    found_at = ap is_some (present (λ v. v)).found

    pub gone_at : without_first (is_item name) (held slots) ≡ held (set slots k None)
    gone_at = (present (λ v. v)).gone

    pub changed_at : (kind : ℕ) (bytes : List ℕ)
        → with_item name kind bytes (held slots) ≡ held (set slots k (given kind bytes (get_or slots k None)))
    changed_at kind bytes =
        rw (found_at, value_at.1) (present (λ v. record v { kind = kind; bytes = bytes })).changed

  -- where no value has this name the map names no slot for it
  pub unplaced : find (is_item name) (held slots) ≡ None → place_in places (folded name) ≡ None
  unplaced none = by_place (place_in places (folded name)) refl
    where
      by_place : (o : Option ℕ) → place_in places (folded name) ≡ o → place_in places (folded name) ≡ None
      by_place None e = e
      by_place (Some k) e = absurd (both_ways _ (ap is_some none) (found_at k e))

-- where no value has this name one is added after the others
pub added_last : (name : List ℕ) (kind : ℕ) (bytes : List ℕ) (items : List Item)
    → find (is_item name) items ≡ None
    → with_item name kind bytes items ≡ items ++ record { name = name; kind = kind; bytes = bytes } ∷ []
added_last name kind bytes items none = rw none refl

-- ---- what the index keeps

-- a value after the others, whose name the map did not have
pub index_push : (slots : List (Option Item)) (old new : BTreeMap (Vec ℕ) ℕ) (v : Item) → IsIndexOf slots old
    → place_in old (folded v.name) ≡ None → ChangesAt (folded v.name) old new (Some (length slots))
    → IsIndexOf (slots ++ Some v ∷ []) new
index_push slots old new v index none changes = record { each = each; only = only }
  where
    last : get_or (slots ++ Some v ∷ []) (length slots) None ≡ Some v
    last = get_or_push slots (Some v) None (length slots) refl

    each : (k : ℕ) (u : Item) → get_or (slots ++ Some v ∷ []) k None ≡ Some u
        → place_in new (folded u.name) ≡ Some k
    each k u there = elim (cases_lt k (length slots)) [
      | inl lt ↦
          let was : place_in old (folded u.name) ≡ Some k =
          index.each k u (sym (get_or_append_left slots (Some v ∷ []) None k lt) ∙ there) in
          let apart : bytes_eq (folded v.name) (folded u.name) ≡ false =
          apart_by (place_in old) (folded v.name) (folded u.name) (λ one.
          let named : place_in old (folded v.name) ≡ Some k = one ∙ was in
          cc) in
          changes.others (folded u.name) apart ∙ was
      | inr upto ↦
          let within = inside (slots ++ Some v ∷ []) k u there in
          let at : k ≡ length slots = omega (arith, upto, within, length_push slots (Some v)) in
          let same : Some v ≡ Some u =
          sym last ∙ ap (λ n. get_or (slots ++ Some v ∷ []) n None) (sym at) ∙ there in
          let one : v ≡ u = cc in
          ap (λ (w : Item). place_in new (folded w.name)) (sym one) ∙ changes.here ∙ ap Some (sym at)
    ]

    only : (name : List ℕ) (k : ℕ) → place_in new name ≡ Some k
        → IsNamed name (get_or (slots ++ Some v ∷ []) k None)
    only name k at = elim (cases_Bool (bytes_eq (folded v.name) name)) [
      | inl same ↦
          let one : folded v.name ≡ name = (bytes_decides (folded v.name) name).0 same in
          let here : place_in new name ≡ Some (length slots) = ap (place_in new) (sym one) ∙ changes.here in
          let last_one : length slots ≡ k = cc in
          subst (λ n. IsNamed name (get_or (slots ++ Some v ∷ []) n None)) last_one
          (subst (IsNamed name) (sym last) one)
      | inr apart ↦
          let named = index.only name k (sym (changes.others name apart) ∙ at) in
          let old_value = named_value (get_or slots k None) name named in
          let within = inside slots k old_value.0 old_value.1 in
          subst (IsNamed name) (sym (get_or_append_left slots (Some v ∷ []) None k within)) named
    ]

-- a slot emptied, and its name taken from the map
pub index_removed : (slots : List (Option Item)) (old new : BTreeMap (Vec ℕ) ℕ) (name : List ℕ) (k : ℕ)
    → IsIndexOf slots old → place_in old (folded name) ≡ Some k → ChangesAt (folded name) old new None
    → IsIndexOf (set slots k None) new
index_removed slots old new name k index at changes = record { each = each; only = only }
  where
    within : k < length slots
    within = is_inside slots old index name k at

    emptied : get_or (set slots k None) k None ≡ None
    emptied = get_or-set_same slots k None None within

    each : (j : ℕ) (u : Item) → get_or (set slots k None) j None ≡ Some u
        → place_in new (folded u.name) ≡ Some j
    each j u there = elim (cases_eq j k) [
      | inl same ↦
          let here : get_or (set slots k None) j None ≡ None =
          ap (λ n. get_or (set slots k None) n None) same ∙ emptied in
          absurd cc
      | inr other ↦
          let was : place_in old (folded u.name) ≡ Some j =
          index.each j u (sym (get_or-set_other slots k j None None other) ∙ there) in
          let apart : bytes_eq (folded name) (folded u.name) ≡ false =
          apart_by (place_in old) (folded name) (folded u.name) (λ one.
          let named : place_in old (folded name) ≡ Some j = one ∙ was in
          other cc) in
          changes.others (folded u.name) apart ∙ was
    ]

    only : (other : List ℕ) (j : ℕ) → place_in new other ≡ Some j
        → IsNamed other (get_or (set slots k None) j None)
    only other j there = elim (cases_Bool (bytes_eq (folded name) other)) [
      | inl same ↦
          let one : folded name ≡ other = (bytes_decides (folded name) other).0 same in
          let here : place_in new other ≡ None = ap (place_in new) (sym one) ∙ changes.here in
          absurd cc
      | inr apart ↦
          let named = index.only other j (sym (changes.others other apart) ∙ there) in
          elim (cases_eq j k) [
            | inl same ↦
                let mine = value_at slots old index name k at in
                let its : IsNamed other (Some mine.0) =
                subst (IsNamed other) (ap (λ n. get_or slots n None) same ∙ mine.1) named in
                absurd (both_ways _ apart ((bytes_decides (folded name) other).1 (sym mine.2 ∙ its)))
            | inr off ↦ subst (IsNamed other) (sym (get_or-set_other slots k j None None off)) named
          ]
    ]
