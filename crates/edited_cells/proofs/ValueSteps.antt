-- A value is set or deleted, from what its cells show: its key is rewritten, and the step is done.
use Rattle.std.proofs.Common.{◌≡◌, ℕ, suc, ◌+◌, ◌-◌, Bool, true, false, cond, List, [], ◌∷◌, ◌++◌, length, refl, sym, ◌∙◌, ap, subst, inl, inr, ⊎_elim, Option, Some, Result, Ok, Err, arith}
use Rattle.std.specs.Prelude.{find, is_some, not, nat_lt}
use Rattle.std.specs.Option.{is_none, option_map_or}
use Rattle.nt_bytes.specs.Folding.{folds_same}
use Rattle.nt_bytes.specs.declared.fault.HiveFaultKind.{HiveFaultKind}
use Rattle.nt_bytes.specs.Reading.{◌>>=◌}
use Rattle.hive_model.specs.Bins.{Cells}
use Rattle.hive_model.specs.KeyValue.{KeyValue}
use Rattle.hive_model.specs.Tree.{Tree, key, head, Item, is_item, find_key, find_item}
use Rattle.hive_model.specs.Edit.{Step, Refusal, no_key, no_value, name_too_long, data_too_long, unless, set_value, delete_value, has_item, at_first, without_first, of_items, at_key, with_item, after_step}
use Rattle.hive_model.specs.Valid.{ItemsDiffer, longest_value_name}
use Rattle.hive_model.specs.Walk.{names_of, value_checks}
use Rattle.hive_model.specs.Footprint.{key_place, used_in}
use Rattle.hive_model.specs.Stands.{item_at, items_at, Stands, HasApartNames, IsWellFormed}
use Rattle.edited_cells.specs.Owned.{Role, node, value_list, value, In, first_or_empty, value_name, value_places, value_list_at, HasRole, Reaches, Folds, Matches, IsMatched}
use Rattle.edited_cells.specs.Revalues.{cells_of_values, ChangesValues}
use Rattle.edited_cells.specs.Uses.{plain}
use Rattle.edited_cells.specs.Done.{item, IsDone}
use Rattle.edited_cells.proofs.Ins.{in_left, in_right, in_cases, in_flat}
use Rattle.edited_cells.proofs.Pairs.{pairwise_from, pairwise_parts}
use Rattle.edited_cells.proofs.Wellformed.{first_part, item_value, not_named, ok_items, sound_hive, HasItems, items_are}
use Rattle.edited_cells.proofs.Out.{IsPlaced, placed_at}
use Rattle.edited_cells.proofs.Found.{IsThere, found_there}
use Rattle.edited_cells.proofs.Items.{with_item_differ, without_item_differ}
use Rattle.edited_cells.proofs.ChangedValues.{ReadsBoth, items_both}
use Rattle.edited_cells.specs.Rewrites.{IsRewritten}
use Rattle.edited_cells.proofs.OwnedUses.{from_plain}
use Rattle.edited_cells.proofs.Rewritten.{rewritten}
use Rattle.edited_cells.proofs.ValuesColumn.{values_rewritten}

-- a step that is not refused gives its result
pub unless_ok : (tests : List (Bool × Refusal)) (x u : Tree) → unless tests x ≡ Ok u → x ≡ u
unless_ok [] x u e = cc
unless_ok (test ∷ tests) x u e = go test.0 e (λ d. unless_ok tests x u d)
  where
    go : (b : Bool) → cond b (Err test.1) (unless tests x) ≡ Ok u → (unless tests x ≡ Ok u → x ≡ u) → x ≡ u
    go true e deep = absurd cc
    go false e deep = deep e

-- ---- the item of a name

-- values of which one has a name
record HasNamed (name : List ℕ) (values before behind : List Item) : Type 0 where
  item : Item
  whole : values ≡ before ++ item ∷ behind
  named : is_item name item ≡ true
  apart : (u : Item) → In before u → is_item name u ≡ false

-- the one value that went, by its name
went_named : (b : Cells) (name : List ℕ) (v : ℕ) (values before went behind : List Item)
    → items_at b (v ∷ []) ≡ Ok went → values ≡ before ++ (went ++ behind) → ItemsDiffer values
    → folds_same name (value_name b v) ≡ true
    → (h : HasNamed name values before behind) × (went ≡ h.item ∷ []) × (h.item.name ≡ value_name b v)
went_named b name v values before went behind read whole differ named =
    let one = first_part (item_at b v) (λ item. items_at b [] >>= λ others. Ok (item ∷ others)) went read in
    let same : went ≡ one.0 ∷ [] = sym (ok_items (one.0 ∷ []) went one.2) in
    let name_same : one.0.name ≡ value_name b v = name_is one.0 one.1 in
    let parts : values ≡ before ++ one.0 ∷ behind = whole ∙ ap (λ (l : List Item). before ++ (l ++ behind)) same in
    let passes : is_item name one.0 ≡ true = ap (folds_same name) name_same ∙ named in
    let p = pairwise_parts (λ (u : Item) (w : Item). folds_same w.name u.name ≡ false) before (one.0 ∷ behind)
    (pairwise_from (λ (u : Item) (w : Item). folds_same w.name u.name ≡ false) (before ++ one.0 ∷ behind)
    (subst ItemsDiffer parts differ)) in (
      record {
        item = one.0;
        whole = parts;
        named = passes;
        apart = λ u i. not_named name u.name one.0.name (p.across u one.0 i (inl refl)) passes;
      },
      same,
      name_same,
    )
  where
    name_is : (item : Item) → item_at b v ≡ Ok item → item.name ≡ value_name b v
    name_is item e =
        let k = item_value b v item e in
        sym k.2
        ∙ sym (ap (λ (r : Result KeyValue HiveFaultKind). first_or_empty (names_of (λ (n : KeyValue). n.name) r)) k.1)

first_behind : (p : Item → Bool) (f : Item → Item) (before behind : List Item) (item : Item)
    → ((u : Item) → In before u → p u ≡ false) → p item ≡ true
    → at_first p f (before ++ item ∷ behind) ≡ before ++ f item ∷ behind
first_behind p f [] behind item apart is = ap (λ (b : Bool). cond b (f item ∷ behind) (item ∷ at_first p f behind)) is
first_behind p f (u ∷ before) behind item apart is =
    ap (λ (b : Bool). cond b (f u ∷ (before ++ item ∷ behind)) (u ∷ at_first p f (before ++ item ∷ behind)))
    (apart u (inl refl))
    ∙ ap (λ (l : List Item). u ∷ l) (first_behind p f before behind item (λ w i. apart w (inr i)) is)

without_behind : (p : Item → Bool) (before behind : List Item) (item : Item)
    → ((u : Item) → In before u → p u ≡ false) → p item ≡ true
    → without_first p (before ++ item ∷ behind) ≡ before ++ behind
without_behind p [] behind item apart is = ap (λ (b : Bool). cond b behind (item ∷ without_first p behind)) is
without_behind p (u ∷ before) behind item apart is =
    ap (λ (b : Bool). cond b (before ++ item ∷ behind) (u ∷ without_first p (before ++ item ∷ behind)))
    (apart u (inl refl))
    ∙ ap (λ (l : List Item). u ∷ l) (without_behind p before behind item (λ w i. apart w (inr i)) is)

found_behind : (p : Item → Bool) (before behind : List Item) (item : Item) → p item ≡ true
    → is_some (find p (before ++ item ∷ behind)) ≡ true
found_behind p [] behind item is = ap (λ (b : Bool). is_some (cond b (Some item) (find p behind))) is
found_behind p (u ∷ before) behind item is = go (p u) (found_behind p before behind item is)
  where
    go : (b : Bool) → is_some (find p (before ++ item ∷ behind)) ≡ true
        → is_some (cond b (Some u) (find p (before ++ item ∷ behind))) ≡ true
    go true deep = refl
    go false deep = deep

-- ---- a step on a key's values

-- the step names its key's values of a name
record NamesValues (t : Tree) (step : Step) (path : List (List ℕ)) (name : List ℕ) : Type 0 where
  key : (p : List (List ℕ)) → Folds path p → Matches t step p node
  list : (p : List (List ℕ)) → Folds path p → Matches t step p value_list
  value_of : (p : List (List ℕ)) (n : List ℕ) → Folds path p → folds_same name n ≡ true → Matches t step p (value n)

-- the values that a key had, in parts
pub record WereValues (b : Cells) (front gone back : List ℕ) (values before went behind : List Item) : Type 0 where
  pub read_front : items_at b front ≡ Ok before
  pub read_gone : items_at b gone ≡ Ok went
  pub read_back : items_at b back ≡ Ok behind
  pub whole : values ≡ before ++ (went ++ behind)
  pub differ : ItemsDiffer values

pub levels_left : (b : Cells) (root : ℕ) (t : Tree) (p : List (List ℕ)) (x : ℕ) → IsWellFormed b root t
    → Reaches b root p x → length p + suc (511 - length p) ≡ 512
levels_left b root t p x well reached = let s = (sound_hive b root t well).shallow p x reached in omega (arith, s)

-- the key gets other values
pub value_rewritten : (b c : Cells) (root : ℕ) (t k : Tree) (path p : List (List ℕ)) (x : ℕ)
    (front gone put back : List ℕ) (come : List Item) (f : List Item → List Item) → IsWellFormed b root t
    → Reaches b root p x → find_key path t ≡ Some k → Stands b x k → HasApartNames k
    → ChangesValues b c x front gone put back come → ((vs : List Item) → ItemsDiffer vs → ItemsDiffer (f vs))
    → ((before went behind : List Item) → WereValues b front gone back (head k).values before went behind
    → f (head k).values ≡ before ++ (come ++ behind))
    → IsRewritten b c root t (at_key path (of_items f) t) path x (suc (511 - length p))
    (plain (value_list_at b x ++ cells_of_values b gone)) []
value_rewritten b c root t (key hd ts) path p x front gone put back come f well reached found stood apart g differ
    becomes =
    record {
      key = key (record hd { values = one.left ++ (come ++ two.right) }) ts;
      new = plain (value_list_at c x ++ cells_of_values c put);
      change = of_items f;
      rewrites = values_rewritten b c root t p x (511 - length p) front gone put back come hd ts well reached
          (levels_left b root t p x well reached) stood g one.left two.right one.first two.second apart
          (subst ItemsDiffer same (differ hd.values apart.0));
      changes = record {
        was = key hd ts;
        found = found;
        stood = stood;
        becomes = ap (λ (vs : List Item). key (record hd { values = vs }) ts) same;
        result = refl;
      };
    }
  where
    there : HasItems b x hd.values
    there = items_are b x hd stood.0 stood.1

    one : ReadsBoth b front (gone ++ back) hd.values
    one =
        items_both b front (gone ++ back) hd.values
        (subst (λ (l : List ℕ). items_at b l ≡ Ok hd.values) (sym there.places ∙ g.listed) there.read)

    two : ReadsBoth b gone back one.right
    two = items_both b gone back one.right one.second

    same : f hd.values ≡ one.left ++ (come ++ two.right)
    same = becomes one.left two.left two.right (record {
      read_front = one.first;
      read_gone = two.first;
      read_back = two.second;
      whole = one.whole ∙ ap (λ (l : List Item). one.left ++ l) two.whole;
      differ = apart.0;
    })

-- a step that names the values of which one went is done
value_done : (b c : Cells) (root : ℕ) (t u v : Tree) (step : Step) (path p : List (List ℕ)) (name : List ℕ) (x : ℕ)
    (front gone back : List ℕ) → IsWellFormed b root t → v ≡ u
    → NamesValues t step path name → Folds path p → Reaches b root p x → value_places b x ≡ front ++ (gone ++ back)
    → ((w : ℕ) → In gone w → folds_same name (value_name b w) ≡ true)
    → IsRewritten b c root t v path x (suc (511 - length p)) (plain (value_list_at b x ++ cells_of_values b gone)) []
    → IsDone b c root t u step
value_done b c root t u v step path p name x front gone back well result names folds reached listed each r =
    rewritten b c root t u step path p x (suc (511 - length p)) (plain (value_list_at b x ++ cells_of_values b gone)) []
    well folds reached (levels_left b root t p x well reached)
    (subst (λ (z : Tree). IsRewritten b c root t z path x (suc (511 - length p))
    (plain (value_list_at b x ++ cells_of_values b gone)) []) result r)
    (matched node x refl (names.key p folds))
    (λ u i. let m = from_plain (value_list_at b x ++ cells_of_values b gone) u i in ⊎_elim
    (λ j. matched value_list u.0 j (names.list p folds))
    (λ j. let w = in_flat (λ z. used_in (value_checks b [] z)) gone u.0 j in
    matched (value (value_name b w.0)) u.0 (record {
      place = w.0;
      listed = subst (λ (l : List ℕ). In l w.0) (sym listed) (in_right front (gone ++ back) w.0 (in_left gone back w.0 w.1));
      named = refl;
      used = w.2;
    }) (names.value_of p (value_name b w.0) folds (each w.0 w.1)))
    (in_cases (value_list_at b x) (cells_of_values b gone) u.0 m.0))
    (λ o i. absurd i)
  where
    matched : (r : Role) (o : ℕ) → HasRole b x r o → Matches t step p r → IsMatched b root t step o
    matched r o i m =
        record { path = p; role = r; owns = record { at = x; reached = reached; has = i }; matches = m }

-- where the key is by its path
record IsAtKey (b : Cells) (root : ℕ) (t : Tree) (path : List (List ℕ)) (x : ℕ) : Type 0 where
  placed : IsPlaced b root path x
  there : IsThere b path x t

at_place : (b : Cells) (root : ℕ) (t : Tree) (path : List (List ℕ)) (x : ℕ) → IsWellFormed b root t
    → key_place b path root ≡ Some x → IsAtKey b root t path x
at_place b root t path x well at =
    let w = placed_at b path root x at in
    record { placed = w; there = found_there b path w.stored root x t well.stands well.names w.folds w.reached }

set_names : (t : Tree) (path : List (List ℕ)) (name : List ℕ) (kind : ℕ) (bytes : List ℕ)
    → NamesValues t (set_value path name kind bytes) path name
set_names t path name kind bytes = record {
  key = λ p f. inl (record { key = path; named = inl refl; folds = inl f; is = refl });
  list = λ p f. inr (f, inl refl);
  value_of = λ p n f e. inr (f, inr (n, refl, e));
}

set_result : (path : List (List ℕ)) (name : List ℕ) (kind : ℕ) (bytes : List ℕ) (t u : Tree)
    → after_step (set_value path name kind bytes) t ≡ Ok u → at_key path (of_items (with_item name kind bytes)) t ≡ u
set_result path name kind bytes t u ok =
    unless_ok ((is_none (find_key path t), no_key) ∷ (nat_lt longest_value_name (length name), name_too_long)
    ∷ (nat_lt 1048576 (length bytes), data_too_long) ∷ [])
    (at_key path (of_items (with_item name kind bytes)) t) u ok

of_one : (b : Cells) (name : List ℕ) (v : ℕ) → folds_same name (value_name b v) ≡ true → (z : ℕ) → In (v ∷ []) z
    → folds_same name (value_name b z) ≡ true
of_one b name v named z (inl e) = subst (λ (o : ℕ). folds_same name (value_name b o) ≡ true) e named
of_one b name v named z (inr i) = absurd i

-- the key has a value of other data
value_set : (b c : Cells) (root : ℕ) (t k : Tree) (path p : List (List ℕ)) (x v : ℕ) (front put back : List ℕ)
    (name : List ℕ) (kind : ℕ) (bytes : List ℕ) → IsWellFormed b root t → Reaches b root p x
    → find_key path t ≡ Some k → Stands b x k → HasApartNames k → folds_same name (value_name b v) ≡ true
    → ChangesValues b c x front (v ∷ []) put back (item (value_name b v) kind bytes ∷ [])
    → IsRewritten b c root t (at_key path (of_items (with_item name kind bytes)) t) path x (suc (511 - length p))
    (plain (value_list_at b x ++ cells_of_values b (v ∷ []))) []
value_set b c root t k path p x v front put back name kind bytes well reached found stood apart named g =
    value_rewritten b c root t k path p x front (v ∷ []) put back (item (value_name b v) kind bytes ∷ [])
    (with_item name kind bytes) well reached found stood apart g (with_item_differ name kind bytes) becomes
  where
    as_item : (behind : List Item) (n m : List ℕ) → n ≡ m → item n kind bytes ∷ behind ≡ item m kind bytes ∷ behind
    as_item behind n m e i = item (e i) kind bytes ∷ behind

    becomes : (before went behind : List Item) → WereValues b front (v ∷ []) back (head k).values before went behind
        → with_item name kind bytes (head k).values ≡ before ++ (item (value_name b v) kind bytes ∷ [] ++ behind)
    becomes before went behind w =
        let m = went_named b name v (head k).values before went behind w.read_gone w.whole w.differ named in
        ap (with_item name kind bytes) m.0.whole
        ∙ ap (λ (z : Bool). cond z
        (at_first (is_item name) (λ i. record i { kind = kind; bytes = bytes }) (before ++ m.0.item ∷ behind))
        ((before ++ m.0.item ∷ behind) ++ item name kind bytes ∷ []))
        (found_behind (is_item name) before behind m.0.item m.0.named)
        ∙ first_behind (is_item name) (λ i. record i { kind = kind; bytes = bytes })
        before behind m.0.item m.0.apart m.0.named
        ∙ ap (λ (l : List Item). before ++ l) (as_item behind m.0.item.name (value_name b v) m.2)

-- A value that is there is set: its cells gave way to others, and the list names these.
pub a_value_set : (b c : Cells) (root : ℕ) (t u : Tree) (path : List (List ℕ)) (name : List ℕ) (kind : ℕ)
    (bytes : List ℕ) (x v : ℕ) (front put back : List ℕ) → IsWellFormed b root t
    → after_step (set_value path name kind bytes) t ≡ Ok u → key_place b path root ≡ Some x
    → folds_same name (value_name b v) ≡ true
    → ChangesValues b c x front (v ∷ []) put back (item (value_name b v) kind bytes ∷ [])
    → IsDone b c root t u (set_value path name kind bytes)
a_value_set b c root t u path name kind bytes x v front put back well ok at named g =
    let k = at_place b root t path x well at in
    value_done b c root t u (at_key path (of_items (with_item name kind bytes)) t) (set_value path name kind bytes) path
    k.placed.stored name x front (v ∷ []) back well (set_result path name kind bytes t u ok)
    (set_names t path name kind bytes) k.placed.folds k.placed.reached g.listed (of_one b name v named)
    (value_set b c root t k.there.tree path k.placed.stored x v front put back name kind bytes well k.placed.reached
    k.there.found k.there.stands k.there.names named g)

-- A value of a new name is set: it comes last in the list.
pub a_new_value_set : (b c : Cells) (root : ℕ) (t u : Tree) (path : List (List ℕ)) (name : List ℕ) (kind : ℕ)
    (bytes : List ℕ) (x : ℕ) (front put : List ℕ) → IsWellFormed b root t
    → after_step (set_value path name kind bytes) t ≡ Ok u → key_place b path root ≡ Some x
    → has_item path name t ≡ false → ChangesValues b c x front [] put [] (item name kind bytes ∷ [])
    → IsDone b c root t u (set_value path name kind bytes)
a_new_value_set b c root t u path name kind bytes x front put well ok at none g =
    value_done b c root t u (at_key path (of_items (with_item name kind bytes)) t) (set_value path name kind bytes) path
    k.placed.stored name x front [] [] well (set_result path name kind bytes t u ok)
    (set_names t path name kind bytes) k.placed.folds k.placed.reached g.listed (λ z i. absurd i)
    (value_rewritten b c root t k.there.tree path k.placed.stored x front [] put [] (item name kind bytes ∷ [])
    (with_item name kind bytes) well k.placed.reached k.there.found k.there.stands k.there.names g
    (with_item_differ name kind bytes) becomes)
  where
    k : IsAtKey b root t path x
    k = at_place b root t path x well at

    no_item : is_some (find (is_item name) (head k.there.tree).values) ≡ false
    no_item =
        sym (ap (λ (o : Option Tree). option_map_or (λ z. is_some (find_item name z)) o false) k.there.found) ∙ none

    nothing : (l : List Item) → l ++ [] ≡ l
    nothing [] = refl
    nothing (i ∷ l) = ap (λ (z : List Item). i ∷ z) (nothing l)

    becomes : (before went behind : List Item)
        → WereValues b front [] [] (head k.there.tree).values before went behind
        → with_item name kind bytes (head k.there.tree).values ≡ before ++ (item name kind bytes ∷ [] ++ behind)
    becomes before went behind w =
        let gone : went ≡ [] = sym (ok_items [] went w.read_gone) in
        let last : behind ≡ [] = sym (ok_items [] behind w.read_back) in
        let all : (head k.there.tree).values ≡ before =
        w.whole ∙ ap (λ (l : List Item). before ++ (l ++ behind)) gone ∙ ap (λ (l : List Item). before ++ l) last
        ∙ nothing before in
        ap (λ (z : Bool). cond z (at_first (is_item name) (λ i. record i { kind = kind; bytes = bytes })
        (head k.there.tree).values) ((head k.there.tree).values ++ item name kind bytes ∷ [])) no_item
        ∙ ap (λ (l : List Item). l ++ item name kind bytes ∷ []) all
        ∙ ap (λ (l : List Item). before ++ (item name kind bytes ∷ l)) (sym last)

-- A value is deleted: its cells go, and the list names the others.
pub a_value_deleted : (b c : Cells) (root : ℕ) (t u : Tree) (path : List (List ℕ)) (name : List ℕ) (x v : ℕ)
    (front back : List ℕ) → IsWellFormed b root t → after_step (delete_value path name) t ≡ Ok u
    → key_place b path root ≡ Some x → folds_same name (value_name b v) ≡ true
    → ChangesValues b c x front (v ∷ []) [] back [] → IsDone b c root t u (delete_value path name)
a_value_deleted b c root t u path name x v front back well ok at named g =
    value_done b c root t u (at_key path (of_items (without_first (is_item name))) t) (delete_value path name) path
    k.placed.stored name x front (v ∷ []) back well
    (unless_ok ((is_none (find_key path t), no_key) ∷ (not (has_item path name t), no_value) ∷ [])
    (at_key path (of_items (without_first (is_item name))) t) u ok)
    (record {
      key = λ p f. inl (record { key = path; named = inl refl; folds = inl f; is = refl });
      list = λ p f. inr (f, inl refl);
      value_of = λ p n f e. inr (f, inr (n, refl, e));
    }) k.placed.folds k.placed.reached g.listed (of_one b name v named)
    (value_rewritten b c root t k.there.tree path k.placed.stored x front (v ∷ []) [] back []
    (without_first (is_item name)) well k.placed.reached k.there.found k.there.stands k.there.names g
    (without_item_differ (is_item name))
    (λ before went behind w.
    let m = went_named b name v (head k.there.tree).values before went behind w.read_gone w.whole w.differ named in
    ap (without_first (is_item name)) m.0.whole
    ∙ without_behind (is_item name) before behind m.0.item m.0.apart m.0.named))
  where
    k : IsAtKey b root t path x
    k = at_place b root t path x well at
