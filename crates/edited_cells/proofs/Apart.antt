-- Cells used once: two owned entries at one offset are one entry, or both are security.
use Rattle.std.proofs.Common.{◌≡◌, ℕ, zero, suc, ◌<◌, Bool, true, false, not, ◌&&◌, cond, List, [], ◌∷◌, ◌++◌, length, refl, sym, ◌∙◌, ap, subst, inl, inr, ⊎_elim, Option, Result, Ok, Err, arith, append_assoc}
use Rattle.std.specs.Prelude.{◌⊎◌, ◌==◌, if◌then◌else◌}
use Rattle.std.specs.List.{list_any}
use Rattle.std.proofs.lemmas.Bool.{eq-eqb, or_parts}
use Rattle.nt_bytes.specs.Folding.{folds_same}
use Rattle.nt_bytes.specs.declared.fault.HiveFaultKind.{HiveFaultKind}
use Rattle.nt_bytes.specs.declared.fault.HiveFaultKind.TheVariants.{Count, DoubleName}
use Rattle.hive_model.specs.Bins.{Cells}
use Rattle.hive_model.specs.KeyNode.{KeyNode, key_node_at}
use Rattle.hive_model.specs.KeyValue.{KeyValue, key_value_at}
use Rattle.hive_model.specs.Lists.{offsets_in}
use Rattle.hive_model.specs.Walk.{Check, uses, tests, reading, node_at, entries_at, below_of, use_as, failing, name_check, names_of, class_checks, security_checks, value_checks, values_in_turn, values_checks, entries_checks, keys_in_turn, children_checks, below_node, key_checks, clash, AreUsedOnce}
use Rattle.hive_model.proofs.UsedOnce.{OnceBehind, once_from_pairs}
use Rattle.hive_model.specs.Footprint.{of_read, used_in, child_places, security_cell_at, list_cells_at}
use Rattle.edited_cells.specs.Owned.{Role, node, class, security, value_list, value, lists, In, node_name, value_name, value_list_at, class_cell_at, HasValue, HasRole, Reaches, Owns, IsSecurity}
use Rattle.edited_cells.specs.Sound.{AllSound}
use Rattle.edited_cells.proofs.Ins.{in_left, in_right, used_to, used_from}
use Rattle.edited_cells.proofs.Out.{plain_node, of_node_is, value_told, class_plain, value_plain, entries_plain, plain_use}
use Rattle.edited_cells.proofs.Back.{sound_below, value_listed}

-- ---- used once, in parts

once_left : (before xs ys : List Check) → OnceBehind before (xs ++ ys) → OnceBehind before xs
once_left before [] ys h = tt
once_left before (uses at s ∷ xs) ys h = (h.0, once_left (before ++ uses at s ∷ []) xs ys h.1)
once_left before (tests at k ∷ xs) ys h = once_left (before ++ tests at k ∷ []) xs ys h

nothing_more : (xs : List Check) → xs ++ [] ≡ xs
nothing_more [] = refl
nothing_more (x ∷ xs) = ap (λ (l : List Check). x ∷ l) (nothing_more xs)

once_right : (before xs ys : List Check) → OnceBehind before (xs ++ ys) → OnceBehind (before ++ xs) ys
once_right before [] ys h = subst (λ (l : List Check). OnceBehind l ys) (sym (nothing_more before)) h
once_right before (uses at s ∷ xs) ys h =
    subst (λ (l : List Check). OnceBehind l ys) (append_assoc before (uses at s ∷ []) xs)
    (once_right (before ++ uses at s ∷ []) xs ys h.1)
once_right before (tests at k ∷ xs) ys h =
    subst (λ (l : List Check). OnceBehind l ys) (append_assoc before (tests at k ∷ []) xs)
    (once_right (before ++ tests at k ∷ []) xs ys h)

none_in : (f : Check → Bool) (cs : List Check) (c : Check) → list_any f cs ≡ false → In cs c → f c ≡ false
none_in f [] c e h = absurd h
none_in f (x ∷ cs) c e (inl same) = subst (λ (z : Check). f z ≡ false) same (or_parts (f x) (list_any f cs) e).0
none_in f (x ∷ cs) c e (inr h) = none_in f cs c (or_parts (f x) (list_any f cs) e).1 h

both_true : (a : ℕ) (s k : Bool) → clash a s (uses a k) ≡ false → (k ≡ true) × (s ≡ true)
both_true a s k e = go s k (subst (λ (b : Bool). (b && not (s && k)) ≡ false) (eq-eqb a a refl) e)
  where
    go : (s k : Bool) → (true && not (s && k)) ≡ false → (k ≡ true) × (s ≡ true)
    go true true e = (refl, refl)
    go true false e = absurd cc
    go false k e = absurd cc

-- a cell used before and again is used both times as security
twice : (before ys : List Check) (o : ℕ) (k s : Bool) → OnceBehind before ys → In before (uses o k) → In ys (uses o s)
    → (k ≡ true) × (s ≡ true)
twice before [] o k s h b y = absurd y
twice before (uses at w ∷ ys) o k s h b (inl e) =
    both_true o s k (none_in (clash o s) before (uses o k)
    (subst (λ (z : ℕ). list_any (clash z s) before ≡ false) (ap at_of e)
    (subst (λ (z : Bool). list_any (clash at z) before ≡ false) (ap way_of e) h.0)) b)
  where
    at_of : Check → ℕ
    at_of (uses a z) = a
    at_of (tests a z) = a

    way_of : Check → Bool
    way_of (uses a z) = z
    way_of (tests a z) = false
twice before (uses at w ∷ ys) o k s h b (inr y) =
    twice (before ++ uses at w ∷ []) ys o k s h.1 (in_left before (uses at w ∷ []) (uses o k) b) y
twice before (tests at w ∷ ys) o k s h b (inl e) = absurd (let d : tests at w ≡ uses o s = e in cc)
twice before (tests at w ∷ ys) o k s h b (inr y) =
    twice (before ++ tests at w ∷ []) ys o k s h (in_left before (tests at w ∷ []) (uses o k) b) y

-- ---- checks by entries

-- one entry, or both security
abbrev pub IsOne : List (List ℕ) → Role → List (List ℕ) → Role → Type 0
IsOne p r q k = ((p ≡ q) × (r ≡ k)) ⊎ (IsSecurity r × IsSecurity k)

record IsUse (cs : List Check) (o : ℕ) (r : Role) : Type 0 where
  way : Bool
  used : In cs (uses o way)
  only : way ≡ true → IsSecurity r

-- the checks use these entries, each once
record IsTagged (cs : List Check) (T : List (List ℕ) → Role → ℕ → Type 0) : Type 0 where
  used : (p : List (List ℕ)) (r : Role) (o : ℕ) → T p r o → IsUse cs o r
  apart : (before : List Check) → OnceBehind before cs → (p q : List (List ℕ)) (r k : Role) (o : ℕ) → T p r o
      → T q k o → IsOne p r q k

tag_from : (cs : List Check) (T U : List (List ℕ) → Role → ℕ → Type 0)
    → ((p : List (List ℕ)) (r : Role) (o : ℕ) → U p r o → T p r o) → IsTagged cs T → IsTagged cs U
tag_from cs T U to t =
    record {
      used = λ p r o u. t.used p r o (to p r o u);
      apart = λ before h p q r k o u v. t.apart before h p q r k o (to p r o u) (to q k o v);
    }

tag_empty : (cs : List Check) (T : List (List ℕ) → Role → ℕ → Type 0)
    → ((p : List (List ℕ)) (r : Role) (o : ℕ) → T p r o → ⊥) → IsTagged cs T
tag_empty cs T never =
    record { used = λ p r o u. absurd (never p r o u); apart = λ before h p q r k o u v. absurd (never p r o u) }

abbrev Either : (List (List ℕ) → Role → ℕ → Type 0) → (List (List ℕ) → Role → ℕ → Type 0) → List (List ℕ) → Role → ℕ
    → Type 0
Either T U p r o = T p r o ⊎ U p r o

tag_append : (xs ys : List Check) (T U : List (List ℕ) → Role → ℕ → Type 0) → IsTagged xs T → IsTagged ys U
    → IsTagged (xs ++ ys) (Either T U)
tag_append xs ys T U t u = record { used = used; apart = apart }
  where
    used : (p : List (List ℕ)) (r : Role) (o : ℕ) → Either T U p r o → IsUse (xs ++ ys) o r
    used p r o (inl h) =
        let w = t.used p r o h in record { way = w.way; used = in_left xs ys (uses o w.way) w.used; only = w.only }
    used p r o (inr h) =
        let w = u.used p r o h in record { way = w.way; used = in_right xs ys (uses o w.way) w.used; only = w.only }

    mixed : (before : List Check) → OnceBehind before (xs ++ ys) → (p q : List (List ℕ)) (r k : Role) (o : ℕ)
        → T p r o → U q k o → IsSecurity r × IsSecurity k
    mixed before h p q r k o a b =
        let v = t.used p r o a in let w = u.used q k o b in
        let both = twice (before ++ xs) ys o v.way w.way (once_right before xs ys h)
        (in_right before xs (uses o v.way) v.used) w.used in
        (v.only both.0, w.only both.1)

    apart : (before : List Check) → OnceBehind before (xs ++ ys) → (p q : List (List ℕ)) (r k : Role) (o : ℕ)
        → Either T U p r o → Either T U q k o → IsOne p r q k
    apart before h p q r k o (inl a) (inl b) = t.apart before (once_left before xs ys h) p q r k o a b
    apart before h p q r k o (inl a) (inr b) = inr (mixed before h p q r k o a b)
    apart before h p q r k o (inr a) (inl b) = inr (let m = mixed before h q p k r o b a in (m.1, m.0))
    apart before h p q r k o (inr a) (inr b) = u.apart (before ++ xs) (once_right before xs ys h) p q r k o a b

tag_test : (at : ℕ) (w : Option HiveFaultKind) (cs : List Check) (T : List (List ℕ) → Role → ℕ → Type 0) → IsTagged cs T
    → IsTagged (tests at w ∷ cs) T
tag_test at w cs T t = record {
  used = λ p r o h. let v = t.used p r o h in record { way = v.way; used = inr v.used; only = v.only };
  apart = λ before h. t.apart (before ++ tests at w ∷ []) h;
}

tag_choice : (b : Bool) (cs : List Check) (T : List (List ℕ) → Role → ℕ → Type 0)
    → ((p : List (List ℕ)) (r : Role) (o : ℕ) → T p r o → b ≡ false) → IsTagged cs T → IsTagged (cond b [] cs) T
tag_choice true cs T some t = tag_empty [] T (λ p r o h. let e = some p r o h in cc)
tag_choice false cs T some t = t

-- what was read, and an entry by it
abbrev Below : {F : Type 0} → Result F HiveFaultKind → (F → List (List ℕ) → Role → ℕ → Type 0) → List (List ℕ) → Role
    → ℕ
    → Type 0
Below {F} read T p r o = (x : F) × (read ≡ Ok x) × T x p r o

abbrev done : {F : Type 0} → F → Result F HiveFaultKind
done x = Ok x

same_ok : {F : Type 0} (x y : F) → done x ≡ done y → x ≡ y
same_ok x y e = cc

tag_read : {F : Type 0} (read : Result F HiveFaultKind) (below : F → List Check) (T : F → List (List ℕ) → Role → ℕ
    → Type 0)
    → ((x : F) → IsTagged (below x) (T x)) → IsTagged (below_of read below) (Below read T)
tag_read {F} (Ok x) below T t =
    tag_from (below x) (T x) (Below (Ok x) T) (λ p r o h. subst (λ (z : F). T z p r o) (sym (same_ok x h.0 h.1)) h.2)
    (t x)
tag_read (Err k) below T t = tag_empty [] (Below (Err k) T) (λ p r o h. let e = h.1 in cc)

-- cells of one entry
abbrev Own : List Check → List (List ℕ) → Role → List (List ℕ) → Role → ℕ → Type 0
Own cs q k p r o = (p ≡ q) × (r ≡ k) × In (used_in cs) o

tag_own : (cs : List Check) (q : List (List ℕ)) (k : Role) → ((o : ℕ) → In cs (uses o true) → IsSecurity k)
    → IsTagged cs (Own cs q k)
tag_own cs q k only = record {
  used = λ p r o h. let u = used_to cs o h.2 in
      record {
        way = u.0;
        used = u.1;
        only = λ e. subst IsSecurity (sym h.1) (only o (subst (λ (b : Bool). In cs (uses o b)) e u.1));
      };
  apart = λ before once p p2 r r2 o h h2. inl (h.0 ∙ sym h2.0, h.1 ∙ sym h2.1);
}

-- under a name
abbrev Under : List ℕ → (List (List ℕ) → Role → ℕ → Type 0) → List (List ℕ) → Role → ℕ → Type 0
Under n T p r o = (rest : List (List ℕ)) × (p ≡ n ∷ rest) × T rest r o

tag_under : (cs : List Check) (n : List ℕ) (T : List (List ℕ) → Role → ℕ → Type 0) → IsTagged cs T
    → IsTagged cs (Under n T)
tag_under cs n T t = record {
  used = λ p r o h. t.used h.0 r o h.2;
  apart = λ before once p q r k o h g. ⊎_elim (λ e. inl (h.1 ∙ ap (λ (l : List (List ℕ)). n ∷ l) e.0 ∙ sym g.1, e.1))
      (λ s. inr s) (t.apart before once h.0 g.0 r k o h.2 g.2);
}

-- ---- values

abbrev OfValues : Cells → List ℕ → List (List ℕ) → Role → ℕ → Type 0
OfValues cells offsets p r o =
    (v : ℕ) × In offsets v × (p ≡ []) × (r ≡ value (value_name cells v)) × In (used_in (value_checks cells [] v)) o

tag_values : (cells : Cells) (names : List (List ℕ)) (offsets : List ℕ)
    → IsTagged (values_in_turn cells names offsets) (OfValues cells offsets)
tag_values cells names [] = tag_empty [] (OfValues cells []) (λ p r o h. h.1)
tag_values cells names (at ∷ rest) =
    tag_from (values_in_turn cells names (at ∷ rest))
    (Either (Own (value_checks cells names at) [] (value (value_name cells at))) (OfValues cells rest))
    (OfValues cells (at ∷ rest)) split
    (tag_append (value_checks cells names at)
    (values_in_turn cells (names ++ names_of (λ (k : KeyValue). k.name) (reading key_value_at cells at)) rest)
    (Own (value_checks cells names at) [] (value (value_name cells at))) (OfValues cells rest)
    (tag_own (value_checks cells names at) [] (value (value_name cells at)) (value_plain cells names at))
    (tag_values cells (names ++ names_of (λ (k : KeyValue). k.name) (reading key_value_at cells at)) rest))
  where
    told : (o : ℕ) → In (used_in (value_checks cells [] at)) o → In (used_in (value_checks cells names at)) o
    told o h =
        let u = used_to (value_checks cells [] at) o h in
        used_from (value_checks cells names at) o u.0 (value_told cells [] names at o u.0 u.1)

    pick : (p : List (List ℕ)) (r : Role) (o v : ℕ) → In (at ∷ rest) v → p ≡ [] → r ≡ value (value_name cells v)
        → In (used_in (value_checks cells [] v)) o
        → Either (Own (value_checks cells names at) [] (value (value_name cells at))) (OfValues cells rest) p r o
    pick p r o v (inl e) a b u =
        inl (
          a,
          b ∙ ap (λ (z : ℕ). value (value_name cells z)) (sym e),
          told o (subst (λ (z : ℕ). In (used_in (value_checks cells [] z)) o) (sym e) u),
        )
    pick p r o v (inr i) a b u = inr (v, i, a, b, u)

    split : (p : List (List ℕ)) (r : Role) (o : ℕ) → OfValues cells (at ∷ rest) p r o
        → Either (Own (value_checks cells names at) [] (value (value_name cells at))) (OfValues cells rest) p r o
    split p r o h = pick p r o h.0 h.1 h.2 h.3 h.4

abbrev ValuePart : Cells → ℕ → List (List ℕ) → Role → ℕ → Type 0
ValuePart cells at p r o =
    ((p ≡ []) × (r ≡ value_list) × In (value_list_at cells at) o)
    ⊎ ((name : List ℕ) × (p ≡ []) × (r ≡ value name) × HasValue cells at name o)

list_some : (b : Bool) (a o : ℕ) → In (cond b [] (a ∷ [])) o → (b ≡ false) × (a ≡ o)
list_some true a o h = absurd h
list_some false a o (inl e) = (refl, e)
list_some false a o (inr h) = absurd h

tag_value_part : (cells : Cells) (n : KeyNode) (at : ℕ) → reading key_node_at cells at ≡ Ok n
    → IsTagged (values_checks cells n) (ValuePart cells at)
unfolding values_checks value_list_at
tag_value_part cells n at read =
    tag_choice (n.value_count == 0)
    (use_as false (offsets_in n.value_count) cells n.value_list
    ++ below_of (reading (offsets_in n.value_count) cells n.value_list) (values_in_turn cells []))
    (ValuePart cells at) some
    (tag_from (use_as false (offsets_in n.value_count) cells n.value_list
    ++ below_of (reading (offsets_in n.value_count) cells n.value_list) (values_in_turn cells []))
    (Either (Own (use_as false (offsets_in n.value_count) cells n.value_list) [] value_list)
    (Below (reading (offsets_in n.value_count) cells n.value_list) (OfValues cells))) (ValuePart cells at) split
    (tag_append (use_as false (offsets_in n.value_count) cells n.value_list)
    (below_of (reading (offsets_in n.value_count) cells n.value_list) (values_in_turn cells []))
    (Own (use_as false (offsets_in n.value_count) cells n.value_list) [] value_list)
    (Below (reading (offsets_in n.value_count) cells n.value_list) (OfValues cells))
    (tag_own (use_as false (offsets_in n.value_count) cells n.value_list) [] value_list
    (λ o h. plain_use (offsets_in n.value_count) cells n.value_list o h))
    (tag_read (reading (offsets_in n.value_count) cells n.value_list) (values_in_turn cells []) (OfValues cells)
    (λ offsets. tag_values cells [] offsets))))
  where
    listed : (o : ℕ) → In (value_list_at cells at) o → ((n.value_count == 0) ≡ false) × (n.value_list ≡ o)
    listed o h =
        list_some (n.value_count == 0) n.value_list o
        (subst (λ (xs : List ℕ). In xs o)
        (of_node_is cells at n (λ k. if k.value_count == 0 then [] else k.value_list ∷ []) read) h)

    some : (p : List (List ℕ)) (r : Role) (o : ℕ) → ValuePart cells at p r o → (n.value_count == 0) ≡ false
    some p r o (inl h) = (listed o h.2).0
    some p r o (inr h) = (value_listed cells n at h.3.place read h.3.listed).some

    split : (p : List (List ℕ)) (r : Role) (o : ℕ) → ValuePart cells at p r o
        → Either (Own (use_as false (offsets_in n.value_count) cells n.value_list) [] value_list)
        (Below (reading (offsets_in n.value_count) cells n.value_list) (OfValues cells)) p r o
    split p r o (inl h) = inl (h.0, h.1, inl (listed o h.2).1)
    split p r o (inr h) =
        let l = value_listed cells n at h.3.place read h.3.listed in
        inr (
          l.offsets,
          l.read,
          (
            h.3.place,
            l.listed,
            h.1,
            h.2
                ∙ ap (λ (m : List ℕ). value m) (sym h.3.named),
            h.3.used,
          ),
        )

-- ---- children

abbrev OfKeys : ℕ → Cells → List ℕ → List (List ℕ) → Role → ℕ → Type 0
OfKeys left cells offsets p r o =
    (y : ℕ) × (rest : List (List ℕ)) × In offsets y × (p ≡ node_name cells y ∷ rest) × (length rest < left)
    × Owns cells y rest r o

abbrev Deep : ℕ → Cells → ℕ → List (List ℕ) → Role → ℕ → Type 0
Deep fuel cells at p r o = (length p < fuel) × Owns cells at p r o

tag_keys : (left : ℕ) (checks : List (List ℕ) → ℕ → List Check) (cells : Cells) (names : List (List ℕ))
    (offsets : List ℕ)
    → ((told : List (List ℕ)) (y : ℕ) → In offsets y → IsTagged (checks told y) (Deep left cells y))
    → IsTagged (keys_in_turn checks cells names offsets) (OfKeys left cells offsets)
tag_keys left checks cells names [] each = tag_empty [] (OfKeys left cells []) (λ p r o h. h.2)
tag_keys left checks cells names (at ∷ rest) each =
    tag_from (keys_in_turn checks cells names (at ∷ rest))
    (Either (Under (node_name cells at) (Deep left cells at)) (OfKeys left cells rest))
    (OfKeys left cells (at ∷ rest)) split
    (tag_append (checks names at)
    (keys_in_turn checks cells (names ++ names_of (λ (n : KeyNode). n.name) (reading (node_at false) cells at))
    rest)
    (Under (node_name cells at) (Deep left cells at)) (OfKeys left cells rest)
    (tag_under (checks names at) (node_name cells at) (Deep left cells at) (each names at (inl refl)))
    (tag_keys left checks cells (names ++ names_of (λ (n : KeyNode). n.name) (reading (node_at false) cells at)) rest
    (λ told y i. each told y (inr i))))
  where
    pick : (p : List (List ℕ)) (r : Role) (o y : ℕ) (q : List (List ℕ)) → In (at ∷ rest) y → p ≡ node_name cells y ∷ q
        → length q < left → Owns cells y q r o
        → Either (Under (node_name cells at) (Deep left cells at)) (OfKeys left cells rest) p r o
    pick p r o y q (inl e) s l w =
        inl (q, s ∙ ap (λ (z : ℕ). node_name cells z ∷ q) (sym e), (l, subst (λ (z : ℕ). Owns cells z q r o) (sym e) w))
    pick p r o y q (inr i) s l w = inr (y, q, i, s, l, w)

    split : (p : List (List ℕ)) (r : Role) (o : ℕ) → OfKeys left cells (at ∷ rest) p r o
        → Either (Under (node_name cells at) (Deep left cells at)) (OfKeys left cells rest) p r o
    split p r o h = pick p r o h.0 h.1 h.2 h.3 h.4 h.5

abbrev ChildPart : ℕ → Cells → ℕ → List (List ℕ) → Role → ℕ → Type 0
ChildPart left cells at p r o =
    ((p ≡ []) × (r ≡ lists) × In (list_cells_at cells at) o) ⊎ OfKeys left cells (child_places cells at) p r o

some_in : (b : Bool) (xs : List ℕ) (o : ℕ) → In (cond b [] xs) o → (b ≡ false) × In xs o
some_in true xs o h = absurd h
some_in false xs o h = (refl, h)

abbrev counted : (List (List ℕ) → ℕ → List Check) → Cells → KeyNode → ℕ → List ℕ → List Check
counted checks cells n at offsets =
    tests at (failing (not (length offsets == n.child_count)) Count) ∷ keys_in_turn checks cells [] offsets

tag_child_part : (left : ℕ) (checks : List (List ℕ) → ℕ → List Check) (cells : Cells) (n : KeyNode) (at : ℕ)
    → reading key_node_at cells at ≡ Ok n
    → ((told : List (List ℕ)) (y : ℕ) → In (child_places cells at) y → IsTagged (checks told y) (Deep left cells y))
    → IsTagged (children_checks checks cells n at) (ChildPart left cells at)
unfolding children_checks list_cells_at child_places
tag_child_part left checks cells n at read each = go (n.child_count == 0) refl (entries_at cells n.child_list) refl
  where
    lists_there : (o : ℕ) → In (list_cells_at cells at) o
        → ((n.child_count == 0) ≡ false) × In (used_in (entries_checks cells n.child_list)) o
    lists_there o h = some_in (n.child_count == 0) (used_in (entries_checks cells n.child_list)) o
        (subst (λ (xs : List ℕ). In xs o)
        (of_node_is cells at n (λ m. if m.child_count == 0 then [] else used_in (entries_checks cells m.child_list))
        read) h)

    places : (b : Bool) (e : Result (List ℕ) HiveFaultKind) → (n.child_count == 0) ≡ b
        → entries_at cells n.child_list ≡ e
        → child_places cells at ≡ cond b [] (of_read e (λ os. os))
    places b e z w =
        of_node_is cells at n (λ m. if m.child_count == 0 then [] else of_read (entries_at cells m.child_list)
        (λ os. os)) read
        ∙ ap (λ (c : Bool). cond c [] (of_read (entries_at cells n.child_list) (λ os. os))) z
        ∙ ap (λ (q : Result (List ℕ) HiveFaultKind). cond b [] (of_read q (λ os. os))) w

    lists_only : (T : List (List ℕ) → Role → ℕ → Type 0) → (n.child_count == 0) ≡ false → (ys : List Check)
        → IsTagged ys T
        → IsTagged (entries_checks cells n.child_list ++ ys)
        (Either (Own (entries_checks cells n.child_list) [] lists) T)
    lists_only T z ys t =
        tag_append (entries_checks cells n.child_list) ys (Own (entries_checks cells n.child_list) [] lists) T
        (tag_own (entries_checks cells n.child_list) [] lists (entries_plain cells n.child_list)) t

    split : (offsets : List ℕ) → child_places cells at ≡ offsets → (p : List (List ℕ)) (r : Role) (o : ℕ)
        → ChildPart left cells at p r o
        → Either (Own (entries_checks cells n.child_list) [] lists) (OfKeys left cells offsets) p r o
    split offsets e p r o (inl h) = inl (h.0, h.1, (lists_there o h.2).1)
    split offsets e p r o (inr h) = inr (subst (λ (xs : List ℕ). OfKeys left cells xs p r o) e h)

    never : (b : Bool) → child_places cells at ≡ [] → (n.child_count == 0) ≡ true → (p : List (List ℕ)) (r : Role)
        (o : ℕ) → ChildPart left cells at p r o → ⊥
    never b e z p r o (inl h) = let w = (lists_there o h.2).0 in let f : true ≡ false = sym z ∙ w in cc
    never b e z p r o (inr h) = subst (λ (xs : List ℕ). In xs h.0) e h.2

    go : (b : Bool) → (n.child_count == 0) ≡ b → (e : Result (List ℕ) HiveFaultKind) → entries_at cells n.child_list ≡ e
        → IsTagged (cond b [] (entries_checks cells n.child_list ++ below_of e (counted checks cells n at)))
        (ChildPart left cells at)
    go true z e w = tag_empty [] (ChildPart left cells at) (never true (places true e z w) z)
    go false z (Ok offsets) w =
        let same = places false (Ok offsets) z w in
        tag_from (entries_checks cells n.child_list ++ counted checks cells n at offsets)
        (Either (Own (entries_checks cells n.child_list) [] lists) (OfKeys left cells offsets))
        (ChildPart left cells at) (split offsets same)
        (lists_only (OfKeys left cells offsets) z (counted checks cells n at offsets)
        (tag_test at (failing (not (length offsets == n.child_count)) Count) (keys_in_turn checks cells [] offsets)
        (OfKeys left cells offsets)
        (tag_keys left checks cells [] offsets
        (λ told y i. each told y (subst (λ (xs : List ℕ). In xs y) (sym same) i)))))
    go false z (Err k) w =
        let same = places false (Err k) z w in
        tag_from (entries_checks cells n.child_list ++ [])
        (Either (Own (entries_checks cells n.child_list) [] lists) (OfKeys left cells [])) (ChildPart left cells at)
        (split [] same)
        (lists_only (OfKeys left cells []) z [] (tag_empty [] (OfKeys left cells []) (λ p r o h. h.2)))

-- ---- the walk

abbrev Parts : ℕ → Cells → Bool → ℕ → KeyNode → List (List ℕ) → Role → ℕ → Type 0
Parts left cells root at n = Either (Own (use_as false (node_at root) cells at) [] node)
    (Either (Own (class_checks cells n) [] class)
    (Either (Own (security_checks cells n) [] security) (Either (ValuePart cells at) (ChildPart left cells at))))

in_parts : (left : ℕ) (cells : Cells) (root : Bool) (at : ℕ) (n : KeyNode) → reading key_node_at cells at ≡ Ok n
    → (p : List (List ℕ)) (r : Role) (o x : ℕ) → length p < suc left → Reaches cells at p x → HasRole cells x r o
    → Parts left cells root at n p r o
unfolding class_cell_at security_cell_at
in_parts left cells root at n read [] node o x lt e h = inl (refl, refl, inl (e ∙ h))
in_parts left cells root at n read [] class o x lt e h =
    inr (inl (
      refl,
      refl,
      subst (λ (xs : List ℕ). In xs o)
          (of_node_is cells at n (λ m. used_in (class_checks cells m)) read)
          (subst (λ (z : ℕ). In (class_cell_at cells z) o) (sym e) h),
    ))
in_parts left cells root at n read [] security o x lt e h =
    inr (inr (inl (
      refl,
      refl,
      subst (λ (xs : List ℕ). In xs o) (of_node_is cells at n (λ m. used_in (security_checks cells m)) read)
          (subst (λ (z : ℕ). In (security_cell_at cells z) o) (sym e) h),
    )))
in_parts left cells root at n read [] value_list o x lt e h =
    inr (inr (inr (inl (inl (refl, refl, subst (λ (z : ℕ). In (value_list_at cells z) o) (sym e) h)))))
in_parts left cells root at n read [] (value name) o x lt e h =
    inr (inr (inr (inl (inr (name, refl, refl, subst (λ (z : ℕ). HasValue cells z name o) (sym e) h)))))
in_parts left cells root at n read [] lists o x lt e h =
    inr (inr (inr (inr (inl (refl, refl, subst (λ (z : ℕ). In (list_cells_at cells z) o) (sym e) h)))))
in_parts left cells root at n read (m ∷ p) r o x lt e h =
    inr (inr (inr (inr (inr (
      e.0,
      p,
      e.1,
      ap (λ (l : List ℕ). l ∷ p) (sym e.2),
      omega arith,
      record { at = x; reached = e.3; has = h },
    )))))

tag_walk : (fuel : ℕ) (cells : Cells) (root : Bool) (names : List (List ℕ)) (at : ℕ) (n : KeyNode) → AllSound cells at
    → reading (node_at root) cells at ≡ Ok n → IsTagged (key_checks fuel cells root names at) (Deep fuel cells at)
unfolding key_checks
tag_walk zero cells root names at n all read =
    tag_empty (key_checks zero cells root names at) (Deep zero cells at)
    (λ p r o h. let l : length p < 0 = h.0 in omega arith)
tag_walk (suc left) cells root names at n all read =
    let plain = plain_node root cells at n read in
    let checks : List (List ℕ) → ℕ → List Check = key_checks left cells false in
    let kids = tag_child_part left checks cells n at plain
    (λ told y i. let c = (all.each [] at refl).child y i in
    tag_walk left cells false told y c.node (sound_below cells at y i all) c.read) in
    let part4 = tag_append (values_checks cells n) (children_checks checks cells n at) (ValuePart cells at)
    (ChildPart left cells at) (tag_value_part cells n at plain) kids in
    let part3 = tag_append (security_checks cells n) (values_checks cells n ++ children_checks checks cells n at)
    (Own (security_checks cells n) [] security) (Either (ValuePart cells at) (ChildPart left cells at))
    (tag_own (security_checks cells n) [] security (λ o h. tt)) part4 in
    let part2 = tag_append (class_checks cells n)
    (security_checks cells n ++ (values_checks cells n ++ children_checks checks cells n at))
    (Own (class_checks cells n) [] class)
    (Either (Own (security_checks cells n) [] security) (Either (ValuePart cells at) (ChildPart left cells at)))
    (tag_own (class_checks cells n) [] class (class_plain cells n)) part3 in
    let inside : KeyNode → List Check =
    λ m. name_check names at m.name ∷ below_node (key_checks left cells false) cells m at in
    let part1 : IsTagged (below_of (reading (node_at root) cells at) inside)
    (Either (Own (class_checks cells n) [] class)
    (Either (Own (security_checks cells n) [] security) (Either (ValuePart cells at) (ChildPart left cells at)))) =
    subst (λ (q : Result KeyNode HiveFaultKind). IsTagged (below_of q inside)
    (Either (Own (class_checks cells n) [] class)
    (Either (Own (security_checks cells n) [] security) (Either (ValuePart cells at) (ChildPart left cells at)))))
    (sym read)
    (tag_test at (failing (list_any (folds_same n.name) names) DoubleName) (below_node checks cells n at)
    (Either (Own (class_checks cells n) [] class)
    (Either (Own (security_checks cells n) [] security) (Either (ValuePart cells at) (ChildPart left cells at))))
    part2) in
    tag_from (key_checks (suc left) cells root names at) (Parts left cells root at n) (Deep (suc left) cells at)
    (λ p r o h. in_parts left cells root at n plain p r o h.1.at h.0 h.1.reached h.1.has)
    (tag_append (use_as false (node_at root) cells at) (below_of (reading (node_at root) cells at) inside)
    (Own (use_as false (node_at root) cells at) [] node)
    (Either (Own (class_checks cells n) [] class)
    (Either (Own (security_checks cells n) [] security) (Either (ValuePart cells at) (ChildPart left cells at))))
    (tag_own (use_as false (node_at root) cells at) [] node (λ o h. plain_use (node_at root) cells at o h)) part1)

-- In sound cells whose walk uses each once, two entries at one offset are one, or both security.
pub owned_once : (fuel : ℕ) (cells : Cells) (root : Bool) (at : ℕ) (n : KeyNode) → AllSound cells at
    → reading (node_at root) cells at ≡ Ok n → AreUsedOnce (key_checks fuel cells root [] at) → (p q : List (List ℕ))
    (r k : Role) (o : ℕ) → length p < fuel → length q < fuel → Owns cells at p r o → Owns cells at q k o
    → IsOne p r q k
owned_once fuel cells root at n all read once p q r k o lp lq h g =
    (tag_walk fuel cells root [] at n all read).apart [] (once_from_pairs [] (key_checks fuel cells root [] at) once)
    p q r k o (lp, h) (lq, g)
