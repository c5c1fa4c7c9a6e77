-- Each place is where its line says it is.
use Rattle.std.proofs.Common.{◌≡◌, ◌⊎◌, inl, inr, ℕ, suc, ◌==◌, ◌&&◌, Bool, true, false, cond, List, [], ◌∷◌, ◌++◌, Contains, Some, None, refl, sym, ap, subst, ◌∙◌, append-nil, append_assoc, arith}
use Rattle.std.specs.Prelude.{Option, find, option_and_then}
use Rattle.std.specs.List.{All, list_any}
use Rattle.std.specs.Option.{option_map_or}
use Rattle.std.proofs.lemmas.Bool.{or_parts, false≢true}
use Rattle.std.proofs.lemmas.Bool.Decides.{nat_tests}
use Rattle.std.proofs.lemmas.List.Elements.{Contains-append_cases, All-append, All-cons, All-nil}
use Rattle.nt_bytes.specs.Folding.{folded_unit, folds_same}
use Rattle.nt_bytes.specs.Text.{is_backslash}
use Rattle.hive_model.specs.Tree.{Item, Tree, Trees, key, none, more, head, children, listed, is_named, find_key}
use Rattle.hive_model.specs.Valid.{KeysDiffer, HoldsKeys, AllHoldKeys}
use Rattle.report_text.specs.line_text.Paths.{joined_path, is_plain, written_path}
use Rattle.key_text.specs.Found.{true_path, spelled, found_key}
use Rattle.key_text.specs.Words.{path_in}
use Rattle.key_text.proofs.PlainLemmas.{plain_back, spelled_true, no_current, alike, passes}
use Rattle.find_rule.specs.declared.wanted.Wanted.{Wanted}
use Rattle.find_rule.specs.Hits.{Hit, KeyName, ValueName, Data, value_places, values_places, places, places_below, is_hit, hits, part_hits, path_hits, hits_at}
use Rattle.find_rule.specs.Places.{IsKeyAt, StandsIn}
use Rattle.find_rule.proofs.ListLemmas.{here, there, in_cons, in_none, kept_exactly}

-- ---- children by their names

itself : (a : List ℕ) → folds_same a a ≡ true
itself [] = refl
itself (x ∷ a) =
    let same : (folded_unit x == folded_unit x) ≡ true = grind (arith, nat_tests) in
    ap (λ (b : Bool). b && folds_same a a) same ∙ itself a

differ_rest : (t : Tree) (ts : List Tree) → KeysDiffer (t ∷ ts) → KeysDiffer ts
differ_rest t ts differ = λ i j d lt le. differ (suc i) (suc j) d (omega (arith, lt)) (omega (arith, le))

differ_first : (t : Tree) (ts : List Tree) (d : Tree) → KeysDiffer (t ∷ ts) → Contains ts d → folds_same (head d).name (head t).name ≡ false
differ_first t ts d differ c =
    subst (λ (x : Tree). folds_same (head x).name (head t).name ≡ false) c.2
    (differ 0 (suc c.0) d (omega arith) (omega (arith, c.1)))

each_found : (ts : List Tree) (d : Tree) → KeysDiffer ts → Contains ts d → find (is_named (head d).name) ts ≡ Some d
each_found [] d differ c = absurd (in_none d c)
each_found (t ∷ ts) d differ c = by (in_cons t ts d c) (λ i. each_found ts d (differ_rest t ts differ) i)
  where
    by : (t ≡ d) ⊎ Contains ts d → (Contains ts d → find (is_named (head d).name) ts ≡ Some d)
        → find (is_named (head d).name) (t ∷ ts) ≡ Some d
    by (inl is) further =
        ap (λ (b : Bool). cond b (Some t) (find (is_named (head d).name) ts))
        (ap (λ (x : Tree). folds_same (head d).name (head x).name) is ∙ itself (head d).name)
        ∙ ap (λ (x : Tree). Some x) is
    by (inr i) further =
        ap (λ (b : Bool). cond b (Some t) (find (is_named (head d).name) ts)) (differ_first t ts d differ i) ∙ further i

-- ---- paths in order

found_then : (p q : List (List ℕ)) (root : Tree) → find_key (p ++ q) root ≡ option_and_then (find_key q) (find_key p root)
found_then [] q root = refl
found_then (name ∷ p) q root = by (find (is_named name) (children root)) (λ c. found_then p q c)
  where
    by : (o : Option Tree) → ((c : Tree) → find_key (p ++ q) c ≡ option_and_then (find_key q) (find_key p c))
        → option_and_then (find_key (p ++ q)) o ≡ option_and_then (find_key q) (option_and_then (find_key p) o)
    by None further = refl
    by (Some c) further = further c

spelled_then : (p q : List (List ℕ)) (root t : Tree) → find_key p root ≡ Some t → spelled (p ++ q) root ≡ spelled p root ++ spelled q t
spelled_then [] q root t e = (let is : root ≡ t = cc in ap (spelled q) is)
spelled_then (name ∷ p) q root t e = by (find (is_named name) (children root)) e (λ c f. spelled_then p q c t f)
  where
    by : (o : Option Tree) → option_and_then (find_key p) o ≡ Some t
        → ((c : Tree) → find_key p c ≡ Some t → spelled (p ++ q) c ≡ spelled p c ++ spelled q t)
        → option_map_or (λ (c : Tree). (head c).name ∷ spelled (p ++ q) c) o []
        ≡ option_map_or (λ (c : Tree). (head c).name ∷ spelled p c) o [] ++ spelled q t
    by None f further = absurd cc
    by (Some c) f further = ap (λ (names : List (List ℕ)). (head c).name ∷ names) (further c f)

no_backslash : (name : List ℕ) → list_any is_backslash name ≡ false → All (λ (u : ℕ). is_backslash u ≡ false) name
no_backslash [] e = All-nil (λ (u : ℕ). is_backslash u ≡ false)
no_backslash (u ∷ us) e =
    let both = or_parts (is_backslash u) (list_any is_backslash us) e in
    All-cons (λ (x : ℕ). is_backslash x ≡ false) u us both.0 (no_backslash us both.1)

-- a child of the key at a path
child_at : (p : List (List ℕ)) (root t d : Tree) → IsKeyAt root p t → find (is_named (head d).name) (children t) ≡ Some d
    → list_any is_backslash (head d).name ≡ false → IsKeyAt root (p ++ (head d).name ∷ []) d
child_at p root t d at is whole = record {
  found = found_then p ((head d).name ∷ []) root ∙ ap (option_and_then (find_key ((head d).name ∷ []))) at.found
      ∙ ap (option_and_then (find_key [])) is;
  spelled = spelled_then p ((head d).name ∷ []) root t at.found
      ∙ ap (λ (names : List (List ℕ)). names ++ spelled ((head d).name ∷ []) t) at.spelled
      ∙ ap (λ (o : Option Tree). p ++ option_map_or (λ (c : Tree). (head c).name ∷ []) o []) is;
  whole = All-append (λ (name : List ℕ). All (λ (u : ℕ). is_backslash u ≡ false) name) p ((head d).name ∷ []) at.whole
      (All-cons (λ (name : List ℕ). All (λ (u : ℕ). is_backslash u ≡ false) name) (head d).name [] (no_backslash (head d).name whole)
      (All-nil (λ (name : List ℕ). All (λ (u : ℕ). is_backslash u ≡ false) name)));
}

-- ---- the places of a key, and those below it

of_values : (p : List (List ℕ)) (root c : Tree) (vs : List Item) (h : Hit) → IsKeyAt root p c
    → ((v : Item) → Contains vs v → Contains (head c).values v) → Contains (values_places p vs) h → StandsIn root h
of_values p root c [] h at sub i = absurd (in_none h i)
of_values p root c (v ∷ vs) h at sub i =
    by (Contains-append_cases (value_places p v) (values_places p vs) h i)
    (λ j. of_values p root c vs h at (λ u k. sub u (there v vs u k)) j)
  where
    mine : Contains (head c).values v
    mine = sub v (here v vs)

    by_last : (Data p v ≡ h) ⊎ Contains [] h → StandsIn root h
    by_last (inl is) = subst (StandsIn root) is (c, at, mine)
    by_last (inr k) = absurd (in_none h k)

    by_place : (ValueName p v.name ≡ h) ⊎ Contains (Data p v ∷ []) h → StandsIn root h
    by_place (inl is) = subst (StandsIn root) is (c, at, (v, mine, refl))
    by_place (inr j) = by_last (in_cons (Data p v) [] h j)

    by : Contains (value_places p v) h ⊎ Contains (values_places p vs) h → (Contains (values_places p vs) h → StandsIn root h)
        → StandsIn root h
    by (inl j) further = by_place (in_cons (ValueName p v.name) (Data p v ∷ []) h j)
    by (inr j) further = further j

whole_name : (d : Tree) → HoldsKeys d → list_any is_backslash (head d).name ≡ false
whole_name (key k us) held = held.0.no_backslash

either_way : {A B C : Type 0} → A ⊎ B → (A → C) → (B → C) → C
either_way (inl a) f g = f a
either_way (inr b) f g = g b

mutual
  pub of_key : (p : List (List ℕ)) (root t : Tree) (h : Hit) → IsKeyAt root p t → HoldsKeys t → Contains (places p t) h → StandsIn root h
  of_key p root (key k ts) h at holds i =
      by (Contains-append_cases (KeyName p k.name ∷ values_places p k.values) (places_below p ts) h i)
      (λ j. of_keys p root (key k ts) ts h at (λ d c. each_found (listed ts) d holds.0.keys_differ c) holds.1 j)
    where
      by_own : (KeyName p k.name ≡ h) ⊎ Contains (values_places p k.values) h → StandsIn root h
      by_own (inl is) = subst (StandsIn root) is (key k ts, at, refl)
      by_own (inr j) = of_values p root (key k ts) k.values h at (λ v c. c) j

      by : Contains (KeyName p k.name ∷ values_places p k.values) h ⊎ Contains (places_below p ts) h
          → (Contains (places_below p ts) h → StandsIn root h) → StandsIn root h
      by (inl j) further = by_own (in_cons (KeyName p k.name) (values_places p k.values) h j)
      by (inr j) further = further j

  of_keys : (p : List (List ℕ)) (root t : Tree) (ts : Trees) (h : Hit) → IsKeyAt root p t
      → ((d : Tree) → Contains (listed ts) d → find (is_named (head d).name) (children t) ≡ Some d) → AllHoldKeys ts
      → Contains (places_below p ts) h → StandsIn root h
  of_keys p root t none h at found holds i = absurd (in_none h i)
  of_keys p root t (more d ts) h at found holds i =
      either_way (Contains-append_cases (places (p ++ (head d).name ∷ []) d) (places_below p ts) h i)
      (λ j. of_key (p ++ (head d).name ∷ []) root d h
      (child_at p root t d at (found d (here d (listed ts))) (whole_name d holds.0)) holds.0 j)
      (λ j. of_keys p root t ts h at (λ c k. found c (there d (listed ts) c k)) holds.1 j)

-- ---- the key of a path that stands without quotes

found_by_spelling : (root c : Tree) (p : List (List ℕ)) → IsKeyAt root p c → found_key root p ≡ Some c
found_by_spelling root c p at =
    let whole : true_path root p ≡ Some p =
    ap (true_path root) (sym at.spelled) ∙ spelled_true p root ∙ ap (λ (q : List (List ℕ)). Some q) at.spelled in
    ap (option_and_then (λ (q : List (List ℕ)). find_key q root)) whole ∙ at.found

pub typed : (root c : Tree) (p : List (List ℕ)) → IsKeyAt root p c → is_plain (joined_path p) ≡ true
    → found_key root (path_in (Some (written_path p))) ≡ Some c
typed root c [] at plain = absurd (false≢true plain)
typed root c (first ∷ rest) at plain =
    ap (found_key root) (plain_back first rest at.whole plain) ∙ found_by_spelling root c (first ∷ rest) at

-- ---- the part that a path leads to

held_child : (name : List ℕ) (ts : Trees) (d : Tree) → AllHoldKeys ts → find (is_named name) (listed ts) ≡ Some d → HoldsKeys d
held_child name none d holds e = absurd cc
held_child name (more t ts) d holds e = by (is_named name t) e (λ f. held_child name ts d holds.1 f)
  where
    by : (b : Bool) → cond b (Some t) (find (is_named name) (listed ts)) ≡ Some d
        → (find (is_named name) (listed ts) ≡ Some d → HoldsKeys d) → HoldsKeys d
    by true f further = (let is : t ≡ d = cc in subst HoldsKeys is holds.0)
    by false f further = further f

steps : (way p : List (List ℕ)) (root t c : Tree) → IsKeyAt root p t → HoldsKeys t → find_key way t ≡ Some c
    → IsKeyAt root (p ++ spelled way t) c × HoldsKeys c
steps [] p root t c at holds e =
    let is : t ≡ c = cc in (
      subst (λ (x : Tree). IsKeyAt root (p ++ []) x) is (subst (λ (q : List (List ℕ)). IsKeyAt root q t) (sym (append-nil p)) at),
      subst HoldsKeys is holds,
    )
steps (name ∷ way) p root (key k ts) c at holds e =
    by (find (is_named name) (listed ts)) refl e (λ d at_child held f. steps way (p ++ (head d).name ∷ []) root d c at_child held f)
  where
    by : (o : Option Tree) → find (is_named name) (listed ts) ≡ o → option_and_then (find_key way) o ≡ Some c
        → ((d : Tree) → IsKeyAt root (p ++ (head d).name ∷ []) d → HoldsKeys d → find_key way d ≡ Some c
        → IsKeyAt root ((p ++ (head d).name ∷ []) ++ spelled way d) c × HoldsKeys c)
        → IsKeyAt root (p ++ option_map_or (λ (d : Tree). (head d).name ∷ spelled way d) o []) c × HoldsKeys c
    by None is f further = absurd cc
    by (Some d) is f further =
        let held = held_child name ts d holds.1 is in
        let found = alike name (head d).name (listed ts) (passes name (listed ts) d is) ∙ is in
        let at_child = child_at p root (key k ts) d at found (whole_name d held) in
        let end = further d at_child held f in (
          subst (λ (q : List (List ℕ)). IsKeyAt root q c) (append_assoc p ((head d).name ∷ []) (spelled way d)) end.0,
          end.1,
        )

pub part_at : (path : List (List ℕ)) (root t : Tree) → HoldsKeys root → find_key path root ≡ Some t
    → IsKeyAt root (spelled path root) t × HoldsKeys t
part_at path root t holds e =
    steps path [] root root t (record { found = refl; spelled = refl; whole = All-nil (λ (name : List ℕ). All (λ (u : ℕ). is_backslash u ≡ false) name) })
    holds e

-- ---- a child as the part

true_name : (root c : Tree) (name : List ℕ) → find (is_named name) (children root) ≡ Some c → true_path root (name ∷ []) ≡ Some (name ∷ [])
unfolding true_path
true_name root c name found = (let no = no_current root c name found in rw no refl)

pub child_alone : (w : Wanted) (root c : Tree) → HoldsKeys root → Contains (children root) c
    → hits_at w root ((head c).name ∷ []) ≡ Some (hits w ((head c).name ∷ []) c)
child_alone w (key k ts) c holds i =
    let name = (head c).name in
    let found = each_found (listed ts) c holds.0.keys_differ i in
    let same : spelled (name ∷ []) (key k ts) ≡ name ∷ [] =
    ap (λ (o : Option Tree). option_map_or (λ (d : Tree). (head d).name ∷ []) o []) found in
    let there : find_key (name ∷ []) (key k ts) ≡ Some c = ap (option_and_then (find_key [])) found in
    ap (path_hits w (key k ts)) (true_name (key k ts) c name found) ∙ (λ j. part_hits w (same j) (there j))

-- a hit of the part that a path leads to is where its line says
pub placed_so : (w : Wanted) (path : List (List ℕ)) (root t : Tree) (h : Hit) → HoldsKeys root → find_key path root ≡ Some t
    → Contains (hits w (spelled path root) t) h → StandsIn root h
placed_so w path root t h holds found i =
    let part = part_at path root t holds found in
    of_key (spelled path root) root t h part.0 part.1 ((kept_exactly (is_hit w) (places (spelled path root) t) h).0 i).0
