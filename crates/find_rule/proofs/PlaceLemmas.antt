-- The places of a tree: how many there are, and that none is left out.
use Rattle.std.proofs.Common.{◌≡◌, ◌⊎◌, inl, inr, ℕ, ◌+◌, ◌*◌, Bool, true, false, cond, List, [], ◌∷◌, ◌++◌, length, Contains, Some, None, refl, sym, subst, append-nil, append_assoc, length-append, arith}
use Rattle.std.specs.Prelude.{Option, find, option_and_then}
use Rattle.std.specs.Option.{option_map_or}
use Rattle.std.proofs.lemmas.List.Elements.{Contains-append_left, Contains-append_right}
use Rattle.hive_model.specs.Tree.{Item, Tree, Trees, key, none, more, head, listed, is_named, find_key, key_count, keys_count, item_count, items_count}
use Rattle.key_text.specs.Found.{spelled}
use Rattle.find_rule.specs.Hits.{Hit, KeyName, ValueName, Data, value_places, values_places, places, places_below}
use Rattle.find_rule.proofs.ListLemmas.{here, there, in_cons, in_none}

-- ---- how many

of_values : (path : List (List ℕ)) (vs : List Item) → length (values_places path vs) ≡ 2 * length vs
of_values path [] = refl
of_values path (v ∷ vs) = (let e = of_values path vs in omega (arith, e))

mutual
  pub place_count : (path : List (List ℕ)) (t : Tree) → length (places path t) ≡ key_count t + 2 * item_count t
  place_count path (key h ts) =
      let e = length-append (values_places path h.values) (places_below path ts) in
      let f = of_values path h.values in
      let g = below_count path ts in
      omega (arith, e, f, g)

  below_count : (path : List (List ℕ)) (ts : Trees) → length (places_below path ts) ≡ keys_count ts + 2 * items_count ts
  below_count path none = refl
  below_count path (more t ts) =
      let e = length-append (places (path ++ (head t).name ∷ []) t) (places_below path ts) in
      let f = place_count (path ++ (head t).name ∷ []) t in
      let g = below_count path ts in
      omega (arith, e, f, g)

-- ---- none is left out

-- those of a key without the ones below it
abbrev pub own_places : List (List ℕ) → Tree → List Hit
own_places path t = KeyName path (head t).name ∷ values_places path (head t).values

own_first : (path : List (List ℕ)) (t : Tree) (h : Hit) → Contains (own_places path t) h → Contains (places path t) h
own_first path (key k ts) h c = Contains-append_left (own_places path (key k ts)) (places_below path ts) h c

child_places : (path : List (List ℕ)) (name : List ℕ) (ts : Trees) (d : Tree) (h : Hit)
    → find (is_named name) (listed ts) ≡ Some d → Contains (places (path ++ (head d).name ∷ []) d) h → Contains (places_below path ts) h
child_places path name none d h e c = absurd cc
child_places path name (more t ts) d h e c = by (is_named name t) e (λ f. child_places path name ts d h f c)
  where
    by : (b : Bool) → cond b (Some t) (find (is_named name) (listed ts)) ≡ Some d
        → (find (is_named name) (listed ts) ≡ Some d → Contains (places_below path ts) h) → Contains (places_below path (more t ts)) h
    by true f further =
        let is : d ≡ t = cc in
        Contains-append_left (places (path ++ (head t).name ∷ []) t) (places_below path ts) h
        (subst (λ (x : Tree). Contains (places (path ++ (head x).name ∷ []) x) h) is c)
    by false f further =
        Contains-append_right (places (path ++ (head t).name ∷ []) t) (places_below path ts) h (further f)

pub reached : (way path : List (List ℕ)) (t c : Tree) (h : Hit) → find_key way t ≡ Some c
    → Contains (own_places (path ++ spelled way t) c) h → Contains (places path t) h
reached [] path t c h e i =
    let is : c ≡ t = cc in
    own_first path t h (subst (λ (p : List (List ℕ)). Contains (own_places p t) h) (append-nil path)
    (subst (λ (x : Tree). Contains (own_places (path ++ []) x) h) is i))
reached (name ∷ way) path (key k ts) c h e i =
    by (find (is_named name) (listed ts)) refl e i (λ d f j. reached way (path ++ (head d).name ∷ []) d c h f j)
  where
    by : (o : Option Tree) → find (is_named name) (listed ts) ≡ o → option_and_then (find_key way) o ≡ Some c
        → Contains (own_places (path ++ option_map_or (λ (d : Tree). (head d).name ∷ spelled way d) o []) c) h
        → ((d : Tree) → find_key way d ≡ Some c → Contains (own_places ((path ++ (head d).name ∷ []) ++ spelled way d) c) h
        → Contains (places (path ++ (head d).name ∷ []) d) h)
        → Contains (places path (key k ts)) h
    by None is f j further = absurd cc
    by (Some d) is f j further =
        Contains-append_right (own_places path (key k ts)) (places_below path ts) h
        (child_places path name ts d h is
        (further d f
        (subst (λ (p : List (List ℕ)). Contains (own_places p c) h) (sym (append_assoc path ((head d).name ∷ []) (spelled way d))) j)))

-- both places of a value
pub value_in : (path : List (List ℕ)) (vs : List Item) (v : Item) (h : Hit) → Contains vs v → Contains (value_places path v) h
    → Contains (values_places path vs) h
value_in path [] v h c i = absurd (in_none v c)
value_in path (u ∷ us) v h c i = by (in_cons u us v c) (λ j. value_in path us v h j i)
  where
    by : (u ≡ v) ⊎ Contains us v → (Contains us v → Contains (values_places path us) h) → Contains (values_places path (u ∷ us)) h
    by (inl is) further = Contains-append_left (value_places path u) (values_places path us) h
        (subst (λ (x : Item). Contains (value_places path x) h) (sym is) i)
    by (inr j) further = Contains-append_right (value_places path u) (values_places path us) h (further j)

module _ (way path : List (List ℕ)) (t c : Tree) where
  pub key_reached : find_key way t ≡ Some c → Contains (places path t) (KeyName (path ++ spelled way t) (head c).name)
  key_reached e =
      let p = path ++ spelled way t in
      reached way path t c (KeyName p (head c).name) e (here (KeyName p (head c).name) (values_places p (head c).values))

  pub value_reached : (v : Item) → find_key way t ≡ Some c → Contains (head c).values v
      → Contains (places path t) (ValueName (path ++ spelled way t) v.name) × Contains (places path t) (Data (path ++ spelled way t) v)
  value_reached v e i =
      let p = path ++ spelled way t in
      let first = KeyName p (head c).name in
      let all = values_places p (head c).values in (
        reached way path t c (ValueName p v.name) e
            (there first all (ValueName p v.name) (value_in p (head c).values v (ValueName p v.name) i (here (ValueName p v.name) (Data p v ∷ [])))),
        reached way path t c (Data p v) e
            (there first all (Data p v) (value_in p (head c).values v (Data p v) i
            (there (ValueName p v.name) (Data p v ∷ []) (Data p v) (here (Data p v) [])))),
      )
