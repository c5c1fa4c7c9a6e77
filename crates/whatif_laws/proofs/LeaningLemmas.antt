-- Who leans on a name has a line, and whoever needs one of those leans too.
use Rattle.std.proofs.Common.{◌≡◌, ◌⊎◌, inl, inr, ℕ, zero, suc, ◌+◌, ◌<◌, ◌≤◌, Bool, true, false, cond, not, ◌||◌, List, [], ◌∷◌, ◌++◌, map, length, get_or, Option, Some, None, refl, sym, ap, ◌∙◌, arith}
use Rattle.std.specs.Prelude.{◌==◌, filter}
use Rattle.std.specs.List.{Contains, list_any, flat_map, filter_map, cons_option}
use Rattle.std.proofs.lemmas.Option.{same_Some}
use Rattle.std.proofs.lemmas.Bool.Decides.{nat_tests}
use Rattle.std.proofs.lemmas.Grind.{flat_map-append}
use Rattle.std.proofs.lemmas.List.{map-append}
use Rattle.std.proofs.lemmas.List.Elements.{Contains-append_right}
use Rattle.nt_bytes.specs.Folding.{folds_same}
use Rattle.start_model.specs.Entries.{Entry}
use Rattle.failure_effects.specs.declared.leaning.Layer.{Layer}
use Rattle.failure_effects.specs.declared.told.Told.{Told}
use Rattle.failure_effects.specs.Lost.{has_name}
use Rattle.failure_effects.specs.Leans.{layer_of, first_layer, names_one, groups_one, needs_one, leans_line, leans_from, leans_lines}
use Rattle.whatif_laws.specs.Leaning.{name_in, leaning_from, leaning_on, needs_entry, IsOther}

-- ---- lines

names_of_lines : (plain : List Told) (steps : ℕ) (layer : Layer) (es : List Entry)
    → flat_map name_in (map (leans_line plain steps layer) es) ≡ map (λ (e : Entry). e.name) es
names_of_lines plain steps layer [] = refl
names_of_lines plain steps layer (e ∷ es) = ap (λ ns. e.name ∷ ns) (names_of_lines plain steps layer es)

lines_from : (n steps : ℕ) (plain : List Told) (layer : Layer) (rest : List Entry)
    → flat_map name_in (leans_from n steps plain layer rest) ≡ map (λ (e : Entry). e.name) (leaning_from n layer rest)
lines_from zero steps plain layer rest = refl
lines_from (suc n) steps plain layer rest =
    by_case (length (filter (needs_one layer) rest) == 0)
    (lines_from n (steps + 1) plain (layer_of (filter (needs_one layer) rest)) (filter (λ e. not (needs_one layer e)) rest))
  where
    by_case : (b : Bool)
        → flat_map name_in (leans_from n (steps + 1) plain (layer_of (filter (needs_one layer) rest)) (filter (λ e. not (needs_one layer e)) rest))
        ≡ map (λ (e : Entry). e.name) (leaning_from n (layer_of (filter (needs_one layer) rest)) (filter (λ e. not (needs_one layer e)) rest))
        → flat_map name_in (cond b [] (map (leans_line plain steps layer) (filter (needs_one layer) rest)
        ++ leans_from n (steps + 1) plain (layer_of (filter (needs_one layer) rest)) (filter (λ e. not (needs_one layer e)) rest)))
        ≡ map (λ (e : Entry). e.name) (cond b [] (filter (needs_one layer) rest
        ++ leaning_from n (layer_of (filter (needs_one layer) rest)) (filter (λ e. not (needs_one layer e)) rest)))
    by_case true below = refl
    by_case false below =
        let near : List Entry = filter (needs_one layer) rest in
        let far : List Entry = filter (λ e. not (needs_one layer e)) rest in
        flat_map-append name_in (map (leans_line plain steps layer) near) (leans_from n (steps + 1) plain (layer_of near) far)
        ∙ (λ i. names_of_lines plain steps layer near i ++ below i)
        ∙ sym (map-append (λ (e : Entry). e.name) near (leaning_from n (layer_of near) far))

pub lines_of : (plain : List Told) (name : List ℕ) (entries : List Entry)
    → flat_map name_in (leans_lines plain name entries) ≡ map (λ (e : Entry). e.name) (leaning_on name entries)
lines_of plain name entries =
    lines_from (length entries) 1 plain (first_layer name entries) (filter (λ e. not (folds_same name e.name)) entries)

-- ---- what is in a list

abbrev In : {X : Type 0} → X → List X → Type 0
In x [] = ⊥
In x (y ∷ ys) = (y ≡ x) ⊎ In x ys

from_contains : {X : Type 0} (xs : List X) (x : X) (k : ℕ) → k < length xs → get_or xs k x ≡ x → In x xs
from_contains [] x k lt is = absurd (omega (arith, lt))
from_contains (y ∷ ys) x zero lt is = inl is
from_contains (y ∷ ys) x (suc k) lt is = inr (from_contains ys x k (omega (arith, lt)) is)

of_contains : {X : Type 0} (xs : List X) (x : X) → Contains xs x → In x xs
of_contains xs x h = from_contains xs x h.0 h.1 h.2

to_contains : {X : Type 0} (xs : List X) (x : X) → In x xs → Contains xs x
to_contains [] x h = absurd h
to_contains (y ∷ ys) x (inl is) = (0, omega arith, is)
to_contains (y ∷ ys) x (inr h) = Contains-append_right (y ∷ []) ys x (to_contains ys x h)

in_filter : {X : Type 0} (p : X → Bool) (xs : List X) (x : X) → In x xs → p x ≡ true → In x (filter p xs)
in_filter p [] x h is = h
in_filter {X} p (y ∷ ys) x h is = by_case (p y) refl h (λ more. in_filter p ys x more is)
  where
    by_case : (b : Bool) → p y ≡ b → (y ≡ x) ⊎ In x ys → (In x ys → In x (filter p ys))
        → In x (cond b (y ∷ filter p ys) (filter p ys))
    by_case true here (inl same) below = inl same
    by_case true here (inr more) below = inr (below more)
    by_case false here (inl same) below = absurd (differ (sym here ∙ ap p same ∙ is))
      where
        differ : false ≡ true → ⊥
        differ e = cc
    by_case false here (inr more) below = below more

in_left : {X : Type 0} (xs ys : List X) (x : X) → In x xs → In x (xs ++ ys)
in_left [] ys x h = absurd h
in_left (y ∷ xs) ys x (inl is) = inl is
in_left (y ∷ xs) ys x (inr h) = inr (in_left xs ys x h)

in_right : {X : Type 0} (xs ys : List X) (x : X) → In x ys → In x (xs ++ ys)
in_right [] ys x h = h
in_right (y ∷ xs) ys x h = inr (in_right xs ys x h)

in_either : {X : Type 0} (xs ys : List X) (x : X) → In x (xs ++ ys) → In x xs ⊎ In x ys
in_either [] ys x h = inr h
in_either (y ∷ xs) ys x (inl is) = inl (inl is)
in_either {X} (y ∷ xs) ys x (inr h) = shifted (in_either xs ys x h)
  where
    shifted : In x xs ⊎ In x ys → ((y ≡ x) ⊎ In x xs) ⊎ In x ys
    shifted (inl a) = inl (inr a)
    shifted (inr b) = inr b

in_map : {X Y : Type 0} (f : X → Y) (xs : List X) (x : X) → In x xs → In (f x) (map f xs)
in_map f [] x h = h
in_map f (y ∷ ys) x (inl is) = inl (ap f is)
in_map f (y ∷ ys) x (inr h) = inr (in_map f ys x h)

-- ---- needs

any_here : {X : Type 0} (p : X → Bool) (xs : List X) (x : X) → In x xs → p x ≡ true → list_any p xs ≡ true
any_here p [] x h is = absurd h
any_here p (y ∷ ys) x (inl same) is = ap (λ b. b || list_any p ys) (ap p same ∙ is)
any_here p (y ∷ ys) x (inr h) is = by_case (p y) (any_here p ys x h is)
  where
    by_case : (b : Bool) → list_any p ys ≡ true → (b || list_any p ys) ≡ true
    by_case true rest = refl
    by_case false rest = rest

any_more : {X : Type 0} (p q : X → Bool) → ((x : X) → p x ≡ true → q x ≡ true) → (xs : List X)
    → list_any p xs ≡ true → list_any q xs ≡ true
any_more p q step [] h = h
any_more p q step (x ∷ xs) h = by_case (p x) refl h (any_more p q step xs)
  where
    or_more : (b : Bool) → list_any q xs ≡ true → (b || list_any q xs) ≡ true
    or_more true rest = refl
    or_more false rest = rest

    by_case : (b : Bool) → p x ≡ b → (b || list_any p xs) ≡ true → (list_any p xs ≡ true → list_any q xs ≡ true)
        → (q x || list_any q xs) ≡ true
    by_case true here h rest = ap (λ b. b || list_any q xs) (step x here)
    by_case false here h rest = or_more (q x) (rest h)

or_false : (b : Bool) → (b || false) ≡ true → b ≡ true
or_false true h = refl
or_false false h = h

named_more : (near : List Entry) (m : Entry) → In m near → (s : List ℕ) → has_name (m.name ∷ []) s ≡ true
    → has_name (map (λ (e : Entry). e.name) near) s ≡ true
named_more near m h s is =
    any_here (folds_same s) (map (λ (e : Entry). e.name) near) m.name (in_map (λ (e : Entry). e.name) near m h)
    (or_false (folds_same s m.name) is)

in_groups : (near : List Entry) (m : Entry) (g : List ℕ) → In m near → m.group ≡ Some g
    → In g (filter_map (λ (e : Entry). e.group) near)
in_groups [] m g h is = absurd h
in_groups (e ∷ es) m g h is = by_case e.group refl h (λ more. in_groups es m g more is)
  where
    no_group : None ≡ Some g → ⊥
    no_group q = cc

    by_case : (o : Option (List ℕ)) → e.group ≡ o → (e ≡ m) ⊎ In m es
        → (In m es → In g (filter_map (λ (x : Entry). x.group) es))
        → In g (cons_option o (filter_map (λ (x : Entry). x.group) es))
    by_case None here (inl same) below = absurd (no_group (sym here ∙ ap (λ (x : Entry). x.group) same ∙ is))
    by_case None here (inr more) below = below more
    by_case (Some x) here (inl same) below =
        inl (same_Some x g (sym here ∙ ap (λ (y : Entry). y.group) same ∙ is))
    by_case (Some x) here (inr more) below = inr (below more)

grouped_by : (near : List Entry) (m : Entry) (o : Option (List ℕ)) → m.group ≡ o → In m near → (s : List ℕ)
    → has_name (cons_option o []) s ≡ true → has_name (filter_map (λ (e : Entry). e.group) near) s ≡ true
grouped_by near m None here h s is = absurd cc
grouped_by near m (Some g) here h s is =
    any_here (folds_same s) (filter_map (λ (e : Entry). e.group) near) g (in_groups near m g h here)
    (or_false (folds_same s g) is)

or_left : (a b : Bool) → a ≡ true → (a || b) ≡ true
or_left a b is = ap (λ x. x || b) is

or_right : (a b : Bool) → b ≡ true → (a || b) ≡ true
or_right true b is = refl
or_right false b is = is

-- what needs one of the members needs the layer
needs_more : (near : List Entry) (e m : Entry) → In m near → needs_entry e m ≡ true → needs_one (layer_of near) e ≡ true
needs_more near e m h is = by_case (names_one (layer_of (m ∷ [])) e) refl is
  where
    by_case : (b : Bool) → names_one (layer_of (m ∷ [])) e ≡ b → (b || groups_one (layer_of (m ∷ [])) e) ≡ true
        → needs_one (layer_of near) e ≡ true
    by_case true here q =
        or_left (names_one (layer_of near) e) (groups_one (layer_of near) e)
        (any_more (has_name (m.name ∷ [])) (has_name (map (λ (x : Entry). x.name) near)) (named_more near m h) e.services here)
    by_case false here q =
        or_right (names_one (layer_of near) e) (groups_one (layer_of near) e)
        (any_more (has_name (cons_option m.group [])) (has_name (filter_map (λ (x : Entry). x.group) near))
        (grouped_by near m m.group refl h) e.groups q)

-- ---- the walk

some_there : {X : Type 0} (xs : List X) (x : X) → In x xs → (length xs == 0) ≡ false
some_there [] x h = absurd h
some_there (y ∷ ys) x h = grind (arith, nat_tests)

parts : {X : Type 0} (p : X → Bool) (xs : List X) → length (filter p xs) + length (filter (λ x. not (p x)) xs) ≡ length xs
parts p [] = refl
parts p (x ∷ xs) = by_case (p x) (parts p xs)
  where
    by_case : (b : Bool) → length (filter p xs) + length (filter (λ x. not (p x)) xs) ≡ length xs
        → length (cond b (x ∷ filter p xs) (filter p xs)) + length (cond (not b) (x ∷ filter (λ x. not (p x)) xs) (filter (λ x. not (p x)) xs))
        ≡ suc (length xs)
    by_case true rest = omega (arith, rest)
    by_case false rest = omega (arith, rest)

some_long : {X : Type 0} (xs : List X) → (length xs == 0) ≡ false → 0 < length xs
some_long [] h = absurd cc
some_long (x ∷ xs) h = omega arith

-- a layer that is not empty leaves fewer
fewer : (n : ℕ) (layer : Layer) (rest : List Entry) → length rest ≤ suc n → (length (filter (needs_one layer) rest) == 0) ≡ false
    → length (filter (λ e. not (needs_one layer e)) rest) ≤ n
fewer n layer rest le some =
    omega (arith, le, parts (needs_one layer) rest, some_long (filter (needs_one layer) rest) some)

-- an entry of the rest that needs the layer is among those that reach it
near_said : (n : ℕ) (layer : Layer) (rest : List Entry) (e : Entry) → length rest ≤ n → In e rest → needs_one layer e ≡ true
    → In e (leaning_from n layer rest)
near_said zero layer [] e le h is = absurd h
near_said zero layer (x ∷ rest) e le h is = absurd (omega (arith, le))
near_said (suc n) layer rest e le h is =
    let near : List Entry = filter (needs_one layer) rest in
    let deep : List Entry = leaning_from n (layer_of near) (filter (λ x. not (needs_one layer x)) rest) in
    let there : In e near = in_filter (needs_one layer) rest e h is in
    by_case (length near == 0) (some_there near e there) (in_left near deep e there)
  where
    by_case : (b : Bool) → b ≡ false
        → In e (filter (needs_one layer) rest
        ++ leaning_from n (layer_of (filter (needs_one layer) rest)) (filter (λ x. not (needs_one layer x)) rest))
        → In e (cond b [] (filter (needs_one layer) rest
        ++ leaning_from n (layer_of (filter (needs_one layer) rest)) (filter (λ x. not (needs_one layer x)) rest)))
    by_case true is h = absurd cc
    by_case false is h = h

not_false : (b : Bool) → b ≡ false → not b ≡ true
not_false true is = absurd cc
not_false false is = refl

-- and so is one that needs an entry among them
further_said : (n : ℕ) (layer : Layer) (rest : List Entry) (e m : Entry) → length rest ≤ n → In e rest
    → In m (leaning_from n layer rest) → needs_entry e m ≡ true → In e (leaning_from n layer rest)
further_said zero layer rest e m le h there needs = absurd there
further_said (suc n) layer rest e m le h there needs =
    by_end (λ less away beyond. further_said n (layer_of (filter (needs_one layer) rest))
    (filter (λ x. not (needs_one layer x)) rest) e m less away beyond needs)
    (length (filter (needs_one layer) rest) == 0) refl there
  where
    near : List Entry
    near = filter (needs_one layer) rest

    far : List Entry
    far = filter (λ x. not (needs_one layer x)) rest

    deep : List Entry
    deep = leaning_from n (layer_of near) far

    by_place : (length far ≤ n → In e far → In m deep → In e deep) → (length near == 0) ≡ false → In e far
        → In m near ⊎ In m deep → In e (near ++ deep)
    by_place below some away (inl close) =
        in_right near deep e
        (near_said n (layer_of near) far e (fewer n layer rest le some) away (needs_more near e m close needs))
    by_place below some away (inr beyond) =
        in_right near deep e (below (fewer n layer rest le some) away beyond)

    by_need : (length far ≤ n → In e far → In m deep → In e deep) → (b : Bool) → needs_one layer e ≡ b
        → (length near == 0) ≡ false → In m (near ++ deep) → In e (near ++ deep)
    by_need below true is some at = in_left near deep e (in_filter (needs_one layer) rest e h is)
    by_need below false is some at =
        by_place below some
        (in_filter (λ x. not (needs_one layer x)) rest e h (not_false (needs_one layer e) is)) (in_either near deep m at)

    by_end : (length far ≤ n → In e far → In m deep → In e deep) → (b : Bool) → (length near == 0) ≡ b
        → In m (cond b [] (near ++ deep)) → In e (cond b [] (near ++ deep))
    by_end below true is at = absurd at
    by_end below false is at = by_need below (needs_one layer e) refl is at

-- ---- the whole set

shorter : {X : Type 0} (p : X → Bool) (xs : List X) → length (filter p xs) ≤ length xs
shorter p xs = omega (arith, parts p xs)

in_others : (name : List ℕ) (entries : List Entry) (e : Entry) → IsOther name entries e
    → In e (filter (λ x. not (folds_same name x.name)) entries)
in_others name entries e o =
    in_filter (λ (x : Entry). not (folds_same name x.name)) entries e (of_contains entries e o.there)
    (not_false (folds_same name e.name) o.other)

pub itself : (name : List ℕ) (entries : List Entry) (e : Entry) → IsOther name entries e
    → needs_one (first_layer name entries) e ≡ true → Contains (leaning_on name entries) e
itself name entries e o needs =
    to_contains (leaning_on name entries) e
    (near_said (length entries) (first_layer name entries) (filter (λ x. not (folds_same name x.name)) entries) e
    (shorter (λ (x : Entry). not (folds_same name x.name)) entries) (in_others name entries e o) needs)

pub another : (name : List ℕ) (entries : List Entry) (e m : Entry) → IsOther name entries e
    → Contains (leaning_on name entries) m → needs_entry e m ≡ true → Contains (leaning_on name entries) e
another name entries e m o there needs =
    to_contains (leaning_on name entries) e
    (further_said (length entries) (first_layer name entries) (filter (λ x. not (folds_same name x.name)) entries) e m
    (shorter (λ (x : Entry). not (folds_same name x.name)) entries) (in_others name entries e o)
    (of_contains (leaning_on name entries) m there) needs)
