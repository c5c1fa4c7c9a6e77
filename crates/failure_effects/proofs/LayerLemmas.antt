-- Who leans on a name, layer by layer.
use Rattle.std.proofs.Common.{◌≡◌, ℕ, suc, ◌+◌, ◌-◌, ◌<◌, arith, append-nil, take, get_or, Bool, not, filter, List, [], ◌∷◌, ◌++◌, length, Option, Some, None, sym, ap, ◌∙◌, subst}
use Rattle.std.specs.List.{filter_map, cons_option}
use Rattle.std.specs.Option.{IfSome}
use Rattle.std.specs.Prelude.{Result, Ok, Err, OnOk}
use Rattle.nt_bytes.specs.Folding.{folds_same}
use Rattle.start_model.specs.Entries.{Entry}
use Rattle.std.proofs.lemmas.List.{take_more, get_or_default}
use Rattle.std.proofs.lemmas.List.Elements.{filter_map-append, filter-append}
use Rattle.failure_effects.specs.declared.lines.EffectLine.{EffectLine}
use Rattle.failure_effects.specs.declared.leaning.Walk.{Walk}
use Rattle.failure_effects.specs.declared.told.Told.{Told}
use Rattle.failure_effects.specs.Givers.{AreLeft, rest_of}
use Rattle.failure_effects.specs.Leans.{first_layer, leans_from, leans_lines, leans_on}

-- one more of what a list is made to
pub more_mapped : {X Y : Type 0} (h : X → Option Y) (xs : List X) (i : ℕ) (x : X) (ys zs : List Y) → i < length xs
    → x ≡ get_or xs i x → ys ≡ filter_map h (take i xs) → zs ≡ ys ++ cons_option (h x) []
    → zs ≡ filter_map h (take (i + 1) xs)
more_mapped h xs i x ys zs lt is so_far more =
    more ∙ (λ j. so_far j ++ cons_option (h (is j)) [])
    ∙ sym (ap (filter_map h) (take_more xs i x lt) ∙ filter_map-append h (take i xs) (get_or xs i x ∷ []))

-- the same of the item at a place, or of another one past the end
pub more_mapped_at : {X Y : Type 0} (h : X → Option Y) (xs : List X) (i : ℕ) (d : X) (ys zs : List Y) → i < length xs
    → ys ≡ filter_map h (take i xs) → zs ≡ ys ++ cons_option (h (get_or xs i d)) [] → zs ≡ filter_map h (take (i + 1) xs)
more_mapped_at h xs i d ys zs lt so_far more =
    more_mapped h xs i (get_or xs i d) ys zs lt (get_or_default xs i d (get_or xs i d) lt) so_far more

-- the same where what passes is made to a list
pub more_picked : {X Y : Type 0} (h : X → Option Y) (test : X → Bool) (xs : List X) (i : ℕ) (x : X) (ys zs : List Y) → i < length xs
    → x ≡ get_or xs i x → ys ≡ filter_map h (filter test (take i xs)) → zs ≡ ys ++ filter_map h (filter test (x ∷ []))
    → zs ≡ filter_map h (filter test (take (i + 1) xs))
more_picked h test xs i x ys zs lt is so_far more =
    more ∙ (λ j. so_far j ++ filter_map h (filter test (x ∷ [])))
    ∙ sym (ap (λ l. filter_map h (filter test l)) (take_more xs i x lt ∙ ap (λ y. take i xs ++ y ∷ []) (sym is))
    ∙ ap (filter_map h) (filter-append test (take i xs) (x ∷ []))
    ∙ filter_map-append h (filter test (take i xs)) (filter test (x ∷ [])))

-- ---- layer after layer

one_layer : (plain : List Told) (entries : List Entry) (count steps : ℕ) (walk : Walk) (next : Option Walk) (said more whole : List EffectLine)
    → steps < count
    → ((n : ℕ) → more ++ leans_on n (steps + 1 + 1) plain entries next
    ≡ said ++ leans_from (suc n) (steps + 1) plain walk.layer (rest_of entries walk.left.rest.items))
    → said ++ leans_from (count - steps) (steps + 1) plain walk.layer (rest_of entries walk.left.rest.items) ≡ whole
    → more ++ leans_on (count - (steps + 1)) (steps + 1 + 1) plain entries next ≡ whole
one_layer plain entries count steps walk next said more whole lt step so_far =
    let left : suc (count - (steps + 1)) ≡ count - steps = omega (arith, lt) in
    step (count - (steps + 1))
    ∙ ap (λ k. said ++ leans_from k (steps + 1) plain walk.layer (rest_of entries walk.left.rest.items)) left ∙ so_far

-- the walk goes on
pub layer_then : (plain : List Told) (entries : List Entry) (count steps : ℕ) (walk after : Walk) (next : Option Walk) (said more whole : List EffectLine)
    → steps < count
    → ((n : ℕ) → more ++ leans_on n (steps + 1 + 1) plain entries next
    ≡ said ++ leans_from (suc n) (steps + 1) plain walk.layer (rest_of entries walk.left.rest.items))
    → said ++ leans_from (count - steps) (steps + 1) plain walk.layer (rest_of entries walk.left.rest.items) ≡ whole → next ≡ Some after
    → more ++ leans_from (count - (steps + 1)) (steps + 1 + 1) plain after.layer (rest_of entries after.left.rest.items) ≡ whole
layer_then plain entries count steps walk after next said more whole lt step so_far some =
    ap (λ o. more ++ leans_on (count - (steps + 1)) (steps + 1 + 1) plain entries o) (sym some)
    ∙ one_layer plain entries count steps walk next said more whole lt step so_far

-- the walk is at its end
pub layer_last : (plain : List Told) (entries : List Entry) (count steps : ℕ) (walk : Walk) (next : Option Walk) (said more whole : List EffectLine)
    → steps < count
    → ((n : ℕ) → more ++ leans_on n (steps + 1 + 1) plain entries next
    ≡ said ++ leans_from (suc n) (steps + 1) plain walk.layer (rest_of entries walk.left.rest.items))
    → said ++ leans_from (count - steps) (steps + 1) plain walk.layer (rest_of entries walk.left.rest.items) ≡ whole → next ≡ None → more ≡ whole
layer_last plain entries count steps walk next said more whole lt step so_far none =
    sym (append-nil more) ∙ ap (λ o. more ++ leans_on (count - (steps + 1)) (steps + 1 + 1) plain entries o) (sym none)
    ∙ one_layer plain entries count steps walk next said more whole lt step so_far

-- the next walk, where there is one, has what is asked of it
pub then_left : (entries : List Entry) (next : Option Walk) (after : Walk) → IfSome next (λ w. AreLeft entries w.left) → next ≡ Some after
    → AreLeft entries after.left
then_left entries None after h is = absurd cc
then_left entries (Some walk) after h is = let same : walk ≡ after = cc in subst (λ (w : Walk). AreLeft entries w.left) same h

-- from the name itself on
pub all_layers : {E : Type 0} (r : Result (Unit {0}) E) (plain : List Told) (name : List ℕ) (entries table : List Entry) (count : ℕ) (walk : Walk)
    (said new : List EffectLine) → table ≡ entries → count ≡ length entries → walk.layer ≡ first_layer name table
    → rest_of table walk.left.rest.items ≡ filter (λ (e : Entry). not (folds_same name e.name)) table
    → OnOk r (new ≡ said ++ leans_from count 1 plain walk.layer (rest_of table walk.left.rest.items))
    → OnOk r (new ≡ said ++ leans_lines plain name entries)
all_layers (Err e) plain name entries table count walk said new is many first rest made = tt
all_layers (Ok u) plain name entries table count walk said new is many first rest made =
    made ∙ (λ i. said ++ leans_from (many i) 1 plain (first i) (rest i))
    ∙ (λ i. said ++ leans_from (length entries) 1 plain (first_layer name (is i)) (filter (λ (e : Entry). not (folds_same name e.name)) (is i)))
