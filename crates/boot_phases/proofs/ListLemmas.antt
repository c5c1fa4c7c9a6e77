-- A list that is made of another, item by item.
use Rattle.std.proofs.Common.{◌≡◌, ℕ, ◌+◌, ◌<◌, List, [], ◌∷◌, ◌++◌, length, take, get_or, Option, Some, None, sym, ap, ◌∙◌}
use Rattle.std.specs.List.{filter_map, cons_option}
use Rattle.std.proofs.lemmas.List.{take_more, append-nil}
use Rattle.std.proofs.lemmas.List.Elements.{filter_map-append}

filter_map_more : {X Y : Type 0} (h : X → Option Y) (xs : List X) (i : ℕ) (d : X) → i < length xs
    → filter_map h (take (i + 1) xs) ≡ filter_map h (take i xs) ++ cons_option (h (get_or xs i d)) []
filter_map_more h xs i d lt =
    ap (filter_map h) (take_more xs i d lt) ∙ filter_map-append h (take i xs) (get_or xs i d ∷ [])

-- the next item gives one more
pub more_some : {X Y : Type 0} (h : X → Option Y) (xs : List X) (i : ℕ) (d : X) (o : Option Y) (y : Y) (ys : List Y)
    → i < length xs → o ≡ h (get_or xs i d) → o ≡ Some y → ys ≡ filter_map h (take i xs)
    → ys ++ y ∷ [] ≡ filter_map h (take (i + 1) xs)
more_some h xs i d o y ys lt is some so_far =
    ap (λ zs. zs ++ y ∷ []) so_far ∙ ap (λ o. filter_map h (take i xs) ++ cons_option o []) (sym some ∙ is)
    ∙ sym (filter_map_more h xs i d lt)

-- the next item gives nothing
pub more_none : {X Y : Type 0} (h : X → Option Y) (xs : List X) (i : ℕ) (d : X) (o : Option Y) (ys : List Y)
    → i < length xs → o ≡ h (get_or xs i d) → o ≡ None → ys ≡ filter_map h (take i xs)
    → ys ≡ filter_map h (take (i + 1) xs)
more_none h xs i d o ys lt is none so_far =
    so_far ∙ sym (append-nil (filter_map h (take i xs)))
    ∙ ap (λ o. filter_map h (take i xs) ++ cons_option o []) (sym none ∙ is) ∙ sym (filter_map_more h xs i d lt)
