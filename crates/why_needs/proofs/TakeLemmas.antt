-- What is gathered item by item.
use Rattle.std.proofs.Common.{◌≡◌, ℕ, ◌+◌, ◌<◌, List, [], ◌∷◌, ◌++◌, length, take, get_or, Option, Some, None, refl, sym, ap, ◌∙◌}
use Rattle.std.specs.Option.{option_to_list}
use Rattle.std.specs.List.{filter_map, cons_option}
use Rattle.std.proofs.lemmas.List.Elements.{filter_map-append}
use Rattle.std.proofs.lemmas.List.{take_more, get_or_default}

one : {A X : Type 0} (h : A → Option X) (a : A) (o : Option X) → h a ≡ o → filter_map h (a ∷ []) ≡ option_to_list o
one {A} {X} h a None is = ap (λ (o : Option X). cons_option o []) is
one {A} {X} h a (Some x) is = ap (λ (o : Option X). cons_option o []) is

-- one more item
pub taken_more : {A X : Type 0} (h : A → Option X) (items : List A) (i : ℕ) (a : A) (out new : List X) → i < length items
    → a ≡ get_or items i a → out ≡ filter_map h (take i items) → new ≡ out ++ option_to_list (h a)
    → new ≡ filter_map h (take (i + 1) items)
taken_more {A} h items i a out new lt is before more =
    more ∙ (λ j. before j ++ sym (one h a (h a) refl) j)
    ∙ sym (ap (filter_map h) (take_more items i a lt ∙ ap (λ (x : A). take i items ++ x ∷ []) (sym is)) ∙ filter_map-append h (take i items) (a ∷ []))

-- the same where the item is read with another item at hand
pub taken_at : {A X : Type 0} (h : A → Option X) (items : List A) (i : ℕ) (d : A) (out new : List X) → i < length items
    → out ≡ filter_map h (take i items) → new ≡ out ++ option_to_list (h (get_or items i d)) → new ≡ filter_map h (take (i + 1) items)
taken_at h items i d out new lt before more =
    taken_more h items i (get_or items i d) out new lt (get_or_default items i d (get_or items i d) lt) before more
