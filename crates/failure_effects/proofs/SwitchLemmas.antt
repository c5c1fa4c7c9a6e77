-- A list of which the first that passes is changed, item by item.
use Rattle.std.proofs.Common.{◌≡◌, ℕ, ◌+◌, ◌<◌, Bool, true, false, cond, not, ◌&&◌, ◌||◌, List, [], ◌∷◌, ◌++◌, length, drop, get_or, refl, sym, ap, ◌∙◌, append_assoc}
use Rattle.std.proofs.lemmas.List.{drop_more, append-nil}
use Rattle.std.proofs.Math.Seq.{drop-length}
use Rattle.hive_model.specs.Edit.{at_first}

-- what is still to come of items of which the first that passes is changed
abbrev pub rest_of : {X : Type 0} → Bool → (X → Bool) → (X → X) → List X → List X
rest_of found p change xs = cond found xs (at_first p change xs)

next_is : {X : Type 0} (p : X → Bool) (change : X → X) (found : Bool) (k : X) (ks : List X)
    → rest_of found p change (k ∷ ks) ≡ cond (not found && p k) (change k) k
    ∷ rest_of (found || (not found && p k)) p change ks
next_is p change true k ks = refl
next_is p change false k ks = by_case (p k)
  where
    by_case : (b : Bool) → cond b (change k ∷ ks) (k ∷ at_first p change ks) ≡ cond b (change k) k
        ∷ cond b ks (at_first p change ks)
    by_case true = refl
    by_case false = refl

-- one more item is made
pub one_more : {X : Type 0} (p : X → Bool) (change : X → X) (items : List X) (i : ℕ) (k x : X)
    (found here found' : Bool) (made made' whole : List X) → i < length items → k ≡ get_or items i k
    → here ≡ (not found && p k) → x ≡ cond here (change k) k → found' ≡ (found || here)
    → made' ≡ made ++ x ∷ []
    → made ++ rest_of found p change (drop i items) ≡ whole
    → made' ++ rest_of found' p change (drop (i + 1) items) ≡ whole
one_more {X} p change items i k x found here found' made made' whole lt is r e f m so_far =
    let rest : List X = drop (i + 1) items in
    let split : drop i items ≡ k ∷ rest = drop_more items i k lt ∙ ap (λ y. y ∷ rest) (sym is) in
    let new : x ≡ cond (not found && p k) (change k) k = e ∙ ap (λ b. cond b (change k) k) r in
    let still : found' ≡ (found || (not found && p k)) = f ∙ ap (λ b. found || b) r in
    let next : rest_of found p change (drop i items) ≡ x ∷ rest_of found' p change rest =
    ap (rest_of found p change) split ∙ next_is p change found k rest
    ∙ sym (λ j. new j ∷ rest_of (still j) p change rest) in
    ap (λ ms. ms ++ rest_of found' p change rest) m ∙ append_assoc made (x ∷ []) (rest_of found' p change rest)
    ∙ ap (λ ms. made ++ ms) (sym next) ∙ so_far

none_left : {X : Type 0} (found : Bool) (p : X → Bool) (change : X → X) → rest_of found p change [] ≡ []
none_left true p change = refl
none_left false p change = refl

-- all items are made
pub all_made : {X : Type 0} (p : X → Bool) (change : X → X) (items made whole : List X) (found : Bool)
    → made ++ rest_of found p change (drop (length items) items) ≡ whole → made ≡ whole
all_made p change items made whole found h =
    sym (append-nil made) ∙ ap (λ ms. made ++ ms)
    (sym (ap (rest_of found p change) (drop-length items) ∙ none_left found p change)) ∙ h
