-- A set whose services are reduced, child by child.
use Rattle.std.proofs.Common.{◌≡◌, ℕ, ◌+◌, ◌<◌, Bool, true, false, cond, not, ◌&&◌, ◌||◌, List, [], ◌∷◌, ◌++◌, length, drop, get_or, refl, sym, ap, ◌∙◌, append_assoc}
use Rattle.std.proofs.lemmas.List.{drop_more, append-nil}
use Rattle.std.proofs.Math.Seq.{drop-length}
use Rattle.hive_model.specs.Tree.{Tree}
use Rattle.hive_model.specs.Edit.{at_first}

-- what is still to come of keys of which the first that passes is changed
abbrev pub rest_of : Bool → (Tree → Bool) → (Tree → Tree) → List Tree → List Tree
rest_of found p change ks = cond found ks (at_first p change ks)

next_is : (p : Tree → Bool) (change : Tree → Tree) (found : Bool) (k : Tree) (ks : List Tree)
    → rest_of found p change (k ∷ ks) ≡ cond (not found && p k) (change k) k
    ∷ rest_of (found || (not found && p k)) p change ks
next_is p change true k ks = refl
next_is p change false k ks = by_case (p k)
  where
    by_case : (b : Bool) → cond b (change k ∷ ks) (k ∷ at_first p change ks) ≡ cond b (change k) k
        ∷ cond b ks (at_first p change ks)
    by_case true = refl
    by_case false = refl

-- one more key is made
pub one_more : (p : Tree → Bool) (change : Tree → Tree) (keys : List Tree) (i : ℕ) (k x : Tree)
    (found reduces found' : Bool) (made made' whole : List Tree) → i < length keys → k ≡ get_or keys i k
    → reduces ≡ (not found && p k) → x ≡ cond reduces (change k) k → found' ≡ (found || reduces)
    → made' ≡ made ++ x ∷ []
    → made ++ rest_of found p change (drop i keys) ≡ whole
    → made' ++ rest_of found' p change (drop (i + 1) keys) ≡ whole
one_more p change keys i k x found reduces found' made made' whole lt is r e f m so_far =
    let rest : List Tree = drop (i + 1) keys in
    let split : drop i keys ≡ k ∷ rest = drop_more keys i k lt ∙ ap (λ y. y ∷ rest) (sym is) in
    let new : x ≡ cond (not found && p k) (change k) k = e ∙ ap (λ b. cond b (change k) k) r in
    let still : found' ≡ (found || (not found && p k)) = f ∙ ap (λ b. found || b) r in
    let next : rest_of found p change (drop i keys) ≡ x ∷ rest_of found' p change rest =
    ap (rest_of found p change) split ∙ next_is p change found k rest
    ∙ sym (λ j. new j ∷ rest_of (still j) p change rest) in
    ap (λ ms. ms ++ rest_of found' p change rest) m ∙ append_assoc made (x ∷ []) (rest_of found' p change rest)
    ∙ ap (λ ms. made ++ ms) (sym next) ∙ so_far

none_left : (found : Bool) (p : Tree → Bool) (change : Tree → Tree) → rest_of found p change [] ≡ []
none_left true p change = refl
none_left false p change = refl

-- all keys are made
pub all_made : (p : Tree → Bool) (change : Tree → Tree) (keys made whole : List Tree) (found : Bool)
    → made ++ rest_of found p change (drop (length keys) keys) ≡ whole → made ≡ whole
all_made p change keys made whole found h =
    sym (append-nil made) ∙ ap (λ ms. made ++ ms)
    (sym (ap (rest_of found p change) (drop-length keys) ∙ none_left found p change)) ∙ h
