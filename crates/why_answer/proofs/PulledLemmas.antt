-- Looking at one entry after the other, and going from one to the one that pulls it.
use Rattle.std.proofs.Common.{◌≡◌, ℕ, suc, ◌+◌, ◌<◌, List, [], ◌∷◌, ◌++◌, length, take, get_or, append_assoc, Option, Some, None, refl, sym, ap, ◌∙◌}
use Rattle.std.specs.Prelude.{slice_get}
use Rattle.std.specs.Option.{option_map_or, option_to_list}
use Rattle.std.specs.List.{filter_map}
use Rattle.std.proofs.lemmas.List.{append-nil}
use Rattle.why_needs.proofs.TakeLemmas.{taken_at}
use Rattle.why_answer.specs.why_pulled.Layers.{Found, widened, next_layer, layered}
use Rattle.why_answer.specs.why_pulled.Pulled.{pullers}

stepped : (next : ℕ → List ℕ) (n k at : ℕ) (f : Found) (o : Option ℕ) → n ≡ suc k → slice_get f.places at ≡ o
    → layered next n at f ≡ option_map_or (λ p. layered next k (at + 1) (widened (next p) (next_layer f at) f)) o f
unfolding layered
stepped next n k at f o count is =
    ap (λ (x : ℕ). layered next x at f) count
    ∙ ap (λ (x : Option ℕ). option_map_or (λ p. layered next k (at + 1) (widened (next p) (next_layer f at) f)) x f) is

-- one was looked at
pub layered_more : (next : ℕ → List ℕ) (n k at p : ℕ) (f new : Found) → n ≡ suc k → Some p ≡ slice_get f.places at
    → new ≡ widened (next p) (next_layer f at) f → layered next k (at + 1) new ≡ layered next n at f
layered_more next n k at p f new count is put =
    ap (λ (x : Found). layered next k (at + 1) x) put ∙ sym (stepped next n k at f (Some p) count (sym is))

-- there is none any more
pub layered_over : (next : ℕ → List ℕ) (n k at : ℕ) (f : Found) → n ≡ suc k → None ≡ slice_get f.places at → f ≡ layered next n at f
layered_over next n k at f count is = sym (stepped next n k at f None count (sym is))

pub layered_none : (next : ℕ → List ℕ) (at : ℕ) (f : Found) → f ≡ layered next 0 at f
unfolding layered
layered_none next at f = refl

-- ---- who pulls whom

pulled : (pull : ℕ → Option ℕ) (n k q : ℕ) (o : Option ℕ) → n ≡ suc k → pull q ≡ o
    → pullers pull n q ≡ option_map_or (λ p. p ∷ pullers pull k p) o []
unfolding pullers
pulled pull n k q o count is =
    ap (λ (x : ℕ). pullers pull x q) count ∙ ap (λ (x : Option ℕ). option_map_or (λ p. p ∷ pullers pull k p) x []) is

pub pulled_more : (pull : ℕ → Option ℕ) (n k q p : ℕ) (out new total : List ℕ) → n ≡ suc k → Some p ≡ pull q → new ≡ out ++ p ∷ []
    → out ++ pullers pull n q ≡ total → new ++ pullers pull k p ≡ total
pulled_more pull n k q p out new total count is put so_far =
    ap (λ (x : List ℕ). x ++ pullers pull k p) put ∙ append_assoc out (p ∷ []) (pullers pull k p)
    ∙ ap (λ (x : List ℕ). out ++ x) (sym (pulled pull n k q (Some p) count (sym is))) ∙ so_far

pub pulled_over : (pull : ℕ → Option ℕ) (n k q : ℕ) (out total : List ℕ) → n ≡ suc k → None ≡ pull q → out ++ pullers pull n q ≡ total
    → out ≡ total
pulled_over pull n k q out total count is so_far =
    sym (append-nil out) ∙ ap (λ (x : List ℕ). out ++ x) (sym (pulled pull n k q None count (sym is))) ∙ so_far

pub pulled_none : (pull : ℕ → Option ℕ) (q : ℕ) (out total : List ℕ) → out ++ pullers pull 0 q ≡ total → out ≡ total
unfolding pullers
pulled_none pull q out total so_far = sym (append-nil out) ∙ so_far

-- ---- lines

-- one more item after what was there before
pub pushed_more : {A X : Type 0} (h : A → Option X) (items : List A) (i : ℕ) (d : A) (before out new : List X) → i < length items
    → out ≡ before ++ filter_map h (take i items) → new ≡ out ++ option_to_list (h (get_or items i d))
    → new ≡ before ++ filter_map h (take (i + 1) items)
pushed_more {A} {X} h items i d before out new lt so_far more =
    let mid : List X = filter_map h (take i items) in
    let add : List X = option_to_list (h (get_or items i d)) in
    more ∙ ap (λ (x : List X). x ++ add) so_far ∙ append_assoc before mid add
    ∙ ap (λ (x : List X). before ++ x) (taken_at h items i d mid (mid ++ add) lt refl refl)
