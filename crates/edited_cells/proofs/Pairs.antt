-- Each two of a list, the earlier before the later.
use Rattle.std.proofs.Common.{◌≡◌, ℕ, zero, suc, ◌<◌, List, [], ◌∷◌, ◌++◌, length, get_or, map, refl, ap, subst, inl, inr, ⊎_elim, arith}
use Rattle.std.specs.List.{All, AllPairs}
use Rattle.std.proofs.lemmas.List.Kept.{AllPairs-cons}
use Rattle.edited_cells.specs.Owned.{In}
use Rattle.edited_cells.specs.Pairs.{Pairwise}
use Rattle.edited_cells.proofs.Ins.{in_left, in_right, in_cases}

pub in_at : {X : Type 0} (xs : List X) (k : ℕ) (d : X) → k < length xs → In xs (get_or xs k d)
in_at [] k d lt = absurd (omega arith)
in_at (x ∷ xs) zero d lt = inl refl
in_at (x ∷ xs) (suc k) d lt = inr (in_at xs k d (omega arith))

pub all_in : {X : Type 0} (P : X → Type 0) (xs : List X) (x : X) → All P xs → In xs x → P x
all_in P [] x a h = absurd h
all_in P (y ∷ xs) x a (inl e) = subst P e (a 0 y (omega arith))
all_in P (y ∷ xs) x a (inr h) = all_in P xs x (λ k d within. a (suc k) d (omega arith)) h

pub all_from : {X : Type 0} (P : X → Type 0) (xs : List X) → ((x : X) → In xs x → P x) → All P xs
all_from P xs each k d within = each (get_or xs k d) (in_at xs k d within)

pub pairwise_from : {X : Type 0} (R : X → X → Type 0) (xs : List X) → AllPairs R xs → Pairwise R xs
pairwise_from R [] h = tt
pairwise_from {X} R (x ∷ xs) h = (
  λ y i. all_in (R x) xs y (λ k d within. h 0 (suc k) d (omega arith) (omega arith)) i,
  pairwise_from R xs (λ i j d lt within. h (suc i) (suc j) d (omega arith) (omega arith)),
)

pub pairwise_to : {X : Type 0} (R : X → X → Type 0) (xs : List X) → Pairwise R xs → AllPairs R xs
pairwise_to R [] h = λ i j d lt within. absurd (omega arith)
pairwise_to R (x ∷ xs) h = AllPairs-cons R x xs (all_from (R x) xs h.0) (pairwise_to R xs h.1)

-- two lists in sequence: each by itself, and the first's before the second's
pub record InParts {X : Type 0} (R : X → X → Type 0) (xs ys : List X) : Type 0 where
  pub left : Pairwise R xs
  pub right : Pairwise R ys
  pub across : (x y : X) → In xs x → In ys y → R x y

pub pairwise_parts : {X : Type 0} (R : X → X → Type 0) (xs ys : List X) → Pairwise R (xs ++ ys) → InParts R xs ys
pairwise_parts R [] ys h = record { left = tt; right = h; across = λ x y i j. absurd i }
pairwise_parts {X} R (x ∷ xs) ys h =
    let p = pairwise_parts R xs ys h.1 in
    record {
      left = (λ y i. h.0 y (in_left xs ys y i), p.left);
      right = p.right;
      across = λ z y i j. ⊎_elim (λ e. subst (λ (w : X). R w y) e (h.0 y (in_right xs ys y j))) (λ k. p.across z y k j)
          i;
    }

pub pairwise_join : {X : Type 0} (R : X → X → Type 0) (xs ys : List X) → InParts R xs ys → Pairwise R (xs ++ ys)
pairwise_join R [] ys p = p.right
pairwise_join {X} R (x ∷ xs) ys p = (
  λ y i. ⊎_elim (λ k. p.left.0 y k) (λ k. p.across x y (inl refl) k) (in_cases xs ys y i),
  pairwise_join R xs ys (record { left = p.left.1; right = p.right; across = λ z y i j. p.across z y (inr i) j }),
)

pub in_map : {X Y : Type 0} (f : X → Y) (xs : List X) (y : Y) → In (map f xs) y → (x : X) × In xs x × (f x ≡ y)
in_map f [] y h = absurd h
in_map f (x ∷ xs) y (inl e) = (x, inl refl, e)
in_map f (x ∷ xs) y (inr h) = let p = in_map f xs y h in (p.0, inr p.1, p.2)

pub in_map_from : {X Y : Type 0} (f : X → Y) (xs : List X) (x : X) → In xs x → In (map f xs) (f x)
in_map_from f [] x h = absurd h
in_map_from {X} {Y} f (w ∷ xs) x (inl e) = inl (ap f e)
in_map_from f (w ∷ xs) x (inr h) = inr (in_map_from f xs x h)

pub pairwise_map : {X Y : Type 0} (R : X → X → Type 0) (S : Y → Y → Type 0) (f : X → Y) (xs : List X)
    → ((x y : X) → In xs x → In xs y → R x y → S (f x) (f y)) → Pairwise R xs → Pairwise S (map f xs)
pairwise_map R S f [] to h = tt
pairwise_map {X} {Y} R S f (x ∷ xs) to h = (
  λ y i. let p = in_map f xs y i in subst (S (f x)) p.2 (to x p.0 (inl refl) (inr p.1) (h.0 p.0 p.1)),
  pairwise_map R S f xs (λ a b i j. to a b (inr i) (inr j)) h.1,
)

-- one of a list, with what stands before and after it
pub record IsAmong {X : Type 0} (xs : List X) (x : X) : Type 0 where
  pub before : List X
  pub behind : List X
  pub whole : xs ≡ before ++ x ∷ behind

pub among : {X : Type 0} (xs : List X) (x : X) → In xs x → IsAmong xs x
among [] x h = absurd h
among {X} (y ∷ xs) x (inl e) = record { before = []; behind = xs; whole = ap (λ (z : X). z ∷ xs) e }
among {X} (y ∷ xs) x (inr h) =
    let a = among xs x h in record
    { before = y ∷ a.before; behind = a.behind; whole = ap (λ (l : List X). y ∷ l) a.whole }
