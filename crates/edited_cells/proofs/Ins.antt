-- Elements of lists, and uses among checks.
use Rattle.std.proofs.Common.{◌≡◌, ℕ, zero, suc, ◌<◌, Bool, true, false, cond, List, [], ◌∷◌, ◌++◌, length, refl, sym, ◌∙◌, ap, subst, inl, inr, ⊎_elim, Option, Some, Result, Ok, Err, arith}
use Rattle.std.specs.Prelude.{◌⊎◌, Contains, find, slice_index_or, flat_map}
use Rattle.nt_bytes.specs.declared.fault.HiveFaultKind.{HiveFaultKind}
use Rattle.hive_model.specs.Bins.{Cells}
use Rattle.hive_model.specs.Walk.{Check, uses, tests, reading, found, use_as, below_of}
use Rattle.hive_model.specs.Footprint.{used_in}
use Rattle.edited_cells.specs.Owned.{In}

pub in_left : {X : Type 0} (xs ys : List X) (x : X) → In xs x → In (xs ++ ys) x
in_left [] ys x h = absurd h
in_left (y ∷ xs) ys x (inl e) = inl e
in_left (y ∷ xs) ys x (inr h) = inr (in_left xs ys x h)

pub in_right : {X : Type 0} (xs ys : List X) (x : X) → In ys x → In (xs ++ ys) x
in_right [] ys x h = h
in_right (y ∷ xs) ys x h = inr (in_right xs ys x h)

pub in_cases : {X : Type 0} (xs ys : List X) (x : X) → In (xs ++ ys) x → In xs x ⊎ In ys x
in_cases [] ys x h = inr h
in_cases (y ∷ xs) ys x (inl e) = inl (inl e)
in_cases (y ∷ xs) ys x (inr h) = ⊎_elim (λ l. inl (inr l)) (λ r. inr r) (in_cases xs ys x h)

pub in_from : {X : Type 0} (xs : List X) (x : X) → Contains xs x → In xs x
in_from [] x h = absurd (let lt : h.0 < 0 = h.1 in omega arith)
in_from {X} (y ∷ ys) x h = go (in_from ys x) h.0 h.1 h.2
  where
    go : (Contains ys x → In ys x) → (k : ℕ) → k < length (y ∷ ys) → slice_index_or (y ∷ ys) k x ≡ x → In (y ∷ ys) x
    go deep zero lt e = inl e
    go deep (suc k) lt e = inr (deep (k, omega arith, e))

pub contains_from : {X : Type 0} (xs : List X) (x : X) → In xs x → Contains xs x
contains_from [] x h = absurd h
contains_from (y ∷ ys) x (inl e) = (0, omega arith, e)
contains_from (y ∷ ys) x (inr h) = let r = contains_from ys x h in (suc r.0, omega arith, r.2)

-- what is found is one of these, and passes
pub found_in : {X : Type 0} (f : X → Bool) (xs : List X) (y : X) → find f xs ≡ Some y → In xs y × (f y ≡ true)
found_in f [] y e = absurd cc
found_in {X} f (x ∷ xs) y e = go (found_in f xs y) (f x) refl e
  where
    go : (find f xs ≡ Some y → In xs y × (f y ≡ true)) → (b : Bool) → f x ≡ b → cond b (Some x) (find f xs) ≡ Some y
        → In (x ∷ xs) y × (f y ≡ true)
    go deep true is same = let s : x ≡ y = cc in (inl s, ap f (sym s) ∙ is)
    go deep false is same = let r = deep same in (inr r.0, r.1)

-- the only one that passes is found
pub found_one : {X : Type 0} (f : X → Bool) (xs : List X) (y : X) → In xs y → f y ≡ true
    → ((z : X) → In xs z → f z ≡ true → z ≡ y) → find f xs ≡ Some y
found_one f [] y h is one = absurd h
found_one {X} f (x ∷ xs) y h is one = go (λ i. found_one f xs y i is (λ z j t. one z (inr j) t)) (f x) refl h
  where
    go : (In xs y → find f xs ≡ Some y) → (b : Bool) → f x ≡ b → In (x ∷ xs) y → cond b (Some x) (find f xs) ≡ Some y
    go deep true e h = ap (λ (z : X). Some z) (one x (inl refl) e)
    go deep false e (inl same) = absurd (let t : f x ≡ true = ap f same ∙ is in cc)
    go deep false e (inr h) = deep h

pub in_flat : {X Y : Type 0} (f : X → List Y) (xs : List X) (y : Y) → In (flat_map f xs) y
    → (x : X) × In xs x × In (f x) y
in_flat f [] y h = absurd h
in_flat f (x ∷ xs) y h =
    ⊎_elim (λ l. (x, inl refl, l)) (λ r. let p = in_flat f xs y r in (p.0, inr p.1, p.2))
    (in_cases (f x) (flat_map f xs) y h)

pub in_flat_from : {X Y : Type 0} (f : X → List Y) (xs : List X) (y : Y) (x : X) → In xs x → In (f x) y
    → In (flat_map f xs) y
in_flat_from f [] y x h i = absurd h
in_flat_from {X} {Y} f (w ∷ xs) y x (inl e) i =
    in_left (f w) (flat_map f xs) y (subst (λ (z : X). In (f z) y) (sym e) i)
in_flat_from f (w ∷ xs) y x (inr h) i = in_right (f w) (flat_map f xs) y (in_flat_from f xs y x h i)

-- ---- uses

pub used_to : (cs : List Check) (o : ℕ) → In (used_in cs) o → (s : Bool) × In cs (uses o s)
used_to [] o h = absurd h
used_to (uses at s ∷ cs) o (inl e) = (s, inl (ap (λ a. uses a s) e))
used_to (uses at s ∷ cs) o (inr h) = let r = used_to cs o h in (r.0, inr r.1)
used_to (tests at k ∷ cs) o h = let r = used_to cs o h in (r.0, inr r.1)

pub same_use : (a o : ℕ) (b s : Bool) → uses a b ≡ uses o s → (a ≡ o) × (b ≡ s)
same_use a o b s e = (cc, cc)

pub no_test : (a o : ℕ) (k : Option HiveFaultKind) (s : Bool) → tests a k ≡ uses o s → ⊥
no_test a o k s e = cc

pub used_from : (cs : List Check) (o : ℕ) (s : Bool) → In cs (uses o s) → In (used_in cs) o
used_from [] o s h = absurd h
used_from (uses at b ∷ cs) o s (inl e) = inl (same_use at o b s e).0
used_from (uses at b ∷ cs) o s (inr h) = inr (used_from cs o s h)
used_from (tests at k ∷ cs) o s (inl e) = absurd (no_test at o k s e)
used_from (tests at k ∷ cs) o s (inr h) = used_from cs o s h

pub use_one : {F : Type 0} (b : Bool) (form : List ℕ → Result F HiveFaultKind) (cells : Cells) (at o : ℕ) (s : Bool)
    → In (use_as b form cells at) (uses o s) → (at ≡ o) × (b ≡ s)
use_one b form cells at o s (inl e) = same_use at o b s e
use_one b form cells at o s (inr (inl e)) = absurd (no_test at o (found (reading form cells at)) s e)
use_one b form cells at o s (inr (inr h)) = absurd h

-- below what was read
pub in_read : {F : Type 0} (r : Result F HiveFaultKind) (below : F → List Check) (c : Check) → In (below_of r below) c
    → (x : F) × (r ≡ Ok x) × In (below x) c
in_read (Ok x) below c h = (x, refl, h)
in_read (Err k) below c h = absurd h
