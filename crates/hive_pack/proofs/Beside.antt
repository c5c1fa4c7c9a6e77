-- In packed cells each cell is used once: uses come in rising order, but for the descriptor of the key above, which
-- is beside.
use Rattle.std.proofs.Common.{◌≡◌, ◌≤◌, ◌<◌, ◌⊎◌, inl, inr, ℕ, Bool, true, false, eqb, List, [], ◌∷◌, ◌++◌, Result, Ok, refl, sym, subst, append_assoc, arith}
use Rattle.std.specs.Prelude.{not, ◌&&◌}
use Rattle.std.specs.List.{list_any, AllByRecursion}
use Rattle.std.proofs.lemmas.Bool.{ne_eqb}
use Rattle.std.proofs.lemmas.List.{append-nil}
use Rattle.nt_bytes.specs.declared.fault.HiveFaultKind.{HiveFaultKind}
use Rattle.hive_model.specs.Bins.{Cells}
use Rattle.std.proofs.Common.{Option, None}
use Rattle.hive_model.specs.Walk.{reading, found, below_of, use_as, Check, uses, tests, clash}
use Rattle.hive_model.proofs.UsedOnce.{OnceBehind}
use Rattle.std.proofs.lemmas.Map.Views.{exact_unsigned_eq}

-- a place before a range, or after it
abbrev pub Outside : ℕ → ℕ → ℕ → Type 0
Outside s lo hi = (s < lo) ⊎ (hi ≤ s)

-- uses so far: each is outside a range, and of the cell at s, if that is before a bound, only as security
abbrev pub CleanCheck : ℕ → ℕ → ℕ → ℕ → Check → Type 0
CleanCheck most lo hi s (tests at k) = Unit {0}
CleanCheck most lo hi s (uses at b) = Outside at lo hi × (at ≡ s → s < most → b ≡ true)

abbrev pub Clean : ℕ → ℕ → ℕ → ℕ → List Check → Type 0
Clean most lo hi s cs = AllByRecursion (CleanCheck most lo hi s) cs

-- uses in a range, or of the descriptor at s, which is before a bound
abbrev pub WithinCheck : ℕ → ℕ → ℕ → ℕ → Check → Type 0
WithinCheck most lo hi s (tests at k) = Unit {0}
WithinCheck most lo hi s (uses at b) = ((lo ≤ at) × (at < hi)) ⊎ ((b ≡ true) × (at ≡ s) × (s < most))

abbrev pub Within : ℕ → ℕ → ℕ → ℕ → List Check → Type 0
Within most lo hi s cs = AllByRecursion (WithinCheck most lo hi s) cs

pub all_append : (P : Check → Type 0) (a b : List Check) → AllByRecursion P a → AllByRecursion P b
    → AllByRecursion P (a ++ b)
all_append P [] b p q = q
all_append P (c ∷ cs) b p q = (p.0, all_append P cs b p.1 q)

within_wider : (most lo hi lo' hi' s : ℕ) (cs : List Check) → lo' ≤ lo → hi ≤ hi' → Within most lo hi s cs
    → Within most lo' hi' s cs
within_wider most lo hi lo' hi' s [] l h w = tt
within_wider most lo hi lo' hi' s (tests at b ∷ cs) l h w = (tt, within_wider most lo hi lo' hi' s cs l h w.1)
within_wider most lo hi lo' hi' s (uses at b ∷ cs) l h w = (go w.0, within_wider most lo hi lo' hi' s cs l h w.1)
  where
    go : WithinCheck most lo hi s (uses at b) → WithinCheck most lo' hi' s (uses at b)
    go (inl p) = inl (omega (arith, p.0), omega (arith, p.1))
    go (inr p) = inr p

-- what the children use, under the key's own descriptor, lies in the key's own range
within_own : (most lo hi lo' hi' s s' : ℕ) (cs : List Check) → lo' ≤ lo → hi ≤ hi' → lo' ≤ s' → s' < hi'
    → Within most lo hi s' cs
    → Within most lo' hi' s cs
within_own most lo hi lo' hi' s s' [] l h k m w = tt
within_own most lo hi lo' hi' s s' (tests at b ∷ cs) l h k m w = (tt, within_own most lo hi lo' hi' s s' cs l h k m w.1)
within_own most lo hi lo' hi' s s' (uses at b ∷ cs) l h k m w =
    (go w.0, within_own most lo hi lo' hi' s s' cs l h k m w.1)
  where
    go : WithinCheck most lo hi s' (uses at b) → WithinCheck most lo' hi' s (uses at b)
    go (inl p) = inl (omega (arith, p.0), omega (arith, p.1))
    go (inr p) = inl (omega (arith, p.1), omega (arith, p.1))

-- without a descriptor all is in the range
within_none : (most lo hi s d : ℕ) (cs : List Check) → most ≤ d → Within most lo hi d cs → Within most lo hi s cs
within_none most lo hi s d [] l w = tt
within_none most lo hi s d (tests at b ∷ cs) l w = (tt, within_none most lo hi s d cs l w.1)
within_none most lo hi s d (uses at b ∷ cs) l w = (go w.0, within_none most lo hi s d cs l w.1)
  where
    go : WithinCheck most lo hi d (uses at b) → WithinCheck most lo hi s (uses at b)
    go (inl p) = inl p
    go (inr p) = absurd (omega (arith, p.2))

-- in a part of the range
clean_in : (most lo hi lo' hi' s : ℕ) (cs : List Check) → lo ≤ lo' → hi' ≤ hi → Clean most lo hi s cs
    → Clean most lo' hi' s cs
clean_in most lo hi lo' hi' s [] l h c = tt
clean_in most lo hi lo' hi' s (tests at k ∷ cs) l h c = (tt, clean_in most lo hi lo' hi' s cs l h c.1)
clean_in most lo hi lo' hi' s (uses at b ∷ cs) l h c = ((go c.0.0, c.0.1), clean_in most lo hi lo' hi' s cs l h c.1)
  where
    go : Outside at lo hi → Outside at lo' hi'
    go (inl p) = inl (omega arith)
    go (inr p) = inr (omega arith)

inside_no : (at lo hi s : ℕ) → Outside at lo hi → lo ≤ s → s < hi → at ≡ s → ⊥
inside_no at lo hi s (inl p) l h e = omega arith
inside_no at lo hi s (inr p) l h e = omega arith

-- a new descriptor, in the range
clean_new : (most lo hi s s' : ℕ) (cs : List Check) → lo ≤ s' → s' < hi → Clean most lo hi s cs → Clean most lo hi s' cs
clean_new most lo hi s s' [] l h c = tt
clean_new most lo hi s s' (tests at k ∷ cs) l h c = (tt, clean_new most lo hi s s' cs l h c.1)
clean_new most lo hi s s' (uses at b ∷ cs) l h c =
    ((c.0.0, λ e lt. absurd (inside_no at lo hi s' c.0.0 l h e)), clean_new most lo hi s s' cs l h c.1)

-- no descriptor
clean_none : (most lo hi s d : ℕ) (cs : List Check) → most ≤ d → Clean most lo hi s cs → Clean most lo hi d cs
clean_none most lo hi s d [] l c = tt
clean_none most lo hi s d (tests at k ∷ cs) l c = (tt, clean_none most lo hi s d cs l c.1)
clean_none most lo hi s d (uses at b ∷ cs) l c =
    ((c.0.0, λ e lt. absurd (omega arith)), clean_none most lo hi s d cs l c.1)

-- what is used in a range is clean for the one after it
clean_within : (most lo mid hi s : ℕ) (cs : List Check) → Outside s lo hi → lo ≤ mid → mid ≤ hi
    → Within most lo mid s cs
    → Clean most mid hi s cs
clean_within most lo mid hi s [] o l h w = tt
clean_within most lo mid hi s (tests at k ∷ cs) o l h w = (tt, clean_within most lo mid hi s cs o l h w.1)
clean_within most lo mid hi s (uses at b ∷ cs) o l h w = (go o w.0, clean_within most lo mid hi s cs o l h w.1)
  where
    go : Outside s lo hi → WithinCheck most lo mid s (uses at b) → CleanCheck most mid hi s (uses at b)
    go o (inl p) = (inl p.1, λ e lt. absurd (inside_no s lo hi at o p.0 (omega (arith, p.1)) (sym e)))
    go (inl q) (inr p) = (inl (omega (arith, p.1)), λ e lt. p.0)
    go (inr q) (inr p) = (inr (omega (arith, p.1)), λ e lt. p.0)

unused : (most lo hi s at : ℕ) (security : Bool) (before : List Check) → lo ≤ at → at < hi → Clean most lo hi s before
    → list_any (clash at security) before ≡ false
unused most lo hi s at security [] l h c = refl
unused most lo hi s at security (tests a k ∷ cs) l h c = unused most lo hi s at security cs l h c.1
unused most lo hi s at security (uses a b ∷ cs) l h c =
    let e : eqb at a ≡ false = ne_eqb at a (λ z. inside_no a lo hi at c.0.0 l h (sym z)) in
    rw e (unused most lo hi s at security cs l h c.1)

kept_both : (s a : ℕ) (b e : Bool) → eqb s a ≡ e → (a ≡ s → b ≡ true) → (e && not b) ≡ false
kept_both s a b true q h = let t : b ≡ true = h (sym (exact_unsigned_eq s a q)) in rw t refl
kept_both s a b false q h = refl

one : (s a : ℕ) (b : Bool) (h : a ≡ s → b ≡ true) (cs : List Check) → list_any (clash s true) cs ≡ false
    → list_any (clash s true) (uses a b ∷ cs) ≡ false
one s a b h cs r = rw (kept_both s a b (eqb s a) refl h) r

shared : (most lo hi s : ℕ) (before : List Check) → s < most → Clean most lo hi s before
    → list_any (clash s true) before ≡ false
shared most lo hi s [] l c = refl
shared most lo hi s (tests a k ∷ cs) l c = shared most lo hi s cs l c.1
shared most lo hi s (uses a b ∷ cs) l c = one s a b (λ e. c.0.1 e l) cs (shared most lo hi s cs l c.1)

once_append : (before a b : List Check) → OnceBehind before a → OnceBehind (before ++ a) b → OnceBehind before (a ++ b)
once_append before [] b p q = subst (λ (l : List Check). OnceBehind l b) (append-nil before) q
once_append before (tests at k ∷ cs) b p q =
    once_append (before ++ tests at k ∷ []) cs b p
    (subst (λ (l : List Check). OnceBehind l b) (sym (append_assoc before (tests at k ∷ []) cs)) q)
once_append before (uses at k ∷ cs) b p q = (
  p.0,
  once_append (before ++ uses at k ∷ []) cs b p.1
      (subst (λ (l : List Check). OnceBehind l b) (sym (append_assoc before (uses at k ∷ []) cs)) q),
)

-- ---- a stretch of checks

-- Checks whose uses lie in a range, or are of the descriptor beside it, which is before a bound, and which clash with
-- nothing outside.
pub record Good (most lo hi s : ℕ) (cs : List Check) : Type 0 where
  pub within : Within most lo hi s cs
  pub once : (before : List Check) → Clean most lo hi s before → OnceBehind before cs

pub good_none : {most : ℕ} (lo hi s : ℕ) → Good most lo hi s []
good_none lo hi s = record { within = tt; once = λ before c. tt }

pub good_append : {most : ℕ} (lo mid hi s : ℕ) (a b : List Check) → lo ≤ mid → mid ≤ hi → Outside s lo hi
    → Good most lo mid s a
    → Good most mid hi s b → Good most lo hi s (a ++ b)
good_append {most} lo mid hi s a b l h o g k = record {
  within = all_append (WithinCheck most lo hi s) a b (within_wider most lo mid lo hi s a (omega arith) h g.within)
      (within_wider most mid hi lo hi s b l (omega arith) k.within);
  once = λ before c. once_append before a b (g.once before (clean_in most lo hi lo mid s before (omega arith) h c))
      (k.once (before ++ a) (all_append (CleanCheck most mid hi s) before a
      (clean_in most lo hi mid hi s before l (omega arith) c)
      (clean_within most lo mid hi s a o l h g.within)));
}

pub good_tests : {most : ℕ} (lo hi s at : ℕ) (kind : Option HiveFaultKind) (cs : List Check) → Good most lo hi s cs
    → Good most lo hi s (tests at kind ∷ cs)
good_tests {most} lo hi s at kind cs g = record {
  within = (tt, g.within);
  once = λ before c. g.once (before ++ tests at kind ∷ [])
      (all_append (CleanCheck most lo hi s) before (tests at kind ∷ []) c (tt, tt));
}

pub good_use : {most : ℕ} (lo mid hi s at : ℕ) (cs : List Check) → lo ≤ at → at < mid → mid ≤ hi → Outside s lo hi
    → Good most mid hi s cs → Good most lo hi s (uses at false ∷ cs)
good_use {most} lo mid hi s at cs l m h o g = record {
  within = (inl (l, omega arith), within_wider most mid hi lo hi s cs (omega arith) (omega arith) g.within);
  once = λ before c. (
    unused most lo hi s at false before l (omega arith) c,
    g.once (before ++ uses at false ∷ []) (all_append (CleanCheck most mid hi s) before (uses at false ∷ [])
        (clean_in most lo hi mid hi s before (omega arith) (omega arith) c)
        ((inl m, λ e lt. absurd (inside_no s lo hi at o l (omega arith) (sym e))), tt)),
  );
}

-- the descriptor above, once more
pub good_shared : {most : ℕ} (lo hi s : ℕ) (cs : List Check) → s < most → Outside s lo hi → Good most lo hi s cs
    → Good most lo hi s (uses s true ∷ cs)
good_shared {most} lo hi s cs l o g = record {
  within = (inr (refl, refl, l), g.within);
  once = λ before c. (
    shared most lo hi s before l c,
    g.once (before ++ uses s true ∷ [])
        (all_append (CleanCheck most lo hi s) before (uses s true ∷ []) c ((o, λ e lt. refl), tt)),
  );
}

-- without a descriptor
pub good_other : {most : ℕ} (lo hi s d : ℕ) (cs : List Check) → most ≤ d → Good most lo hi d cs → Good most lo hi s cs
good_other {most} lo hi s d cs l g =
    record {
      within = within_none most lo hi s d cs l g.within;
      once = λ before c. g.once before (clean_none most lo hi s d before l c);
    }

-- a descriptor of the key's own
pub good_own : {most : ℕ} (lo mid hi s d : ℕ) (cs : List Check) → lo ≤ d → d < mid → mid ≤ hi → Good most mid hi d cs
    → Good most lo hi s (uses d true ∷ cs)
good_own {most} lo mid hi s d cs l m h g = record {
  within = (
    inl (l, omega arith),
    within_own most mid hi lo hi s d cs (omega arith) (omega arith) l (omega arith) g.within,
  );
  once = λ before c. (
    unused most lo hi s d true before l (omega arith) c,
    g.once (before ++ uses d true ∷ []) (all_append (CleanCheck most mid hi d) before (uses d true ∷ [])
        (clean_in most lo hi mid hi d before (omega arith) (omega arith)
        (clean_new most lo hi s d before l (omega arith) c))
        ((inl m, λ e lt. refl), tt)),
  );
}

-- a use of a cell in the range
pub use_only : {most : ℕ} {F : Type 0} (form : List ℕ → Result F HiveFaultKind) (cells : Cells) (lo hi s at : ℕ)
    → lo ≤ at
    → at < hi
    → Outside s lo hi → Good most lo hi s (use_as false form cells at)
use_only form cells lo hi s at l h o =
    good_use lo hi hi s at (tests at (found (reading form cells at)) ∷ []) l h (omega arith) o
    (good_tests hi hi s at (found (reading form cells at)) [] (good_none hi hi s))

-- and what is read there asks for more
pub use_then : {most : ℕ} {F : Type 0} (form : List ℕ
    → Result F HiveFaultKind) (cells : Cells) (lo mid hi s at : ℕ) (x : F)
    (below : F → List Check) → reading form cells at ≡ Ok x → lo ≤ at → at < mid → mid ≤ hi → Outside s lo hi
    → Good most mid hi s (below x)
    → Good most lo hi s (use_as false form cells at ++ below_of (reading form cells at) below)
use_then {most} form cells lo mid hi s at x below e l m h o g =
    subst (λ (r : Result _ HiveFaultKind). Good most lo hi s (uses at false ∷ tests at (found r) ∷ below_of r below))
    (sym e)
    (good_use lo mid hi s at (tests at None ∷ below x) l m h o (good_tests mid hi s at None (below x) g))
