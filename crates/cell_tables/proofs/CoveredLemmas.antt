-- Where each page of which nothing was kept is there, the old bytes have as many pages as were given, and each is known.
use Rattle.std.proofs.Common.{◌≡◌, ◌<◌, ◌≤◌, ◌*◌, inl, inr, ℕ, zero, suc, List, [], ◌∷◌, ◌++◌, length, take, drop, refl, sym, ◌∙◌, ap, arith, length-take, length-drop, length-append}
use Rattle.cell_tables.specs.saved_pages.Overlay.{page_at, kept_at, page_or, before, IsWhole, AreWhole, IsCovered}
use Rattle.cell_tables.proofs.OverlayLemmas.{page_next, all_of, none_of, before_same}

first_long : (p xs : List ℕ) → IsWhole p → (p ≡ [] → 4096 ≤ length xs) → length (page_or p (take 4096 xs)) ≡ 4096
first_long [] xs w there = let l = there (λ i. []) in omega (arith, length-take 4096 xs, l)
first_long (x ∷ t) xs (inl bad) there = absurd cc
first_long (x ∷ t) xs (inr long) there = long

later : (p : List ℕ) (ps : List (List ℕ)) (xs : List ℕ) → IsCovered (p ∷ ps) (length xs) → IsCovered ps (length (drop 4096 xs))
later p ps xs c k lt e = let l = c (suc k) (omega arith) e in omega (arith, l, length-drop 4096 xs)

pub covered_long : (ps : List (List ℕ)) (xs : List ℕ) → AreWhole ps → IsCovered ps (length xs)
    → length (before ps xs) ≡ 4096 * length ps
covered_long [] xs w c = omega arith
covered_long (p ∷ ps) xs w c =
    let first = first_long p xs (w 0) (λ e. c 0 (omega arith) e) in
    let rest = covered_long ps (drop 4096 xs) (λ k. w (suc k)) (later p ps xs c) in
    omega (arith, first, rest, length-append (page_or p (take 4096 xs)) (before ps (drop 4096 xs)))

pub covered_page : (ps : List (List ℕ)) (xs : List ℕ) (k : ℕ) → AreWhole ps → IsCovered ps (length xs) → k < length ps
    → page_at k (before ps xs) ≡ page_or (kept_at ps k) (page_at k xs)
covered_page [] xs k w c lt = absurd (omega arith)
covered_page (p ∷ ps) xs zero w c lt =
    all_of 4096 (page_or p (take 4096 xs)) (before ps (drop 4096 xs))
    (first_long p xs (w 0) (λ e. c 0 (omega arith) e))
covered_page (p ∷ ps) xs (suc k) w c lt =
    sym (page_next k (before (p ∷ ps) xs))
    ∙ ap (page_at k) (none_of 4096 (page_or p (take 4096 xs)) (before ps (drop 4096 xs))
    (first_long p xs (w 0) (λ e. c 0 (omega arith) e)))
    ∙ covered_page ps (drop 4096 xs) k (λ j. w (suc j)) (later p ps xs c) (omega arith)
    ∙ ap (page_or (kept_at ps k)) (page_next k xs)

-- once each page is kept, any bytes will do
pub all_kept : (ps : List (List ℕ)) (xs ys : List ℕ) → ((k : ℕ) → k < length ps → kept_at ps k ≡ [] → ⊥)
    → before ps xs ≡ before ps ys
all_kept ps xs ys kept = before_same ps xs ys (λ k lt e. absurd (kept k lt e))

-- what stays covered: where more is kept, where more bytes are there, and where nothing is kept of that many pages
pub covered_kept : (ps qs : List (List ℕ)) (n : ℕ) → IsCovered ps n → length qs ≡ length ps
    → ((k : ℕ) → kept_at qs k ≡ [] → kept_at ps k ≡ []) → IsCovered qs n
covered_kept ps qs n there count stays k lt e = there k (omega (arith, lt, count)) (stays k e)

pub covered_more : (ps : List (List ℕ)) (n m : ℕ) → IsCovered ps n → n ≤ m → IsCovered ps m
covered_more ps n m there le k lt e = let l = there k lt e in omega (arith, l, le)

pub covered_none : (ps : List (List ℕ)) (n m : ℕ) → length ps ≡ n → 4096 * n ≤ m → IsCovered ps m
covered_none ps n m count le k lt e = omega (arith, lt, count, le)

-- ---- pages that were kept later

-- of a page beyond them nothing is kept
pub kept_beyond : (ps : List (List ℕ)) (k : ℕ) → length ps ≤ k → kept_at ps k ≡ []
kept_beyond [] k le = refl
kept_beyond (p ∷ ps) zero le = absurd (omega (arith, le))
kept_beyond (p ∷ ps) (suc k) le = kept_beyond ps k (omega (arith, le))

pub or_nothing : (p : List ℕ) → page_or p [] ≡ p
or_nothing [] = refl
or_nothing (x ∷ xs) = refl

neither : (p q : List ℕ) → page_or p q ≡ [] → (p ≡ []) × (q ≡ [])
neither [] q e = (refl, e)
neither (x ∷ xs) q e = absurd cc

twice : (p q xs ys : List ℕ) → (p ≡ [] → page_or q xs ≡ ys) → page_or (page_or p q) xs ≡ page_or p ys
twice [] q xs ys there = there refl
twice (x ∷ p) q xs ys there = refl

-- the old bytes are the same where each of their pages is
same_pages : (qs ps : List (List ℕ)) (xs ys : List ℕ) → length qs ≡ length ps
    → ((k : ℕ) → k < length ps → page_or (kept_at qs k) (page_at k xs) ≡ page_or (kept_at ps k) (page_at k ys))
    → before qs xs ≡ before ps ys
same_pages [] [] xs ys count same = refl
same_pages [] (p ∷ ps) xs ys count same = absurd (omega (arith, count))
same_pages (q ∷ qs) [] xs ys count same = absurd (omega (arith, count))
same_pages (q ∷ qs) (p ∷ ps) xs ys count same =
    let first = same 0 (omega arith) in
    let rest = same_pages qs ps (drop 4096 xs) (drop 4096 ys) (omega (arith, count)) (λ k lt.
    ap (page_or (kept_at qs k)) (page_next k xs) ∙ same (suc k) (omega (arith, lt))
    ∙ ap (page_or (kept_at ps k)) (sym (page_next k ys))) in
    λ i. first i ++ rest i

-- each page is kept that was kept before or later
abbrev pub AreMerged : List (List ℕ) → List (List ℕ) → List (List ℕ) → Type 0
AreMerged ps later qs = (k : ℕ) → k < length ps → kept_at qs k ≡ page_or (kept_at ps k) (kept_at later k)

pub before_merged : (ps later qs : List (List ℕ)) (xs : List ℕ) → length qs ≡ length ps → AreMerged ps later qs → AreWhole later
    → IsCovered later (length xs) → IsCovered ps (length (before later xs)) → before qs xs ≡ before ps (before later xs)
before_merged ps later qs xs count merged whole there first =
    let long = covered_long later xs whole there in
    same_pages qs ps xs (before later xs) count (λ k lt.
    ap (λ (q : List ℕ). page_or q (page_at k xs)) (merged k lt)
    ∙ twice (kept_at ps k) (kept_at later k) (page_at k xs) (page_at k (before later xs)) (λ none.
    sym (covered_page later xs k whole there (omega (arith, first k lt none, long)))))

pub covered_merged : (ps later qs : List (List ℕ)) (xs : List ℕ) → length qs ≡ length ps → AreMerged ps later qs → AreWhole later
    → IsCovered later (length xs) → IsCovered ps (length (before later xs)) → IsCovered qs (length xs)
covered_merged ps later qs xs count merged whole there first k lt none =
    let both = neither (kept_at ps k) (kept_at later k) (sym (merged k (omega (arith, lt, count))) ∙ none) in
    there k (omega (arith, first k (omega (arith, lt, count)) both.0, covered_long later xs whole there)) both.1
