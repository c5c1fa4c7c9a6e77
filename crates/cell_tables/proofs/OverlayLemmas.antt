-- Old bytes by the pages that were kept of them.
use Rattle.std.proofs.Common.{◌≡◌, ◌<◌, ◌≤◌, ◌+◌, ◌-◌, ◌*◌, inl, inr, ℕ, zero, suc, Bool, true, false, List, [], ◌∷◌, ◌++◌, length, take, drop, replicate, refl, sym, ◌∙◌, ap, arith, length-take, length-drop, length-append, append_assoc, take-append-drop}
use Rattle.std.specs.Prelude.{nat_lt}
use Rattle.std.proofs.Math.Seq.{take-length, drop-append-add}
use Rattle.std.proofs.lemmas.List.{drop-drop, drop-take, take-take, take-append-le, drop-append-le}
use Rattle.std.proofs.lemmas.Bool.{cases_lt, cases_eq, ltb-true, ltb-false}
use Rattle.cell_tables.specs.saved_pages.Overlay.{page_at, kept_at, with_kept, page_or, before, IsCovered}

-- ---- pages

pub page_next : (k : ℕ) (xs : List ℕ) → page_at k (drop 4096 xs) ≡ page_at (suc k) xs
page_next k xs =
    let e : 4096 + 4096 * k ≡ 4096 * suc k = omega arith in
    ap (take 4096) (drop-drop (4096 * k) 4096 xs ∙ ap (λ (n : ℕ). drop n xs) e)

pub page_long : (k : ℕ) (xs : List ℕ) → 4096 * k + 4096 ≤ length xs → length (page_at k xs) ≡ 4096
page_long k xs le = omega (arith, length-take 4096 (drop (4096 * k) xs), length-drop (4096 * k) xs)

pub all_of : (n : ℕ) (a b : List ℕ) → length a ≡ n → take n (a ++ b) ≡ a
all_of n a b e =
    take-append-le n a b (omega (arith, e)) ∙ ap (λ (k : ℕ). take k a) (sym e) ∙ take-length a

pub none_of : (n : ℕ) (a b : List ℕ) → length a ≡ n → drop n (a ++ b) ≡ b
none_of n a b e =
    let z : n ≡ length a + 0 = omega (arith, e) in
    ap (λ (k : ℕ). drop k (a ++ b)) z ∙ drop-append-add a b 0

-- ---- what was kept

pub with_length : (ps : List (List ℕ)) (k : ℕ) (q : List ℕ) → length (with_kept ps k q) ≡ length ps
with_length [] k q = refl
with_length (p ∷ ps) zero q = refl
with_length (p ∷ ps) (suc k) q = ap suc (with_length ps k q)

pub kept_with : (ps : List (List ℕ)) (k : ℕ) (q : List ℕ) → k < length ps → kept_at (with_kept ps k q) k ≡ q
kept_with [] k q lt = absurd (omega arith)
kept_with (p ∷ ps) zero q lt = refl
kept_with (p ∷ ps) (suc k) q lt = kept_with ps k q (omega arith)

pub with_stays : (ps : List (List ℕ)) (k : ℕ) (q : List ℕ) → kept_at ps k ≡ [] → (j : ℕ)
    → kept_at (with_kept ps k q) j ≡ [] → kept_at ps j ≡ []
with_stays [] k q e j f = f
with_stays (p ∷ ps) zero q e zero f = e
with_stays (p ∷ ps) zero q e (suc j) f = f
with_stays (p ∷ ps) (suc k) q e zero f = f
with_stays (p ∷ ps) (suc k) q e (suc j) f = with_stays ps k q e j f

pub with_others : (ps : List (List ℕ)) (k : ℕ) (q : List ℕ) (j : ℕ) → (j ≡ k → ⊥)
    → kept_at (with_kept ps k q) j ≡ kept_at ps j
with_others [] k q j other = refl
with_others (p ∷ ps) zero q zero other = absurd (other refl)
with_others (p ∷ ps) zero q (suc j) other = refl
with_others (p ∷ ps) (suc k) q zero other = refl
with_others (p ∷ ps) (suc k) q (suc j) other = with_others ps k q j (λ e. other (ap suc e))

or_self : (q : List ℕ) → page_or q q ≡ q
or_self [] = refl
or_self (x ∷ xs) = refl

-- ---- the bytes as they were

-- only the pages count of which nothing was kept
pub before_same : (ps : List (List ℕ)) (xs ys : List ℕ)
    → ((k : ℕ) → k < length ps → kept_at ps k ≡ [] → page_at k xs ≡ page_at k ys) → before ps xs ≡ before ps ys
before_same [] xs ys same = refl
before_same (p ∷ ps) xs ys same =
    let first = here p (λ e. same 0 (omega arith) e) in
    let rest = before_same ps (drop 4096 xs) (drop 4096 ys)
    (λ k lt e. page_next k xs ∙ same (suc k) (omega arith) e ∙ sym (page_next k ys)) in
    λ i. first i ++ rest i
  where
    here : (p : List ℕ) → (p ≡ [] → page_at 0 xs ≡ page_at 0 ys) → page_or p (take 4096 xs) ≡ page_or p (take 4096 ys)
    here [] h = h refl
    here (x ∷ t) h = refl

-- the page that is there is kept
pub before_with : (ps : List (List ℕ)) (xs : List ℕ) (k : ℕ) → k < length ps → kept_at ps k ≡ []
    → before (with_kept ps k (page_at k xs)) xs ≡ before ps xs
before_with [] xs k lt e = refl
before_with (p ∷ ps) xs zero lt e =
    ap (λ (l : List ℕ). l ++ before ps (drop 4096 xs))
    (or_self (take 4096 xs) ∙ ap (λ (q : List ℕ). page_or q (take 4096 xs)) (sym e))
before_with (p ∷ ps) xs (suc k) lt e =
    ap (λ (q : List ℕ). page_or p (take 4096 xs) ++ before (with_kept ps k q) (drop 4096 xs)) (sym (page_next k xs))
    ∙ ap (λ (l : List ℕ). page_or p (take 4096 xs) ++ l) (before_with ps (drop 4096 xs) k (omega arith) e)

pub before_none : (n : ℕ) (xs : List ℕ) → length xs ≡ 4096 * n → before (replicate n []) xs ≡ xs
before_none zero [] e = refl
before_none zero (x ∷ xs) e = absurd (omega (arith, e))
before_none (suc n) xs e =
    ap (λ (l : List ℕ). take 4096 xs ++ l) (before_none n (drop 4096 xs) (omega (arith, length-drop 4096 xs, e)))
    ∙ take-append-drop 4096 xs

-- ---- writes

-- a page outside of what is written stays
page_left : (k at : ℕ) (part xs : List ℕ) → at + length part ≤ length xs → 4096 * k + 4096 ≤ at
    → page_at k (take at xs ++ (part ++ drop (at + length part) xs)) ≡ page_at k xs
page_left k at part xs fits le =
    let a = 4096 * k in
    let m = at - 4096 * k in
    let whole : at ≡ 4096 * k + (at - 4096 * k) = omega arith in
    let long : length (take at xs) ≡ at = omega (arith, length-take at xs) in
    ap (take 4096) (drop-append-le a (take at xs) (part ++ drop (at + length part) xs) (omega (arith, long)))
    ∙ take-append-le 4096 (drop a (take at xs)) (part ++ drop (at + length part) xs)
    (omega (arith, long, length-drop a (take at xs)))
    ∙ ap (λ (n : ℕ). take 4096 (drop a (take n xs))) whole
    ∙ ap (take 4096) (drop-take a m xs)
    ∙ take-take 4096 m (drop a xs) (omega arith)

page_right : (k at : ℕ) (part xs : List ℕ) → at + length part ≤ length xs → at + length part ≤ 4096 * k
    → page_at k (take at xs ++ (part ++ drop (at + length part) xs)) ≡ page_at k xs
page_right k at part xs fits le =
    let end = at + length part in
    let n = 4096 * k - (at + length part) in
    let long : length (take at xs ++ part) ≡ at + length part =
    omega (arith, length-append (take at xs) part, length-take at xs) in
    let place : 4096 * k ≡ length (take at xs ++ part) + (4096 * k - (at + length part)) = omega (arith, long) in
    let back : at + length part + (4096 * k - (at + length part)) ≡ 4096 * k = omega arith in
    ap (page_at k) (sym (append_assoc (take at xs) part (drop end xs)))
    ∙ ap (λ (j : ℕ). take 4096 (drop j ((take at xs ++ part) ++ drop end xs))) place
    ∙ ap (take 4096) (drop-append-add (take at xs ++ part) (drop end xs) n ∙ drop-drop n end xs ∙ ap (λ (j : ℕ). drop j xs) back)

-- a write into pages that were kept leaves the bytes as they were
pub before_put : (ps : List (List ℕ)) (xs part : List ℕ) (at : ℕ) → at + length part ≤ length xs
    → ((k : ℕ) → 4096 * k < at + length part → at < 4096 * k + 4096 → k < length ps → kept_at ps k ≡ [] → ⊥)
    → before ps (take at xs ++ (part ++ drop (at + length part) xs)) ≡ before ps xs
before_put ps xs part at fits kept =
    before_same ps (take at xs ++ (part ++ drop (at + length part) xs)) xs
    (λ k lt e. go k lt e (nat_lt (4096 * k) (at + length part)) refl (nat_lt at (4096 * k + 4096)) refl)
  where
    go : (k : ℕ) → k < length ps → kept_at ps k ≡ [] → (b : Bool) → nat_lt (4096 * k) (at + length part) ≡ b
        → (c : Bool) → nat_lt at (4096 * k + 4096) ≡ c
        → page_at k (take at xs ++ (part ++ drop (at + length part) xs)) ≡ page_at k xs
    go k lt e true l true r =
        absurd (kept k (ltb-true (4096 * k) (at + length part) l) (ltb-true at (4096 * k + 4096) r) lt e)
    go k lt e false l c r = page_right k at part xs fits (ltb-false (4096 * k) (at + length part) l)
    go k lt e true l false r = page_left k at part xs fits (ltb-false at (4096 * k + 4096) r)

-- ---- pages restored

pub some_kept : (p q : List ℕ) → p ≡ q → length p ≡ 4096 → q ≡ [] → ⊥
some_kept p q e four none = absurd (omega (arith, four, ap length (e ∙ none)))

-- the page that was kept of this number is there, and else nothing changed
pub record IsPut (ps : List (List ℕ)) (k : ℕ) (old new : List ℕ) : Type 0 where
  pub here : page_or (kept_at ps k) (page_at k new) ≡ page_at k new
  pub others : (j : ℕ) → (j ≡ k → ⊥) → page_at j new ≡ page_at j old
  pub base : before ps new ≡ before ps old

page_written : (k : ℕ) (page xs rest : List ℕ) → length page ≡ 4096 → 4096 * k ≤ length xs
    → page_at k (take (4096 * k) xs ++ (page ++ rest)) ≡ page
page_written k page xs rest four le =
    ap (take 4096) (none_of (4096 * k) (take (4096 * k) xs) (page ++ rest) (omega (arith, le, length-take (4096 * k) xs)))
    ∙ all_of 4096 page rest four

or_kept : (page now : List ℕ) → length page ≡ 4096 → page_or page now ≡ page
or_kept [] now four = absurd (omega (arith, four))
or_kept (x ∷ xs) now four = refl

pub page_put : (ps : List (List ℕ)) (k : ℕ) (page old new : List ℕ) → page ≡ kept_at ps k → length page ≡ 4096
    → 4096 * k + length page ≤ length old
    → new ≡ take (4096 * k) old ++ (page ++ drop (4096 * k + length page) old) → IsPut ps k old new
page_put ps k page old new is four fits e =
    let there : page_at k new ≡ page =
    ap (page_at k) e ∙ page_written k page old (drop (4096 * k + length page) old) four (omega (arith, fits)) in
    let apart : (j : ℕ) → (j ≡ k → ⊥) → page_at j new ≡ page_at j old =
    λ j other. ap (page_at j) e ∙ elim (cases_lt j k)
    as (λ _. page_at j (take (4096 * k) old ++ (page ++ drop (4096 * k + length page) old)) ≡ page_at j old) [
      | inl less ↦ page_left j (4096 * k) page old fits (omega (arith, less))
      | inr more ↦ page_right j (4096 * k) page old fits (omega (arith, four, after j other more))
    ] in
    record {
      here = ap (λ (q : List ℕ). page_or q (page_at k new)) (sym is) ∙ or_kept page (page_at k new) four ∙ sym there;
      others = apart;
      base = before_same ps new old (λ j lt none. apart j (λ same. some_kept page (kept_at ps j)
          (is ∙ ap (kept_at ps) (sym same)) four none));
    }
  where
    after : (j : ℕ) → (j ≡ k → ⊥) → k ≤ j → k < j
    after j other le = elim (cases_eq j k) as (λ _. k < j) [
      | inl same ↦ absurd (other same)
      | inr apart ↦ omega (arith, le, apart)
    ]

-- once all are, the bytes are as they were
pub all_put : (ps : List (List ℕ)) (xs : List ℕ) → length xs ≡ 4096 * length ps
    → ((k : ℕ) → k < length ps → page_or (kept_at ps k) (page_at k xs) ≡ page_at k xs) → before ps xs ≡ xs
all_put [] [] long there = refl
all_put [] (x ∷ xs) long there = absurd (omega (arith, long))
all_put (p ∷ ps) xs long there =
    let first = there 0 (omega arith) in
    let rest = all_put ps (drop 4096 xs) (omega (arith, long, length-drop 4096 xs))
    (λ k lt. ap (page_or (kept_at ps k)) (page_next k xs) ∙ there (suc k) (omega (arith, lt)) ∙ sym (page_next k xs)) in
    (λ i. first i ++ rest i) ∙ take-append-drop 4096 xs

-- bytes that follow the pages do not count
pub before_front : (ps : List (List ℕ)) (xs : List ℕ) (n : ℕ) → 4096 * length ps ≤ n
    → before ps (take n xs) ≡ before ps xs
before_front ps xs n le = before_same ps (take n xs) xs (λ k lt none.
    let split : n ≡ 4096 * k + (n - 4096 * k) = omega (arith, le, lt) in
    ap (λ (m : ℕ). page_at k (take m xs)) split
    ∙ ap (take 4096) (drop-take (4096 * k) (n - 4096 * k) xs)
    ∙ take-take 4096 (n - 4096 * k) (drop (4096 * k) xs) (omega (arith, le, lt)))

-- ---- bytes appended

-- bytes that are appended leave them too
pub before_more : (ps : List (List ℕ)) (xs more : List ℕ) → IsCovered ps (length xs)
    → before ps (xs ++ more) ≡ before ps xs
before_more ps xs more there =
    before_same ps (xs ++ more) xs (λ k lt e.
    let le = there k lt e in
    ap (take 4096) (drop-append-le (4096 * k) xs more (omega (arith, le)))
    ∙ take-append-le 4096 (drop (4096 * k) xs) more (omega (arith, le, length-drop (4096 * k) xs)))

-- a page that was kept is not nothing
pub kept_page_there : (ps : List (List ℕ)) (k : ℕ) (q : List ℕ) → k < length ps → length q ≡ 4096
    → kept_at (with_kept ps k q) k ≡ [] → ⊥
kept_page_there ps k q lt four none =
    absurd (omega (arith, four, ap length (sym (kept_with ps k q lt) ∙ none)))

-- a write, once the pages that it touches are kept
pub before_written : (ps qs : List (List ℕ)) (old seen part new : List ℕ) (at : ℕ) → seen ≡ old
    → new ≡ take at old ++ (part ++ drop (at + length part) old) → at + length part ≤ length old
    → before qs seen ≡ before ps seen → length qs ≡ length ps
    → ((k : ℕ) → 4096 * k < at + length part → at < 4096 * k + 4096 → k < length ps → kept_at qs k ≡ [] → ⊥)
    → before qs new ≡ before ps old
before_written ps qs old seen part new at is e fits same count kept =
    ap (before qs) e
    ∙ before_put qs old part at fits (λ k low high lt. kept k low high (omega (arith, lt, count)))
    ∙ ap (before qs) (sym is) ∙ same ∙ ap (before ps) is
