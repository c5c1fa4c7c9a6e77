-- Pages that were kept, in memory.
use Rattle.std.proofs.Common.{◌≡◌, ◌<◌, ◌≤◌, ◌+◌, ◌-◌, ◌*◌, inl, inr, ℕ, zero, suc, List, [], ◌∷◌, ◌++◌, length, take, drop, get_or, set, replicate, refl, sym, ◌∙◌, ap, subst, arith, length-append, length-take, length-drop}
use Rattle.std.proofs.Math.Seq.{take-length, drop-append-add}
use Rattle.std.proofs.lemmas.List.{take_all, take-append-le, drop-append-le, length-replicate}
use Rattle.cell_tables.specs.saved_pages.Overlay.{page_at, kept_at, with_kept, IsWhole, AreWhole}
use Rattle.cell_tables.specs.saved_pages.Table.{taken, named_in, pages_in, AreNamed, IsTable}

pub kept_named : (room slots : List ℕ) (k : ℕ) → k < length slots
    → kept_at (pages_in room slots) k ≡ named_in room (get_or slots k 0)
kept_named room [] k lt = absurd (omega arith)
kept_named room (s ∷ slots) zero lt = refl
kept_named room (s ∷ slots) (suc k) lt = kept_named room slots k (omega arith)

pub named_at : (n : ℕ) (slots : List ℕ) (k : ℕ) → AreNamed n slots → get_or slots k 0 ≤ n
named_at n [] k a = omega arith
named_at n (s ∷ slots) zero a = a.0
named_at n (s ∷ slots) (suc k) a = named_at n slots k a.1

pub named_long : (n : ℕ) (room : List ℕ) (s : ℕ) → length room ≡ 4096 * n → s ≤ n → IsWhole (named_in room s)
named_long n room zero e le = inl refl
named_long n room (suc s) e le = inr (omega (arith, length-take 4096 (drop (4096 * s) room), length-drop (4096 * s) room, e))

pub all_whole : (n : ℕ) (room slots : List ℕ) → length room ≡ 4096 * n → AreNamed n slots → AreWhole (pages_in room slots)
all_whole n room [] e a k = inl refl
all_whole n room (s ∷ slots) e a zero = named_long n room s e a.0
all_whole n room (s ∷ slots) e a (suc k) = all_whole n room slots e a.1 k

pub taken_most : (slots : List ℕ) → taken slots ≤ length slots
taken_most [] = omega arith
taken_most (zero ∷ slots) = let d = taken_most slots in omega (arith, d)
taken_most (suc n ∷ slots) = let d = taken_most slots in omega (arith, d)

pub taken_less : (slots : List ℕ) (k : ℕ) → k < length slots → get_or slots k 0 ≡ 0 → taken slots < length slots
taken_less [] k lt e = absurd (omega arith)
taken_less (zero ∷ slots) zero lt e = let d = taken_most slots in omega (arith, d)
taken_less (suc n ∷ slots) zero lt e = absurd (omega (arith, e))
taken_less (zero ∷ slots) (suc k) lt e = let d = taken_less slots k (omega arith) e in omega (arith, d)
taken_less (suc n ∷ slots) (suc k) lt e = let d = taken_less slots k (omega arith) e in omega (arith, d)

taken_more : (slots : List ℕ) (k n : ℕ) → k < length slots → get_or slots k 0 ≡ 0
    → taken (set slots k (suc n)) ≡ suc (taken slots)
taken_more [] k n lt e = absurd (omega arith)
taken_more (zero ∷ slots) zero n lt e = refl
taken_more (suc m ∷ slots) zero n lt e = absurd (omega (arith, e))
taken_more (zero ∷ slots) (suc k) n lt e = taken_more slots k n (omega arith) e
taken_more (suc m ∷ slots) (suc k) n lt e = ap suc (taken_more slots k n (omega arith) e)

taken_none : (n : ℕ) → taken (replicate n 0) ≡ 0
taken_none zero = refl
taken_none (suc n) = taken_none n

named_none : (m n : ℕ) → AreNamed m (replicate n 0)
named_none m zero = tt
named_none m (suc n) = (omega arith, named_none m n)

named_wider : (m n : ℕ) (slots : List ℕ) → m ≤ n → AreNamed m slots → AreNamed n slots
named_wider m n [] le a = tt
named_wider m n (s ∷ slots) le a = (omega (arith, a.0), named_wider m n slots le a.1)

named_more : (m n : ℕ) (slots : List ℕ) (k v : ℕ) → m ≤ n → v ≤ n → AreNamed m slots → AreNamed n (set slots k v)
named_more m n [] k v le w a = tt
named_more m n (s ∷ slots) zero v le w a = (w, named_wider m n slots le a.1)
named_more m n (s ∷ slots) (suc k) v le w a = (omega (arith, a.0), named_more m n slots k v le w a.1)

-- nothing is kept
pub none_in : (room : List ℕ) (n : ℕ) → pages_in room (replicate n 0) ≡ replicate n []
none_in room zero = refl
none_in room (suc n) = ap (λ (l : List (List ℕ)). [] ∷ l) (none_in room n)

pub empty_table : (slots room : List ℕ) (n room_for : ℕ) → slots ≡ replicate n 0 → room ≡ [] → n ≤ 4096
    → length slots ≡ n → 4096 * n ≤ room_for → IsTable slots room room_for
empty_table slots room n room_for is empty few many fits =
    let none : taken slots ≡ 0 = ap taken is ∙ taken_none n in
    record {
      long = ap length empty ∙ ap (λ (k : ℕ). 4096 * k) (sym none);
      named = subst (λ (l : List ℕ). AreNamed (taken slots) l) (sym is) (named_none (taken slots) n);
      few = omega (arith, many, few);
      fits = omega (arith, many, fits);
    }

-- that many pages more
pub resized : (xs : List ℕ) (long len more : ℕ) → length xs ≡ long → len ≡ long
    → take (len + more) xs ++ replicate (len + more - long) 0 ≡ xs ++ replicate more 0
resized xs long len more is same =
    ap (λ (ys : List ℕ). ys ++ replicate (len + more - long) 0) (take_all (len + more) xs (omega arith))
    ∙ ap (λ (n : ℕ). xs ++ replicate {A = ℕ} n 0) (omega arith)

pub pages_wider : (room slots : List ℕ) (n : ℕ) → pages_in room (slots ++ replicate n 0) ≡ pages_in room slots ++ replicate n []
pages_wider room [] n = none_in room n
pages_wider room (s ∷ slots) n = ap (λ (l : List (List ℕ)). named_in room s ∷ l) (pages_wider room slots n)

taken_wider : (slots : List ℕ) (n : ℕ) → taken (slots ++ replicate n 0) ≡ taken slots
taken_wider [] n = taken_none n
taken_wider (zero ∷ slots) n = taken_wider slots n
taken_wider (suc k ∷ slots) n = ap suc (taken_wider slots n)

named_longer : (m : ℕ) (slots : List ℕ) (n : ℕ) → AreNamed m slots → AreNamed m (slots ++ replicate n 0)
named_longer m [] n a = named_none m n
named_longer m (s ∷ slots) n a = (a.0, named_longer m slots n a.1)

pub wider_table : (slots room : List ℕ) (n room_for room_now : ℕ) → IsTable slots room room_for
    → length slots + n ≤ 4096 → 4096 * (length slots + n) ≤ room_now
    → IsTable (slots ++ replicate n 0) room room_now
wider_table slots room n room_for room_now t few fits =
    let many = length-append slots (replicate n 0) in
    let more : length (replicate {A = ℕ} n 0) ≡ n = length-replicate n 0 in
    let same = taken_wider slots n in
    record {
      long = omega (arith, t.long, same);
      named = subst (λ (m : ℕ). AreNamed m (slots ++ replicate n 0)) (sym same) (named_longer (taken slots) slots n t.named);
      few = omega (arith, many, more, few);
      fits = omega (arith, many, more, fits);
    }

-- one more
pub page_kept : (slots room page : List ℕ) (k n room_for room_now : ℕ)
    → IsTable slots room room_for → k < length slots → get_or slots k 0 ≡ 0 → length page ≡ 4096
    → n ≡ suc (taken slots) → room_for ≤ room_now → length (set slots k n) ≡ length slots
    → IsTable (set slots k n) (room ++ page) room_now
page_kept slots room page k n room_for room_now t lt none four is more same =
    let now : taken (set slots k n) ≡ suc (taken slots) =
    ap (λ (v : ℕ). taken (set slots k v)) is ∙ taken_more slots k (taken slots) lt none in
    record {
      long = omega (arith, length-append room page, t.long, four, now);
      named = named_more (taken slots) (taken (set slots k n)) slots k n (omega (arith, now)) (omega (arith, now, is)) t.named;
      few = omega (arith, same, t.few);
      fits = omega (arith, more, same, t.fits);
    }

named_still : (n : ℕ) (room page : List ℕ) (s : ℕ) → length room ≡ 4096 * n → s ≤ n
    → named_in (room ++ page) s ≡ named_in room s
named_still n room page zero e le = refl
named_still n room page (suc s) e le =
    ap (take 4096) (drop-append-le (4096 * s) room page (omega (arith, e)))
    ∙ take-append-le 4096 (drop (4096 * s) room) page (omega (arith, e, length-drop (4096 * s) room))

still : (n : ℕ) (room page slots : List ℕ) → length room ≡ 4096 * n → AreNamed n slots
    → pages_in (room ++ page) slots ≡ pages_in room slots
still n room page [] e a = refl
still n room page (s ∷ slots) e a =
    let one = named_still n room page s e a.0 in
    let more = still n room page slots e a.1 in
    λ i. one i ∷ more i

pub kept_more : (n : ℕ) (room page slots : List ℕ) (k : ℕ) → length room ≡ 4096 * n → AreNamed n slots
    → length page ≡ 4096 → k < length slots
    → pages_in (room ++ page) (set slots k (suc n)) ≡ with_kept (pages_in room slots) k page
kept_more n room page [] k e a four lt = absurd (omega arith)
kept_more n room page (s ∷ slots) zero e a four lt =
    let z : 4096 * n ≡ length room + 0 = omega (arith, e) in
    let last : page_at n (room ++ page) ≡ page =
    ap (λ (j : ℕ). take 4096 (drop j (room ++ page))) z ∙ ap (take 4096) (drop-append-add room page 0)
    ∙ ap (λ (j : ℕ). take j page) (sym four) ∙ take-length page in
    let more = still n room page slots e a.1 in
    λ i. last i ∷ more i
kept_more n room page (s ∷ slots) (suc k) e a four lt =
    let one = named_still n room page s e a.0 in
    let more = kept_more n room page slots k e a.1 four (omega arith) in
    λ i. one i ∷ more i

-- ---- what a slot says

pub slot_none : (room slots : List ℕ) (k s : ℕ) → k < length slots → s ≡ get_or slots k 0 → s ≡ 0
    → kept_at (pages_in room slots) k ≡ []
slot_none room slots k s lt is none =
    kept_named room slots k lt ∙ ap (named_in room) (sym is ∙ none)

pub slot_fits : (room slots : List ℕ) (k s : ℕ) → length room ≡ 4096 * taken slots → AreNamed (taken slots) slots
    → s ≡ get_or slots k 0 → 4096 * s ≤ length room
slot_fits room slots k s long named is = let d = named_at (taken slots) slots k named in omega (arith, d, long, is)

pub slot_page : (room slots : List ℕ) (k s : ℕ) → k < length slots → length room ≡ 4096 * taken slots
    → AreNamed (taken slots) slots → s ≡ get_or slots k 0 → (s ≡ 0 → ⊥)
    → (take (4096 * s - 4096 * (s - 1)) (drop (4096 * (s - 1)) room) ≡ kept_at (pages_in room slots) k)
    × (length (take (4096 * s - 4096 * (s - 1)) (drop (4096 * (s - 1)) room)) ≡ 4096)
slot_page room slots k zero lt long named is some = absurd (some refl)
slot_page room slots k (suc n) lt long named is some =
    let fits = slot_fits room slots k (suc n) long named is in
    let back : suc n - 1 ≡ n = omega arith in
    let size : 4096 * suc n - 4096 * (suc n - 1) ≡ 4096 = omega arith in
    let whole : take (4096 * suc n - 4096 * (suc n - 1)) (drop (4096 * (suc n - 1)) room) ≡ page_at n room =
    (λ i. take (size i) (drop (4096 * back i) room)) in (
      whole ∙ ap (named_in room) is ∙ sym (kept_named room slots k lt),
      ap length whole ∙ omega (arith, length-take 4096 (drop (4096 * n) room), length-drop (4096 * n) room, fits),
    )

-- a page that is not kept has a free slot
pub free_slot : (room slots : List ℕ) (k : ℕ) → length room ≡ 4096 * taken slots → AreNamed (taken slots) slots
    → k < length slots → kept_at (pages_in room slots) k ≡ [] → get_or slots k 0 ≡ 0
free_slot room slots k long named lt none =
    go (get_or slots k 0) (named_at (taken slots) slots k named) (sym (kept_named room slots k lt) ∙ none)
  where
    go : (s : ℕ) → s ≤ taken slots → named_in room s ≡ [] → s ≡ 0
    go zero le e = refl
    go (suc n) le e =
        absurd (omega (arith, ap length e, length-take 4096 (drop (4096 * n) room), length-drop (4096 * n) room, long, le))

pub pages_many : (room slots : List ℕ) → length (pages_in room slots) ≡ length slots
pages_many room [] = refl
pages_many room (s ∷ slots) = ap suc (pages_many room slots)

pub same_many : (room slots : List ℕ) (now : List (List ℕ)) (k : ℕ) → pages_in room slots ≡ now → k < length now
    → k < length slots
same_many room slots now k is lt = omega (arith, lt, ap length is, pages_many room slots)

-- what is known where a page is to be kept
pub record IsFree (room slots : List ℕ) (k room_for : ℕ) : Type 0 where
  pub inside : k < length slots
  pub none : get_or slots k 0 ≡ 0
  pub less : 4096 * taken slots + 4096 ≤ 16777216
  pub fits : 4096 * taken slots + 4096 ≤ room_for

pub is_free : (room slots : List ℕ) (now : List (List ℕ)) (k room_for : ℕ) → pages_in room slots ≡ now
    → IsTable slots room room_for → k < length now → kept_at now k ≡ [] → IsFree room slots k room_for
is_free room slots now k room_for is t lt none =
    let inside = same_many room slots now k is lt in
    let free = free_slot room slots k t.long t.named inside (ap (λ (v : List (List ℕ)). kept_at v k) is ∙ none) in
    let d = taken_less slots k inside free in
    record { inside = inside; none = free; less = omega (arith, d, t.few); fits = omega (arith, d, t.fits) }

-- as many pages as slots
pub seen_many : (room slots : List ℕ) (now : List (List ℕ)) → pages_in room slots ≡ now → length slots ≡ length now
seen_many room slots now is = sym (pages_many room slots) ∙ ap length is
