-- Sectors of files: as an image has them, and as pages of whole sectors leave them.
use Rattle.std.proofs.Common.{◌≡◌, ◌≢◌, ◌⊎◌, ◌<◌, ◌≤◌, ◌+◌, ◌-◌, ◌*◌, ◌%◌, ◌++◌, ℕ, zero, suc, Bool, true, false, cond, List, ◌∷◌, length, take, drop, replicate, Some, None, Result, Ok, Err, refl, sym, ◌∙◌, ap, inl, inr, arith, append-nil, length-append, length-take, length-drop}
use Rattle.std.specs.Prelude.{nat_lt}
use Rattle.std.proofs.lemmas.Bool.{cases_lt, lt-ltb, ltb-true}
use Rattle.std.proofs.lemmas.List.{length-replicate, take-append-drop, take-append-le, drop-append-le, take_all}
use Rattle.nt_bytes.specs.declared.fault.HiveFault.{HiveFault}
use Rattle.hive_model.specs.Image.{Bytes, padded, sector_of}
use Rattle.hive_model.specs.Recovery.{Sectors, bytes_or, sector, rank, joined, gathered}
use Rattle.hive_log.proofs.Ranks.{rank_on, rank_off, rank_below}
use Rattle.hive_log.proofs.Runs.{sector_front, sector_back, sector_long, sector_whole}
use Rattle.windows_logs.specs.log_parts.Filled.{filled}
use Rattle.windows_logs.specs.log_parts.Pages.{put_at, put_pages}
use Rattle.windows_logs.proofs.Puts.{put_long}
use Rattle.windows_logs.specs.dirt_log.Dirt.{marked_pages}

-- ---- a sector of an image

cut_short : (x : List ℕ) (pad : ℕ) → length x < 512 → pad ≡ 512 - length x
    → take 512 x ++ replicate (512 - length (take 512 x)) 0 ≡ take 512 (x ++ replicate pad 0)
cut_short x pad short is =
    let whole : take 512 x ≡ x = take_all 512 x (omega arith) in
    let long : length (x ++ replicate pad 0) ≤ 512 = omega
    (arith, length-append x (replicate pad 0), length-replicate {A = ℕ} pad 0) in
    ap (λ (l : List ℕ). l ++ replicate (512 - length l) 0) whole
    ∙ ap (λ n. x ++ replicate n 0) (sym is)
    ∙ sym (take_all 512 (x ++ replicate pad 0) long)

cut_long : (x more : List ℕ) → 512 ≤ length x
    → take 512 x ++ replicate (512 - length (take 512 x)) 0 ≡ take 512 (x ++ more)
cut_long x more long =
    let full : 512 - length (take 512 x) ≡ 0 = omega (arith, length-take 512 x) in
    ap (λ n. take 512 x ++ replicate n 0) full ∙ append-nil (take 512 x) ∙ sym (take-append-le 512 x more long)

pub padded_sector : (bytes : List ℕ) (n : ℕ) → 512 * n < length bytes
    → padded (take 512 (drop (512 * n) bytes)) ≡ sector (filled bytes) n
unfolding sector filled
padded_sector bytes n inside =
    let x : List ℕ = drop (512 * n) bytes in
    let pad = (512 - length bytes % 512) % 512 in
    let long : length x ≡ length bytes - 512 * n = length-drop (512 * n) bytes in
    here x pad (cases_lt (length x) 512) (λ short. omega (arith, short, long, inside))
    ∙ ap (take 512) (sym (drop-append-le (512 * n) bytes (replicate pad 0) (omega (arith, inside))))
  where
    here : (x : List ℕ) (pad : ℕ) → (length x < 512) ⊎ (512 ≤ length x) → (length x < 512 → pad ≡ 512 - length x)
        → take 512 x ++ replicate (512 - length (take 512 x)) 0 ≡ take 512 (x ++ replicate pad 0)
    here x pad (inl short) is = cut_short x pad short (is short)
    here x pad (inr long) is = cut_long x (replicate pad 0) long

-- what a sector of an image that is there has
pub record IsThere (bytes : List ℕ) (n : ℕ) (read : List ℕ) : Type 0 where
  pub inside : 512 * n < length bytes
  pub few : n < 65536
  pub same : read ≡ sector (filled bytes) n

got : List ℕ → Result (List ℕ) HiveFault
got bytes = Ok bytes

same_got : (a b : List ℕ) → got a ≡ got b → a ≡ b
unfolding got
same_got a b e = cc

pub read_there : (f g : HiveFault) (bytes : List ℕ) (n : ℕ) (read : List ℕ)
    → bytes_or f g (cond (nat_lt n 65536) (sector_of bytes n) None) ≡ Ok read → IsThere bytes n read
unfolding got
read_there f g bytes n read is = outer (nat_lt n 65536) refl is
  where
    inner : n < 65536 → (t : Bool) → nat_lt (512 * n) (length bytes) ≡ t
        → bytes_or f g (cond t (Some (Bytes (padded (take 512 (drop (512 * n) bytes))))) None) ≡ Ok read
        → IsThere bytes n read
    inner few true e h =
        let inside : 512 * n < length bytes = ltb-true (512 * n) (length bytes) e in
        record { inside = inside; few = few; same = sym (same_got _ read h) ∙ padded_sector bytes n inside }
    inner few false e h = absurd cc

    outer : (t : Bool) → nat_lt n 65536 ≡ t → bytes_or f g (cond t (sector_of bytes n) None) ≡ Ok read
        → IsThere bytes n read
    outer true e h = inner (ltb-true n 65536 e) (nat_lt (512 * n) (length bytes)) refl h
    outer false e h = absurd cc

pub there : (bytes : List ℕ) (n : ℕ) → n < 65536 → 512 * n < length bytes
    → cond (nat_lt n 65536) (sector_of bytes n) None ≡ Some (Bytes (sector (filled bytes) n))
there bytes n few inside =
    ap (λ t. cond t (sector_of bytes n) None) (lt-ltb n 65536 few)
    ∙ ap (λ t. cond t (Some (Bytes (padded (take 512 (drop (512 * n) bytes))))) None)
    (lt-ltb (512 * n) (length bytes) inside)
    ∙ ap (λ (l : List ℕ). Some (Bytes l)) (padded_sector bytes n inside)

-- of a run that was gathered each sector was read
pub gathered_each : (at : Sectors) (from n : ℕ) (all : List ℕ) → gathered at from n ≡ Ok all → (i : ℕ) → from ≤ i
    → i < from + n
    → (one : List ℕ) × (at i ≡ Ok one)
gathered_each at from zero all is i low high = absurd (omega arith)
gathered_each at from (suc n) all is i low high = first (at from) refl (gathered at (suc from) n) refl is
    (λ more e. gathered_each at (suc from) n more e i)
  where
    first : (s : Result (List ℕ) HiveFault) → at from ≡ s → (r : Result (List ℕ) HiveFault)
        → gathered at (suc from) n ≡ r → joined s r ≡ Ok all
        → ((more : List ℕ) → gathered at (suc from) n ≡ Ok more → suc from ≤ i → i < suc from + n
        → (one : List ℕ) × (at i ≡ Ok one))
        → (one : List ℕ) × (at i ≡ Ok one)
    first (Err f) e r h is rest = absurd cc
    first (Ok s) e (Err f) h is rest = absurd cc
    first (Ok s) e (Ok more) h is rest = which (cases_lt from i)
      where
        which : (from < i) ⊎ (i ≤ from) → (one : List ℕ) × (at i ≡ Ok one)
        which (inl less) = rest more h (omega arith) (omega arith)
        which (inr same) = let here : i ≡ from = omega arith in (s, ap at here ∙ e)

-- ---- a sector that is written

pub put_same : (file bytes : List ℕ) (m : ℕ) → length bytes ≡ 512 → 512 * m + 512 ≤ length file
    → sector (put_at file (512 * m) bytes) m ≡ bytes
put_same file bytes m long inside =
    let front : List ℕ = take (512 * m) file in
    let front_long : length front ≡ 512 * m = omega (arith, length-take (512 * m) file) in
    sector_front (front ++ bytes) (drop (512 * m + length bytes) file) m
    (omega (arith, length-append front bytes, front_long, long))
    ∙ ap (sector (front ++ bytes)) (omega arith)
    ∙ sector_back front bytes m 0 front_long
    ∙ sector_whole bytes long

module _ (file bytes : List ℕ) (m k : ℕ) (long : length bytes ≡ 512) (inside : 512 * m + 512 ≤ length file)
    (there : 512 * k + 512 ≤ length file) where
  abbrev front : List ℕ
  front = take (512 * m) file

  abbrev back : List ℕ
  back = drop (512 * m + length bytes) file

  front_long : length front ≡ 512 * m
  front_long = omega (arith, inside, length-take (512 * m) file)

  both_long : length (front ++ bytes) ≡ 512 * m + 512
  both_long = omega (arith, length-append front bytes, front_long, long)

  put_before : k < m → sector (put_at file (512 * m) bytes) k ≡ sector file k
  put_before less =
      sector_front (front ++ bytes) back k (omega (arith, both_long, less))
      ∙ sector_front front bytes k (omega (arith, front_long, less))
      ∙ sym (sector_front front (drop (512 * m) file) k (omega (arith, front_long, less)))
      ∙ ap (λ (l : List ℕ). sector l k) (take-append-drop (512 * m) file)

  put_past : (from past : ℕ) → from ≡ m + 1 → k ≡ from + past → sector (put_at file (512 * m) bytes) k ≡ sector file k
  put_past from past is place =
      let cut : 512 * m + length bytes ≡ 512 * from = omega (arith, long, is) in
      let head : List ℕ = take (512 * from) file in
      let head_long : length head ≡ 512 * from = omega (arith, length-take (512 * from) file, inside, is) in
      ap (sector ((front ++ bytes) ++ back)) place
      ∙ sector_back (front ++ bytes) back from past (omega (arith, both_long, is))
      ∙ ap (λ n. sector (drop n file) past) cut
      ∙ sym (sector_back head (drop (512 * from) file) from past head_long)
      ∙ ap (λ (l : List ℕ). sector l (from + past)) (take-append-drop (512 * from) file)
      ∙ ap (sector file) (sym place)

  pub put_other : (k ≡ m → ⊥) → sector (put_at file (512 * m) bytes) k ≡ sector file k
  put_other other = here (cases_lt k m)
    where
      here : (k < m) ⊎ (m ≤ k) → sector (put_at file (512 * m) bytes) k ≡ sector file k
      here (inl less) = put_before less
      here (inr more) = let not_here : k ≢ m = other in put_past (m + 1) (k - (m + 1)) refl
          (omega (arith, more, not_here))

-- ---- the marked sectors

module _ (bits : ℕ → Bool) (log : List ℕ) where
  -- the file with the first of them, where its bit is on
  abbrev with_first : List ℕ → ℕ → ℕ → List ℕ
  with_first file next i = put_at file (4096 + 512 * i) (sector log next)

  next_long : (next i n : ℕ) → bits i ≡ true → 512 * (next + rank bits (i + suc n)) ≤ length log + 512 * rank bits i
      → length (sector log next) ≡ 512
  next_long next i n on needs = sector_long log next
      (omega (arith, needs, rank_below bits (i + suc n) i (omega arith) on))

  first_long : (file : List ℕ) (next i n : ℕ) → length (sector log next) ≡ 512 → 4096 + 512 * (i + suc n) ≤ length file
      → length (with_first file next i) ≡ length file
  first_long file next i n long room = put_long file (4096 + 512 * i) (sector log next) (omega (arith, long, room))

  needs_on : (next i n : ℕ) → bits i ≡ true → 512 * (next + rank bits (i + suc n)) ≤ length log + 512 * rank bits i
      → 512 * ((next + 1) + rank bits ((i + 1) + n)) ≤ length log + 512 * rank bits (i + 1)
  needs_on next i n on needs =
      let same : rank bits ((i + 1) + n) ≡ rank bits (i + suc n) = ap (rank bits) (omega arith) in
      omega (arith, same, needs, rank_on bits i on)

  needs_off : (next i n : ℕ) → bits i ≡ false → 512 * (next + rank bits (i + suc n)) ≤ length log + 512 * rank bits i
      → 512 * (next + rank bits ((i + 1) + n)) ≤ length log + 512 * rank bits (i + 1)
  needs_off next i n off needs =
      let same : rank bits ((i + 1) + n) ≡ rank bits (i + suc n) = ap (rank bits) (omega arith) in
      omega (arith, same, needs, rank_off bits i off)

  first_others : (file : List ℕ) (next i n j : ℕ) → length (sector log next) ≡ 512
      → 4096 + 512 * (i + suc n) ≤ length file
      → 4096 + 512 * j + 512 ≤ length file → (j ≡ i → ⊥) → sector (with_first file next i) (8 + j) ≡ sector file (8 + j)
  first_others file next i n j long room there other =
      let place : 4096 + 512 * i ≡ 512 * (8 + i) = omega arith in
      let apart : (8 + j ≡ 8 + i) → ⊥ = λ e. other (omega (arith, e)) in
      ap (λ at. sector (put_at file at (sector log next)) (8 + j)) place
      ∙ put_other file (sector log next) (8 + i) (8 + j) long (omega (arith, room)) (omega (arith, there)) apart

  first_same : (file : List ℕ) (next i n : ℕ) → length (sector log next) ≡ 512 → 4096 + 512 * (i + suc n) ≤ length file
      → sector (with_first file next i) (8 + i) ≡ sector log next
  first_same file next i n long room =
      let place : 4096 + 512 * i ≡ 512 * (8 + i) = omega arith in
      ap (λ at. sector (put_at file at (sector log next)) (8 + i)) place
      ∙ put_same file (sector log next) (8 + i) long (omega (arith, room))

  apart_from : (i j : ℕ) → bits i ≡ true → (j < i) ⊎ (bits j ≡ false) → j ≡ i → ⊥
  apart_from i j on (inl less) same = omega (arith, less, same)
  apart_from i j on (inr off) same = let both : true ≡ false = sym on ∙ ap bits (sym same) ∙ off in absurd cc

  still : (i j : ℕ) → (j < i) ⊎ (bits j ≡ false) → (j < i + 1) ⊎ (bits j ≡ false)
  still i j (inl less) = inl (omega arith)
  still i j (inr off) = inr off

  -- sectors before them and those whose bit is off are left
  pub marked_others : (next i n j : ℕ) (file : List ℕ) → 4096 + 512 * (i + n) ≤ length file
      → 4096 + 512 * j + 512 ≤ length file
      → 512 * (next + rank bits (i + n)) ≤ length log + 512 * rank bits i → (j < i) ⊎ (bits j ≡ false)
      → sector (put_pages file (marked_pages bits log next i n)) (8 + j) ≡ sector file (8 + j)
  unfolding marked_pages
  marked_others next i zero j file room there needs other = refl
  marked_others next i (suc n) j file room there needs other =
      here (λ next. marked_others next (i + 1) n j) (bits i) refl
    where
      here : ((next : ℕ) (file : List ℕ) → 4096 + 512 * ((i + 1) + n) ≤ length file → 4096 + 512 * j + 512 ≤ length file
          → 512 * (next + rank bits ((i + 1) + n)) ≤ length log + 512 * rank bits (i + 1)
          → (j < i + 1) ⊎ (bits j ≡ false)
          → sector (put_pages file (marked_pages bits log next (i + 1) n)) (8 + j) ≡ sector file (8 + j)) → (b : Bool)
          → bits i ≡ b
          → sector (put_pages file
          (cond b (record { place = 512 * i; bytes = sector log next } ∷ marked_pages bits log (next + 1) (i + 1) n)
          (marked_pages bits log next (i + 1) n))) (8 + j) ≡ sector file (8 + j)
      here rest true on =
          let long = next_long next i n on needs in
          let same = first_long file next i n long room in
          rest (next + 1) (with_first file next i) (omega (arith, same, room)) (omega (arith, same, there))
          (needs_on next i n on needs)
          (still i j other)
          ∙ first_others file next i n j long room there (apart_from i j on other)
      here rest false off = rest next file (omega (arith, room)) there (needs_off next i n off needs) (still i j other)

  -- one whose bit is on is the log's
  pub marked_here : (next i n j m : ℕ) (file : List ℕ) → 4096 + 512 * (i + n) ≤ length file
      → 512 * (next + rank bits (i + n)) ≤ length log + 512 * rank bits i → i ≤ j → j < i + n → bits j ≡ true
      → m + rank bits i ≡ next + rank bits j
      → sector (put_pages file (marked_pages bits log next i n)) (8 + j) ≡ sector log m
  unfolding marked_pages
  marked_here next i zero j m file room needs low high on place = absurd (omega arith)
  marked_here next i (suc n) j m file room needs low high on place =
      here (λ next. marked_here next (i + 1) n j m) (cases_lt i j) (bits i) refl
    where
      here : ((next : ℕ) (file : List ℕ) → 4096 + 512 * ((i + 1) + n) ≤ length file
          → 512 * (next + rank bits ((i + 1) + n)) ≤ length log + 512 * rank bits (i + 1) → i + 1 ≤ j → j < (i + 1) + n
          → bits j ≡ true
          → m + rank bits (i + 1) ≡ next + rank bits j
          → sector (put_pages file (marked_pages bits log next (i + 1) n)) (8 + j) ≡ sector log m) → (i < j) ⊎ (j ≤ i)
          → (b : Bool) → bits i ≡ b
          → sector (put_pages file
          (cond b (record { place = 512 * i; bytes = sector log next } ∷ marked_pages bits log (next + 1) (i + 1) n)
          (marked_pages bits log next (i + 1) n))) (8 + j) ≡ sector log m
      here rest (inl less) true is =
          let same = first_long file next i n (next_long next i n is needs) room in
          rest (next + 1) (with_first file next i) (omega (arith, same, room)) (needs_on next i n is needs)
          (omega arith) (omega (arith, high)) on
          (omega (arith, place, rank_on bits i is))
      here rest (inl less) false is =
          rest next file (omega (arith, room)) (needs_off next i n is needs) (omega arith) (omega (arith, high)) on
          (omega (arith, place, rank_off bits i is))
      here rest (inr least) true is =
          let same : j ≡ i = omega (arith, least, low) in
          let long = next_long next i n is needs in
          let kept = first_long file next i n long room in
          let first : next ≡ m = omega (arith, place, ap (rank bits) same) in
          ap (λ k. sector (put_pages (with_first file next i) (marked_pages bits log (next + 1) (i + 1) n)) (8 + k))
          same
          ∙ marked_others (next + 1) (i + 1) n i (with_first file next i) (omega (arith, kept, room))
          (omega (arith, kept, room))
          (needs_on next i n is needs) (inl (omega arith))
          ∙ first_same file next i n long room
          ∙ ap (sector log) first
      here rest (inr least) false is =
          let same : j ≡ i = omega (arith, least, low) in
          let both : true ≡ false = sym on ∙ ap bits same ∙ is in
          absurd cc
