-- Recovery asks for the log's sectors from 0 on, and then for some of the primary's by rising number.
use Rattle.std.specs.Prelude.{All, AllPairs, if◌then◌else◌}
use Rattle.std.specs.List.{range_with_len}
use Rattle.std.proofs.Common.{◌≡◌, ◌<◌, ◌≤◌, ◌+◌, ◌-◌, ◌/◌, ◌==◌, ℕ, zero, suc, Bool, true, false, not, cond, List, [], ◌∷◌, ◌++◌, map, filter, Option, Some, None, Result, Ok, Err, refl, ap, subst, arith}
use Rattle.std.proofs.lemmas.List.Elements.{All-nil, All-cons, All-weaker}
use Rattle.std.proofs.lemmas.List.Kept.{AllPairs-cons}
use Rattle.nt_bytes.specs.declared.fault.HiveFault.{HiveFault}
use Rattle.hive_model.specs.Base.{Base}
use Rattle.hive_model.specs.Image.{Image, Address, Log}
use Rattle.hive_model.specs.Recovery.{rank, bitmap_sectors, first_dirty, front_in, bitmap_in, goes_with, logged_in, base_in}
use Rattle.hive_model.specs.Asked.{primary_at, log_at, bin_at, is_readable, run_at, one_by_one, asked_if_read, asked_bins, asked_behind_sign, asked_bits, asked_behind_log, asked_log, asked_behind_base, asked_of}
use Rattle.hive_laws.specs.hive_laws.Looking.{bits_of, bins_sectors, IsInOrder}
use Rattle.hive_laws.proofs.Asked.{clean_part, past_log, past_sign, past_bits, unmarked_part}
use Rattle.hive_laws.proofs.OneByOne.{no_pairs, every_number}

-- ---- sectors of the primary by rising number

-- from this one on
record AreRising (from : ℕ) (sectors : List Address) : Type 0 where
  others : List ℕ
  are : sectors ≡ map primary_at others
  behind : All (λ n. from ≤ n) others
  rising : AllPairs (λ m n. m < n) others

no_others : (from : ℕ) → AreRising from []
no_others from =
    record { others = []; are = refl; behind = All-nil (λ n. from ≤ n); rising = no_pairs (λ m n. m < n) }

-- sectors from further on rise from here on too
later_ones : (from m : ℕ) (sectors : List Address) → from ≤ m → AreRising m sectors → AreRising from sectors
later_ones from m sectors low r =
    record {
      others = r.others;
      are = r.are;
      behind = All-weaker (λ n. m ≤ n) (λ n. from ≤ n) (λ n h. omega arith) r.others r.behind;
      rising = r.rising;
    }

-- and so does this one in front of those after it
one_and_later : (from m : ℕ) (sectors : List Address) → from < m → AreRising m sectors
    → AreRising from (primary_at from ∷ sectors)
one_and_later from m sectors low r =
    let first = All-weaker (λ n. m ≤ n) (λ n. from < n) (λ n h. omega arith) r.others r.behind in
    let last = All-weaker (λ n. m ≤ n) (λ n. from ≤ n) (λ n h. omega arith) r.others r.behind in
    record {
      others = from ∷ r.others;
      are = ap (λ xs. primary_at from ∷ xs) r.are;
      behind = All-cons (λ n. from ≤ n) from r.others (omega arith) last;
      rising = AllPairs-cons (λ m n. m < n) from r.others first r.rising;
    }

module _ (x : Image) (test : ℕ → Bool) where
  -- those of the primary with these numbers in the bins data
  abbrev numbered : List ℕ → List Address
  numbered numbers = one_by_one x (map bin_at numbers) []

  if_there : (from : ℕ) (rest : List Address) (b : Bool) → AreRising (8 + (from + 1)) rest
      → AreRising (8 + from) (primary_at (8 + from) ∷ (if b then rest else []))
  if_there from rest true r = one_and_later (8 + from) (8 + (from + 1)) rest (omega arith) r
  if_there from rest false r = one_and_later (8 + from) (8 + (from + 1)) [] (omega arith) (no_others (8 + (from + 1)))

  if_passing : (from : ℕ) (rest : List ℕ) (b : Bool) → AreRising (8 + (from + 1)) (numbered rest)
      → AreRising (8 + from) (numbered (cond b (from ∷ rest) rest))
  if_passing from rest true r = if_there from (numbered rest) (is_readable (x (primary_at (8 + from)))) r
  if_passing from rest false r = later_ones (8 + from) (8 + (from + 1)) (numbered rest) (omega arith) r

  those_rising : (from n : ℕ) → AreRising (8 + from) (numbered (filter test (range_with_len from n)))
  those_rising from zero = no_others (8 + from)
  those_rising from (suc n) =
      if_passing from (filter test (range_with_len (from + 1) n)) (test from) (those_rising (from + 1) n)

-- ---- the log's sectors from this one on, none left out, and then some of the primary's

record AreInTurn (from : ℕ) (sectors : List Address) : Type 0 where
  logged : ℕ
  others : List ℕ
  are : sectors ≡ map log_at (range_with_len from logged) ++ map primary_at others
  behind : All (λ n. 8 ≤ n) others
  rising : AllPairs (λ m n. m < n) others

none_logged : (from : ℕ) (sectors : List Address) → AreRising 8 sectors → AreInTurn from sectors
none_logged from sectors r =
    record { logged = 0; others = r.others; are = r.are; behind = r.behind; rising = r.rising }

nothing : (from : ℕ) → AreInTurn from []
nothing from = none_logged from [] (no_others 8)

one_logged : (from : ℕ) (sectors : List Address) → AreInTurn (from + 1) sectors
    → AreInTurn from (log_at from ∷ sectors)
one_logged from sectors t =
    record {
      logged = suc t.logged;
      others = t.others;
      are = ap (λ xs. log_at from ∷ xs) t.are;
      behind = t.behind;
      rising = t.rising;
    }

from_there : (m n : ℕ) (sectors : List Address) → m ≡ n → AreInTurn m sectors → AreInTurn n sectors
from_there m n sectors e t = subst (λ k. AreInTurn k sectors) e t

module _ (x : Image) (first : ℕ) (more : List Address) where
  -- those of the log with these numbers after the first one, and then more
  abbrev behind_first : List ℕ → List Address
  behind_first numbers = one_by_one x (map (λ k. log_at (first + k)) numbers) more

  if_logged : (j : ℕ) (rest : List Address) (b : Bool) → AreInTurn (first + (j + 1)) rest
      → AreInTurn (first + j) (log_at (first + j) ∷ (if b then rest else []))
  if_logged j rest true t =
      one_logged (first + j) rest (from_there (first + (j + 1)) (first + j + 1) rest (omega arith) t)
  if_logged j rest false t = one_logged (first + j) [] (nothing (first + j + 1))

  run_from : (j n : ℕ) → AreInTurn (first + (j + n)) more
      → AreInTurn (first + j) (behind_first (range_with_len j n))
  run_from j zero t = from_there (first + (j + 0)) (first + j) more (omega arith) t
  run_from j (suc n) t =
      if_logged j (behind_first (range_with_len (j + 1) n)) (is_readable (x (log_at (first + j))))
      (run_from (j + 1) n (from_there (first + (j + suc n)) (first + (j + 1 + n)) more (omega arith) t))

  run_in_turn : (n : ℕ) → AreInTurn (first + n) more → AreInTurn first (one_by_one x (run_at Log first n) more)
  run_in_turn n t =
      from_there (first + 0) first (behind_first (range_with_len 0 n)) (omega arith)
      (run_from 0 n (from_there (first + n) (first + (0 + n)) more (omega arith) t))

-- ---- what is asked for from one step on

module _ (x : Image) where
  bins_in_turn : (size : ℕ) (text : List ℕ) → AreInTurn (first_dirty size) (asked_bins x size text)
  bins_in_turn size text =
      let first = first_dirty size in
      let count = rank (bits_of text) (size / 512) in
      run_in_turn x first (unmarked_part x size text) count
      (none_logged (first + count) (unmarked_part x size text)
      (those_rising x (λ i. not (bits_of text i)) 0 (size / 512)))

  text_in_turn : (size : ℕ) (r : Result (List ℕ) HiveFault)
      → AreInTurn (first_dirty size) (asked_if_read r (asked_bins x size))
  text_in_turn size (Err f) = nothing (first_dirty size)
  text_in_turn size (Ok text) = bins_in_turn size text

  -- the bits take at least one sector
  sign_in_turn : (size : ℕ) → AreInTurn 2 (asked_behind_sign x size)
  sign_in_turn size =
      let rest = bitmap_sectors size - 1 in
      run_in_turn x 2 (past_bits x size) rest
      (from_there (first_dirty size) (2 + rest) (past_bits x size) (omega arith)
      (text_in_turn size (bitmap_in x size)))

  front_in_turn : (size : ℕ) (r : Result (List ℕ) HiveFault)
      → AreInTurn 2 (asked_if_read r (λ front. asked_behind_sign x size))
  front_in_turn size (Err f) = nothing 2
  front_in_turn size (Ok front) = sign_in_turn size

  bits_in_turn : (size : ℕ) → AreInTurn 1 (asked_bits x size)
  bits_in_turn size = one_logged 1 (past_sign x size) (front_in_turn size (front_in x))

  numbers_in_turn : (size : ℕ) (b : Bool) → AreInTurn 1 (if b then asked_bits x size else [])
  numbers_in_turn size true = bits_in_turn size
  numbers_in_turn size false = nothing 1

  logged_in_turn : (opened : Option Base) (r : Result Base HiveFault)
      → AreInTurn 1 (asked_if_read r (asked_behind_log x opened))
  logged_in_turn opened (Err f) = nothing 1
  logged_in_turn opened (Ok logged) =
      numbers_in_turn logged.size (goes_with opened logged)

  log_in_turn : (opened : Option Base) → AreInTurn 0 (asked_log x opened)
  log_in_turn opened = one_logged 0 (past_log x opened) (logged_in_turn opened (logged_in x))

  clean_in_turn : (count : ℕ) → AreInTurn 0 (clean_part x count)
  clean_in_turn count =
      none_logged 0 (clean_part x count)
      (subst (λ ks. AreRising 8 (numbered x (λ k. true) ks)) (every_number 0 count)
      (those_rising x (λ k. true) 0 count))

  one_in_turn : (base : Base) (b : Bool)
      → AreInTurn 0 (if b then clean_part x (bins_sectors base) else asked_log x (Some base))
  one_in_turn base true = clean_in_turn (bins_sectors base)
  one_in_turn base false = log_in_turn (Some base)

  base_in_turn : (r : Result (Option Base) HiveFault) → AreInTurn 0 (asked_if_read r (asked_behind_base x))
  base_in_turn (Err f) = nothing 0
  base_in_turn (Ok None) = log_in_turn None
  base_in_turn (Ok (Some base)) = one_in_turn base (base.first == base.second)

  pub asked_in_order : IsInOrder (asked_of x)
  unfolding asked_of
  asked_in_order =
      let t = base_in_turn (base_in x) in
      record {
        logged = t.logged;
        others = t.others;
        are = ap (λ xs. primary_at 0 ∷ xs) t.are;
        behind = t.behind;
        rising = t.rising;
      }
