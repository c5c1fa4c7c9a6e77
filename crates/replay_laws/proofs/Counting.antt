-- No more entries are applied than the logs have.
use Rattle.std.proofs.Common.{◌≡◌, ◌⊎◌, ◌<◌, ◌≤◌, ◌+◌, ◌/◌, ◌%◌, ◌^◌, ◌++◌, ℕ, zero, suc, map, List, [], ◌∷◌, length, Option, Some, None, Ok, sym, ◌∙◌, ap, subst, inl, inr, arith, length-append}
use Rattle.std.proofs.lemmas.List.{length-map}
use Rattle.hive_model.specs.Base.{Base}
use Rattle.windows_logs.specs.log_parts.Filled.{filled}
use Rattle.windows_logs.specs.declared.entry_log.entry.Entry.{Entry}
use Rattle.windows_logs.specs.declared.entry_log.entry.Found.{Found}
use Rattle.windows_logs.specs.declared.entry_log.entry.Found.TheVariants.{NoEntry, Broken, Whole}
use Rattle.windows_logs.specs.entry_log.Runs.{found_at, run_by, run_from, run_of}
use Rattle.log_replay.specs.declared.replaying.LogFile.{LogFile}
use Rattle.log_replay.specs.Entries.{Chosen, chosen, most}
use Rattle.log_replay.specs.Replay.{begun, hive_base_of}
use Rattle.log_replay.proofs.Wholes.{given_whole}
use Rattle.replay_laws.specs.Applied.{EndsSo, IsFoldOf, IsHeldUp}
use Rattle.replay_laws.specs.Results.{AreBytes, AreByteFiles, IsOneOf, AreFrom}
use Rattle.replay_laws.specs.Sectors.{sectors_of}
use Rattle.replay_laws.proofs.Ending.{logs_of, now_of}
use Rattle.replay_laws.proofs.Folding.{folded, ends}
use Rattle.replay_laws.proofs.Folds.{fold_count}
use Rattle.replay_laws.proofs.Making.{second_fits}
use Rattle.replay_laws.proofs.Sources.{fold_from}

-- ---- numbers of a list

removed : (x : ℕ) (ys : List ℕ) → IsOneOf x ys → List ℕ
removed x [] one = absurd one
removed x (y ∷ ys) (inl same) = ys
removed x (y ∷ ys) (inr later) = y ∷ removed x ys later

removed_long : (x : ℕ) (ys : List ℕ) (one : IsOneOf x ys) → length ys ≡ length (removed x ys one) + 1
unfolding removed
removed_long x [] one = absurd one
removed_long x (y ∷ ys) (inl same) = omega arith
removed_long x (y ∷ ys) (inr later) = omega (arith, removed_long x ys later)

still_one : (x z : ℕ) (ys : List ℕ) (one : IsOneOf x ys) → (z ≡ x → ⊥) → IsOneOf z ys → IsOneOf z (removed x ys one)
unfolding removed
still_one x z [] one other is = absurd one
still_one x z (y ∷ ys) (inl same) other (inl here) = absurd (other (here ∙ sym same))
still_one x z (y ∷ ys) (inl same) other (inr later) = later
still_one x z (y ∷ ys) (inr rest) other (inl here) = inl here
still_one x z (y ∷ ys) (inr rest) other (inr later) = inr (still_one x z ys rest other later)

apart : (b k m : ℕ) → k < m → m < 4294967296 → (b + k) % 4294967296 ≡ (b + m) % 4294967296 → ⊥
apart b k m less few same = omega (arith, less, few, same)

-- m numbers that follow one by one are in a list of m at least
all_there : (m b : ℕ) (ys : List ℕ) → m ≤ 4294967296 → ((k : ℕ) → k < m → IsOneOf ((b + k) % 4294967296) ys)
    → m ≤ length ys
all_there zero b ys few each = omega arith
all_there (suc m) b ys few each =
    let last = each m (omega arith) in
    let rest = all_there m b (removed ((b + m) % 4294967296) ys last) (omega arith)
    (λ k below. still_one ((b + m) % 4294967296) ((b + k) % 4294967296) ys last (apart b k m below (omega arith))
    (each k (omega arith))) in
    omega (arith, rest, removed_long ((b + m) % 4294967296) ys last)

-- ---- the entries of the logs

numbers_in : List Entry → List ℕ
numbers_in entries = map (λ (e : Entry). e.number) entries

numbers_of : List LogFile → List ℕ
numbers_of [] = []
numbers_of (file ∷ files) = numbers_in (run_of (filled file.bytes)).entries ++ numbers_of files

front_one : (n : ℕ) (xs ys : List ℕ) → IsOneOf n xs → IsOneOf n (xs ++ ys)
front_one n [] ys one = absurd one
front_one n (x ∷ xs) ys (inl same) = inl same
front_one n (x ∷ xs) ys (inr later) = inr (front_one n xs ys later)

back_one : (n : ℕ) (xs ys : List ℕ) → IsOneOf n ys → IsOneOf n (xs ++ ys)
back_one n [] ys one = one
back_one n (x ∷ xs) ys one = inr (back_one n xs ys one)

number_one : (e : Entry) (entries : List Entry) → IsOneOf e entries → IsOneOf e.number (numbers_in entries)
unfolding numbers_in
number_one e [] one = absurd one
number_one e (x ∷ xs) (inl same) = inl (ap (λ (y : Entry). y.number) same)
number_one e (x ∷ xs) (inr later) = inr (number_one e xs later)

listed_one : (file : LogFile) (files : List LogFile) (e : Entry) → IsOneOf file files
    → IsOneOf e (run_of (filled file.bytes)).entries
    → IsOneOf e.number (numbers_of files)
unfolding numbers_of
listed_one file [] e listed in_run = absurd listed
listed_one file (f ∷ fs) e (inl same) in_run =
    front_one e.number (numbers_in (run_of (filled f.bytes)).entries) (numbers_of fs)
    (number_one e (run_of (filled f.bytes)).entries
    (subst (λ (g : LogFile). IsOneOf e (run_of (filled g.bytes)).entries) same in_run))
listed_one file (f ∷ fs) e (inr later) in_run =
    back_one e.number (numbers_in (run_of (filled f.bytes)).entries) (numbers_of fs) (listed_one file fs e later in_run)

-- a run has no more entries than its log has sectors
run_short : (n : ℕ) (log : List ℕ) (sector : ℕ) (before : Option ℕ) → length (run_from n log sector before).entries ≤ n
unfolding run_from
run_short zero log sector before = omega arith
run_short (suc n) log sector before = here (run_short n log) (found_at log sector before)
  where
    here : ((at : ℕ) (b : Option ℕ) → length (run_from n log at b).entries ≤ n) → (found : Found)
        → length (run_by sector found (λ e. run_from n log (sector + e.length / 512) (Some e.number))).entries ≤ suc n
    here rest NoEntry = omega arith
    here rest (Broken kind) = omega arith
    here rest (Whole e) = omega (arith, rest (sector + e.length / 512) (Some e.number))

numbers_short : (files : List LogFile) → length (numbers_of files) ≤ sectors_of files
unfolding numbers_of numbers_in
numbers_short [] = omega arith
numbers_short (file ∷ files) =
    let run = (run_of (filled file.bytes)).entries in
    omega (
      arith,
      numbers_short files,
      length-append (map (λ (e : Entry). e.number) run) (numbers_of files),
      length-map run (λ (e : Entry). e.number),
      run_short (length (filled file.bytes) / 512) (filled file.bytes) 1 None,
    )

-- ---- what is applied

first_number : (b n : ℕ) → b < 4294967296 → n ≡ b → n ≡ (b + 0) % 4294967296
first_number b n fits same = omega (arith, fits, same)

next_number : (b k : ℕ) → ((b + 1) % 4294967296 + k) % 4294967296 ≡ (b + suc k) % 4294967296
next_number b k = omega arith

from_one : (files : List LogFile) (cs : List Chosen) (b k : ℕ) → b < 4294967296 → AreFrom files b cs → k < length cs
    → IsOneOf ((b + k) % 4294967296) (numbers_of files)
from_one files [] b k fits are below = absurd (omega (arith, below))
from_one files (c ∷ cs) b zero fits are below =
    subst (λ n. IsOneOf n (numbers_of files)) (first_number b c.entry.number fits are.0.number)
    (listed_one are.0.file files c.entry are.0.listed are.0.in_run)
from_one files (c ∷ cs) b (suc k) fits are below =
    subst (λ n. IsOneOf n (numbers_of files)) (next_number b k)
    (from_one files cs ((b + 1) % 4294967296) k (omega arith) are.1 (omega (arith, below)))

module _ (file : List ℕ) (files : List LogFile) (hive : Base) (bytes : AreBytes file) (are : AreByteFiles files)
    (reads : hive_base_of (filled file) ≡ Ok hive) (few : sectors_of files < 4294967296) where
  fold : (entries : List Chosen) × IsFoldOf (logs_of file files hive) entries (begun (filled file) hive)
      (now_of file files hive)
  fold = folded most (logs_of file files hive) (begun (filled file) hive)

  fits : hive.second < 2 ^ 32
  fits = second_fits file hive bytes reads

  from : AreFrom files hive.second fold.0
  from = fold_from files hive (length (filled file)) fold.0 (begun (filled file) hive) (now_of file files hive) are fits
      fold.1

  count : (now_of file files hive).applied ≡ 0 + length fold.0
  count =
      fold_count (logs_of file files hive) (given_whole hive (length (filled file)) files) fold.0
      (begun (filled file) hive)
      (now_of file files hive) fold.1

  not_all : (now_of file files hive).applied ≡ 4294967296 → ⊥
  not_all all =
      let long : length fold.0 ≡ 4294967296 = omega (arith, all, count) in
      let short = all_there (length fold.0) hive.second (numbers_of files) (omega (arith, long))
      (λ k below. from_one files fold.0 hive.second k fits from below) in
      omega (arith, long, short, numbers_short files, few)

  pub ends_for_good : (chosen (logs_of file files hive) (now_of file files hive).next ≡ None)
      ⊎ IsHeldUp (logs_of file files hive) (now_of file files hive)
  ends_for_good = here (ends most (logs_of file files hive) (begun (filled file) hive))
    where
      here : EndsSo most (logs_of file files hive) (begun (filled file) hive) (now_of file files hive)
          → (chosen (logs_of file files hive) (now_of file files hive).next ≡ None) ⊎ IsHeldUp (logs_of file files hive)
          (now_of file files hive)
      here (inl none) = inl none
      here (inr (inl held)) = inr held
      here (inr (inr all)) = absurd (not_all (omega (arith, all)))
