-- The entry that is found by a number has that number.
use Rattle.std.proofs.Common.{◌≡◌, ◌<◌, ◌+◌, ◌-◌, ◌/◌, ◌%◌, ◌^◌, ℕ, zero, suc, true, List, ◌∷◌, length, Some, None, refl, sym, ap, ◌∙◌, arith}
use Rattle.std.specs.Prelude.{slice_get}
use Rattle.std.proofs.lemmas.Bool.{eqb-true}
use Rattle.windows_logs.specs.declared.entry_log.entry.Entry.{Entry}
use Rattle.windows_logs.specs.declared.entry_log.entry.Found.{Found}
use Rattle.windows_logs.specs.declared.entry_log.entry.Found.TheVariants.{NoEntry, Broken, Whole}
use Rattle.windows_logs.specs.entry_log.Runs.{follows, found_at, run_by, run_from, run_of}
use Rattle.windows_logs.proofs.Going.{found_whole}
use Rattle.log_replay.specs.Entries.{numbered}
use Rattle.log_replay.specs.Laws.{FirstFits}

next_number : (b number : ℕ) → follows (Some b) number ≡ true → number ≡ (b + 1) % 2 ^ 32
next_number b number is = eqb-true number ((b + 1) % 2 ^ 32) is

carried : (b f k : ℕ) → f ≡ (b + 1) % 2 ^ 32 → (f + (k + 1)) % 2 ^ 32 ≡ (b + (suc k + 1)) % 2 ^ 32
carried b f k is = omega arith

-- entry k after an entry of the number b
chain : (n : ℕ) (log : List ℕ) (sector b k : ℕ) (e : Entry) → slice_get (run_from n log sector (Some b)).entries k ≡ Some e
    → e.number ≡ (b + (k + 1)) % 2 ^ 32
unfolding run_from
chain zero log sector b k e is = absurd (cc)
chain (suc n) log sector b k e is =
    let at : (found : Found) → found_at log sector (Some b) ≡ found
    → slice_get (run_by sector found (λ x. run_from n log (sector + x.length / 512) (Some x.number))).entries k ≡ Some e
    → e.number ≡ (b + (k + 1)) % 2 ^ 32 =
    λ found. elim found as (λ found. found_at log sector (Some b) ≡ found
    → slice_get (run_by sector found (λ x. run_from n log (sector + x.length / 512) (Some x.number))).entries k ≡ Some e
    → e.number ≡ (b + (k + 1)) % 2 ^ 32) [
      | NoEntry ↦ λ h got. absurd (cc)
      | Broken kind ↦ λ h got. absurd (cc)
      | Whole x ↦ λ h.
          let number = next_number b x.number (found_whole log sector (Some b) x h).follows in
          elim k as (λ k. slice_get (x ∷ (run_from n log (sector + x.length / 512) (Some x.number)).entries) k ≡ Some e
          → e.number ≡ (b + (k + 1)) % 2 ^ 32) [
            | zero ↦ λ got. let same : x ≡ e = cc in sym (ap (λ (y : Entry). y.number) same) ∙ number
            | suc j ↦ λ got. chain n log (sector + x.length / 512) x.number j e got ∙ carried b x.number j number
          ]
    ] in
    at (found_at log sector (Some b)) refl is

first_is : (f n : ℕ) → f < 2 ^ 32 → n < 2 ^ 32 → 0 ≡ (n + (2 ^ 32 - f)) % 2 ^ 32 → f ≡ n
first_is f n small fits is = omega arith

later_is : (f n j : ℕ) → f < 2 ^ 32 → n < 2 ^ 32 → suc j ≡ (n + (2 ^ 32 - f)) % 2 ^ 32 → (f + (j + 1)) % 2 ^ 32 ≡ n
later_is f n j small fits is = omega arith

pub numbered_is : (log : List ℕ) (n : ℕ) (e : Entry) → n < 2 ^ 32 → FirstFits (run_of log).entries → numbered (run_of log).entries n ≡ Some e
    → e.number ≡ n
unfolding run_from
numbered_is log n e fits first is =
    let at : (m : ℕ) → FirstFits (run_from m log 1 None).entries → numbered (run_from m log 1 None).entries n ≡ Some e → e.number ≡ n =
    λ m. elim m as (λ m. FirstFits (run_from m log 1 None).entries → numbered (run_from m log 1 None).entries n ≡ Some e → e.number ≡ n) [
      | zero ↦ λ small got. absurd (cc)
      | suc m ↦ elim (found_at log 1 None) as (λ found. FirstFits (run_by 1 found (λ x. run_from m log (1 + x.length / 512) (Some x.number))).entries
          → numbered (run_by 1 found (λ x. run_from m log (1 + x.length / 512) (Some x.number))).entries n ≡ Some e → e.number ≡ n) [
            | NoEntry ↦ λ small got. absurd (cc)
            | Broken kind ↦ λ small got. absurd (cc)
            | Whole x ↦ λ small got.
                let by : (k : ℕ) → k ≡ (n + (2 ^ 32 - x.number)) % 2 ^ 32
                → slice_get (x ∷ (run_from m log (1 + x.length / 512) (Some x.number)).entries) k ≡ Some e → e.number ≡ n =
                elim [
                  | zero ↦ λ place found. let same : x ≡ e = cc in sym (ap (λ (y : Entry). y.number) same) ∙ first_is x.number n small fits place
                  | suc j ↦ λ place found. chain m log (1 + x.length / 512) x.number j e found ∙ later_is x.number n j small fits place
                ] in
                by ((n + (2 ^ 32 - x.number)) % 2 ^ 32) refl got
          ]
    ] in
    at (length log / 512) first is
