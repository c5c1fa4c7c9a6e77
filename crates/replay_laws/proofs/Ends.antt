-- Where the run of a log ends.
use Rattle.std.proofs.Common.{◌≡◌, ◌<◌, ◌≤◌, ◌+◌, ◌*◌, ◌/◌, ◌%◌, ◌==◌, ◌&&◌, ℕ, zero, suc, true, cond, List, length, Option, Some, None, refl, sym, ap, subst, arith}
use Rattle.std.specs.Prelude.{nat_eq, nat_le, not, codes}
use Rattle.std.specs.List.{starts_with}
use Rattle.std.proofs.lemmas.Bool.{and_parts}
use Rattle.std.proofs.lemmas.List.{drop_all}
use Rattle.windows_logs.specs.declared.entry_log.entry.Entry.{Entry}
use Rattle.windows_logs.specs.declared.entry_log.entry.Found.{Found}
use Rattle.windows_logs.specs.declared.entry_log.entry.Found.TheVariants.{NoEntry, Broken, Whole}
use Rattle.windows_logs.specs.entry_log.Entries.{entry_in, IsWhole}
use Rattle.windows_logs.specs.entry_log.Runs.{follows, judged, found_at, run_by, run_from, run_of}
use Rattle.windows_logs.proofs.Going.{found_whole}
use Rattle.windows_logs.proofs.Steps.{known}
use Rattle.replay_laws.specs.Runs.{EndsAs, RunsSo}

-- there is no entry at or past the end
none_past : (log : List ℕ) (sector : ℕ) (before : Option ℕ) → length log ≤ 512 * sector
    → found_at log sector before ≡ NoEntry
unfolding found_at
none_past log sector before past =
    ap (λ (l : List ℕ). cond (starts_with nat_eq l (codes "HvLE"))
    (cond (follows before (entry_in log sector).number) (judged log (entry_in log sector)) NoEntry) NoEntry)
    (drop_all (512 * sector) log past)

not_zero : (n : ℕ) → not (n == 0) ≡ true → 0 < n
not_zero zero is = absurd cc
not_zero (suc n) is = omega arith

-- a whole entry has a sector at least
one_sector : (log : List ℕ) (entry : Entry) → IsWhole log entry → 0 < entry.length / 512
one_sector log entry whole =
    let long = and_parts (not (entry.length == 0) && (entry.length % 512 == 0))
    (nat_le (512 * entry.sector + entry.length) (length log)) whole.long in
    let some = not_zero entry.length (and_parts (not (entry.length == 0)) (entry.length % 512 == 0) long.0).0 in
    omega (arith, some, (known log entry whole).steps)

ended : (sector : ℕ) (found : Found) → found ≡ NoEntry → EndsAs sector found None
ended sector found is = subst (λ f. EndsAs sector f None) (sym is) refl

run_so : (n : ℕ) (log : List ℕ) (sector : ℕ) (before : Option ℕ) → length log < 512 * (n + sector)
    → RunsSo log sector before (run_from n log sector before).entries (run_from n log sector before).fault
unfolding run_from
run_so zero log sector before room = ended sector (found_at log sector before)
    (none_past log sector before (omega (arith, room)))
run_so (suc n) log sector before room = here (run_so n log) (found_at log sector before) refl
  where
    here : ((at : ℕ) (b : Option ℕ) → length log < 512 * (n + at)
        → RunsSo log at b (run_from n log at b).entries (run_from n log at b).fault)
        → (found : Found) → found_at log sector before ≡ found
        → RunsSo log sector before
        (run_by sector found (λ e. run_from n log (sector + e.length / 512) (Some e.number))).entries
        (run_by sector found (λ e. run_from n log (sector + e.length / 512) (Some e.number))).fault
    here rest NoEntry is = ended sector (found_at log sector before) is
    here rest (Broken kind) is =
        subst (λ f. EndsAs sector f (Some (record { kind = kind; at = 512 * sector }))) (sym is) refl
    here rest (Whole e) is =
        let more = one_sector log e (found_whole log sector before e is).whole in
        (is, rest (sector + e.length / 512) (Some e.number) (omega (arith, room, more)))

pub run_ends : (log : List ℕ) → RunsSo log 1 None (run_of log).entries (run_of log).fault
run_ends log = run_so (length log / 512) log 1 None (omega arith)
