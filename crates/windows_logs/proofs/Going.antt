-- The run of a log, one entry after another.
use Rattle.std.proofs.Common.{◌≡◌, ◌+◌, ◌/◌, ◌++◌, ℕ, Bool, true, false, List, [], ◌∷◌, Option, Some, None, refl, sym, ap, ◌∙◌, subst, add-one, cond, append_assoc, append-nil}
use Rattle.windows_logs.specs.declared.log_parts.fault.LogFault.{LogFault}
use Rattle.windows_logs.specs.declared.log_parts.fault.LogFaultKind.TheVariants.{EntrySize, EntryHash, EntryPage}
use Rattle.windows_logs.specs.declared.entry_log.entry.Entry.{Entry}
use Rattle.windows_logs.specs.declared.entry_log.entry.Found.{Found}
use Rattle.windows_logs.specs.declared.entry_log.entry.Found.TheVariants.{NoEntry, Broken, Whole}
use Rattle.windows_logs.specs.declared.entry_log.run.Run.{Run}
use Rattle.windows_logs.specs.entry_log.Entries.{begins_entry, entry_in, bytes_of, has_length, has_hashes, has_pages, IsWhole}
use Rattle.windows_logs.specs.entry_log.Runs.{follows, judged, found_at, with_entry, run_by, run_from}

-- entries before a run
abbrev pub after : List Entry → Run → Run
after entries run = record { entries = entries ++ run.entries; fault = run.fault }

pub after_more : (entries : List Entry) (entry : Entry) (run : Run) → after entries (with_entry entry run) ≡ after (entries ++ entry ∷ []) run
after_more entries entry run = λ i. record { entries = sym (append_assoc entries (entry ∷ []) run.entries) i; fault = run.fault }

pub after_none : (entries : List Entry) (fault : Option LogFault)
    → after entries (record { entries = []; fault = fault }) ≡ record { entries = entries; fault = fault }
after_none entries fault = λ i. record { entries = append-nil entries i; fault = fault }

-- what is known of an entry that was found whole at a sector, after an entry of the number before
pub record IsFound (log : List ℕ) (sector : ℕ) (before : Option ℕ) (entry : Entry) : Type 0 where
  pub there : entry ≡ entry_in log sector
  pub follows : follows before entry.number ≡ true
  pub whole : IsWhole log entry

judged_whole : (log : List ℕ) (entry e : Entry) → judged log entry ≡ Whole e → (entry ≡ e) × IsWhole log entry
judged_whole log entry e is =
    let paged : (a b d : Bool) → cond a (cond b (cond d (Whole entry) (Broken EntryPage)) (Broken EntryHash)) (Broken EntrySize) ≡ Whole e
    → (entry ≡ e) × ((a ≡ true) × ((b ≡ true) × (d ≡ true))) =
    λ a b d. elim a as (λ a. cond a (cond b (cond d (Whole entry) (Broken EntryPage)) (Broken EntryHash)) (Broken EntrySize) ≡ Whole e
    → (entry ≡ e) × ((a ≡ true) × ((b ≡ true) × (d ≡ true)))) [
      | false ↦ λ h. absurd (cc)
      | true ↦ elim b as (λ b. cond b (cond d (Whole entry) (Broken EntryPage)) (Broken EntryHash) ≡ Whole e
          → (entry ≡ e) × ((true ≡ true) × ((b ≡ true) × (d ≡ true)))) [
            | false ↦ λ h. absurd (cc)
            | true ↦ elim d as (λ d. cond d (Whole entry) (Broken EntryPage) ≡ Whole e
                → (entry ≡ e) × ((true ≡ true) × ((true ≡ true) × (d ≡ true)))) [
                  | false ↦ λ h. absurd (cc)
                  | true ↦ λ h. (cc, (refl, (refl, refl)))
                ]
          ]
    ] in
    let parts = paged (has_length log entry) (has_hashes (bytes_of log entry)) (has_pages (bytes_of log entry) entry) is in
    (parts.0, record { long = parts.1.0; hashed = parts.1.1.0; paged = parts.1.1.1 })

pub found_whole : (log : List ℕ) (sector : ℕ) (before : Option ℕ) (e : Entry) → found_at log sector before ≡ Whole e
    → IsFound log sector before e
unfolding found_at
found_whole log sector before e is =
    let entry = entry_in log sector in
    let there : (a b : Bool) (rest : Found) → cond a (cond b rest NoEntry) NoEntry ≡ Whole e → (b ≡ true) × (rest ≡ Whole e) =
    λ a b rest. elim a as (λ a. cond a (cond b rest NoEntry) NoEntry ≡ Whole e → (b ≡ true) × (rest ≡ Whole e)) [
      | false ↦ λ h. absurd (cc)
      | true ↦ elim b as (λ b. cond b rest NoEntry ≡ Whole e → (b ≡ true) × (rest ≡ Whole e)) [
        | false ↦ λ h. absurd (cc)
        | true ↦ λ h. (refl, h)
      ]
    ] in
    let parts = there (begins_entry log sector) (follows before entry.number) (judged log entry) is in
    let whole = judged_whole log entry e parts.1 in
    record {
      there = sym whole.0;
      follows = ap (λ (x : Entry). follows before x.number) (sym whole.0) ∙ parts.0;
      whole = subst (IsWhole log) whole.0 whole.1;
    }

-- the run from a sector on, by what was found there
pub run_step : (log : List ℕ) (sector n m : ℕ) (before : Option ℕ) (found : Found) → n ≡ m + 1 → found ≡ found_at log sector before
    → run_from n log sector before
    ≡ run_by sector found (λ entry. run_from m log (sector + entry.length / 512) (Some entry.number))
unfolding run_from
run_step log sector n m before found more is = rw (more, add-one, is) refl

pub no_more : (log : List ℕ) (sector n : ℕ) (before : Option ℕ) → n ≡ 0 → run_from n log sector before ≡ record { entries = []; fault = None }
unfolding run_from
no_more log sector n before none = rw none refl
