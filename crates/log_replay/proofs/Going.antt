-- The entries of the logs, one step after another.
use Rattle.std.proofs.Common.{◌≡◌, ◌≤◌, ◌+◌, ◌*◌, ◌++◌, ℕ, zero, suc, Option, Some, None, Bool, true, false, cond, List, [], ◌∷◌, refl, sym, ap, ◌∙◌, add-one, arith, append_assoc, append-nil}
use Rattle.log_replay.specs.declared.line.ReplayLine.{ReplayLine}
use Rattle.log_replay.specs.declared.line.ReplayLine.TheVariants.{Fault, Apply}
use Rattle.log_replay.specs.declared.reading.GivenLog.{GivenLog}
use Rattle.log_replay.specs.declared.entries.HiveNow.{HiveNow}
use Rattle.windows_logs.specs.declared.log_parts.fault.LogFaultKind.TheVariants.{EntryGrow}
use Rattle.windows_logs.specs.entry_log.Growing.{grows_whole, page_bytes}
use Rattle.log_replay.specs.Entries.{Chosen, chosen, with_entry, Step, stepped, step_of, Replayed, after, going, replay_by}

module _ (logs : List GivenLog) (hive : HiveNow) (n m : ℕ) (more : n ≡ m + 1) where
  first : replay_by n logs hive ≡ going (step_of logs hive) (replay_by m logs)
  unfolding replay_by
  first = rw (more, add-one) refl

  goes_on : (step_of logs hive).goes ≡ true → replay_by n logs hive
      ≡ after (step_of logs hive).lines (replay_by m logs (step_of logs hive).hive)
  goes_on goes = first ∙ ap (λ t. cond t (after (step_of logs hive).lines (replay_by m logs (step_of logs hive).hive))
      (record { hive = (step_of logs hive).hive; lines = (step_of logs hive).lines })) goes

  stays : (step_of logs hive).goes ≡ false → replay_by n logs hive
      ≡ record { hive = (step_of logs hive).hive; lines = (step_of logs hive).lines }
  stays ends = first ∙ ap (λ t. cond t (after (step_of logs hive).lines (replay_by m logs (step_of logs hive).hive))
      (record { hive = (step_of logs hive).hive; lines = (step_of logs hive).lines })) ends

  module _ (next : HiveNow) (lines added : List ReplayLine) (hive_is : next ≡ (step_of logs hive).hive)
      (lines_are : added ≡ lines ++ (step_of logs hive).lines) where
    pub hive_on : (step_of logs hive).goes ≡ true → (replay_by n logs hive).hive ≡ (replay_by m logs next).hive
    hive_on goes = ap (λ (r : Replayed). r.hive) (goes_on goes) ∙ ap (λ h. (replay_by m logs h).hive) (sym hive_is)

    pub lines_on : (step_of logs hive).goes ≡ true → lines ++ (replay_by n logs hive).lines ≡ added ++ (replay_by m logs next).lines
    lines_on goes =
        ap (λ (r : Replayed). lines ++ r.lines) (goes_on goes)
        ∙ sym (append_assoc lines (step_of logs hive).lines (replay_by m logs (step_of logs hive).hive).lines)
        ∙ ap (λ l. l ++ (replay_by m logs (step_of logs hive).hive).lines) (sym lines_are)
        ∙ ap (λ h. added ++ (replay_by m logs h).lines) (sym hive_is)

    pub hive_end : (step_of logs hive).goes ≡ false → (replay_by n logs hive).hive ≡ next
    hive_end ends = ap (λ (r : Replayed). r.hive) (stays ends) ∙ sym hive_is

    pub lines_end : (step_of logs hive).goes ≡ false → lines ++ (replay_by n logs hive).lines ≡ added
    lines_end ends = ap (λ (r : Replayed). lines ++ r.lines) (stays ends) ∙ sym lines_are

pub none_hive : (logs : List GivenLog) (hive : HiveNow) (n : ℕ) → n ≡ 0 → (replay_by n logs hive).hive ≡ hive
unfolding replay_by
none_hive logs hive n none = rw none refl

pub none_lines : (logs : List GivenLog) (hive : HiveNow) (n : ℕ) (lines : List ReplayLine) → n ≡ 0
    → lines ++ (replay_by n logs hive).lines ≡ lines
unfolding replay_by
none_lines logs hive n lines none = rw none (append-nil lines)

-- a step by a chosen entry, where its new sectors are in its pages or not
abbrev chosen_step : Chosen → HiveNow → Bool → Step
chosen_step c hive t =
    cond t (record { hive = with_entry hive c; lines = Apply c.log.name c.entry.number (page_bytes c.log.bytes c.entry) ∷ []; goes = true })
    (record { hive = hive; lines = Fault EntryGrow c.log.name (512 * c.entry.sector) ∷ []; goes = false })

-- no step takes an application back
applied_more : (n : ℕ) (logs : List GivenLog) (hive : HiveNow) → hive.applied ≤ (replay_by n logs hive).hive.applied
unfolding replay_by step_of
applied_more zero logs hive = omega arith
applied_more (suc n) logs hive =
    let at : (x : Option Chosen) → hive.applied ≤ (going (stepped x hive) (replay_by n logs)).hive.applied =
    λ x. elim x as (λ x. hive.applied ≤ (going (stepped x hive) (replay_by n logs)).hive.applied) [
      | None ↦ omega arith
      | Some c ↦
          elim (grows_whole c.log.bytes c.entry hive.size) as (λ t. hive.applied ≤ (going (chosen_step c hive t) (replay_by n logs)).hive.applied) [
            | false ↦ omega arith
            | true ↦ omega (arith, applied_more n logs (with_entry hive c))
          ]
    ] in
    at (chosen logs hive.next)

-- where no entry was applied the hive is as it was
pub unchanged : (n : ℕ) (logs : List GivenLog) (hive : HiveNow) → (replay_by n logs hive).hive.applied ≡ 0 → (replay_by n logs hive).hive ≡ hive
unfolding replay_by step_of
unchanged zero logs hive none = refl
unchanged (suc n) logs hive none =
    let at : (x : Option Chosen) → (going (stepped x hive) (replay_by n logs)).hive.applied ≡ 0 → (going (stepped x hive) (replay_by n logs)).hive ≡ hive =
    λ x. elim x as (λ x. (going (stepped x hive) (replay_by n logs)).hive.applied ≡ 0 → (going (stepped x hive) (replay_by n logs)).hive ≡ hive) [
      | None ↦ λ h. refl
      | Some c ↦
          elim (grows_whole c.log.bytes c.entry hive.size) as (λ t. (going (chosen_step c hive t) (replay_by n logs)).hive.applied ≡ 0
          → (going (chosen_step c hive t) (replay_by n logs)).hive ≡ hive) [
            | false ↦ λ h. refl
            | true ↦ λ h. absurd (omega (arith, applied_more n logs (with_entry hive c), h))
          ]
    ] in
    at (chosen logs hive.next) none
