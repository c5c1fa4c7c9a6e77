-- How a replay ends: with the hive as it was, after entries, or after an old log.
use Rattle.std.proofs.Common.{◌≡◌, ◌⊎◌, ◌++◌, ◌==◌, ℕ, Bool, true, false, map, Option, Some, None, Result, Ok, Err, cond, List, [], ◌∷◌, length, refl, sym, subst, inl, inr}
use Rattle.std.specs.Prelude.{IfOk}
use Rattle.std.proofs.lemmas.Bool.{eqb-true, eqb-false}
use Rattle.hive_model.specs.Base.{Base}
use Rattle.nt_bytes.specs.declared.fault.HiveFault.{HiveFault}
use Rattle.windows_logs.specs.log_parts.Filled.{filled}
use Rattle.log_replay.specs.declared.line.ReplayLine.{ReplayLine}
use Rattle.log_replay.specs.declared.line.ReplayLine.TheVariants.{Sequence, Apply}
use Rattle.log_replay.specs.declared.reading.GivenLog.{GivenLog}
use Rattle.log_replay.specs.declared.entries.HiveNow.{HiveNow}
use Rattle.log_replay.specs.declared.replaying.LogFile.{LogFile}
use Rattle.log_replay.specs.declared.replaying.Outcome.{Outcome}
use Rattle.log_replay.specs.Reading.{readings_lines}
use Rattle.log_replay.specs.Entries.{replayed_by}
use Rattle.log_replay.specs.Old.{ChosenOld, chosen_old}
use Rattle.log_replay.specs.Replay.{after_old, begun, by_entries, by_old, dirty_of, given, hive_base_of, kept, outcome_of, replayed_as, replay_of}
use Rattle.replay_laws.specs.Results.{IsTold}

-- the logs as they are given, and the hive after the entries
abbrev pub logs_of : List ℕ → List LogFile → Base → List GivenLog
logs_of file files hive = map (given hive (length (filled file))) files

abbrev pub now_of : List ℕ → List LogFile → Base → HiveNow
now_of file files hive = (replayed_by (logs_of file files hive) (begun (filled file) hive)).hive

-- what holds of each of the three ends holds of the result
module _ (file : List ℕ) (files : List LogFile) (hive : Base) (P : Outcome → Type 0)
    (by_none : (said : List ReplayLine) → P (kept file hive said))
    (by_some : (said : List ReplayLine) → ((now_of file files hive).applied ≡ 0 → ⊥)
    → P (by_entries hive said (now_of file files hive)))
    (by_one : (said : List ReplayLine) (c : ChosenOld) → (now_of file files hive).applied ≡ 0
    → chosen_old (logs_of file files hive) hive.first ≡ Some c → P (after_old (filled file) hive said c)) where
  olds : (said : List ReplayLine) → (now_of file files hive).applied ≡ 0 → (c : Option ChosenOld)
      → chosen_old (logs_of file files hive) hive.first ≡ c → P (by_old file hive said c)
  olds said none None is = by_none said
  olds said none (Some c) is = by_one said c none is

  ends : (said : List ReplayLine) (t : Bool) → ((now_of file files hive).applied == 0) ≡ t
      → P (cond t (by_old file hive said (chosen_old (logs_of file files hive) hive.first))
      (by_entries hive said (now_of file files hive)))
  ends said true is = olds said (eqb-true _ _ is) (chosen_old (logs_of file files hive) hive.first) refl
  ends said false is = by_some said (eqb-false _ _ is)

  dirty : P (dirty_of file hive (logs_of file files hive))
  dirty =
      ends ((Sequence hive.first hive.second true ∷ readings_lines (logs_of file files hive))
      ++ (replayed_by (logs_of file files hive) (begun (filled file) hive)).lines)
      ((now_of file files hive).applied == 0) refl

  any : (t : Bool)
      → P (cond t (kept file hive (Sequence hive.first hive.second false ∷ []))
      (dirty_of file hive (logs_of file files hive)))
  any true = by_none (Sequence hive.first hive.second false ∷ [])
  any false = dirty

  pub outcome_is : P (outcome_of file hive files)
  outcome_is = any (hive.first == hive.second)

-- what holds of the result of each hive that is read holds of what is answered
pub replay_is : (file : List ℕ) (files : List LogFile) (P : Outcome → Type 0)
    → ((hive : Base) → hive_base_of (filled file) ≡ Ok hive → P (outcome_of file hive files))
    → IfOk (replay_of file files) P
unfolding replay_of
replay_is file files P each = here (hive_base_of (filled file)) refl
  where
    here : (r : Result Base HiveFault) → hive_base_of (filled file) ≡ r → IfOk (replayed_as file files r) P
    here (Err fault) is = tt
    here (Ok hive) is = each hive is

-- the same of a hive whose base block is known
pub replay_of_hive : (file : List ℕ) (files : List LogFile) (hive : Base) (P : Outcome → Type 0)
    → hive_base_of (filled file) ≡ Ok hive
    → P (outcome_of file hive files) → IfOk (replay_of file files) P
unfolding replay_of
replay_of_hive file files hive P reads holds =
    subst (λ (r : Result Base HiveFault). IfOk (replayed_as file files r) P) (sym reads) holds

-- ---- what remains is the file as it was, or clean

abbrev pub Leaves : List ℕ → Base → Outcome → Type 0
Leaves file hive o = ((o.file ≡ file) × ((o.first ≡ hive.first) × (o.second ≡ hive.second))) ⊎ (o.first ≡ o.second)

pub replay_leaves : (file : List ℕ) (files : List LogFile) (hive : Base) → hive_base_of (filled file) ≡ Ok hive
    → IfOk (replay_of file files) (Leaves file hive)
replay_leaves file files hive reads =
    replay_of_hive file files hive (Leaves file hive) reads
    (outcome_is file files hive (Leaves file hive) (λ said. inl (refl, (refl, refl))) (λ said some. inr refl)
    (λ said c none is. inr refl))

-- ---- what is reported at the end

one_some : {A : Type 0} → ◌≡◌ {A = ℕ} 1 0 → A
one_some e = absurd cc

pub replay_told : (file : List ℕ) (files : List LogFile) (hive : Base) → hive_base_of (filled file) ≡ Ok hive
    → IfOk (replay_of file files) (IsTold file hive)
replay_told file files hive reads =
    replay_of_hive file files hive (IsTold file hive) reads
    (outcome_is file files hive (IsTold file hive)
    (λ said. record {
      said = said;
      applied = 0;
      lines_are = refl;
      left = λ e. record { file_is = refl; first_is = refl; second_is = refl };
      clean = λ no. absurd (no refl);
    })
    (λ said some. record {
      said = said;
      applied = (now_of file files hive).applied;
      lines_are = refl;
      left = λ e. absurd (some e);
      clean = λ no. refl;
    })
    (λ said c none is. record {
      said = said ++ Apply c.log.name c.whole.base.first _ ∷ [];
      applied = 1;
      lines_are = refl;
      left = λ e. one_some e;
      clean = λ no. refl;
    }))
