-- How a replay ends.
use Rattle.std.proofs.Common.{◌≡◌, ◌++◌, ◌==◌, ℕ, Bool, true, false, map, Result, Ok, subst, cond, List, [], ◌∷◌, length, take, refl, sym, ap, ◌∙◌}
use Rattle.std.proofs.lemmas.Bool.{eq-eqb}
use Rattle.std.proofs.Math.Seq.{take-append_seam}
use Rattle.hive_model.specs.Base.{Base}
use Rattle.windows_logs.specs.log_parts.Filled.{filled}
use Rattle.log_replay.specs.declared.line.ReplayLine.{ReplayLine}
use Rattle.log_replay.specs.declared.line.ReplayLine.TheVariants.{Sequence}
use Rattle.log_replay.specs.declared.reading.GivenLog.{GivenLog}
use Rattle.log_replay.specs.declared.entries.HiveNow.{HiveNow}
use Rattle.log_replay.specs.Reading.{readings_lines}
use Rattle.log_replay.specs.Entries.{replayed_by}
use Rattle.log_replay.specs.Old.{chosen_old}
use Rattle.log_replay.specs.declared.replaying.LogFile.{LogFile}
use Rattle.nt_bytes.specs.declared.fault.HiveFault.{HiveFault}
use Rattle.std.specs.Prelude.{IfOk}
use Rattle.log_replay.specs.Replay.{kept, given, hive_base_of, replayed_as, replay_of, by_entries, by_old, ended, begun, dirty_by, dirty_of}

pub cut_filled : (file : List ℕ) → take (length file) (filled file) ≡ file
unfolding filled
cut_filled file = take-append_seam file _

-- a dirty hive where no entry was applied
pub dirty_zero : (original file : List ℕ) (hive : Base) (logs : List GivenLog) (now : HiveNow) (lines : List ReplayLine)
    → filled original ≡ file → now ≡ (replayed_by logs (begun file hive)).hive
    → lines ≡ (Sequence hive.first hive.second true ∷ readings_lines logs) ++ (replayed_by logs (begun file hive)).lines
    → now.applied ≡ 0 → by_old original hive lines (chosen_old logs hive.first) ≡ dirty_of original hive logs
dirty_zero original file hive logs now lines same now_is lines_are none =
    sym (ap (λ t. cond t (by_old original hive lines (chosen_old logs hive.first)) (by_entries hive lines now)) (eq-eqb now.applied 0 none))
    ∙ ap (λ (l : List ReplayLine). ended original hive logs l now) lines_are
    ∙ ap (ended original hive logs ((Sequence hive.first hive.second true ∷ readings_lines logs) ++ (replayed_by logs (begun file hive)).lines)) now_is
    ∙ ap (λ (f : List ℕ). dirty_by original hive logs (replayed_by logs (begun f hive))) (sym same)

pub clean_stays : (file : List ℕ) (files : List LogFile) (hive : Base) → hive_base_of (filled file) ≡ Ok hive → hive.first ≡ hive.second
    → IfOk (replay_of file files) (λ outcome. outcome.file ≡ file)
unfolding replay_of
clean_stays file files hive reads same =
    let P : Result Base HiveFault → Type 0 = λ r. IfOk (replayed_as file files r) (λ outcome. outcome.file ≡ file) in
    let at : (t : Bool) → t ≡ true → (cond t (kept file hive (Sequence hive.first hive.second false ∷ []))
    (dirty_of file hive (map (given hive (length (filled file))) files))).file ≡ file =
    elim [ true ↦ λ h. refl | false ↦ λ h. absurd (cc) ] in
    subst P (sym reads) (at (hive.first == hive.second) (eq-eqb hive.first hive.second same))
