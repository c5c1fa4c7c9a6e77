-- What is read is whole.
use Rattle.std.proofs.Common.{◌≡◌, ◌+◌, ◌/◌, ◌==◌, ◌||◌, ℕ, zero, suc, Bool, true, false, cond, List, [], ◌∷◌, length, Option, Some, None, Result, Ok, Err, refl, subst, map}
use Rattle.std.specs.Prelude.{slice_get, take}
use Rattle.std.proofs.lemmas.Bool.{leb-true}
use Rattle.nt_bytes.specs.declared.fault.HiveFault.{HiveFault}
use Rattle.hive_model.specs.Base.{Base}
use Rattle.windows_logs.specs.declared.log_parts.fault.LogFault.{LogFault}
use Rattle.windows_logs.specs.declared.log_parts.base.FileRole.TheVariants as roles
use Rattle.windows_logs.specs.log_parts.Filled.{filled}
use Rattle.windows_logs.specs.log_parts.Wide.{wide_base_of}
use Rattle.windows_logs.specs.declared.entry_log.entry.Entry.{Entry}
use Rattle.windows_logs.specs.declared.entry_log.entry.Found.{Found}
use Rattle.windows_logs.specs.declared.entry_log.entry.Found.TheVariants.{NoEntry, Broken, Whole}
use Rattle.windows_logs.specs.entry_log.Entries.{IsWhole}
use Rattle.windows_logs.specs.entry_log.Runs.{found_at, run_by, run_from}
use Rattle.windows_logs.proofs.Going.{found_whole}
use Rattle.windows_logs.specs.declared.dirt_log.reading.OldReading.{OldReading}
use Rattle.windows_logs.specs.declared.dirt_log.reading.OldReading.TheVariants as old
use Rattle.windows_logs.specs.dirt_log.Dirt.{first_failing, dirt_checks, whole_or, old_reading_of, IsLong, fault_at}
use Rattle.windows_logs.specs.declared.log_parts.fault.LogFaultKind.TheVariants.{LogSequence}
use Rattle.log_replay.specs.declared.reading.LogReading.{LogReading}
use Rattle.log_replay.specs.declared.reading.LogReading.TheVariants as readings
use Rattle.log_replay.specs.declared.reading.GivenLog.{GivenLog}
use Rattle.log_replay.specs.Reading.{based, reading_of, entries_in, AreWhole, IsLongOld, IsWholeAs, AreWholeLogs}
use Rattle.log_replay.specs.declared.replaying.LogFile.{LogFile}
use Rattle.log_replay.specs.declared.old.WholeOld.{WholeOld}
use Rattle.log_replay.specs.Entries.{Chosen, numbered, chosen_or, chosen}
use Rattle.log_replay.specs.Old.{ChosenOld, whole_as, whole_old, is_wanted, wanted_as, wanted_old, first_of, first_old, chosen_old}
use Rattle.log_replay.specs.Replay.{given}

-- ---- the entries of a run

run_whole : (n : ℕ) (log : List ℕ) (sector : ℕ) (before : Option ℕ) → AreWhole log (run_from n log sector before).entries
unfolding run_from
run_whole zero log sector before = tt
run_whole (suc n) log sector before =
    let at : (found : Found) → found_at log sector before ≡ found
    → AreWhole log (run_by sector found (λ e. run_from n log (sector + e.length / 512) (Some e.number))).entries =
    λ found. elim found as (λ found. found_at log sector before ≡ found
    → AreWhole log (run_by sector found (λ e. run_from n log (sector + e.length / 512) (Some e.number))).entries) [
      | NoEntry ↦ λ h. tt
      | Broken kind ↦ λ h. tt
      | Whole e ↦ λ h. ((found_whole log sector before e h).whole, run_whole n log (sector + e.length / 512) (Some e.number))
    ] in
    at (found_at log sector before) refl

-- ---- an old log

-- each of the checks holds
abbrev AllHold : List (Bool × LogFault) → Type 0
AllHold [] = Unit {0}
AllHold (check ∷ checks) = (check.0 ≡ true) × AllHold checks

none_holds : (checks : List (Bool × LogFault)) → first_failing checks ≡ None → AllHold checks
none_holds [] none = tt
none_holds (check ∷ checks) none =
    let here : (t : Bool) → cond t (first_failing checks) (Some check.1) ≡ None → (t ≡ true) × AllHold checks =
    elim [ true ↦ λ h. (refl, none_holds checks h) | false ↦ λ h. absurd (cc) ] in
    here check.0 none

checked_long : (log : List ℕ) (size have : ℕ) → first_failing (dirt_checks log size have) ≡ None → IsLong log size
checked_long log size have none =
    let hold = none_holds (dirt_checks log size have) none in
    record { front = leb-true _ _ hold.0; needs = leb-true _ _ hold.1.1.1.0 }

old_long : (log : List ℕ) (base hive : Base) (have : ℕ) → IsLongOld log base (old_reading_of log base hive have)
unfolding old_reading_of
old_long log base hive have =
    let last : (fault : Option LogFault) → first_failing (dirt_checks log base.size have) ≡ fault → IsLongOld log base (whole_or fault log base) =
    λ fault. elim fault as (λ fault. first_failing (dirt_checks log base.size have) ≡ fault → IsLongOld log base (whole_or fault log base)) [
      | None ↦ λ h. checked_long log base.size have h
      | Some f ↦ λ h. tt
    ] in
    let all : (a b d : Bool) (x : OldReading) → IsLongOld log base x
    → IsLongOld log base (cond a (cond b (cond d x (old.OtherNumber base.first)) (old.OtherStamp base.first)) (old.Broken (fault_at LogSequence 4))) =
    λ a b d x h. elim a as (λ a. IsLongOld log base (cond a (cond b (cond d x (old.OtherNumber base.first)) (old.OtherStamp base.first)) (old.Broken (fault_at LogSequence 4)))) [
      | false ↦ tt
      | true ↦ elim b as (λ b. IsLongOld log base (cond b (cond d x (old.OtherNumber base.first)) (old.OtherStamp base.first))) [
        | false ↦ tt
        | true ↦ elim d as (λ d. IsLongOld log base (cond d x (old.OtherNumber base.first))) [ false ↦ tt | true ↦ h ]
      ]
    ] in
    all (base.first == base.second) (base.stamp == hive.stamp) ((base.first == hive.first) || (base.first == hive.second)) _
    (last (first_failing (dirt_checks log base.size have)) refl)

-- ---- a log

based_whole : (r : Result Base HiveFault) (log : List ℕ) (hive : Base) (have : ℕ) → IsWholeAs log (based r log hive have)
based_whole (Err fault) log hive have = tt
based_whole (Ok base) log hive have =
    let at : (t : Bool) → IsWholeAs log (cond t (readings.New (run_from (length log / 512) log 1 None)) (readings.Old base (old_reading_of log base hive have))) =
    elim [ true ↦ run_whole (length log / 512) log 1 None | false ↦ old_long log base hive have ] in
    at (base.kind == 6)

pub reading_whole : (log : List ℕ) (hive : Base) (have : ℕ) → IsWholeAs log (reading_of log hive have)
unfolding reading_of
reading_whole log hive have =
    let at : (t : Bool) → IsWholeAs log (cond t readings.Empty (based (wide_base_of (take 512 log) roles.Log) log hive have)) =
    elim [ true ↦ tt | false ↦ based_whole (wide_base_of (take 512 log) roles.Log) log hive have ] in
    at (length log == 0)

-- ---- an entry that is chosen

got_whole : (log : List ℕ) (entries : List Entry) (i : ℕ) (e : Entry) → AreWhole log entries → slice_get entries i ≡ Some e → IsWhole log e
got_whole log [] i e are is = absurd (cc)
got_whole log (x ∷ xs) zero e are is = let same : x ≡ e = cc in subst (IsWhole log) same are.0
got_whole log (x ∷ xs) (suc i) e are is = got_whole log xs i e are.1 is

numbered_whole : (log : List ℕ) (entries : List Entry) (n : ℕ) (e : Entry) → AreWhole log entries → numbered entries n ≡ Some e → IsWhole log e
numbered_whole log [] n e are is = absurd (cc)
numbered_whole log (x ∷ xs) n e are is = got_whole log (x ∷ xs) _ e are is

entries_whole : (log : List ℕ) (reading : LogReading) → IsWholeAs log reading → AreWhole log (entries_in reading)
entries_whole log readings.Empty is = tt
entries_whole log (readings.Broken fault) is = tt
entries_whole log (readings.New run) is = is
entries_whole log (readings.Old base reading) is = tt

pub chosen_whole : (logs : List GivenLog) (n : ℕ) (c : Chosen) → AreWholeLogs logs → chosen logs n ≡ Some c → IsWhole c.log.bytes c.entry
chosen_whole [] n c are is = absurd (cc)
chosen_whole (log ∷ logs) n c are is =
    let at : (found : Option Entry) → numbered (entries_in log.reading) n ≡ found → chosen_or log found (chosen logs n) ≡ Some c
    → IsWhole c.log.bytes c.entry =
    λ found. elim found as (λ found. numbered (entries_in log.reading) n ≡ found → chosen_or log found (chosen logs n) ≡ Some c
    → IsWhole c.log.bytes c.entry) [
      | None ↦ λ none h. chosen_whole logs n c are.1 h
      | Some e ↦ λ some h.
          let same : record { log = log; entry = e } ≡ c = cc in
          subst (λ (x : Chosen). IsWhole x.log.bytes x.entry) same
          (numbered_whole log.bytes (entries_in log.reading) n e (entries_whole log.bytes log.reading are.0) some)
    ] in
    at (numbered (entries_in log.reading) n) refl is

-- ---- an old log that is chosen

as_long : (log : List ℕ) (base : Base) (reading : OldReading) (w : WholeOld) → IsLongOld log base reading → whole_as base reading ≡ Some w
    → IsLong log w.base.size
as_long log base (old.Broken fault) w long is = absurd (cc)
as_long log base (old.OtherStamp number) w long is = absurd (cc)
as_long log base (old.OtherNumber number) w long is = absurd (cc)
as_long log base (old.Whole number sectors) w long is =
    let same : record { base = base; sectors = sectors } ≡ w = cc in
    subst (λ (x : WholeOld). IsLong log x.base.size) same long

whole_old_long : (log : List ℕ) (reading : LogReading) (w : WholeOld) → IsWholeAs log reading → whole_old reading ≡ Some w → IsLong log w.base.size
whole_old_long log readings.Empty w whole is = absurd (cc)
whole_old_long log (readings.Broken fault) w whole is = absurd (cc)
whole_old_long log (readings.New run) w whole is = absurd (cc)
whole_old_long log (readings.Old base reading) w whole is = as_long log base reading w whole is

wanted_long : (log : GivenLog) (wanted : Option ℕ) (c : ChosenOld) → IsWholeAs log.bytes log.reading → wanted_old log wanted ≡ Some c
    → IsLong c.log.bytes c.whole.base.size
wanted_long log wanted c whole is =
    let at : (found : Option WholeOld) → whole_old log.reading ≡ found → wanted_as log wanted found ≡ Some c → IsLong c.log.bytes c.whole.base.size =
    λ found. elim found as (λ found. whole_old log.reading ≡ found → wanted_as log wanted found ≡ Some c → IsLong c.log.bytes c.whole.base.size) [
      | None ↦ λ none h. absurd (cc)
      | Some w ↦ λ some.
          elim (is_wanted wanted w.base.first) as (λ t. cond t (Some (record { log = log; whole = w })) None ≡ Some c → IsLong c.log.bytes c.whole.base.size) [
            | false ↦ λ h. absurd (cc)
            | true ↦ λ h.
                let same : record { log = log; whole = w } ≡ c = cc in
                subst (λ (x : ChosenOld). IsLong x.log.bytes x.whole.base.size) same (whole_old_long log.bytes log.reading w whole some)
          ]
    ] in
    at (whole_old log.reading) refl is

first_part : (a b : Option ChosenOld) (c : ChosenOld) (P : Type 0) → (a ≡ Some c → P) → (b ≡ Some c → P) → first_of a b ≡ Some c → P
first_part None b c P one other is = other is
first_part (Some x) b c P one other is = one is

first_long : (logs : List GivenLog) (wanted : Option ℕ) (c : ChosenOld) → AreWholeLogs logs → first_old logs wanted ≡ Some c
    → IsLong c.log.bytes c.whole.base.size
first_long [] wanted c are is = absurd (cc)
first_long (log ∷ logs) wanted c are is =
    first_part (wanted_old log wanted) (first_old logs wanted) c (IsLong c.log.bytes c.whole.base.size)
    (wanted_long log wanted c are.0) (first_long logs wanted c are.1) is

pub chosen_long : (logs : List GivenLog) (first : ℕ) (c : ChosenOld) → AreWholeLogs logs → chosen_old logs first ≡ Some c
    → IsLong c.log.bytes c.whole.base.size
chosen_long logs first c are is =
    first_part (first_old logs (Some first)) (first_old logs None) c (IsLong c.log.bytes c.whole.base.size)
    (first_long logs (Some first) c are) (first_long logs None c are) is

-- ---- the logs that are given

pub given_whole : (hive : Base) (have : ℕ) (files : List LogFile) → AreWholeLogs (map (given hive have) files)
given_whole hive have [] = tt
given_whole hive have (file ∷ files) = (reading_whole (filled file.bytes) hive have, given_whole hive have files)
