-- Where what is applied comes from: which log, and what stands there.
use Rattle.std.proofs.Common.{◌≡◌, ◌⊎◌, ◌<◌, ◌+◌, ◌*◌, ◌/◌, ◌%◌, ◌^◌, ◌==◌, ℕ, zero, suc, Bool, true, false, cond, map, List, [], ◌∷◌, length, take, Option, Some, None, Result, Ok, Err, refl, sym, ◌∙◌, ap, subst, arith, inl, inr}
use Rattle.std.specs.Prelude.{slice_get}
use Rattle.std.proofs.lemmas.Bool.{eqb-true}
use Rattle.nt_bytes.specs.declared.fault.HiveFault.{HiveFault}
use Rattle.hive_model.specs.Base.{Base}
use Rattle.windows_logs.specs.declared.log_parts.base.FileRole.TheVariants as roles
use Rattle.windows_logs.specs.log_parts.Filled.{filled}
use Rattle.windows_logs.specs.log_parts.Wide.{wide_base_of}
use Rattle.windows_logs.specs.declared.entry_log.entry.Entry.{Entry}
use Rattle.windows_logs.specs.declared.entry_log.entry.Found.{Found}
use Rattle.windows_logs.specs.declared.entry_log.entry.Found.TheVariants as founds
use Rattle.windows_logs.specs.entry_log.Entries.{IsWhole}
use Rattle.windows_logs.specs.entry_log.Runs.{found_at, run_by, run_from, run_of}
use Rattle.windows_logs.proofs.Going.{found_whole}
use Rattle.windows_logs.specs.declared.dirt_log.reading.OldReading.{OldReading}
use Rattle.windows_logs.specs.declared.dirt_log.reading.OldReading.TheVariants as olds
use Rattle.windows_logs.specs.dirt_log.Dirt.{old_reading_of}
use Rattle.log_replay.specs.declared.reading.LogReading.TheVariants as readings
use Rattle.log_replay.specs.declared.entries.HiveNow.{HiveNow}
use Rattle.log_replay.specs.declared.old.WholeOld.{WholeOld}
use Rattle.log_replay.specs.declared.replaying.LogFile.{LogFile}
use Rattle.log_replay.specs.Entries.{Chosen, numbered, chosen_or, chosen, with_entry}
use Rattle.log_replay.specs.Laws.{FirstFits}
use Rattle.log_replay.specs.Old.{ChosenOld, whole_as, whole_old, is_wanted, wanted_as, wanted_old, first_of, first_old, chosen_old}
use Rattle.log_replay.specs.Reading.{based, reading_of, entries_in}
use Rattle.log_replay.specs.Replay.{given}
use Rattle.log_replay.proofs.Numbers.{numbered_is}
use Rattle.log_replay.proofs.Wholes.{chosen_whole, given_whole}
use Rattle.replay_laws.specs.Applied.{IsFoldOf}
use Rattle.replay_laws.specs.Results.{AreBytes, AreByteFiles, IsOneOf, IsFrom, AreFrom}
use Rattle.replay_laws.proofs.Bytes.{filled_bytes, word_fits}

pub one_bytes : (file : LogFile) (files : List LogFile) → IsOneOf file files → AreByteFiles files → AreBytes file.bytes
one_bytes file [] one are = absurd one
one_bytes file (f ∷ fs) (inl same) are = subst (λ (g : LogFile). AreBytes g.bytes) (sym same) are.0
one_bytes file (f ∷ fs) (inr later) are = one_bytes file fs later are.1

-- ---- entries

-- the entries of the run of a new log
record IsNewRun (log : List ℕ) (entries : List Entry) : Type 0 where
  pub base : Base
  pub base_is : wide_base_of (take 512 log) roles.Log ≡ Ok base
  pub is_new : base.kind ≡ 6
  pub entries_are : entries ≡ (run_of log).entries

-- a new log has the entries of its run, and any other log none
entries_of : (log : List ℕ) (hive : Base) (have : ℕ)
    → (entries_in (reading_of log hive have) ≡ []) ⊎ IsNewRun log (entries_in (reading_of log hive have))
unfolding reading_of
entries_of log hive have = here (length log == 0)
  where
    kind : (base : Base) → wide_base_of (take 512 log) roles.Log ≡ Ok base → (new : Bool) → (base.kind == 6) ≡ new
        → (entries_in (cond new (readings.New (run_of log)) (readings.Old base (old_reading_of log base hive have)))
        ≡ [])
        ⊎ IsNewRun log
        (entries_in (cond new (readings.New (run_of log)) (readings.Old base (old_reading_of log base hive have))))
    kind base reads true is = inr
        (record { base = base; base_is = reads; is_new = eqb-true base.kind 6 is; entries_are = refl })
    kind base reads false is = inl refl

    there : (r : Result Base HiveFault) → wide_base_of (take 512 log) roles.Log ≡ r
        → (entries_in (based r log hive have) ≡ []) ⊎ IsNewRun log (entries_in (based r log hive have))
    there (Err fault) reads = inl refl
    there (Ok base) reads = kind base reads (base.kind == 6) refl

    here : (empty : Bool)
        → (entries_in (cond empty readings.Empty (based (wide_base_of (take 512 log) roles.Log) log hive have)) ≡ [])
        ⊎ IsNewRun log
        (entries_in (cond empty readings.Empty (based (wide_base_of (take 512 log) roles.Log) log hive have)))
    here true = inl refl
    here false = there (wide_base_of (take 512 log) roles.Log) refl

-- the number of the first entry of a run
first_fits : (n : ℕ) (log : List ℕ) → AreBytes log → FirstFits (run_from n log 1 None).entries
unfolding run_from
first_fits zero log bytes = tt
first_fits (suc n) log bytes = here (found_at log 1 None) refl
  where
    here : (found : Found) → found_at log 1 None ≡ found
        → FirstFits (run_by 1 found (λ e. run_from n log (1 + e.length / 512) (Some e.number))).entries
    here founds.NoEntry is = tt
    here (founds.Broken kind) is = tt
    here (founds.Whole e) is =
        subst (λ k. k < 2 ^ 32) (sym (ap (λ (x : Entry). x.number) (found_whole log 1 None e is).there))
        (word_fits log (512 * 1 + 12) bytes)

got_one : (entries : List Entry) (i : ℕ) (e : Entry) → slice_get entries i ≡ Some e → IsOneOf e entries
got_one [] i e is = absurd cc
got_one (x ∷ xs) zero e is = inl cc
got_one (x ∷ xs) (suc i) e is = inr (got_one xs i e is)

numbered_one : (entries : List Entry) (n : ℕ) (e : Entry) → numbered entries n ≡ Some e → IsOneOf e entries
numbered_one [] n e is = absurd cc
numbered_one (x ∷ xs) n e is = got_one (x ∷ xs) _ e is

-- an entry of a log by its number
record IsNumbered (log : List ℕ) (n : ℕ) (e : Entry) : Type 0 where
  pub run : IsNewRun log (run_of log).entries
  pub in_run : IsOneOf e (run_of log).entries
  pub number : e.number ≡ n

entry_from : (log : List ℕ) (hive : Base) (have n : ℕ) (e : Entry) → AreBytes log → n < 2 ^ 32
    → numbered (entries_in (reading_of log hive have)) n ≡ Some e → IsNumbered log n e
entry_from log hive have n e bytes fits is = here (entries_of log hive have)
  where
    here : (entries_in (reading_of log hive have) ≡ []) ⊎ IsNewRun log (entries_in (reading_of log hive have))
        → IsNumbered log n e
    here (inl none) = absurd (numbered_one [] n e (sym (ap (λ (l : List Entry). numbered l n) none) ∙ is))
    here (inr run) =
        let got : numbered (run_of log).entries n ≡ Some e = sym (ap (λ (l : List Entry). numbered l n) run.entries_are)
        ∙ is in
        record {
          run = record { base = run.base; base_is = run.base_is; is_new = run.is_new; entries_are = refl };
          in_run = numbered_one (run_of log).entries n e got;
          number = numbered_is log n e fits (first_fits (length log / 512) log bytes) got;
        }

-- what is known of the entry that was chosen, but that it is whole
record IsFound (files : List LogFile) (n : ℕ) (c : Chosen) : Type 0 where
  pub file : LogFile
  pub listed : IsOneOf file files
  pub bytes_are : c.log.bytes ≡ filled file.bytes
  pub numbered : IsNumbered (filled file.bytes) n c.entry

chosen_found : (files : List LogFile) (hive : Base) (have n : ℕ) (c : Chosen) → AreByteFiles files → n < 2 ^ 32
    → chosen (map (given hive have) files) n ≡ Some c → IsFound files n c
chosen_found [] hive have n c are fits is = absurd cc
chosen_found (f ∷ fs) hive have n c are fits is =
    here (chosen_found fs hive have n c are.1 fits) (numbered (entries_in (reading_of (filled f.bytes) hive have)) n)
    refl is
  where
    here : (chosen (map (given hive have) fs) n ≡ Some c → IsFound fs n c) → (found : Option Entry)
        → numbered (entries_in (reading_of (filled f.bytes) hive have)) n ≡ found
        → chosen_or (given hive have f) found (chosen (map (given hive have) fs) n) ≡ Some c → IsFound (f ∷ fs) n c
    here later None none h =
        let rest = later h in
        record { file = rest.file; listed = inr rest.listed; bytes_are = rest.bytes_are; numbered = rest.numbered }
    here later (Some e) some h =
        let same : record { log = given hive have f; entry = e } ≡ c = cc in
        let from = entry_from (filled f.bytes) hive have n e (filled_bytes f.bytes are.0) fits some in
        record {
          file = f;
          listed = inl refl;
          bytes_are = sym (ap (λ (x : Chosen). x.log.bytes) same);
          numbered = subst (λ (x : Chosen). IsNumbered (filled f.bytes) n x.entry) same from;
        }

pub chosen_from : (files : List LogFile) (hive : Base) (have n : ℕ) (c : Chosen) → AreByteFiles files → n < 2 ^ 32
    → chosen (map (given hive have) files) n ≡ Some c → IsFrom files n c
chosen_from files hive have n c are fits is =
    let found = chosen_found files hive have n c are fits is in
    record {
      file = found.file;
      listed = found.listed;
      base = found.numbered.run.base;
      base_is = found.numbered.run.base_is;
      is_new = found.numbered.run.is_new;
      bytes_are = found.bytes_are;
      in_run = found.numbered.in_run;
      whole = subst (λ (l : List ℕ). IsWhole l c.entry) found.bytes_are
          (chosen_whole (map (given hive have) files) n c (given_whole hive have files) is);
      number = found.numbered.number;
    }

pub fold_from : (files : List LogFile) (hive : Base) (have : ℕ) (cs : List Chosen) (old new : HiveNow)
    → AreByteFiles files
    → old.next < 2 ^ 32 → IsFoldOf (map (given hive have) files) cs old new → AreFrom files old.next cs
fold_from files hive have [] old new are fits is = tt
fold_from files hive have (c ∷ cs) old new are fits is =
    let from = chosen_from files hive have old.next c are fits is.0 in
    let next : (c.entry.number + 1) % 2 ^ 32 ≡ (old.next + 1) % 2 ^ 32 = ap (λ k. (k + 1) % 2 ^ 32) from.number in (
      from,
      subst (λ k. AreFrom files k cs) next (fold_from files hive have cs (with_entry old c) new are (omega arith)
          is.1.1),
    )

-- ---- an old log

pub record IsOldFrom (files : List LogFile) (hive : Base) (have : ℕ) (c : ChosenOld) : Type 0 where
  pub log : LogFile
  pub listed : IsOneOf log files
  pub bytes_are : c.log.bytes ≡ filled log.bytes
  pub base_is : wide_base_of (take 512 (filled log.bytes)) roles.Log ≡ Ok c.whole.base
  pub number : ℕ
  pub sectors : ℕ
  pub whole : old_reading_of (filled log.bytes) c.whole.base hive have ≡ olds.Whole number sectors

-- the reading of a whole old log
record IsWholeBy (log : List ℕ) (hive : Base) (have : ℕ) (w : WholeOld) : Type 0 where
  pub base_is : wide_base_of (take 512 log) roles.Log ≡ Ok w.base
  pub number : ℕ
  pub sectors : ℕ
  pub whole : old_reading_of log w.base hive have ≡ olds.Whole number sectors

whole_by : (log : List ℕ) (hive : Base) (have : ℕ) (w : WholeOld) → whole_old (reading_of log hive have) ≡ Some w
    → IsWholeBy log hive have w
unfolding reading_of
whole_by log hive have w is = here (length log == 0) is
  where
    reading : (base : Base) → wide_base_of (take 512 log) roles.Log ≡ Ok base → (r : OldReading)
        → old_reading_of log base hive have ≡ r → whole_as base r ≡ Some w → IsWholeBy log hive have w
    reading base reads (olds.Broken fault) e h = absurd cc
    reading base reads (olds.OtherStamp number) e h = absurd cc
    reading base reads (olds.OtherNumber number) e h = absurd cc
    reading base reads (olds.Whole number sectors) e h =
        let same : record { base = base; sectors = sectors } ≡ w = cc in
        record {
          base_is = reads ∙ ap (λ (x : WholeOld). Ok x.base) same;
          number = number;
          sectors = sectors;
          whole = sym (ap (λ (x : WholeOld). old_reading_of log x.base hive have) same) ∙ e;
        }

    kind : (base : Base) → wide_base_of (take 512 log) roles.Log ≡ Ok base → (new : Bool)
        → whole_old (cond new (readings.New (run_of log)) (readings.Old base (old_reading_of log base hive have)))
        ≡ Some w
        → IsWholeBy log hive have w
    kind base reads true h = absurd cc
    kind base reads false h = reading base reads (old_reading_of log base hive have) refl h

    there : (r : Result Base HiveFault) → wide_base_of (take 512 log) roles.Log ≡ r
        → whole_old (based r log hive have) ≡ Some w
        → IsWholeBy log hive have w
    there (Err fault) reads h = absurd cc
    there (Ok base) reads h = kind base reads (base.kind == 6) h

    here : (empty : Bool)
        → whole_old (cond empty readings.Empty (based (wide_base_of (take 512 log) roles.Log) log hive have)) ≡ Some w
        → IsWholeBy log hive have w
    here true h = absurd cc
    here false h = there (wide_base_of (take 512 log) roles.Log) refl h

wanted_from : (file : LogFile) (hive : Base) (have : ℕ) (wanted : Option ℕ) (c : ChosenOld)
    → wanted_old (given hive have file) wanted ≡ Some c
    → (c.log.bytes ≡ filled file.bytes) × IsWholeBy (filled file.bytes) hive have c.whole
wanted_from file hive have wanted c is = here (whole_old (reading_of (filled file.bytes) hive have)) refl is
  where
    there : (w : WholeOld) → whole_old (reading_of (filled file.bytes) hive have) ≡ Some w → (t : Bool)
        → cond t (Some (record { log = given hive have file; whole = w })) None ≡ Some c
        → (c.log.bytes ≡ filled file.bytes) × IsWholeBy (filled file.bytes) hive have c.whole
    there w some false h = absurd cc
    there w some true h =
        let same : record { log = given hive have file; whole = w } ≡ c = cc in (
          sym (ap (λ (x : ChosenOld). x.log.bytes) same),
          subst (λ (x : ChosenOld). IsWholeBy (filled file.bytes) hive have x.whole) same
              (whole_by (filled file.bytes) hive have w some),
        )

    here : (found : Option WholeOld) → whole_old (reading_of (filled file.bytes) hive have) ≡ found
        → wanted_as (given hive have file) wanted found ≡ Some c
        → (c.log.bytes ≡ filled file.bytes) × IsWholeBy (filled file.bytes) hive have c.whole
    here None none h = absurd cc
    here (Some w) some h = there w some (is_wanted wanted w.base.first) h

first_part : (a b : Option ChosenOld) (c : ChosenOld) (P : Type 0) → (a ≡ Some c → P) → (b ≡ Some c → P)
    → first_of a b ≡ Some c → P
first_part None b c P one other is = other is
first_part (Some x) b c P one other is = one is

first_from : (files : List LogFile) (hive : Base) (have : ℕ) (wanted : Option ℕ) (c : ChosenOld)
    → first_old (map (given hive have) files) wanted ≡ Some c → IsOldFrom files hive have c
first_from [] hive have wanted c is = absurd cc
first_from (f ∷ fs) hive have wanted c is =
    first_part (wanted_old (given hive have f) wanted) (first_old (map (given hive have) fs) wanted) c
    (IsOldFrom (f ∷ fs) hive have c)
    (λ h.
    let from = wanted_from f hive have wanted c h in
    record {
      log = f;
      listed = inl refl;
      bytes_are = from.0;
      base_is = from.1.base_is;
      number = from.1.number;
      sectors = from.1.sectors;
      whole = from.1.whole;
    })
    (λ h.
    let rest = first_from fs hive have wanted c h in
    record {
      log = rest.log;
      listed = inr rest.listed;
      bytes_are = rest.bytes_are;
      base_is = rest.base_is;
      number = rest.number;
      sectors = rest.sectors;
      whole = rest.whole;
    }) is

pub old_from : (files : List LogFile) (hive : Base) (have first : ℕ) (c : ChosenOld)
    → chosen_old (map (given hive have) files) first ≡ Some c → IsOldFrom files hive have c
old_from files hive have first c is =
    let logs = map (given hive have) files in
    first_part (first_old logs (Some first)) (first_old logs None) c (IsOldFrom files hive have c)
    (first_from files hive have (Some first) c) (first_from files hive have None c) is
