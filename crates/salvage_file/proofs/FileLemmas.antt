-- A log that is whole is long, what is opened is small, and payloads of bytes are bytes.
use Rattle.std.proofs.Common.{◌≡◌, ℕ, ◌+◌, ◌-◌, ◌≤◌, Bool, true, false, cond, List, [], ◌∷◌, length, length-take, take, drop, ◌++◌, replicate, Option, Some, None, Result, Ok, Err, refl, sym, ap, subst, ◌∙◌, arith}
use Rattle.std.specs.Prelude.{◌==◌, ◌||◌, nat_lt, slice_range}
use Rattle.std.proofs.lemmas.Bool.{leb-true}
use Rattle.std.proofs.lemmas.Bool.Decides.{nat_tests}
use Rattle.salvage_file.specs.declared.opening.FileState.TheVariants.{Clean}
use Rattle.nt_bytes.specs.Fields.{u32_in}
use Rattle.nt_bytes.specs.declared.fault.HiveFault.{HiveFault}
use Rattle.nt_bytes.specs.declared.fault.HiveFaultKind.{HiveFaultKind}
use Rattle.nt_bytes.specs.declared.fault.HiveFaultKind.TheVariants.{LogAbsent, FreeCell}
use Rattle.nt_bytes.specs.declared.version.HiveVersion.{HiveVersion}
use Rattle.hive_model.specs.Base.{Base, fields_of}
use Rattle.hive_model.specs.Bins.{magnitude}
use Rattle.hive_read.proofs.FormFacts.{IsBytes, bytes-take, bytes-drop}
use Rattle.hive_read.proofs.ValidTrees.{AreBytes}
use Rattle.windows_logs.specs.declared.log_parts.fault.LogFault.{LogFault}
use Rattle.windows_logs.specs.declared.log_parts.fault.LogFaultKind.TheVariants.{LogSequence}
use Rattle.windows_logs.specs.log_parts.Pages.{put_pages}
use Rattle.windows_logs.specs.log_parts.Wide.{is_wide_size}
use Rattle.windows_logs.specs.declared.dirt_log.reading.OldReading.{OldReading}
use Rattle.windows_logs.specs.declared.dirt_log.reading.OldReading.TheVariants as old
use Rattle.windows_logs.specs.dirt_log.Dirt.{first_failing, dirt_checks, whole_or, old_reading_of, old_pages_of, IsLong, fault_at}
use Rattle.salvage_bins.specs.declared.layout.Mark.{Mark}
use Rattle.salvage_walk.specs.declared.lines.WalkLine.{WalkLine}
use Rattle.salvage_walk.specs.Keys.{answer_of, salvaged}
use Rattle.hive_model.specs.Tree.{Tree}
use Rattle.hive_model.specs.Valid.{IsValid}
use Rattle.salvage_bins.specs.declared.layout.Mark.TheVariants as marks
use Rattle.salvage_bins.specs.Ground.{mark_at, payload_here, payload_by}
use Rattle.salvage_file.specs.declared.recovery.LogStop.{LogStop}
use Rattle.salvage_file.specs.declared.recovery.RecoveredHive.{RecoveredHive}
use Rattle.salvage_file.specs.Faults.{head_of, base_faults, bins_length, bins_of}
use Rattle.salvage_file.specs.Long.{IsLongAs}
use Rattle.salvage_file.specs.Recovery.{by_reading, by_faults, recovery, log_stop}
use Rattle.salvage_file.specs.Opened.{as_is, dirty_as, sound_as, opened_as, opened}
use Rattle.salvage_file.specs.Salvage.{ground_in}
use Rattle.salvage_file.proofs.KeyLemmas.{salvaged-valid}

-- ---- an old log

-- each of the checks holds
abbrev AllHold : List (Bool × LogFault) → Type 0
AllHold [] = Unit {0}
AllHold (check ∷ checks) = (check.0 ≡ true) × AllHold checks

none_holds : (checks : List (Bool × LogFault)) → first_failing checks ≡ None → AllHold checks
none_holds [] none = tt
none_holds (check ∷ checks) none =
    let here : (t : Bool) → cond t (first_failing checks) (Some check.1) ≡ None → (t ≡ true) × AllHold checks =
    elim [ true ↦ λ h. (refl, none_holds checks h) | false ↦ λ h. absurd (cc) ] in
    here check.0 none

checked_long : (log : List ℕ) (size have : ℕ) → first_failing (dirt_checks log size have) ≡ None → IsLong log size
checked_long log size have none =
    let hold = none_holds (dirt_checks log size have) none in
    record { front = leb-true _ _ hold.0; needs = leb-true _ _ hold.1.1.1.0 }

-- a log that was read as whole has all that it needs
pub old_long : (log : List ℕ) (base hive : Base) (have : ℕ) → IsLongAs log base.size (old_reading_of log base hive have)
unfolding old_reading_of
old_long log base hive have =
    let last : (fault : Option LogFault) → first_failing (dirt_checks log base.size have) ≡ fault → IsLongAs log base.size (whole_or fault log base) =
    λ fault. elim fault as (λ fault. first_failing (dirt_checks log base.size have) ≡ fault → IsLongAs log base.size (whole_or fault log base)) [
      | None ↦ λ h. checked_long log base.size have h
      | Some f ↦ λ h. tt
    ] in
    let all : (a b d : Bool) (x : OldReading) → IsLongAs log base.size x
    → IsLongAs log base.size (cond a (cond b (cond d x (old.OtherNumber base.first)) (old.OtherStamp base.first)) (old.Broken (fault_at LogSequence 4))) =
    λ a b d x h. elim a as (λ a. IsLongAs log base.size (cond a (cond b (cond d x (old.OtherNumber base.first)) (old.OtherStamp base.first)) (old.Broken (fault_at LogSequence 4)))) [
      | false ↦ tt
      | true ↦ elim b as (λ b. IsLongAs log base.size (cond b (cond d x (old.OtherNumber base.first)) (old.OtherStamp base.first))) [
        | false ↦ tt
        | true ↦ elim d as (λ d. IsLongAs log base.size (cond d x (old.OtherNumber base.first))) [ false ↦ tt | true ↦ h ]
      ]
    ] in
    all (base.first == base.second) (base.stamp == hive.stamp) ((base.first == hive.first) || (base.first == hive.second)) _
    (last (first_failing (dirt_checks log base.size have)) refl)

-- ---- bins data that are opened

take-few : (n : ℕ) (xs : List ℕ) → length (take n xs) ≤ n
take-few n xs = omega (arith, length-take n xs)

-- a size that bins data may have is no greater than the greatest
wide-small : (size : ℕ) → is_wide_size size ≡ true → size ≤ 268431360
wide-small size e = grind (arith, nat_tests)

length-small : (size : ℕ) → bins_length size ≤ 268431360
length-small size = go (is_wide_size size) refl
  where
    go : (b : Bool) → is_wide_size size ≡ b → cond b size 268431360 ≤ 268431360
    go true e = wide-small size e
    go false e = omega arith

bins-small : (file : List ℕ) (size : ℕ) → length (bins_of file size) ≤ 268435456
bins-small file size = omega (arith, take-few (bins_length size) (drop 4096 file), length-small size)

abbrev IsSmall : Result RecoveredHive LogStop → Type 0
IsSmall (Ok r) = length r.bins ≤ 268435456
IsSmall (Err stop) = Unit {0}

reading-small : (file log : List ℕ) (logged : Base) (reading : OldReading) → IsSmall (by_reading file log logged reading)
reading-small file log logged (old.Broken fault) = tt
reading-small file log logged (old.OtherStamp number) = tt
reading-small file log logged (old.OtherNumber number) = tt
reading-small file log logged (old.Whole number sectors) =
    bins-small (put_pages (file ++ replicate (4096 + logged.size - length file) 0) (old_pages_of log logged.size)) logged.size

faults-small : (file : List ℕ) (hive : Base) (log : List ℕ) (faults : List HiveFault) → IsSmall (by_faults file hive log faults)
faults-small file hive log [] = reading-small file log (fields_of (head_of log)) _
faults-small file hive log (fault ∷ more) = tt

recovery-small : (file : List ℕ) (hive : Base) (log : List ℕ) → IsSmall (recovery file hive log)
unfolding recovery
recovery-small file hive log = go (length log == 0)
  where
    go : (b : Bool) → IsSmall (cond b (Err (log_stop LogAbsent 0)) (by_faults file hive log (base_faults (head_of log) 1)))
    go true = tt
    go false = faults-small file hive log (base_faults (head_of log) 1)

dirty-small : (file : List ℕ) (base : Base) (r : Result RecoveredHive LogStop) → IsSmall r → length (dirty_as file base r).bins ≤ 268435456
dirty-small file base (Ok r) s = s
dirty-small file base (Err stop) s = bins-small file base.size

sound-small : (file : List ℕ) (base : Base) (log : List ℕ) → length (sound_as file base log).bins ≤ 268435456
sound-small file base log = go (base.first == base.second)
  where
    go : (b : Bool) → length (cond b (as_is file base Clean [] false None) (dirty_as file base (recovery file base log))).bins ≤ 268435456
    go true = bins-small file base.size
    go false = dirty-small file base (recovery file base log) (recovery-small file base log)

opened-as-small : (file : List ℕ) (base : Base) (log : List ℕ) (faults : List HiveFault)
    → length (opened_as file base log faults).bins ≤ 268435456
opened-as-small file base log [] = sound-small file base log
opened-as-small file base log (fault ∷ more) = bins-small file base.size

-- what is opened has at most 256 MiB of bins data
pub opened-small : (file log : List ℕ) → length (opened file log).bins ≤ 268435456
unfolding opened
opened-small file log = opened-as-small file (fields_of (head_of file)) log (base_faults (head_of file) 0)

-- ---- cells of bytes

abbrev done : {A : Type 0} → A → Result A HiveFaultKind
done x = Ok x

done_same : {A : Type 0} (x y : A) → done x ≡ done y → x ≡ y
done_same x y e = cc

range-bytes : (bytes : List ℕ) (from to : ℕ) → IsBytes bytes → IsBytes (slice_range bytes from to)
range-bytes bytes from to h = bytes-take (to - from) (drop from bytes) (bytes-drop from bytes h)

here-bytes : (bytes : List ℕ) (at : ℕ) (p : List ℕ) → IsBytes bytes → payload_here bytes at ≡ done p → IsBytes p
unfolding payload_here
here-bytes bytes at p h e = go (nat_lt (u32_in bytes at) 2147483648) e
  where
    go : (b : Bool) → cond b (Err FreeCell) (Ok (slice_range bytes (at + 4) (at + magnitude (u32_in bytes at)))) ≡ done p → IsBytes p
    go true e = absurd cc
    go false e = subst IsBytes (done_same _ p e) (range-bytes bytes (at + 4) (at + magnitude (u32_in bytes at)) h)

by-bytes : (mark : Mark) (bytes : List ℕ) (at : ℕ) (p : List ℕ) → IsBytes bytes → payload_by mark bytes at ≡ done p → IsBytes p
by-bytes marks.Nothing bytes at p h e = absurd cc
by-bytes marks.InBin bytes at p h e = here-bytes bytes at p h e
by-bytes marks.Loose bytes at p h e = here-bytes bytes at p h e

-- the payloads among bytes are bytes
pub ground-bytes : (version : HiveVersion) (bytes : List ℕ) (ms : List Mark) → IsBytes bytes → AreBytes (ground_in version bytes ms).cells
ground-bytes version bytes ms h at p e = by-bytes (mark_at bytes ms at) bytes at p h e

-- ---- what is found

-- the tree that it found is one that a hive can hold
pub found-valid : (version : HiveVersion) (bytes : List ℕ) (root : ℕ) (ms : List Mark) (tree : Option Tree) (lines : List WalkLine)
    → IsBytes bytes → (tree, lines) ≡ answer_of (salvaged (ground_in version bytes ms) root) → (t : Tree) → tree ≡ Some t → IsValid t
found-valid version bytes root ms tree lines h walk t e =
    salvaged-valid (ground_in version bytes ms) root t (ground-bytes version bytes ms h)
    (sym (ap (λ (x : Option Tree × List WalkLine). x.0) walk) ∙ e)
