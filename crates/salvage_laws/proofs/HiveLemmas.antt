-- A hive, clean or not, is salvaged as it loads.
use Rattle.std.proofs.Common.{◌≡◌, inl, inr, ℕ, ◌+◌, ◌-◌, ◌*◌, ◌/◌, ◌≤◌, Bool, true, false, cond, not, List, [], ◌∷◌, ◌++◌, length, drop, replicate, Some, None, Result, Ok, Err, refl, sym, ap, subst, ◌∙◌, arith}
use Rattle.std.specs.Prelude.{◌==◌, ◌||◌, nat_eq, nat_le, codes}
use Rattle.std.specs.List.{starts_with}
use Rattle.std.proofs.lemmas.Bool.{eqb-true, eqb-false, ne_eqb}
use Rattle.std.proofs.lemmas.List.{length-take}
use Rattle.nt_bytes.specs.declared.fault.HiveFault.{HiveFault}
use Rattle.nt_bytes.specs.declared.fault.HiveFaultKind.TheVariants as kinds
use Rattle.hive_model.specs.Base.{Base, is_minor, version_of, fault_at, fields_of}
use Rattle.hive_model.specs.Image.{Image, image_of}
use Rattle.hive_model.specs.Load.{Holds, HeldFault, Loads, LoadsAs, LoadFault}
use Rattle.hive_model.specs.Recovery.{Recovered, first_dirty, recovered_of}
use Rattle.hive_model.specs.State.{HiveState}
use Rattle.hive_model.proofs.BaseLemmas.{base_checked}
use Rattle.hive_cells.proofs.Tools.{IsBytes}
use Rattle.hive_log.proofs.Finding.{by_unfinished}
use Rattle.windows_logs.specs.declared.log_parts.fault.LogFaultKind.TheVariants as logs
use Rattle.windows_logs.specs.log_parts.Filled.{filled}
use Rattle.windows_logs.specs.log_parts.Pages.{put_pages}
use Rattle.windows_logs.specs.log_parts.Wide.{is_wide_size}
use Rattle.windows_logs.specs.dirt_log.Dirt.{bits_of, has_rest, needed, dirt_checks, first_failing, whole_or, old_reading_of, old_pages_of, fault_at as log_fault_at}
use Rattle.windows_logs.specs.declared.dirt_log.reading.OldReading.{OldReading}
use Rattle.windows_logs.specs.declared.dirt_log.reading.OldReading.TheVariants.{Broken, OtherStamp, OtherNumber, Whole}
use Rattle.salvage_file.specs.declared.opening.FileState.TheVariants.{Clean as CleanState, AsIs}
use Rattle.salvage_file.specs.declared.recovery.LogStop.{LogStop}
use Rattle.salvage_file.specs.declared.recovery.RecoveredHive.{RecoveredHive}
use Rattle.salvage_file.specs.declared.salvaging.BinsFound.{BinsFound}
use Rattle.salvage_file.specs.declared.salvaging.SalvagedHive.{SalvagedHive}
use Rattle.salvage_file.specs.Faults.{head_of, base_faults, bins_length, bins_of, unless}
use Rattle.salvage_file.specs.Opened.{is_short, as_is, is_size, dirty_as, opened_as, opened}
use Rattle.salvage_file.specs.Recovery.{log_stop, recovered_bins, beside, by_reading, by_faults, recovery}
use Rattle.salvage_file.specs.Salvage.{found_in, hive_by, salvaged_hive}
use Rattle.salvage_laws.specs.Plain.{AreSmall}
use Rattle.salvage_laws.specs.Told.{first_reported, TellsFirst}
use Rattle.salvage_laws.proofs.BlockLemmas.{same-size, base-sound, version-same, sound-block}
use Rattle.salvage_laws.proofs.FoundLemmas.{holds-so, fault-so, silent-holds}
use Rattle.salvage_laws.proofs.PlainLemmas.{PlainView, is_refused, is_held, plain-view, ok-err, ok-one, err-one, none-some, Reports, found_as, found-reported}
use Rattle.salvage_laws.proofs.RecoveredLemmas.{as_recovered, recovered-bytes, recovery-same}
use Rattle.salvage_laws.proofs.SectorLemmas.{filled-bytes}

-- what a load makes of a hive, and what is reported
pub data HiveView (save : Bool) (hive log : List ℕ) : Type 0 where
  view_refused : (f : HiveFault) → recovered_of (image_of hive log) ≡ Err f → TellsFirst (salvaged_hive save hive log) f
      → HiveView save hive log
  view_held : (r : Recovered) → recovered_of (image_of hive log) ≡ Ok r → (IsBytes hive → IsBytes log → IsBytes r.bins)
      → length r.bins ≤ 16777216
      → (salvaged_hive save hive log).faults ≡ [] → (salvaged_hive save hive log).log ≡ None
      → (salvaged_hive save hive log).broken ≡ (found_in (version_of r.base.minor) r.bins r.base.root).broken
      → (salvaged_hive save hive log).lines ≡ (found_in (version_of r.base.minor) r.bins r.base.root).lines
      → (salvaged_hive save hive log).tree ≡ (found_in (version_of r.base.minor) r.bins r.base.root).tree
      → (salvaged_hive save hive log).version ≡ version_of r.base.minor → HiveView save hive log

from-plain : (save : Bool) (hive log : List ℕ) → PlainView save hive log → HiveView save hive log
from-plain save hive log (is_refused f e d) = view_refused f e (inl d)
from-plain save hive log (is_held r e clean bytes small faults none broken lines tree v s) =
    view_held r e (λ b l. bytes b) small faults none broken lines tree v

-- ---- what the log gives

abbrev gives : RecoveredHive → Result RecoveredHive LogStop
gives r = Ok r

give-same : (a b : RecoveredHive) → gives a ≡ gives b → a ≡ b
give-same a b e = cc

-- the hive that a whole log makes
reading-gives : (file log : List ℕ) (logged : Base) (o : OldReading) (r : RecoveredHive) → by_reading file log logged o ≡ Ok r
    → record { base = record logged { kind = 0 }; bins = recovered_bins file log logged.size } ≡ r
reading-gives file log logged (Broken fault) r e = absurd cc
reading-gives file log logged (OtherStamp n) r e = absurd cc
reading-gives file log logged (OtherNumber n) r e = absurd cc
reading-gives file log logged (Whole n s) r e =
    give-same (record { base = record logged { kind = 0 }; bins = recovered_bins file log logged.size }) r e

-- a stop that says that the hive's file is too short says it of its size
abbrev IsSizeStop : LogStop → Type 0
IsSizeStop s = is_size s.kind ≡ true → s ≡ log_stop kinds.Size 40

abbrev StopsSo : Result RecoveredHive LogStop → Type 0
StopsSo (Ok r) = Unit {0}
StopsSo (Err s) = IsSizeStop s

dirt-stops : (file log : List ℕ) (logged : Base) (have : ℕ)
    → StopsSo (by_reading file log logged (whole_or (first_failing (dirt_checks log logged.size have)) log logged))
dirt-stops file log logged have =
    one (nat_le 1024 (length log)) (starts_with nat_eq (drop 512 log) (codes "DIRT")) (nat_le (512 * first_dirty logged.size) (length log))
    (nat_le (512 * needed log logged.size) (length log)) (has_rest (bits_of log) (have / 512 - 8) (logged.size / 512))
  where
    one : (a b c d e : Bool) → StopsSo (by_reading file log logged (whole_or
        (cond a (cond b (cond c (cond d (cond e None (Some (log_fault_at logs.Size 40))) (Some (log_fault_at logs.LogShort (length log))))
        (Some (log_fault_at logs.LogShort (length log)))) (Some (log_fault_at logs.LogDirt 512)))
        (Some (log_fault_at logs.LogShort (length log)))) log logged))
    one true true true true true = tt
    one true true true true false = λ z. refl
    one true true true false e = λ z. absurd cc
    one true true false d e = λ z. absurd cc
    one true false c d e = λ z. absurd cc
    one false b c d e = λ z. absurd cc

number-stops : (file log : List ℕ) (hive logged : Base) (have : ℕ)
    → StopsSo (by_reading file log logged (old_reading_of log logged (beside hive logged) have))
unfolding old_reading_of
number-stops file log hive logged have =
    one (logged.first == logged.second) (logged.stamp == logged.stamp) ((logged.first == hive.first) || (logged.first == hive.first))
  where
    one : (a b c : Bool) → StopsSo (by_reading file log logged (cond a (cond b (cond c
        (whole_or (first_failing (dirt_checks log logged.size have)) log logged) (OtherNumber logged.first)) (OtherStamp logged.first))
        (Broken (log_fault_at logs.LogSequence 4))))
    one true true true = dirt-stops file log logged have
    one true true false = λ z. absurd cc
    one true false c = λ z. absurd cc
    one false b c = λ z. absurd cc

log-stops : (file : List ℕ) (hive : Base) (log : List ℕ) → StopsSo (recovery file hive log)
unfolding recovery
log-stops file hive log = go (length log == 0)
  where
    by : (fs : List HiveFault) → StopsSo (by_faults file hive log fs)
    by [] = number-stops file log hive (fields_of (head_of log)) (length file)
    by (f ∷ more) = λ z. absurd cc

    go : (b : Bool) → StopsSo (cond b (Err (log_stop kinds.LogAbsent 0)) (by_faults file hive log (base_faults (head_of log) 1)))
    go true = λ z. absurd cc
    go false = by (base_faults (head_of log) 1)

-- what is known of a hive that the log gives
record IsGiven (file log : List ℕ) (r : RecoveredHive) : Type 0 where
  pub minor : is_minor r.base.minor ≡ true
  pub small : length r.bins ≤ 16777216
  pub bytes : IsBytes file → IsBytes log → IsBytes r.bins

log-gives : (file : List ℕ) (hive : Base) (log : List ℕ) (r : RecoveredHive) → (fields_of (head_of log)).size ≤ 16777216
    → recovery file hive log ≡ Ok r → IsGiven file log r
unfolding recovery
log-gives file hive log r small e = go (length log == 0) e
  where
    given : base_faults (head_of log) 1 ≡ []
        → IsGiven file log (record {
          base = record (fields_of (head_of log)) { kind = 0 };
          bins = recovered_bins file log (fields_of (head_of log)).size;
        })
    given e =
        let logged = fields_of (head_of log) in
        let checked = base_checked (head_of log) 1 logged (base-sound (head_of log) 1 small e) in
        let wide : is_wide_size logged.size ≡ true = same-size logged.size small ∙ checked.size_is in
        let long : bins_length logged.size ≡ logged.size = ap (λ b. cond b logged.size 268431360) wide in
        record {
          minor = checked.minor_is;
          small = omega (arith, length-take (bins_length logged.size) (drop 4096 (put_pages (file ++ replicate (4096 + logged.size - length file) 0) (old_pages_of log logged.size))), long, small);
          bytes = λ f l. recovered-bytes file log logged.size f l;
        }

    by : (fs : List HiveFault) → base_faults (head_of log) 1 ≡ fs → by_faults file hive log fs ≡ Ok r → IsGiven file log r
    by [] d e =
        subst (IsGiven file log)
        (reading-gives file log (fields_of (head_of log))
        (old_reading_of log (fields_of (head_of log)) (beside hive (fields_of (head_of log))) (length file)) r e) (given d)
    by (f ∷ more) d e = absurd cc

    go : (b : Bool) → cond b (Err (log_stop kinds.LogAbsent 0)) (by_faults file hive log (base_faults (head_of log) 1)) ≡ Ok r
        → IsGiven file log r
    go true e = absurd cc
    go false e = by (base_faults (head_of log) 1) refl e

-- ---- a dirty hive

module _ (save : Bool) (hive log : List ℕ) (small : AreSmall hive log) (sound : base_faults (head_of (filled hive)) 0 ≡ [])
    (odd : (fields_of (head_of (filled hive))).first ≡ (fields_of (head_of (filled hive))).second → ⊥) where
  abbrev file : List ℕ
  file = filled hive

  abbrev text : List ℕ
  text = filled log

  abbrev image : Image
  image = image_of hive log

  abbrev front : List ℕ
  front = head_of file

  abbrev base : Base
  base = fields_of front

  in_load : recovered_of image ≡ as_recovered (recovery file base text)
  in_load = by_unfinished image (Some base) (sound-block hive log small.hive_small sound) odd ∙ recovery-same hive log base small.log_small

  out : salvaged_hive save hive log ≡ hive_by save front (dirty_as file base (recovery file base text))
  unfolding salvaged_hive opened
  out =
      ap (λ fs. hive_by save front (opened_as file base text fs)) sound
      ∙ ap (λ b. hive_by save front (cond b (as_is file base CleanState [] false None) (dirty_as file base (recovery file base text))))
      (ne_eqb base.first base.second odd)

  held : (r : RecoveredHive) → recovery file base text ≡ Ok r → HiveView save hive log
  held r e =
      let g = log-gives file base text r small.log_small e in
      let report = out ∙ ap (λ x. hive_by save front (dirty_as file base x)) e in
      let version = version-same r.base.minor g.minor in
      view_held (record { base = r.base; bins = r.bins; dirty = true }) (in_load ∙ ap as_recovered e)
      (λ b l. g.bytes (filled-bytes hive b) (filled-bytes log l)) g.small
      (ap (λ (s : SalvagedHive). s.faults) report) (ap (λ (s : SalvagedHive). s.log) report)
      (ap (λ (s : SalvagedHive). s.broken) report ∙ ap (λ v. (found_in v r.bins r.base.root).broken) version)
      (ap (λ (s : SalvagedHive). s.lines) report ∙ ap (λ v. (found_in v r.bins r.base.root).lines) version)
      (ap (λ (s : SalvagedHive). s.tree) report ∙ ap (λ v. (found_in v r.bins r.base.root).tree) version)
      (ap (λ (s : SalvagedHive). s.version) report ∙ version)

  -- what is reported where the log has a fault
  abbrev stopped : LogStop → Bool → Bool → SalvagedHive
  stopped stop size short =
      hive_by save front (record {
        base = base;
        state = AsIs;
        faults = unless (not (size || short)) (fault_at kinds.Size 40);
        log = cond size None (Some stop);
        bins = bins_of file base.size;
      })

  refused : (stop : LogStop) → recovery file base text ≡ Err stop → HiveView save hive log
  refused stop e =
      view_refused (fault_at stop.kind stop.at) (in_load ∙ ap as_recovered e)
      (subst (λ (s : SalvagedHive). TellsFirst s (fault_at stop.kind stop.at))
      (sym (out ∙ ap (λ x. hive_by save front (dirty_as file base x)) e))
      (by (is_size stop.kind) refl (is_short file base.size)))
    where
      size_stop : IsSizeStop stop
      size_stop = subst StopsSo e (log-stops file base text)

      by : (a : Bool) → is_size stop.kind ≡ a → (b : Bool) → TellsFirst (stopped stop a b) (fault_at stop.kind stop.at)
      by true s b = inl (ap (λ (x : LogStop). Some (fault_at x.kind x.at)) (sym (size_stop s)))
      by false s true = inr (refl, refl)
      by false s false = inl refl

  pub dirty-view : HiveView save hive log
  dirty-view = by (recovery file base text) refl
    where
      by : (r : Result RecoveredHive LogStop) → recovery file base text ≡ r → HiveView save hive log
      by (Ok r) e = held r e
      by (Err stop) e = refused stop e

-- ---- any hive

pub hive-view : (save : Bool) (hive log : List ℕ) → AreSmall hive log → HiveView save hive log
hive-view save hive log small = by (base_faults (head_of (filled hive)) 0) refl
  where
    numbers : (b : Bool) → ((fields_of (head_of (filled hive))).first == (fields_of (head_of (filled hive))).second) ≡ b
        → base_faults (head_of (filled hive)) 0 ≡ [] → HiveView save hive log
    numbers true e sound =
        from-plain save hive log (plain-view save hive log (record {
          small = small.hive_small;
          even = λ d. eqb-true (fields_of (head_of (filled hive))).first (fields_of (head_of (filled hive))).second e;
        }))
    numbers false e sound =
        dirty-view save hive log small sound
        (eqb-false (fields_of (head_of (filled hive))).first (fields_of (head_of (filled hive))).second e)

    not-none : (f : HiveFault) (more : List HiveFault) → f ∷ more ≡ [] → ⊥
    not-none f more e = cc

    by : (fs : List HiveFault) → base_faults (head_of (filled hive)) 0 ≡ fs → HiveView save hive log
    by [] e =
        numbers ((fields_of (head_of (filled hive))).first == (fields_of (head_of (filled hive))).second) refl e
    by (f ∷ more) e =
        from-plain save hive log (plain-view save hive log (record {
          small = small.hive_small;
          even = λ d. absurd (not-none f more (sym e ∙ d));
        }))

-- ---- what follows

pub hive-loads : (save : Bool) (hive log : List ℕ) (s : HiveState) (dirty : Bool) → AreSmall hive log → Loads (image_of hive log) s dirty
    → Reports (salvaged_hive save hive log) s
hive-loads save hive log s dirty small l = by (hive-view save hive log small)
  where
    by : HiveView save hive log → Reports (salvaged_hive save hive log) s
    by (view_refused f e d) = absurd (ok-err (recovered_of (image_of hive log)) l.recovered f l.read e)
    by (view_held r e bytes few faults log_none broken lines tree v) =
        let same = ok-one (recovered_of (image_of hive log)) l.recovered r l.read e in
        let holds = subst (λ (x : Recovered). Holds x s) same l.holds in
        let found = holds-so r s holds in (
          record {
            faults = faults;
            log = log_none;
            broken = broken ∙ ap (λ (f : BinsFound). f.broken) found;
            lines = lines ∙ ap (λ (f : BinsFound). f.lines) found;
          },
          tree ∙ ap (λ (f : BinsFound). f.tree) found,
          v ∙ sym holds.version,
        )

pub hive-refused : (save : Bool) (hive log : List ℕ) (fault : HiveFault) → IsBytes hive → IsBytes log → AreSmall hive log
    → LoadFault (image_of hive log) fault → TellsFirst (salvaged_hive save hive log) fault
hive-refused save hive log fault hb lb small l = by (hive-view save hive log small) l
  where
    by : HiveView save hive log → LoadFault (image_of hive log) fault → TellsFirst (salvaged_hive save hive log) fault
    by (view_refused f e d) (inl k) =
        subst (TellsFirst (salvaged_hive save hive log)) (err-one (recovered_of (image_of hive log)) f fault e k) d
    by (view_refused f e d) (inr k) = absurd (ok-err (recovered_of (image_of hive log)) k.0 f k.1 e)
    by (view_held r e bytes few faults log_none broken lines tree v) (inl k) =
        absurd (ok-err (recovered_of (image_of hive log)) r fault e k)
    by (view_held r e bytes few faults log_none broken lines tree v) (inr k) =
        let same = ok-one (recovered_of (image_of hive log)) k.0 r k.1 e in
        inl (found-reported (salvaged_hive save hive log) (found_as r) faults log_none broken lines
        ∙ fault-so r fault (bytes hb lb) few (subst (λ (x : Recovered). HeldFault x fault) same k.2))

tells-some : (s : SalvagedHive) (f : HiveFault) → TellsFirst s f → first_reported s ≡ None → ⊥
tells-some s f (inl e) i = none-some f (first_reported s) e i
tells-some s f (inr e) i = none-some (fault_at kinds.Size 40) (first_reported s) e.0 i

pub hive-silent : (save : Bool) (hive log : List ℕ) → IsBytes hive → IsBytes log → AreSmall hive log
    → first_reported (salvaged_hive save hive log) ≡ None
    → (s : HiveState) × LoadsAs (image_of hive log) s × ((salvaged_hive save hive log).tree ≡ Some s.tree)
hive-silent save hive log hb lb small i = by (hive-view save hive log small)
  where
    by : HiveView save hive log → (s : HiveState) × LoadsAs (image_of hive log) s × ((salvaged_hive save hive log).tree ≡ Some s.tree)
    by (view_refused f e d) = absurd (tells-some (salvaged_hive save hive log) f d i)
    by (view_held r e bytes few faults log_none broken lines tree v) =
        let none = sym (found-reported (salvaged_hive save hive log) (found_as r) faults log_none broken lines) ∙ i in
        let h = silent-holds r (bytes hb lb) few none in (
          h.0,
          (r.dirty, record { recovered = r; read = e; was_dirty = refl; holds = h.1 }),
          tree ∙ ap (λ (f : BinsFound). f.tree) (holds-so r h.0 h.1),
        )
