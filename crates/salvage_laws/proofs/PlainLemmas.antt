-- A hive that needs no log is salvaged as it loads.
use Rattle.std.proofs.Common.{◌≡◌, inl, inr, ℕ, ◌+◌, ◌-◌, ◌*◌, ◌/◌, ◌<◌, ◌≤◌, Bool, true, false, cond, List, [], ◌∷◌, length, take, drop, Option, Some, None, Result, Ok, Err, refl, sym, ap, ap₂, subst, ◌∙◌, arith, eq-eqb}
use Rattle.std.specs.Prelude.{◌&&◌, not, nat_lt}
use Rattle.std.proofs.lemmas.Bool.{cases_lt, lt-ltb, le-ltb}
use Rattle.std.proofs.lemmas.List.{length-take, length-drop, drop-drop, drop-take, take-take}
use Rattle.nt_bytes.specs.declared.fault.HiveFault.{HiveFault}
use Rattle.nt_bytes.specs.declared.fault.HiveFaultKind.TheVariants as kinds
use Rattle.hive_model.specs.Base.{Base, version_of, fault_at, fields_of}
use Rattle.hive_model.specs.Bins.{or_else}
use Rattle.hive_model.specs.Carries.{Carries}
use Rattle.hive_model.specs.Image.{Image, Bytes, image_of}
use Rattle.hive_model.specs.Load.{Holds, HeldFault, Loads, LoadFault}
use Rattle.hive_model.specs.Recovery.{Recovered, primary_in, sector, recovered_with, base_in, recovered_of}
use Rattle.hive_model.specs.State.{HiveState}
use Rattle.hive_model.proofs.BaseLemmas.{IsChecked, base_in_checked}
use Rattle.hive_cells.proofs.Tools.{IsBytes, IsBytes-drop, IsBytes-take}
use Rattle.hive_log.proofs.Appending.{IsSized, sized}
use Rattle.hive_log.proofs.Finding.{by_fault, by_clean, carries_recovered}
use Rattle.windows_logs.specs.log_parts.Filled.{filled}
use Rattle.windows_logs.specs.log_parts.Wide.{is_wide_size}
use Rattle.salvage_file.specs.declared.opening.FileState.TheVariants.{Clean}
use Rattle.salvage_file.specs.declared.opening.Opened.{Opened}
use Rattle.salvage_file.specs.declared.salvaging.BinsFound.{BinsFound}
use Rattle.salvage_file.specs.declared.salvaging.SalvagedHive.{SalvagedHive}
use Rattle.salvage_file.specs.Faults.{head_of, has_signature, unless, base_faults, bins_length, bins_of}
use Rattle.salvage_file.specs.Opened.{is_short, as_is, dirty_as, opened_as, opened}
use Rattle.salvage_file.specs.Recovery.{recovery}
use Rattle.salvage_file.specs.Salvage.{version_in, found_in, saving_as, hive_by, salvaged_hive}
use Rattle.salvage_file.specs.Saving.{kept_base}
use Rattle.salvage_laws.specs.Plain.{IsPlain}
use Rattle.salvage_laws.specs.Told.{first_told, first_broken, first_found, first_base, log_fault, first_reported, IsSilent}
use Rattle.salvage_laws.proofs.BlockLemmas.{same-size, version-same, signed-so, faulty-block, sound-block}
use Rattle.salvage_laws.proofs.FoundLemmas.{holds-so, fault-so, silent-holds}
use Rattle.salvage_laws.proofs.SectorLemmas.{sector-there, gathered-short, filled-bytes}

-- ---- a hive that needs no log

-- what a load makes of it, and what is reported
pub data PlainView (save : Bool) (hive log : List ℕ) : Type 0 where
  is_refused : (f : HiveFault) → recovered_of (image_of hive log) ≡ Err f → first_reported (salvaged_hive save hive log) ≡ Some f
      → PlainView save hive log
  is_held : (r : Recovered) → recovered_of (image_of hive log) ≡ Ok r → r.dirty ≡ false → (IsBytes hive → IsBytes r.bins) → length r.bins ≤ 16777216
      → (salvaged_hive save hive log).faults ≡ [] → (salvaged_hive save hive log).log ≡ None
      → (salvaged_hive save hive log).broken ≡ (found_in (version_of r.base.minor) r.bins r.base.root).broken
      → (salvaged_hive save hive log).lines ≡ (found_in (version_of r.base.minor) r.bins r.base.root).lines
      → (salvaged_hive save hive log).tree ≡ (found_in (version_of r.base.minor) r.bins r.base.root).tree
      → (salvaged_hive save hive log).version ≡ version_of r.base.minor
      → (salvaged_hive save hive log).saving ≡ saving_as save r.base (version_of r.base.minor) (salvaged_hive save hive log).tree
      → PlainView save hive log

module _ (save : Bool) (hive log : List ℕ) (plain : IsPlain hive) where
  abbrev file : List ℕ
  file = filled hive

  abbrev image : Image
  image = image_of hive log

  abbrev front : List ℕ
  front = head_of file

  abbrev base : Base
  base = fields_of front

  faulty-out : (f : HiveFault) (more : List HiveFault) → base_faults front 0 ≡ f ∷ more
      → first_reported (salvaged_hive save hive log) ≡ Some f
  unfolding salvaged_hive opened
  faulty-out f more e = ap (λ fs. first_reported (hive_by save front (opened_as file base (filled log) fs))) e

  -- ---- without one

  module _ (sound : base_faults front 0 ≡ []) where
    has : base_in image ≡ Ok (Some base)
    has = sound-block hive log plain.small sound

    checked : IsChecked 0 base
    checked = base_in_checked image base has

    size : IsSized base.size
    size = sized base.size checked.size_is

    wide : is_wide_size base.size ≡ true
    wide = same-size base.size plain.small ∙ checked.size_is

    even : base.first ≡ base.second
    even = plain.even sound

    signed : has_signature front ≡ true
    signed = signed-so front sound

    out : salvaged_hive save hive log ≡ hive_by save front (as_is file base Clean [] false None)
    unfolding salvaged_hive opened
    out =
        ap (λ fs. hive_by save front (opened_as file base (filled log) fs)) sound
        ∙ ap (λ b. hive_by save front (cond b (as_is file base Clean [] false None) (dirty_as file base (recovery file base (filled log)))))
        (eq-eqb base.first base.second even)

    short-is : (b : Bool) → nat_lt (length file) (4096 + base.size) ≡ b → is_short file base.size ≡ b
    short-is b e = ap₂ (λ x y. x && y) wide e

    abbrev bins : List ℕ
    bins = bins_of file base.size

    bins-are : bins ≡ take base.size (drop 4096 file)
    bins-are = ap (λ b. take (cond b base.size 268431360) (drop 4096 file)) wide

    -- the report where the file is so short, or not
    abbrev made : Bool → Opened
    made short = record {
      base = base;
      state = Clean;
      faults = unless (not short) (fault_at kinds.Size 40);
      log = None;
      bins = bins;
    }

    made-so : (b : Bool) → nat_lt (length file) (4096 + base.size) ≡ b → salvaged_hive save hive log ≡ hive_by save front (made b)
    made-so b e = out ∙ ap (λ x. hive_by save front (made x)) (short-is b e)

    count : 512 * (base.size / 512) ≡ base.size
    count = omega (arith, size.pages)

    is-short : length file < 4096 + base.size → PlainView save hive log
    is-short lt =
        is_refused (fault_at kinds.Size 40)
        (by_clean image base has even
        ∙ ap (recovered_with false base) (gathered-short hive log 0 (base.size / 512) (omega (arith, size.low, count))
        (omega (arith, size.high, count)) (omega (arith, count, lt))))
        (ap first_reported (made-so true (lt-ltb (length file) (4096 + base.size) lt)))

    module _ (le : 4096 + base.size ≤ length file) where
      bins-long : length bins ≡ base.size
      bins-long = ap length bins-are ∙ omega (arith, length-take base.size (drop 4096 file), length-drop 4096 file, le)

      bins-sector : (i : ℕ) → 512 * i < length bins → primary_in image (8 + i) ≡ Some (Bytes (sector bins i))
      unfolding sector
      bins-sector i lt =
          let m = base.size - 512 * i in
          let split : base.size ≡ 512 * i + m = omega (arith, lt, bins-long) in
          let room : 512 ≤ m = omega (arith, lt, bins-long, count) in
          let place : 4096 + 512 * i ≡ 512 * (8 + i) = omega arith in
          let few : 8 + i < 65536 = omega (arith, lt, bins-long, size.high) in
          let there : 512 * (8 + i) < length file = omega (arith, lt, bins-long, le) in
          let same : take 512 (drop (512 * i) bins) ≡ take 512 (drop (512 * (8 + i)) file) =
          ap (λ l. take 512 (drop (512 * i) l)) bins-are
          ∙ ap (λ n. take 512 (drop (512 * i) (take n (drop 4096 file)))) split
          ∙ ap (take 512) (drop-take (512 * i) m (drop 4096 file))
          ∙ take-take 512 m (drop (512 * i) (drop 4096 file)) room
          ∙ ap (take 512) (drop-drop (512 * i) 4096 file ∙ ap (λ n. drop n file) place) in
          sector-there hive log (8 + i) few there ∙ ap (λ l. Some (Bytes l)) (sym same)

      carried : Carries image base bins
      carried = record { block = has; clean = even; size = sym bins-long; bins_there = bins-sector }

      read : recovered_of image ≡ Ok (record { base = base; bins = bins; dirty = false })
      read = carries_recovered image base bins carried (omega (arith, bins-long, count))

      version : version_in base.minor ≡ version_of base.minor
      version = version-same base.minor checked.minor_is

      report : salvaged_hive save hive log ≡ hive_by save front (made false)
      report = made-so false (le-ltb (length file) (4096 + base.size) le)

      is-long : PlainView save hive log
      is-long =
          is_held (record { base = base; bins = bins; dirty = false }) read refl
          (λ bytes. IsBytes-take (bins_length base.size) (drop 4096 file) (IsBytes-drop 4096 file (filled-bytes hive bytes)))
          (omega (arith, bins-long, size.high))
          (ap (λ (s : SalvagedHive). s.faults) report) (ap (λ (s : SalvagedHive). s.log) report)
          (ap (λ (s : SalvagedHive). s.broken) report ∙ ap (λ v. (found_in v bins base.root).broken) version)
          (ap (λ (s : SalvagedHive). s.lines) report ∙ ap (λ v. (found_in v bins base.root).lines) version)
          (ap (λ (s : SalvagedHive). s.tree) report ∙ ap (λ v. (found_in v bins base.root).tree) version)
          (ap (λ (s : SalvagedHive). s.version) report ∙ version)
          (ap (λ (s : SalvagedHive). s.saving) report
          ∙ ap (λ b. saving_as save (kept_base b base) (version_in base.minor) (found_in (version_in base.minor) bins base.root).tree) signed
          ∙ ap (λ v. saving_as save base v (found_in (version_in base.minor) bins base.root).tree) version
          ∙ ap (saving_as save base (version_of base.minor)) (sym (ap (λ (s : SalvagedHive). s.tree) report)))

    sound-view : PlainView save hive log
    sound-view =
        elim (cases_lt (length file) (4096 + base.size)) [
          | inl lt ↦ is-short lt
          | inr le ↦ is-long le
        ]

  pub plain-view : PlainView save hive log
  plain-view = by (base_faults front 0) refl
    where
      by : (fs : List HiveFault) → base_faults front 0 ≡ fs → PlainView save hive log
      by [] e = sound-view e
      by (f ∷ more) e = is_refused f (by_fault image f (faulty-block hive log plain.small f more e)) (faulty-out f more e)

-- ---- what follows

pub ok-err : (o : Result Recovered HiveFault) (r : Recovered) (f : HiveFault) → o ≡ Ok r → o ≡ Err f → ⊥
ok-err o r f e d = absurd cc

pub ok-one : (o : Result Recovered HiveFault) (r s : Recovered) → o ≡ Ok r → o ≡ Ok s → r ≡ s
ok-one o r s e d = cc

pub err-one : (o : Result Recovered HiveFault) (f g : HiveFault) → o ≡ Err f → o ≡ Err g → f ≡ g
err-one o f g e d = cc

pub none-some : (f : HiveFault) (o : Option HiveFault) → o ≡ Some f → o ≡ None → ⊥
none-some f o e d = absurd cc

abbrev pub found_as : Recovered → BinsFound
found_as r = found_in (version_of r.base.minor) r.bins r.base.root

abbrev pub Reports : SalvagedHive → HiveState → Type 0
Reports s state = IsSilent s × (s.tree ≡ Some state.tree) × (s.version ≡ state.version)

pub plain-loads : (save : Bool) (hive log : List ℕ) (s : HiveState) (dirty : Bool) → IsPlain hive → Loads (image_of hive log) s dirty
    → Reports (salvaged_hive save hive log) s
plain-loads save hive log s dirty plain l = by (plain-view save hive log plain)
  where
    by : PlainView save hive log → Reports (salvaged_hive save hive log) s
    by (is_refused f e d) = absurd (ok-err (recovered_of (image_of hive log)) l.recovered f l.read e)
    by (is_held r e clean bytes small faults log_none broken lines tree version _) =
        let same = ok-one (recovered_of (image_of hive log)) l.recovered r l.read e in
        let holds = subst (λ (x : Recovered). Holds x s) same l.holds in
        let found = holds-so r s holds in (
          record {
            faults = faults;
            log = log_none;
            broken = broken ∙ ap (λ (f : BinsFound). f.broken) found;
            lines = lines ∙ ap (λ (f : BinsFound). f.lines) found;
          },
          tree ∙ ap (λ (f : BinsFound). f.tree) found,
          version ∙ sym holds.version,
        )

-- the first fault of a report without those of the file
pub found-reported : (s : SalvagedHive) (found : BinsFound) → s.faults ≡ [] → s.log ≡ None → s.broken ≡ found.broken → s.lines ≡ found.lines
    → first_reported s ≡ first_found found
found-reported s found faults log broken lines =
    ap (λ fs. or_else (first_base fs) (or_else (log_fault s.log) (or_else (first_broken s.broken) (first_told s.lines)))) faults
    ∙ ap (λ o. or_else (log_fault o) (or_else (first_broken s.broken) (first_told s.lines))) log
    ∙ ap₂ (λ bs ls. or_else (first_broken bs) (first_told ls)) broken lines

pub plain-refused : (save : Bool) (hive log : List ℕ) (fault : HiveFault) → IsBytes hive → IsPlain hive → LoadFault (image_of hive log) fault
    → first_reported (salvaged_hive save hive log) ≡ Some fault
plain-refused save hive log fault all plain l = by (plain-view save hive log plain) l
  where
    by : PlainView save hive log → LoadFault (image_of hive log) fault → first_reported (salvaged_hive save hive log) ≡ Some fault
    by (is_refused f e d) (inl k) = d ∙ ap (λ g. Some g) (err-one (recovered_of (image_of hive log)) f fault e k)
    by (is_refused f e d) (inr k) = absurd (ok-err (recovered_of (image_of hive log)) k.0 f k.1 e)
    by (is_held r e clean bytes small faults log_none broken lines tree _ _) (inl k) =
        absurd (ok-err (recovered_of (image_of hive log)) r fault e k)
    by (is_held r e clean bytes small faults log_none broken lines tree _ _) (inr k) =
        let same = ok-one (recovered_of (image_of hive log)) k.0 r k.1 e in
        found-reported (salvaged_hive save hive log) (found_as r) faults log_none broken lines
        ∙ fault-so r fault (bytes all) small (subst (λ (x : Recovered). HeldFault x fault) same k.2)

pub plain-silent : (save : Bool) (hive log : List ℕ) → IsBytes hive → IsPlain hive
    → first_reported (salvaged_hive save hive log) ≡ None
    → (s : HiveState) × Loads (image_of hive log) s false × ((salvaged_hive save hive log).tree ≡ Some s.tree)
plain-silent save hive log all plain i = by (plain-view save hive log plain)
  where
    by : PlainView save hive log
        → (s : HiveState) × Loads (image_of hive log) s false × ((salvaged_hive save hive log).tree ≡ Some s.tree)
    by (is_refused f e d) =
        absurd (none-some f (first_reported (salvaged_hive save hive log)) d i)
    by (is_held r e clean bytes small faults log_none broken lines tree _ _) =
        let none = sym (found-reported (salvaged_hive save hive log) (found_as r) faults log_none broken lines) ∙ i in
        let h = silent-holds r (bytes all) small none in (
          h.0,
          record { recovered = r; read = e; was_dirty = sym clean; holds = h.1 },
          tree ∙ ap (λ (f : BinsFound). f.tree) (holds-so r h.0 h.1),
        )
