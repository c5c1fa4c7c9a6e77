-- A hive that was recovered loads without its log.
use Rattle.std.proofs.Common.{◌≡◌, ℕ, true, false, List, Option, Some, None, refl, ap, subst, ◌∙◌}
use Rattle.std.specs.Prelude.{Result, Ok, Err, IfOk, OnOk}
use Rattle.nt_bytes.specs.declared.fault.HiveFault.{HiveFault}
use Rattle.hive_commit.specs.Commits.{IsCleanWith}
use Rattle.hive_model.specs.Carries.{Carries}
use Rattle.hive_model.specs.Image.{Image, Primary, Log, IsCrashImage, IsFileOf}
use Rattle.hive_model.specs.Load.{Holds}
use Rattle.hive_model.specs.Recovery.{Recovered, recovered_of}
use Rattle.hive_model.specs.State.{HiveState}
use Rattle.hive_laws.proofs.ReadBack.{carried_recovered}
use Rattle.hive_laws.proofs.SavedLemmas.{primary_loads}
use Rattle.nt_edge.specs.Bench.{taken, turned_off, woken}
use Rattle.nt_edge.specs.Disk.{DiskState}
use Rattle.nt_edge.proofs.Images.{still_crash}
use Rattle.command_parts.specs.declared.command_parts.inputs.HiveFiles.{HiveFiles}
use Rattle.command_parts.specs.command_parts.Placed.{image_in, placed_disk}
use Rattle.ntboot.specs.Between.{HoldsFiles, HoldsPrimary, IsAwakeWith, IsCleanIn, IsCleanOf, StandsBetween}

-- what holds a state does so without its log too
holds_clean : (found : Recovered) (s : HiveState) → Holds found s
    → Holds (record { base = found.base; bins = found.bins; dirty = false }) s
holds_clean found s h =
    record { bins = h.bins; cells = h.cells; tree = h.tree; sequence = h.sequence; version = h.version }

found_one : (r : Result Recovered HiveFault) (a b : Recovered) → r ≡ Ok a → r ≡ Ok b → a ≡ b
found_one r a b is also = cc

-- the primary of an image that carries what another was recovered as
clean_of : (old new : Image) (hive : List ℕ) (found : Recovered) → recovered_of old ≡ Ok found
    → Carries new found.base found.bins → IsFileOf new Primary hive → IsCleanOf old hive
clean_of old new hive found read carries is log s (dirty, loads) =
    let holds : Holds found s =
    subst (λ (r : Recovered). Holds r s) (found_one (recovered_of old) loads.recovered found loads.read read) loads.holds in
    primary_loads new hive log s is (record {
      recovered = record { base = found.base; bins = found.bins; dirty = false };
      read = carried_recovered new found.base found.bins carries;
      was_dirty = refl;
      holds = holds_clean found s holds;
    })

-- the primary that is taken of a disk which was recovered
pub recovered_clean : {E : Type 0} (old : Image) (disk : DiskState) (found : Recovered) → recovered_of old ≡ Ok found
    → IsCleanWith true disk found.base found.bins → (r : Result (Option (List ℕ)) E) → IfOk r (HoldsPrimary disk)
    → IfOk r (IsCleanIn old)
recovered_clean old disk found read clean (Ok (Some hive)) (image, left, is) =
    let P : List _ → Type 0 = λ ws. IsCrashImage disk.held ws image in
    let same : image ≡ disk.held = still_crash disk.held image (subst P (clean.still refl) left) in
    clean_of old disk.held hive found read (clean.carries refl)
    (subst (λ (i : Image). IsFileOf i Primary hive) same is)
recovered_clean old disk found read clean (Ok None) none = absurd none
recovered_clean old disk found read clean (Err e) is = tt

pub primary_held : (old off : DiskState) (image : Image) (hive : List ℕ) → off ≡ turned_off old
    → IsCrashImage off.held off.flight image → IsFileOf image Primary hive → HoldsPrimary old (Some hive)
primary_held old off image hive is left file =
    let P : DiskState → Type 0 = λ d. IsCrashImage d.held d.flight image in
    (image, subst P is left, file)

-- two files that are taken one after the other are of one image
pub files_held : (disk mid : DiskState) (image later : Image) (hive log : List ℕ)
    → IsCrashImage disk.held disk.flight image → mid ≡ taken image disk → IsFileOf image Primary hive
    → IsCrashImage mid.held mid.flight later → IsFileOf later Log log
    → HoldsFiles disk (record { primary = hive; log = Some log })
files_held disk mid image later hive log left is hive_is still log_is =
    let P : DiskState → Type 0 = λ d. IsCrashImage d.held d.flight later in
    let same : later ≡ image = still_crash image later (subst P is still) in
    record {
      image = image;
      left = left;
      hive = hive_is;
      log = subst (λ (i : Image). IsFileOf i Log log) same log_is;
    }

-- it woke up with what was placed
pub awake_with : {E : Type 0} (files : HiveFiles) (mid new : DiskState) (r : Result (Unit {0}) E) → mid ≡ placed_disk files
    → OnOk r ((image : Image) × IsCrashImage mid.held mid.flight image × (new ≡ woken image mid))
    → OnOk r (IsAwakeWith files new)
awake_with files mid new (Ok u) is (image, left, woke) =
    let P : DiskState → Type 0 = λ d. IsCrashImage d.held d.flight image in
    let same : image ≡ image_in files = still_crash (image_in files) image (subst P is left) in
    record {
      on = ap (λ (d : DiskState). d.on) woke;
      still = ap (λ (d : DiskState). d.flight) woke;
      held = ap (λ (d : DiskState). d.held) woke ∙ same;
    }
awake_with files mid new (Err e) is none = tt

pub clean_in : {E : Type 0} (files : HiveFiles) (disk : DiskState) (r : Result (Option (List ℕ)) E) → IsAwakeWith files disk
    → IfOk r (IsCleanIn disk.held) → IfOk r (IsCleanIn (image_in files))
clean_in files disk r awake clean = subst (λ (i : Image). IfOk r (IsCleanIn i)) awake.held clean

-- a disk that is turned off holds the same files
pub stands_between : {E : Type 0} (old off : DiskState) (files : HiveFiles) (r : Result (Option (List ℕ)) E)
    → off ≡ turned_off old → HoldsFiles off files → IfOk r (IsCleanIn (image_in files)) → IfOk r (StandsBetween old)
stands_between old off files (Ok between) is held clean =
    let P : DiskState → Type 0 = λ d. HoldsFiles d files in
    let here = subst P is held in
    record {
      files = files;
      held = record { image = here.image; left = here.left; hive = here.hive; log = here.log };
      clean = clean;
    }
stands_between old off files (Err e) is held clean = tt
