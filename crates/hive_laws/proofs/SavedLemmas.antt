-- The files of an image keep its sectors.
use Rattle.std.specs.Prelude.{nat_lt}
use Rattle.std.proofs.Common.{◌≡◌, ◌⊎◌, ◌<◌, ◌-◌, ◌*◌, ℕ, Bool, false, cond, List, ◌++◌, length, take, drop, replicate, Some, None, Ok, Err, refl, sym, ◌∙◌, ap, subst, ⊎_elim, arith, append-nil, length-take, length-drop}
use Rattle.std.proofs.lemmas.Bool.{lt-ltb, cases_lt}
use Rattle.nt_bytes.specs.declared.fault.HiveFaultKind.TheVariants.{NotRegf}
use Rattle.nt_bytes.specs.Reading.{◌>>=◌}
use Rattle.hive_model.specs.Image.{Image, File, Primary, Log, Bytes, Unreadable, Write, padded, sector_of, image_of, bytes_of, IsFileOf, IsCrashImage}
use Rattle.hive_model.specs.Asked.{primary_at}
use Rattle.hive_model.specs.Base.{base_of, fault_at}
use Rattle.hive_model.specs.Load.{Loads}
use Rattle.hive_model.specs.Recovery.{base_at, by_base, recovered_of}
use Rattle.hive_model.specs.State.{HiveState}
use Rattle.nt_edge.specs.Bench.{taken}
use Rattle.nt_edge.specs.Crash.{EachCrash}
use Rattle.nt_edge.specs.Disk.{DiskState}
use Rattle.nt_edge.proofs.Images.{still_crash}
use Rattle.hive_laws.specs.saved_laws.Saved.{HasUntornBlock, KeepsSectors, LoadsWithin}
use Rattle.hive_laws.proofs.KeptLemmas.{load_stays, clean_load_stays}

pub filled : (bytes : List ℕ) → length bytes ≡ 512 → padded bytes ≡ bytes
filled bytes long = ap (λ n. bytes ++ replicate (512 - n) 0) long ∙ append-nil bytes

-- a sector within the bytes is whole, as these are that many sectors
pub whole : (bytes : List ℕ) (count n : ℕ) → length bytes ≡ 512 * count → n < count
    → length (take 512 (drop (512 * n) bytes)) ≡ 512
whole bytes count n long inside = omega (arith, length-take 512 (drop (512 * n) bytes), length-drop (512 * n) bytes)

module _ (image : Image) (file : File) (bytes : List ℕ) (is : IsFileOf image file bytes) where
  there : (n : ℕ) (block : List ℕ) → image (record { file = file; sector = n }) ≡ Some (Bytes block) → n < is.count
  there n block here = ⊎_elim
      (λ below. below)
      (λ past. absurd (let none : Some (Bytes block) ≡ None = sym here ∙ is.no_more n past in cc))
      (cases_lt n is.count)

  -- a sector of the image that has bytes is that of the file
  saved_sector : (n : ℕ) (block : List ℕ) → n < 65536 → image (record { file = file; sector = n }) ≡ Some (Bytes block)
      → cond (nat_lt n 65536) (sector_of bytes n) None ≡ Some (Bytes block)
  saved_sector n block low here =
      let inside = there n block here in
      let part = take 512 (drop (512 * n) bytes) in
      let same : part ≡ block = sym (is.each n inside) ∙ ap bytes_of here in
      ap (λ t. cond t (sector_of bytes n) None) (lt-ltb n 65536 low)
      ∙ ap (λ t. cond t (Some (Bytes (padded part))) None) (lt-ltb (512 * n) (length bytes) (omega (arith, is.long)))
      ∙ ap (λ b. Some (Bytes b)) (filled part (whole bytes is.count n is.long inside) ∙ same)

module _ (image : Image) (primary log : List ℕ) where
  primary_kept : IsFileOf image Primary primary → KeepsSectors Primary image (image_of primary log)
  primary_kept is n block low here = saved_sector image Primary primary is n block low here

  log_kept : IsFileOf image Log log → KeepsSectors Log image (image_of primary log)
  log_kept is n block low here = saved_sector image Log log is n block low here

  pub files_load : (state : HiveState) (dirty : Bool) → IsFileOf image Primary primary → IsFileOf image Log log
      → HasUntornBlock image → Loads image state dirty → Loads (image_of primary log) state dirty
  files_load state dirty primary_is log_is untorn loads =
      load_stays image (image_of primary log) state dirty (primary_kept primary_is) (log_kept log_is) untorn loads

  pub primary_loads : (state : HiveState) → IsFileOf image Primary primary → Loads image state false
      → Loads (image_of primary log) state false
  primary_loads state is loads = clean_load_stays image (image_of primary log) state (primary_kept is) loads

-- Where whatever a loss of power may leave loads within these, so do the files of what remains.
module _ (these : HiveState → Bool → Type 0) (held image : Image) (flight : List Write) (primary log : List ℕ)
    (each : (c : Image) → IsCrashImage held flight c → LoadsWithin these c) (left : IsCrashImage held flight image)
  where
    pub left_files_load : IsFileOf image Primary primary → IsFileOf image Log log → HasUntornBlock image
        → LoadsWithin these (image_of primary log)
    left_files_load primary_is log_is untorn =
        let loads = each image left in
        record {
          state = loads.state;
          dirty = loads.dirty;
          loads = files_load image primary log loads.state loads.dirty primary_is log_is untorn loads.loads;
          within = loads.within;
        }

    pub left_primary_loads : ((state : HiveState) (dirty : Bool) → these state dirty → dirty ≡ false)
        → IsFileOf image Primary primary → LoadsWithin these (image_of primary log)
    left_primary_loads clean is =
        let loads = each image left in
        let even : loads.dirty ≡ false = clean loads.state loads.dirty loads.within in
        record {
          state = loads.state;
          dirty = loads.dirty;
          loads =
              subst (Loads (image_of primary log) loads.state) (sym even)
              (primary_loads image primary log loads.state is (subst (Loads image loads.state) even loads.loads));
          within = loads.within;
        }

-- the same of a primary and of the log that is taken after it
pub taken_files_load : (these : HiveState → Bool → Type 0) (disk : DiskState) (image later : Image)
    (primary log : List ℕ)
    → EachCrash disk (LoadsWithin these)
    → IsCrashImage disk.held disk.flight image → IsFileOf image Primary primary
    → IsCrashImage (taken image disk).held (taken image disk).flight later → IsFileOf later Log log
    → HasUntornBlock image → LoadsWithin these (image_of primary log)
taken_files_load these disk image later primary log each left primary_is still log_is untorn =
    let here : IsFileOf image Log log = subst (λ i. IsFileOf i Log log) (still_crash image later still) log_is in
    left_files_load these disk.held image disk.flight primary log each left primary_is here untorn

-- ---- a block that can't be read

is_no_hive : base_of (replicate 512 0) 0 ≡ Err (fault_at NotRegf 0)
unfolding base_of
is_no_hive = refl

pub torn_block : (image : Image) (primary log : List ℕ) → IsFileOf image Primary primary
    → image (primary_at 0) ≡ Some Unreadable
    → recovered_of (image_of primary log) ≡ Err (fault_at NotRegf 0)
unfolding recovered_of
torn_block image primary log is torn =
    let inside : 0 < is.count = ⊎_elim
    (λ below. below)
    (λ past. absurd (let none : Some Unreadable ≡ None = sym torn ∙ is.no_more 0 past in cc))
    (cases_lt 0 is.count) in
    let part = take 512 (drop (512 * 0) primary) in
    let zeros : replicate 512 0 ≡ part = sym (ap bytes_of torn) ∙ is.each 0 inside in
    let block : image_of primary log (primary_at 0) ≡ Some (Bytes (replicate 512 0)) =
    ap (λ t. cond t (Some (Bytes (padded part))) None) (lt-ltb 0 (length primary) (omega (arith, is.long)))
    ∙ ap (λ b. Some (Bytes b)) (filled part (whole primary is.count 0 is.long inside) ∙ sym zeros) in
    ap (λ o. base_at o >>= by_base (image_of primary log)) block
    ∙ ap (λ s. (s >>= λ base. Ok (Some base)) >>= by_base (image_of primary log)) is_no_hive
