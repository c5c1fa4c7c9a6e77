-- What is saved is salvaged as it is.
use Rattle.std.proofs.Common.{◌≡◌, ℕ, ◌-◌, ◌*◌, ◌/◌, ◌%◌, ◌≤◌, Bool, true, false, cond, List, ◌++◌, length, take, replicate, Option, Some, None, Ok, refl, sym, ap, subst, ◌∙◌, arith, append-nil}
use Rattle.std.proofs.lemmas.Bool.{le-ltb}
use Rattle.nt_bytes.specs.declared.fault.HiveFault.{HiveFault}
use Rattle.nt_bytes.specs.declared.version.HiveVersion.{HiveVersion}
use Rattle.hive_model.specs.Base.{Base, version_of, base_checks, first_failing, fields_of, unless_fault, base_of, base_text}
use Rattle.hive_model.specs.Image.{image_of}
use Rattle.hive_model.specs.Load.{Loads, state_of}
use Rattle.hive_model.specs.Packed.{packed}
use Rattle.hive_model.specs.Recovery.{Recovered, recovered_of}
use Rattle.hive_model.specs.Size.{bulk_of}
use Rattle.hive_model.specs.Tree.{Tree}
use Rattle.hive_model.specs.Valid.{IsValid}
use Rattle.hive_model.proofs.BaseLemmas.{base_back}
use Rattle.hive_log.proofs.Appending.{sized}
use Rattle.hive_pack.specs.Numbers.{HasNumbers}
use Rattle.hive_pack.proofs.Sized.{packed_is_sized}
use Rattle.windows_logs.specs.log_parts.Filled.{filled}
use Rattle.regf_base.specs.Fitting.{NumbersFit, TextsFit}
use Rattle.salvage_file.specs.declared.saving.Saving.TheVariants.{Full, Saved}
use Rattle.salvage_file.specs.Faults.{head_of}
use Rattle.salvage_file.specs.Salvage.{saving_as, salvaged_hive}
use Rattle.salvage_file.specs.Saving.{saved_base, saved_file}
use Rattle.salvage_laws.specs.Plain.{IsPlain}
use Rattle.salvage_laws.specs.Told.{IsSilent}
use Rattle.salvage_laws.proofs.LoadLemmas.{minor_fits, good, first_sector, file_long, saved_read, saved_loads}
use Rattle.salvage_laws.proofs.PlainLemmas.{PlainView, is_refused, is_held, plain-view, plain-loads, ok-err, ok-one}

-- the fields of a base block that was spelled
fields-back : (block : List ℕ) (kind : ℕ) (b : Base) → base_of block kind ≡ Ok b → fields_of block ≡ b
unfolding base_of
fields-back block kind b e = go (first_failing (base_checks block kind)) e
  where
    go : (o : Option HiveFault) → unless_fault o (fields_of block) ≡ Ok b → fields_of block ≡ b
    go None e = cc
    go (Some f) e = absurd cc

filled-same : (file : List ℕ) → length file % 512 ≡ 0 → filled file ≡ file
unfolding filled
filled-same file whole =
    let none : (512 - length file % 512) % 512 ≡ 0 = omega (arith, whole) in
    ap (λ n. file ++ replicate n 0) none ∙ append-nil file

module _ (base : Base) (version : HiveVersion) (t : Tree) (log : List ℕ) (n : NumbersFit base) (x : TextsFit base) (valid : IsValid t)
    (numbers : HasNumbers t) (room : bulk_of version t ≤ 16773120) where
  abbrev bins : List ℕ
  bins = packed version t

  abbrev file : List ℕ
  file = saved_file base version bins

  abbrev block : Base
  block = saved_base base version (length bins)

  loads : Loads (image_of file log) (state_of t base.first version) false
  loads = saved_loads base version t log n x valid numbers room

  front-is : head_of (filled file) ≡ base_text block
  front-is =
      let is = packed_is_sized version t room in
      let size = sized (length bins) is in
      let whole : 512 * (length bins / 512) ≡ length bins = omega (arith, size.pages) in
      let long = file_long base version bins log n x is size.high whole in
      ap head_of (filled-same file (omega (arith, long, whole)))
      ∙ ap (λ b. cond b (replicate 512 0) (take 512 file)) (le-ltb (length file) 512 (omega (arith, long)))
      ∙ first_sector base version bins log n x is size.high whole

  fields-are : fields_of (head_of (filled file)) ≡ block
  fields-are =
      let is = packed_is_sized version t room in
      let size = sized (length bins) is in
      let whole : 512 * (length bins / 512) ≡ length bins = omega (arith, size.pages) in
      ap fields_of front-is ∙ fields-back (base_text block) 0 block (base_back block (good base version bins log n x is size.high whole))

  plain : IsPlain file
  plain =
      let size = sized (length bins) (packed_is_sized version t room) in
      record {
        small = subst (λ (b : Base). b.size ≤ 16777216) (sym fields-are) size.high;
        even = λ e. ap (λ (b : Base). b.first) fields-are ∙ sym (ap (λ (b : Base). b.second) fields-are);
      }

  pub saved-silent : (save : Bool) → IsSilent (salvaged_hive save file log) × ((salvaged_hive save file log).tree ≡ Some t)
      × ((salvaged_hive save file log).version ≡ version)
  saved-silent save = plain-loads save file log (state_of t base.first version) false plain loads

  file-again : saved_file block version bins ≡ file
  unfolding saved_file
  file-again = refl

  read : recovered_of (image_of file log) ≡ Ok (record { base = block; bins = bins; dirty = false })
  read = saved_read base version t log n x room

  pub saved-again : (salvaged_hive true file log).saving ≡ Some (Saved base.first file)
  saved-again = by (plain-view true file log plain)
    where
      by : PlainView true file log → (salvaged_hive true file log).saving ≡ Some (Saved base.first file)
      by (is_refused f e d) =
          absurd (ok-err (recovered_of (image_of file log)) (record { base = block; bins = bins; dirty = false }) f read e)
      by (is_held r e clean bytes small faults log_none broken lines tree _ saving) =
          let same : r ≡ record { base = block; bins = bins; dirty = false } =
          ok-one (recovered_of (image_of file log)) r (record { base = block; bins = bins; dirty = false }) e read in
          saving
          ∙ ap (λ (q : Recovered). saving_as true q.base (version_of q.base.minor) (salvaged_hive true file log).tree) same
          ∙ ap (λ v. saving_as true block v (salvaged_hive true file log).tree) (minor_fits version)
          ∙ ap (saving_as true block version) (saved-silent true).1
          ∙ ap (λ b. Some (cond b Full (Saved base.first (saved_file block version bins)))) (le-ltb 16773120 (bulk_of version t) room)
          ∙ ap (λ f. Some (Saved base.first f)) file-again
