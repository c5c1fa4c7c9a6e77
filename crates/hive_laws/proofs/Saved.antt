-- An image that is recovered is recovered alike where its files were saved.
use Rattle.std.specs.Prelude.{nat_lt}
use Rattle.std.proofs.Common.{◌≡◌, ◌⊎◌, ◌<◌, ◌≤◌, ◌-◌, ◌*◌, ℕ, Bool, true, cond, List, ◌++◌, length, take, drop, replicate, Option, Some, None, Ok, refl, sym, ◌∙◌, ap, ⊎_elim, arith, append-nil}
use Rattle.std.proofs.lemmas.Bool.{lt-ltb, cases_lt}
use Rattle.hive_model.specs.Asked.{is_readable}
use Rattle.hive_model.specs.Image.{Image, Address, File, Primary, Log, Content, Bytes, Unreadable, padded, sector_of, image_of, bytes_of, IsFileOf}
use Rattle.hive_model.specs.Load.{Loads}
use Rattle.hive_model.specs.Recovery.{Recovered, primary_in, recovered_of}
use Rattle.hive_model.specs.State.{HiveState}
use Rattle.hive_laws.specs.hive_laws.Looking.{LooksAt}
use Rattle.hive_laws.specs.hive_laws.Whole.{AreSaved}
use Rattle.hive_laws.proofs.Alike.{recovered_alike}
use Rattle.hive_laws.proofs.Found.{all_found}

-- a sector that can be read has bytes
has_bytes : (o : Option Content) → is_readable o ≡ true → (bytes : List ℕ) × (o ≡ Some (Bytes bytes))
has_bytes None e = absurd cc
has_bytes (Some Unreadable) e = absurd cc
has_bytes (Some (Bytes bytes)) e = (bytes, refl)

filled : (bytes : List ℕ) → length bytes ≡ 512 → padded bytes ≡ bytes
filled bytes long = ap (λ n. bytes ++ replicate (512 - n) 0) long ∙ append-nil bytes

module _ (image : Image) (file : File) (bytes : List ℕ) (is : IsFileOf image file bytes)
    (small : length bytes ≤ 33554432) where
  -- a sector of the image with whole bytes is that of the file
  saved_sector : (n : ℕ) (block : List ℕ) → length block ≡ 512
      → image (record { file = file; sector = n }) ≡ Some (Bytes block)
      → cond (nat_lt n 65536) (sector_of bytes n) None ≡ Some (Bytes block)
  saved_sector n block long there =
      let inside : n < is.count =
      ⊎_elim (λ below. below) (λ past. absurd
      (let gone = is.no_more n past in let none : Some (Bytes block) ≡ None = sym there ∙ gone in cc))
      (cases_lt n is.count) in
      let same : block ≡ take 512 (drop (512 * n) bytes) = sym (ap bytes_of there) ∙ is.each n inside in
      ap (λ t. cond t (sector_of bytes n) None) (lt-ltb n 65536 (omega (arith, is.long)))
      ∙ ap (λ t. cond t (Some (Bytes (padded (take 512 (drop (512 * n) bytes))))) None)
      (lt-ltb (512 * n) (length bytes) (omega (arith, is.long)))
      ∙ ap (λ b. Some (Bytes (padded b))) (sym same)
      ∙ ap (λ b. Some (Bytes b)) (filled block long)

module _ (image : Image) (primary log block : List ℕ) (are : AreSaved image primary log)
    (first : primary_in image 0 ≡ Some (Bytes block)) where
  same_there : (f : File) (n : ℕ) (bytes : List ℕ) → image (record { file = f; sector = n }) ≡ Some (Bytes bytes)
      → image_of primary log (record { file = f; sector = n }) ≡ Some (Bytes bytes)
  same_there Primary n bytes there =
      saved_sector image Primary primary are.primary_is are.primary_fits n bytes
      (are.whole (record { file = Primary; sector = n }) bytes there) there
  same_there Log n bytes there =
      saved_sector image Log log are.log_is are.log_fits n bytes
      (are.whole (record { file = Log; sector = n }) bytes there) there

  readable_there : (r : Recovered) → recovered_of image ≡ Ok r → (a : Address) → LooksAt image a
      → is_readable (image a) ≡ true
  readable_there r ok a looks = ⊎_elim
      (λ yes. yes)
      (λ start. ap (λ at. is_readable (image at)) start.0 ∙ ap is_readable first)
      (all_found image r ok a looks)

  pub saved_alike : (r : Recovered) → recovered_of image ≡ Ok r → recovered_of (image_of primary log) ≡ Ok r
  saved_alike r ok =
      sym (recovered_alike image (image_of primary log) (λ a looks.
      let there = has_bytes (image a) (readable_there r ok a looks) in
      there.1 ∙ sym (same_there a.file a.sector there.0 there.1)))
      ∙ ok

  pub saved_loads : (state : HiveState) (dirty : Bool) → Loads image state dirty
      → Loads (image_of primary log) state dirty
  saved_loads state dirty loads = record {
    recovered = loads.recovered;
    read = saved_alike loads.recovered loads.read;
    was_dirty = loads.was_dirty;
    holds = loads.holds;
  }
