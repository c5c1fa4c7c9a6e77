-- The file of bins data with a clean base block loads as the tree that is in the bins.
use Rattle.std.proofs.Common.{◌≡◌, ℕ, ◌+◌, ◌-◌, ◌*◌, ◌/◌, ◌<◌, ◌≤◌, true, false, cond, List, ◌++◌, length, take, drop, replicate, Some, None, Ok, refl, sym, ◌∙◌, ap, arith, append-nil, append_assoc, length-append, length-take, length-drop}
use Rattle.std.proofs.lemmas.Bool.{lt-ltb}
use Rattle.std.proofs.lemmas.List.{length-replicate}
use Rattle.std.proofs.Math.Seq.{take-append_seam, drop-append-add}
use Rattle.nt_bytes.specs.declared.version.HiveVersion.{HiveVersion}
use Rattle.nt_bytes.specs.declared.version.HiveVersion.TheVariants.{V3, V5}
use Rattle.nt_bytes.specs.Reading.{◌>>=◌}
use Rattle.hive_model.specs.Base.{Base, IsBase, is_bins_size, is_minor, version_of, base_text}
use Rattle.hive_model.specs.Carries.{Carries}
use Rattle.hive_model.specs.Image.{Bytes, padded, sector_of, image_of}
use Rattle.hive_model.specs.Load.{Loads, state_of}
use Rattle.hive_model.specs.Packed.{packed, packed_bins}
use Rattle.hive_model.specs.Recovery.{primary_in, sector, base_at, base_in, recovered_of}
use Rattle.hive_model.specs.Size.{bulk_of}
use Rattle.hive_model.specs.Tree.{Tree}
use Rattle.hive_model.specs.Valid.{IsValid}
use Rattle.hive_model.proofs.BaseLemmas.{base_back, text_long}
use Rattle.hive_log.proofs.Appending.{sized}
use Rattle.hive_log.proofs.Finding.{carries_recovered}
use Rattle.hive_pack.specs.Numbers.{HasNumbers}
use Rattle.hive_pack.proofs.Heap.{packed_is_bins}
use Rattle.hive_pack.proofs.Formed.{packed_is_well_formed}
use Rattle.hive_pack.proofs.Sized.{packed_is_sized}
use Rattle.regf_base.specs.Fitting.{NumbersFit, TextsFit}
use Rattle.salvage_file.specs.Saving.{minor_of, saved_base, saved_file}

-- ---- sectors of a file

filled : (bytes : List ℕ) → length bytes ≡ 512 → padded bytes ≡ bytes
filled bytes long = ap (λ n. bytes ++ replicate (512 - n) 0) long ∙ append-nil bytes

file_sector : (file log : List ℕ) (n : ℕ) → n < 65536 → 512 * n + 512 ≤ length file
    → primary_in (image_of file log) n ≡ Some (Bytes (take 512 (drop (512 * n) file)))
file_sector file log n few inside =
    let block = take 512 (drop (512 * n) file) in
    let long : length block ≡ 512 = omega (arith, length-take 512 (drop (512 * n) file), length-drop (512 * n) file) in
    ap (λ t. cond t (sector_of file n) None) (lt-ltb n 65536 few)
    ∙ ap (λ t. cond t (Some (Bytes (padded block))) None) (lt-ltb (512 * n) (length file) (omega arith))
    ∙ ap (λ b. Some (Bytes b)) (filled block long)

-- ---- the base block

minor_good : (version : HiveVersion) → is_minor (minor_of version) ≡ true
minor_good V3 = refl
minor_good V5 = refl

pub minor_fits : (version : HiveVersion) → version_of (minor_of version) ≡ version
minor_fits V3 = refl
minor_fits V5 = refl

is_base : (base : Base) (version : HiveVersion) (size : ℕ) → NumbersFit base → TextsFit base → is_bins_size size ≡ true
    → IsBase (saved_base base version size)
is_base base version size n t is = record {
  first_fits = n.first_fits;
  second_fits = n.first_fits;
  stamp_fits = n.stamp_fits;
  minor_is = minor_good version;
  kind_fits = omega arith;
  root_fits = omega arith;
  size_is = is;
  cluster_fits = n.cluster_fits;
  name_long = t.name_long;
  name_bytes = t.name_bytes;
  rest_long = t.rest_long;
  rest_bytes = t.rest_bytes;
}

module _ (given : Base) (version : HiveVersion) (bins log : List ℕ) (n : NumbersFit given) (t : TextsFit given)
    (is : is_bins_size (length bins) ≡ true) (small : length bins ≤ 16777216)
    (whole : 512 * (length bins / 512) ≡ length bins) where
  abbrev base : Base
  base = saved_base given version (length bins)

  abbrev front : List ℕ
  front = base_text base ++ replicate 3584 0

  pub good : IsBase base
  good = is_base given version (length bins) n t is

  block_long : length (base_text base) ≡ 512
  block_long = text_long base good

  front_long : length front ≡ 4096
  front_long = omega (
    arith,
    length-append (base_text base) (replicate 3584 0),
    length-replicate {A = ℕ} 3584 0,
    block_long,
  )

  file_is : saved_file given version bins ≡ front ++ bins
  unfolding saved_file
  file_is = refl

  pub file_long : length (saved_file given version bins) ≡ 4096 + length bins
  file_long = ap length file_is ∙ omega (arith, length-append front bins, front_long)

  pub first_sector : take 512 (saved_file given version bins) ≡ base_text base
  first_sector =
      ap (take 512) (file_is ∙ append_assoc (base_text base) (replicate 3584 0) bins)
      ∙ ap (λ k. take k (base_text base ++ (replicate 3584 0 ++ bins))) (sym block_long)
      ∙ take-append_seam (base_text base) (replicate 3584 0 ++ bins)

  bins_sector : (i : ℕ) → take 512 (drop (512 * (8 + i)) (saved_file given version bins)) ≡ sector bins i
  unfolding sector
  bins_sector i =
      let place : 512 * (8 + i) ≡ length front + 512 * i = omega (arith, front_long) in
      ap (λ k. take 512 (drop k (saved_file given version bins))) place
      ∙ ap (λ l. take 512 (drop (length front + 512 * i) l)) file_is
      ∙ ap (take 512) (drop-append-add front bins (512 * i))

  has_block : base_in (image_of (saved_file given version bins) log) ≡ Ok (Some base)
  has_block =
      ap base_at (file_sector (saved_file given version bins) log 0 (omega arith) (omega (arith, file_long))
      ∙ ap (λ b. Some (Bytes b)) first_sector)
      ∙ ap (λ r. r >>= λ b. Ok (Some b)) (base_back base good)

  carried : Carries (image_of (saved_file given version bins) log) base bins
  carried = record {
    block = has_block;
    clean = refl;
    size = refl;
    bins_there = λ i inside.
        file_sector (saved_file given version bins) log (8 + i) (omega arith) (omega (arith, file_long, whole))
        ∙ ap (λ b. Some (Bytes b)) (bins_sector i);
  }

-- ---- the whole

-- what is saved is recovered as it is
pub saved_read : (base : Base) (version : HiveVersion) (t : Tree) (log : List ℕ) → NumbersFit base → TextsFit base → bulk_of version t ≤ 16773120
    → recovered_of (image_of (saved_file base version (packed version t)) log)
    ≡ Ok (record { base = saved_base base version (length (packed version t)); bins = packed version t; dirty = false })
saved_read base version t log n x room =
    let bins = packed version t in
    let is = packed_is_sized version t room in
    let size = sized (length bins) is in
    let whole : 512 * (length bins / 512) ≡ length bins = omega (arith, size.pages) in
    carries_recovered (image_of (saved_file base version bins) log) (saved_base base version (length bins)) bins
    (carried base version bins log n x is size.high whole) whole

pub saved_loads : (base : Base) (version : HiveVersion) (t : Tree) (log : List ℕ) → NumbersFit base → TextsFit base → IsValid t → HasNumbers t
    → bulk_of version t ≤ 16773120
    → Loads (image_of (saved_file base version (packed version t)) log) (state_of t base.first version) false
saved_loads base version t log n x valid numbers room = record {
  recovered = record { base = saved_base base version (length (packed version t)); bins = packed version t; dirty = false };
  read = saved_read base version t log n x room;
  was_dirty = refl;
  holds = record {
    bins = packed_bins version t;
    cells = packed_is_bins version t room;
    tree = rw (minor_fits version) (packed_is_well_formed version t valid numbers room);
    sequence = refl;
    version = sym (minor_fits version);
  };
}
