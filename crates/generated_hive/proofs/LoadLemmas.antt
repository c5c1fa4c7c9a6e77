-- The file of bins data with a clean base block loads as the tree that is in the bins.
use Rattle.std.proofs.Common.{◌≡◌, ℕ, zero, suc, ◌+◌, ◌-◌, ◌*◌, ◌/◌, ◌<◌, ◌≤◌, true, false, cond, List, [], ◌++◌, length, take, drop, replicate, Some, None, Result, Ok, Err, refl, sym, ◌∙◌, ap, subst, arith, append-nil, append_assoc, length-append, length-take, length-drop}
use Rattle.std.specs.Prelude.{slice_index, IfOk}
use Rattle.std.proofs.lemmas.Bool.{lt-ltb}
use Rattle.std.proofs.lemmas.List.{length-replicate}
use Rattle.std.proofs.Math.Seq.{take-append_seam, drop-append-add}
use Rattle.nt_bytes.specs.declared.version.HiveVersion.TheVariants.{V3}
use Rattle.nt_bytes.specs.Reading.{◌>>=◌}
use Rattle.hive_model.specs.Base.{Base, IsBase, is_bins_size, base_text}
use Rattle.hive_model.specs.Bins.{Bin, IsBins, look_up}
use Rattle.hive_model.specs.Carries.{Carries}
use Rattle.hive_model.specs.Image.{Bytes, padded, sector_of, image_of}
use Rattle.hive_model.specs.Load.{Loads, state_of}
use Rattle.hive_model.specs.Recovery.{primary_in, sector, base_at, base_in}
use Rattle.hive_model.specs.Stands.{IsWellFormed}
use Rattle.hive_model.specs.Tree.{Tree}
use Rattle.hive_model.proofs.BaseLemmas.{base_back, text_long}
use Rattle.hive_log.proofs.Appending.{sized}
use Rattle.hive_log.proofs.Finding.{carries_recovered}
use Rattle.generated_hive.specs.File.{clean_base, clean_file}

-- ---- sectors of a file

filled : (bytes : List ℕ) → length bytes ≡ 512 → padded bytes ≡ bytes
filled bytes long = ap (λ n. bytes ++ replicate (512 - n) 0) long ∙ append-nil bytes

file_sector : (file : List ℕ) (n : ℕ) → n < 65536 → 512 * n + 512 ≤ length file
    → primary_in (image_of file []) n ≡ Some (Bytes (take 512 (drop (512 * n) file)))
file_sector file n few inside =
    let block = take 512 (drop (512 * n) file) in
    let long : length block ≡ 512 = omega (arith, length-take 512 (drop (512 * n) file), length-drop (512 * n) file) in
    ap (λ t. cond t (sector_of file n) None) (lt-ltb n 65536 few)
    ∙ ap (λ t. cond t (Some (Bytes (padded block))) None) (lt-ltb (512 * n) (length file) (omega arith))
    ∙ ap (λ b. Some (Bytes b)) (filled block long)

-- ---- the base block

zeros : (n k : ℕ) → slice_index (replicate n 0) k < 256
zeros zero k = omega arith
zeros (suc n) zero = omega arith
zeros (suc n) (suc k) = zeros n k

is_base : (size : ℕ) → is_bins_size size ≡ true → IsBase (clean_base size)
is_base size is = record {
  first_fits = omega arith;
  second_fits = omega arith;
  stamp_fits = omega arith;
  minor_is = refl;
  kind_fits = omega arith;
  root_fits = omega arith;
  size_is = is;
  cluster_fits = omega arith;
  name_long = length-replicate {A = ℕ} 64 0;
  name_bytes = zeros 64;
  rest_long = length-replicate {A = ℕ} 396 0;
  rest_bytes = zeros 396;
}

module _ (bins : List ℕ) (is : is_bins_size (length bins) ≡ true) (small : length bins ≤ 16777216)
    (whole : 512 * (length bins / 512) ≡ length bins) where
  abbrev base : Base
  base = clean_base (length bins)

  abbrev front : List ℕ
  front = base_text base ++ replicate 3584 0

  block_long : length (base_text base) ≡ 512
  block_long = text_long base (is_base (length bins) is)

  front_long : length front ≡ 4096
  front_long = omega (
    arith,
    length-append (base_text base) (replicate 3584 0),
    length-replicate {A = ℕ} 3584 0,
    block_long,
  )

  file_is : clean_file bins ≡ front ++ bins
  unfolding clean_file
  file_is = refl

  file_long : length (clean_file bins) ≡ 4096 + length bins
  file_long = ap length file_is ∙ omega (arith, length-append front bins, front_long)

  first_sector : take 512 (clean_file bins) ≡ base_text base
  first_sector =
      ap (take 512) (file_is ∙ append_assoc (base_text base) (replicate 3584 0) bins)
      ∙ ap (λ n. take n (base_text base ++ (replicate 3584 0 ++ bins))) (sym block_long)
      ∙ take-append_seam (base_text base) (replicate 3584 0 ++ bins)

  bins_sector : (i : ℕ) → take 512 (drop (512 * (8 + i)) (clean_file bins)) ≡ sector bins i
  unfolding sector
  bins_sector i =
      let place : 512 * (8 + i) ≡ length front + 512 * i = omega (arith, front_long) in
      ap (λ n. take 512 (drop n (clean_file bins))) place
      ∙ ap (λ l. take 512 (drop (length front + 512 * i) l)) file_is
      ∙ ap (take 512) (drop-append-add front bins (512 * i))

  has_block : base_in (image_of (clean_file bins) []) ≡ Ok (Some base)
  has_block =
      ap base_at (file_sector (clean_file bins) 0 (omega arith) (omega (arith, file_long))
      ∙ ap (λ b. Some (Bytes b)) first_sector)
      ∙ ap (λ r. r >>= λ b. Ok (Some b)) (base_back base (is_base (length bins) is))

  carried : Carries (image_of (clean_file bins) []) base bins
  carried = record {
    block = has_block;
    clean = refl;
    size = refl;
    bins_there = λ i inside.
        file_sector (clean_file bins) (8 + i) (omega arith) (omega (arith, file_long, whole))
        ∙ ap (λ b. Some (Bytes b)) (bins_sector i);
  }

-- ---- the whole

file_loads : (bins : List ℕ) (cells : List Bin) (t : Tree) → is_bins_size (length bins) ≡ true → IsBins bins cells
    → IsWellFormed (look_up V3 cells) 32 t
    → Loads (image_of (clean_file bins) []) (state_of t 1 V3) false
file_loads bins cells t is spelled formed =
    let size = sized (length bins) is in
    let whole : 512 * (length bins / 512) ≡ length bins = omega (arith, size.pages) in
    record {
      recovered = record { base = clean_base (length bins); bins = bins; dirty = false };
      read = carries_recovered (image_of (clean_file bins) []) (clean_base (length bins)) bins
          (carried bins is size.high whole) whole;
      was_dirty = refl;
      holds = record { bins = cells; cells = spelled; tree = formed; sequence = refl; version = refl };
    }

-- the same of a file that is given, if there is memory for it
pub given_loads : {E : Type 0} (r : Result (List ℕ) E) (bins named : List ℕ) (cells : List Bin) (t u : Tree)
    → named ≡ bins → t ≡ u
    → is_bins_size (length bins) ≡ true → IsBins bins cells → IsWellFormed (look_up V3 cells) 32 t
    → IfOk r (λ b. b ≡ clean_file named) → IfOk r (λ b. Loads (image_of b []) (state_of u 1 V3) false)
given_loads (Ok b) bins named cells t u same one is spelled formed e =
    subst (λ (l : List ℕ). Loads (image_of l []) (state_of u 1 V3) false) (sym (e ∙ ap clean_file same))
    (subst (λ (v : Tree). Loads (image_of (clean_file bins) []) (state_of v 1 V3) false) one
    (file_loads bins cells t is spelled formed))
given_loads (Err x) bins named cells t u same one is spelled formed e = e
