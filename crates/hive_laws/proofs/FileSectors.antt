-- The sectors of the image of two files have 512 bytes.
use Rattle.std.specs.Prelude.{slice_index, nat_lt}
use Rattle.std.proofs.Common.{◌≡◌, ◌<◌, ◌-◌, ◌*◌, ℕ, zero, suc, Bool, true, false, cond, List, length, take, drop, replicate, Option, Some, None, sym, ◌∙◌, ap, subst, arith, length-append, length-take}
use Rattle.std.proofs.lemmas.List.{length-replicate}
use Rattle.hive_model.specs.Image.{Address, File, Primary, Log, Content, Bytes, padded, sector_of, of_file, image_of}
use Rattle.hive_cells.proofs.Tools.{IsBytes, IsBytes-drop, IsBytes-take}
use Rattle.hive_laws.specs.hive_laws.Whole.{HasWholeSectors, HasBytes}
use Rattle.hive_laws.proofs.Sized.{bytes_append}

abbrev held : List ℕ → Option Content
held bytes = Some (Bytes bytes)

bytes_same : (x y : List ℕ) → held x ≡ held y → x ≡ y
bytes_same x y e = cc

if_there : (t : Bool) (o : Option Content) (bytes : List ℕ) → cond t o None ≡ held bytes → o ≡ held bytes
if_there true o bytes e = e
if_there false o bytes e = absurd cc

-- a sector of an image of two files is a filled front
is_filled : (primary log : List ℕ) (a : Address) (bytes : List ℕ) → image_of primary log a ≡ held bytes
    → padded (take 512 (drop (512 * a.sector) (of_file primary log a.file))) ≡ bytes
is_filled primary log a bytes e =
    let file = of_file primary log a.file in
    let here = if_there (nat_lt a.sector 65536) (sector_of file a.sector) bytes e in
    bytes_same (padded (take 512 (drop (512 * a.sector) file))) bytes
    (if_there (nat_lt (512 * a.sector) (length file)) (held (padded (take 512 (drop (512 * a.sector) file))))
    bytes here)

padded_long : (bytes : List ℕ) → length (padded (take 512 bytes)) ≡ 512
padded_long bytes = omega (
  arith,
  length-append (take 512 bytes) (replicate (512 - length (take 512 bytes)) 0),
  length-replicate {A = ℕ} (512 - length (take 512 bytes)) 0,
  length-take 512 bytes,
)

zeros : (n : ℕ) → IsBytes (replicate n 0)
zeros zero i = omega arith
zeros (suc n) zero = omega arith
zeros (suc n) (suc i) = zeros n i

-- each sector of two files is whole, and of bytes where the files are
pub whole_of_files : (primary log : List ℕ) → HasWholeSectors (image_of primary log)
whole_of_files primary log a bytes e =
    sym (ap length (is_filled primary log a bytes e)) ∙ padded_long (drop (512 * a.sector) (of_file primary log a.file))

pub bytes_of_files : (primary log : List ℕ) → ((k : ℕ) → slice_index primary k < 256)
    → ((k : ℕ) → slice_index log k < 256) → HasBytes (image_of primary log)
bytes_of_files primary log in_primary in_log a bytes e k =
    let file = of_file primary log a.file in
    let of : (f : File) → IsBytes (of_file primary log f) = elim [ Primary ↦ in_primary | Log ↦ in_log ] in
    let front = take 512 (drop (512 * a.sector) file) in
    subst (λ (l : List ℕ). slice_index l k < 256) (is_filled primary log a bytes e)
    (bytes_append front (replicate (512 - length front) 0)
    (IsBytes-take 512 (drop (512 * a.sector) file) (IsBytes-drop (512 * a.sector) file (of a.file)))
    (zeros (512 - length front)) k)
