-- The bytes of a bitmap as they are written one by one.
use Rattle.std.proofs.Common.{◌≡◌, ◌<◌, ◌≤◌, ◌+◌, ◌*◌, ◌/◌, ◌++◌, ◌∷◌, ℕ, zero, suc, List, [], length, take, drop, get_or, replicate, refl, sym, ◌∙◌, ap, arith, length-take, length-drop}
use Rattle.std.specs.Prelude.{codes}
use Rattle.std.proofs.lemmas.List.{get_or-take, get_or-drop}
use Rattle.hive_model.specs.Recovery.{sector, bit, bitmap_sectors}
use Rattle.hive_model.specs.Log.{bytes_of_bits, bitmap_text}
use Rattle.hive_log.proofs.Bits.{bytes_again}
use Rattle.hive_log.proofs.LogParts.{bitmap_long}
use Rattle.std.proofs.lemmas.Grind.{same_number_lists}

zeros : (n p : ℕ) → let none : ℕ = 0 in get_or (replicate n none) p 0 ≡ none
zeros zero p = refl
zeros (suc n) zero = refl
zeros (suc n) (suc p) = zeros n p

zeros_behind : (xs : List ℕ) (n p : ℕ) → get_or (xs ++ replicate n 0) p 0 ≡ get_or xs p 0
zeros_behind [] n p = zeros n p
zeros_behind (x ∷ xs) n zero = refl
zeros_behind (x ∷ xs) n (suc p) = zeros_behind xs n p

-- byte p of the text
text_byte : (bitmap : List ℕ) (size p : ℕ) → ((j : ℕ) → get_or bitmap j 0 < 256) → size / 4096 ≤ length bitmap
    → get_or (bitmap_text (bit bitmap) size) p 0 ≡ get_or (codes "DIRT" ++ take (size / 4096) bitmap) p 0
unfolding bitmap_text
text_byte bitmap size p are_bytes inside =
    zeros_behind (codes "DIRT" ++ bytes_of_bits (bit bitmap) 0 (size / 4096)) _ p
    ∙ ap (λ l. get_or (codes "DIRT" ++ l) p 0) (bytes_again bitmap 0 (size / 4096) are_bytes (omega arith))

pub text_sector : (bitmap : List ℕ) (size k : ℕ) (into : List ℕ) → ((j : ℕ) → get_or bitmap j 0 < 256)
    → length into ≡ 512 → size / 4096 ≤ length bitmap → k < bitmap_sectors size
    → ((m : ℕ) → m < 512 → get_or into m 0 ≡ get_or (codes "DIRT" ++ take (size / 4096) bitmap) (512 * k + m) 0)
    → into ≡ sector (bitmap_text (bit bitmap) size) k
unfolding sector
text_sector bitmap size k into are_bytes long inside below each =
    let text = bitmap_text (bit bitmap) size in
    let part : length (take 512 (drop (512 * k) text)) ≡ 512 =
    omega (
      arith,
      length-take 512 (drop (512 * k) text),
      length-drop (512 * k) text,
      bitmap_long (bit bitmap) size,
    ) in
    same_number_lists into (take 512 (drop (512 * k) text)) (omega arith) (λ m small.
    each m (omega arith) ∙ sym (text_byte bitmap size (512 * k + m) are_bytes inside)
    ∙ sym (get_or-drop (512 * k) text m 0) ∙ sym (get_or-take 512 (drop (512 * k) text) m 0 (omega arith)))
