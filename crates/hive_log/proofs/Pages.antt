-- Pages of eight sectors that are equal.
use Rattle.std.proofs.Common.{◌≡◌, ◌<◌, ◌≤◌, ◌+◌, ◌-◌, ◌*◌, ℕ, List, length, take, drop, true, false, refl, ◌∙◌, sym, ap, arith, le-leb}
use Rattle.std.proofs.lemmas.List.{take-take, drop-drop, drop-take}
use Rattle.std.proofs.lemmas.Slice.Eq.{bytes_eq-Decides}
use Rattle.std.specs.Prelude.{nat_le, bytes_eq}
use Rattle.hive_model.specs.Recovery.{sector}
use Rattle.hive_model.specs.Log.{dirty}

-- a sector, in the page that has it
sector_in_page : (xs : List ℕ) (first j : ℕ) → j < 8
    → sector xs (first + j) ≡ take 512 (drop (512 * j) (take 4096 (drop (512 * first) xs)))
unfolding sector
sector_in_page xs first j below =
    let rest : 512 * j + (4096 - 512 * j) ≡ 4096 = omega arith in
    let place : 512 * first + 512 * j ≡ 512 * (first + j) = omega arith in
    let l = drop (512 * first) xs in
    ap (λ n. take 512 (drop n xs)) (sym place)
    ∙ ap (take 512) (sym (drop-drop (512 * j) (512 * first) xs))
    ∙ sym (take-take 512 (4096 - 512 * j) (drop (512 * j) l) (omega arith))
    ∙ ap (take 512) (sym (drop-take (512 * j) (4096 - 512 * j) l))
    ∙ ap (λ n. take 512 (drop (512 * j) (take n l))) rest

-- of equal pages no sector is dirty
pub same_page : (old new : List ℕ) (first : ℕ) → 512 * first + 4096 ≤ length old
    → take 4096 (drop (512 * first) old) ≡ take 4096 (drop (512 * first) new)
    → (j : ℕ) → j < 8 → dirty old new (first + j) ≡ false
same_page old new first long same j below =
    let there : nat_le (512 * (first + j) + 512) (length old) ≡ true = le-leb _ _ (omega arith) in
    let equal : sector old (first + j) ≡ sector new (first + j) =
    sector_in_page old first j below ∙ ap (λ page. take 512 (drop (512 * j) page)) same ∙ sym (sector_in_page new first j below) in
    rw (there, (bytes_eq-Decides (sector old (first + j)) (sector new (first + j))).1 equal) refl
