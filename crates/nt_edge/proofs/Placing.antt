-- Files placed on a disk that holds nothing.
use Rattle.std.proofs.Common.{◌≡◌, ◌⊎◌, ◌<◌, ◌≤◌, ◌+◌, ◌-◌, ◌*◌, ℕ, List, length, take, drop, cond, min, Some, None, sym, ◌∙◌, ap, inl, inr, ⊎_elim, arith, length-take}
use Rattle.std.proofs.lemmas.Bool.{lt-ltb, le-ltb, cases_lt}
use Rattle.std.proofs.lemmas.List.{drop-take, take-take, take_all, length-take-le}
use Rattle.std.specs.Prelude.{nat_lt, if◌then◌else◌}
use Rattle.hive_model.specs.Image.{File, Primary, Log, Bytes, padded, sector_of, image_of, with_file}
use Rattle.nt_edge.proofs.Images.{same_images}

-- a sector that is there
pub sector_there : (bytes : List ℕ) (n : ℕ) → 512 * n < length bytes
    → sector_of bytes n ≡ Some (Bytes (padded (take 512 (drop (512 * n) bytes))))
sector_there bytes n less =
    ap (λ t. cond t (Some (Bytes (padded (take 512 (drop (512 * n) bytes))))) None)
    (lt-ltb (512 * n) (length bytes) less)

-- none is there at or past the end
pub sector_past : (bytes : List ℕ) (n : ℕ) → length bytes ≤ 512 * n → sector_of bytes n ≡ None
sector_past bytes n past =
    ap (λ t. cond t (Some (Bytes (padded (take 512 (drop (512 * n) bytes))))) None)
    (le-ltb (512 * n) (length bytes) past)

front_content : (bytes : List ℕ) (m k : ℕ) → (k + 512 ≤ m) ⊎ (length bytes ≤ m)
    → take 512 (drop k (take m bytes)) ≡ take 512 (drop k bytes)
front_content bytes m k (inl whole) =
    let split : m ≡ k + (m - k) = omega arith in
    ap (λ n. take 512 (drop k (take n bytes))) split
    ∙ ap (take 512) (drop-take k (m - k) bytes)
    ∙ take-take 512 (m - k) (drop k bytes) (omega arith)
front_content bytes m k (inr all) = ap (λ l. take 512 (drop k l)) (take_all m bytes all)

there : (bytes : List ℕ) (m n : ℕ) → m ≡ min (length bytes) 33554432 → n < 65536 → 512 * n < length bytes
    → sector_of (take m bytes) n ≡ sector_of bytes n
there bytes m n is small inside =
    let long : length (take m bytes) ≡ m = length-take-le m bytes (omega arith) in
    sector_there (take m bytes) n (omega arith)
    ∙ ap (λ l. Some (Bytes (padded l)))
    (front_content bytes m (512 * n)
    (⊎_elim {C = (512 * n + 512 ≤ m) ⊎ (length bytes ≤ m)} (λ less. inl (omega arith)) (λ more. inr (omega arith))
    (cases_lt m (length bytes))))
    ∙ sym (sector_there bytes n inside)

-- a sector of the first 32 MiB of some bytes
pub sector_of-front : (bytes : List ℕ) (m n : ℕ) → m ≡ min (length bytes) 33554432
    → sector_of (take m bytes) n ≡ (if nat_lt n 65536 then sector_of bytes n else None)
sector_of-front bytes m n is =
    let long = length-take m bytes in
    ⊎_elim
    (λ small.
    ⊎_elim
    (λ inside. there bytes m n is small inside)
    (λ past. sector_past (take m bytes) n (omega arith) ∙ sym (sector_past bytes n past))
    (cases_lt (512 * n) (length bytes))
    ∙ sym (ap (λ t. cond t (sector_of bytes n) None) (lt-ltb n 65536 small)))
    (λ large. sector_past (take m bytes) n (omega arith)
    ∙ sym (ap (λ t. cond t (sector_of bytes n) None) (le-ltb n 65536 large)))
    (cases_lt n 65536)

-- a primary and a log placed
pub placed_both : (primary log : List ℕ) (p l : ℕ) → p ≡ min (length primary) 33554432 → l ≡ min (length log) 33554432
    → with_file Log (take l log) (with_file Primary (take p primary) (λ _. None)) ≡ image_of primary log
placed_both primary log p l is_p is_l =
    let left = with_file Log (take l log) (with_file Primary (take p primary) (λ _. None)) in
    let each : (f : File) (n : ℕ)
    → left (record { file = f; sector = n }) ≡ image_of primary log (record { file = f; sector = n }) =
    elim [ Primary ↦ λ n. sector_of-front primary p n is_p | Log ↦ λ n. sector_of-front log l n is_l ] in
    same_images left (image_of primary log) (λ a. each a.file a.sector)
