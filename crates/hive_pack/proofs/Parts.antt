-- Lists of entries, and the bytes of names in them.
use Rattle.std.proofs.Common.{◌≡◌, ◌<◌, ◌-◌, ◌+◌, ◌++◌, ℕ, zero, suc, List, [], ◌∷◌, length, take, drop, min, refl, ap, arith}
use Rattle.std.specs.Prelude.{slice_index}
use Rattle.std.specs.Int.{w16, to_le_bytes}
use Rattle.nt_bytes.specs.declared.version.HiveVersion.{HiveVersion}
use Rattle.nt_bytes.specs.declared.version.HiveVersion.TheVariants.{V3, V5}
use Rattle.hive_model.specs.Lists.{entries_text, lf_text, lh_text}
use Rattle.hive_model.specs.Packed.{segment_places, segments, part_places, list_text, parts}
use Rattle.hive_pack.specs.Writes.{second_of}

-- the first four bytes of a name, zeros after a short one
pub first_four : (name : List ℕ)
    → slice_index name 0 ∷ slice_index name 1 ∷ slice_index name 2 ∷ slice_index name 3 ∷ []
    ≡ take 4 (name ++ 0 ∷ 0 ∷ 0 ∷ 0 ∷ [])
first_four [] = refl
first_four (a ∷ []) = refl
first_four (a ∷ b ∷ []) = refl
first_four (a ∷ b ∷ c ∷ []) = refl
first_four (a ∷ b ∷ c ∷ d ∷ name) = refl

-- a prefix of at most n, where there are no more
take_least : {X : Type 0} (k n : ℕ) (xs : List X) → k ≡ min (length xs) n → take k xs ≡ take n xs
take_least zero zero xs e = refl
take_least zero (suc n) [] e = refl
take_least zero (suc n) (x ∷ xs) e = absurd (omega arith)
take_least (suc k) zero [] e = refl
take_least (suc k) zero (x ∷ xs) e = absurd (omega arith)
take_least (suc k) (suc n) [] e = refl
take_least (suc k) (suc n) (x ∷ xs) e = ap (λ ys. x ∷ ys) (take_least k n xs (omega arith))

drop_least : {X : Type 0} (k n : ℕ) (xs : List X) → k ≡ min (length xs) n → drop k xs ≡ drop n xs
drop_least zero zero xs e = refl
drop_least zero (suc n) [] e = refl
drop_least zero (suc n) (x ∷ xs) e = absurd (omega arith)
drop_least (suc k) zero [] e = refl
drop_least (suc k) zero (x ∷ xs) e = absurd (omega arith)
drop_least (suc k) (suc n) [] e = refl
drop_least (suc k) (suc n) (x ∷ xs) e = drop_least k n xs (omega arith)

-- the next list, and those after it
pub parts_next : (version : HiveVersion) (left k : ℕ) (places : List ℕ) (hints : List (List ℕ)) → 0 < left
    → length places ≡ length hints → k ≡ min (length places) 500
    → parts version left places hints
    ≡ list_text version (take k places) (take k hints) ∷ parts version (left - 1) (drop k places) (drop k hints)
parts_next version zero k places hints h l e = absurd (omega arith)
parts_next version (suc left) k places hints h l e =
    let n : suc left - 1 ≡ left = omega arith in
    let same : k ≡ min (length hints) 500 = omega arith in
    rw (
      n,
      take_least k 500 places e,
      take_least k 500 hints same,
      drop_least k 500 places e,
      drop_least k 500 hints same,
    ) refl

-- a list of a version, by its parts
pub list_is : (version : HiveVersion) (places : List ℕ) (hints : List (List ℕ))
    → list_text version places hints ≡ 0x6c ∷ second_of version
    ∷ (to_le_bytes w16 (length places) ++ entries_text places hints)
unfolding lf_text lh_text
list_is V3 places hints = refl
list_is V5 places hints = refl

-- the next segment, and those after it
pub segments_next : (left k : ℕ) (bytes : List ℕ) → 0 < left → k ≡ min (length bytes) 16344
    → segments left bytes ≡ take k bytes ∷ segments (left - 1) (drop k bytes)
segments_next zero k bytes h e = absurd (omega arith)
segments_next (suc left) k bytes h e =
    let n : suc left - 1 ≡ left = omega arith in
    rw (n, take_least k 16344 bytes e, drop_least k 16344 bytes e) refl

-- the next place of a full segment, and those after it
pub segment_starts_next : (left place : ℕ) → 0 < left
    → segment_places left place ≡ place ∷ segment_places (left - 1) (place + 16352)
segment_starts_next zero place h = absurd (omega arith)
segment_starts_next (suc left) place h =
    let n : suc left - 1 ≡ left = omega arith in
    rw n refl

-- the next place of a full list, and those after it
pub starts_next : (left place : ℕ) → 0 < left → part_places left place ≡ place ∷ part_places (left - 1) (place + 4008)
starts_next zero place h = absurd (omega arith)
starts_next (suc left) place h =
    let n : suc left - 1 ≡ left = omega arith in
    rw n refl
