-- Marks of sectors.
use Rattle.std.proofs.Common.{◌≡◌, ◌<◌, ◌≤◌, ◌+◌, ◌*◌, ◌&&◌, ◌||◌, ℕ, zero, suc, Bool, false, List, length, refl, sym, ◌∙◌, ap, arith, add-one}
use Rattle.std.specs.Prelude.{slice_index_or}
use Rattle.nt_bytes.specs.Fields.{u32_in}
use Rattle.windows_logs.specs.entry_log.Growing.{covers, covers_all}
use Rattle.windows_logs.specs.entry_log.Marks.{is_within, all_on, AreMarks, MarksMore}

pub none_covered : (bytes : List ℕ) (n sector : ℕ) → n ≡ 0 → covers bytes n sector ≡ false
unfolding covers
none_covered bytes n sector none = rw none refl

-- the marks of one page more
pub more_marks : (bytes : List ℕ) (i j from place long : ℕ) (old new : List Bool) → j ≡ i + 1 → length new ≡ length old
    → place ≡ u32_in bytes (40 + 8 * i) → long ≡ u32_in bytes (44 + 8 * i)
    → AreMarks bytes i from old → MarksMore (is_within place long) from old new → AreMarks bytes j from new
unfolding covers
more_marks bytes i j from place long old new next same place_is long_is before more = λ k below.
    let low : k < length old = omega (arith, same, below) in
    more k low
    ∙ ap (λ b. b || is_within place long (from + k)) (before k low)
    ∙ ap (λ p. covers bytes i (from + k) || is_within p long (from + k)) place_is
    ∙ ap (λ l. covers bytes i (from + k) || is_within (u32_in bytes (40 + 8 * i)) l (from + k)) long_is
    ∙ ap (λ n. covers bytes n (from + k)) (sym (next ∙ add-one i))

-- all marks of m sectors are on where each of these sectors is covered
marks_all : (bytes : List ℕ) (n from m : ℕ) (marks : List Bool) → m ≤ length marks → AreMarks bytes n from marks
    → all_on marks m ≡ covers_all bytes n from m
unfolding all_on covers_all
marks_all bytes n from zero marks inside are = refl
marks_all bytes n from (suc m) marks inside are =
    ap (λ b. b && slice_index_or marks m false) (marks_all bytes n from m marks (omega arith) are)
    ∙ ap (λ b. covers_all bytes n from m && b) (are m (omega arith))

pub all_covered : (bytes : List ℕ) (n from m : ℕ) (marks : List Bool) → length marks ≡ m → AreMarks bytes n from marks
    → all_on marks (length marks) ≡ covers_all bytes n from m
all_covered bytes n from m marks long are = ap (all_on marks) long
    ∙ marks_all bytes n from m marks (omega (arith, long)) are
