-- What the lines of a start tell of a boot, with names folded.
use Rattle.std.proofs.Common.{◌≡◌, ℕ, Bool, true, false, ◌&&◌, cond, nat_eq, List, [], ◌∷◌, map, Option, Some, None, refl, sym, ap, ◌∙◌}
use Rattle.std.specs.Prelude.{find, slice_get, option_and_then}
use Rattle.std.specs.Option.{option_map, option_map_or}
use Rattle.std.specs.List.{list_all}
use Rattle.std.proofs.lemmas.List.{map-append}
use Rattle.nt_bytes.specs.Folding.{folded, folds_same}
use Rattle.hive_model.specs.Tree.{Tree}
use Rattle.boot_phases.proofs.FirstLemmas.{find_at_place, position-map}
use Rattle.report_words.specs.declared.line.Line.{Line}
use Rattle.report_words.specs.declared.line.Line.TheVariants as lines
use Rattle.safe_boot.specs.Played.{start_lines_of}
use Rattle.set_diff.specs.declared.boot.Attempt.{Attempt}
use Rattle.set_diff.specs.declared.boot.QuietBoot.{QuietBoot}
use Rattle.set_diff.specs.Boots.{attempt_in, boot_step, boot_from, no_boot, boot_of, attempt_named, phase_rank}
use Rattle.diff_laws.specs.diff_laws.Laws.{attempt_agrees_in}
use Rattle.diff_laws.proofs.FoldLemmas.{both_folded}
use Rattle.diff_laws.proofs.CourseLemmas.{plain_line}

abbrev pub plain_attempt : Attempt → Attempt
plain_attempt a = record { phase = a.phase; name = folded a.name }

abbrev pub plain_boot : QuietBoot → QuietBoot
plain_boot b = record { phase = b.phase; attempts = map plain_attempt b.attempts; unmet = map folded b.unmet }

step_plain : (b : QuietBoot) (line : Line) → plain_boot (boot_step b line) ≡ boot_step (plain_boot b) (plain_line line)
step_plain b (lines.Start n) = refl
step_plain b (lines.Entry n path) = refl
step_plain b (lines.Load n taken) = refl
step_plain b (lines.Set n good) = refl
step_plain b (lines.Commit word n) = refl
step_plain b (lines.Select c d f g) = refl
step_plain b (lines.Phase word) = refl
step_plain b (lines.Try name outcome) = λ i. record {
  phase = b.phase;
  attempts = map-append plain_attempt b.attempts (attempt_in b.phase name ∷ []) i;
  unmet = map folded b.unmet;
}
step_plain b (lines.Unmet name) = λ i. record {
  phase = b.phase;
  attempts = map plain_attempt b.attempts;
  unmet = map-append folded b.unmet (name ∷ []) i;
}
step_plain b (lines.Vital name) = refl
step_plain b lines.Logon = refl
step_plain b (lines.SaveRefused full) = refl
step_plain b lines.EditOk = refl
step_plain b lines.FlushNothing = refl
step_plain b (lines.Refused event reason) = refl
step_plain b (lines.Verdict verdict) = refl
step_plain b lines.End = refl

from_plain : (b : QuietBoot) (lines : List Line)
    → plain_boot (boot_from b lines) ≡ boot_from (plain_boot b) (map plain_line lines)
from_plain b [] = refl
from_plain b (line ∷ lines) =
    from_plain (boot_step b line) lines ∙ ap (λ (c : QuietBoot). boot_from c (map plain_line lines)) (step_plain b line)

-- starts of alike lines are alike boots
pub boots_alike : (first second : Tree) → map plain_line (start_lines_of first) ≡ map plain_line (start_lines_of second)
    → plain_boot (boot_of first) ≡ plain_boot (boot_of second)
boots_alike first second alike =
    from_plain no_boot (start_lines_of first) ∙ ap (boot_from no_boot) alike
    ∙ sym (from_plain no_boot (start_lines_of second))

-- ---- attempts that agree

-- what is at the place of a name is what is found by it
named_find : (xs : List Attempt) (n : List ℕ) → attempt_named xs n ≡ find (λ (y : Attempt). folds_same n y.name) xs
named_find xs n =
    ap (option_and_then (slice_get xs)) (position-map (folds_same n) (λ (a : Attempt). a.name) xs)
    ∙ sym (find_at_place (λ (y : Attempt). folds_same n y.name) xs)

-- the phase is that of the attempt, if there is one
abbrev pub in_phase_of : Attempt → Option Attempt → Bool
in_phase_of a o = option_map_or (λ (b : Attempt). nat_eq (phase_rank a.phase) (phase_rank b.phase)) o true

abbrev pub agrees_by : List Attempt → Attempt → Bool
agrees_by others a = in_phase_of a (find (λ (y : Attempt). folds_same a.name y.name) others)

pub agrees_found : (others : List Attempt) (a : Attempt) → attempt_agrees_in others a ≡ agrees_by others a
agrees_found others a = ap (in_phase_of a) (named_find others a.name)

pushed : (b : Bool) (y : Attempt) (o : Option Attempt)
    → cond b (Some (plain_attempt y)) (option_map plain_attempt o) ≡ option_map plain_attempt (cond b (Some y) o)
pushed true y o = refl
pushed false y o = refl

find_plain : (n : List ℕ) (ys : List Attempt)
    → find (λ (y : Attempt). folds_same (folded n) y.name) (map plain_attempt ys)
    ≡ option_map plain_attempt (find (λ (y : Attempt). folds_same n y.name) ys)
find_plain n [] = refl
find_plain n (y ∷ ys) =
    (λ i. cond (both_folded n y.name i) (Some (plain_attempt y)) (find_plain n ys i))
    ∙ pushed (folds_same n y.name) y (find (λ (z : Attempt). folds_same n z.name) ys)

phase_plain : (a : Attempt) (o : Option Attempt)
    → in_phase_of (plain_attempt a) (option_map plain_attempt o) ≡ in_phase_of a o
phase_plain a None = refl
phase_plain a (Some b) = refl

agrees_plain : (others : List Attempt) (a : Attempt)
    → agrees_by (map plain_attempt others) (plain_attempt a) ≡ agrees_by others a
agrees_plain others a =
    ap (in_phase_of (plain_attempt a)) (find_plain a.name others)
    ∙ phase_plain a (find (λ (y : Attempt). folds_same a.name y.name) others)

all_plain : (p q : Attempt → Bool) → ((a : Attempt) → p (plain_attempt a) ≡ q a) → (xs : List Attempt)
    → list_all p (map plain_attempt xs) ≡ list_all q xs
all_plain p q same [] = refl
all_plain p q same (x ∷ xs) = λ i. same x i && all_plain p q same xs i

-- the attempts of alike boots agree as those of either with themselves
pub all_alike : (xs ys : List Attempt) → map plain_attempt xs ≡ map plain_attempt ys
    → list_all (attempt_agrees_in ys) xs ≡ list_all (agrees_by xs) xs
all_alike xs ys alike =
    (λ i. list_all (λ a. agrees_found ys a i) xs)
    ∙ sym (all_plain (agrees_by (map plain_attempt ys)) (agrees_by ys) (agrees_plain ys) xs)
    ∙ (λ i. list_all (agrees_by (sym alike i)) (map plain_attempt xs))
    ∙ all_plain (agrees_by (map plain_attempt xs)) (agrees_by xs) (agrees_plain xs) xs
