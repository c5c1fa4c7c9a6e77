-- How many words are `after`, and how many `before`.
use Rattle.std.proofs.Common.{◌≡◌, ℕ, ◌+◌, ◌-◌, ◌*◌, Bool, true, false, cond, not, List, [], ◌∷◌, ◌++◌, length, refl, sym, ◌∙◌, arith, length-append}
use Rattle.std.specs.List.{count_by}
use Rattle.std.proofs.lemmas.List.Sums.{sum_by-append, sum_by-cons}
use Rattle.hive_model.specs.Recovery.{one_if}
use Rattle.std.specs.Prelude.{◌↔◌}
use Rattle.std.proofs.lemmas.Bool.{false≢true}
use Rattle.sweep_text.specs.declared.sweep_text.logged.Logged.{Logged}
use Rattle.sweep_text.specs.sweep_text.Report.{stages_by}
use Rattle.sweep_text.specs.sweep_text.Stages.{Stage, calls_in, afters_in}
use Rattle.sweep_laws.specs.Counted.{four, words_of_writes, words_in}

-- ---- all words

writes_long : (written : Bool) (sectors : List ℕ) → length (words_of_writes written sectors) ≡ 4 * length sectors
writes_long written [] = omega arith
writes_long written (n ∷ more) = omega (arith, writes_long written more)

pub four_words : (stages : List Stage) → length (words_in stages) ≡ 4 * calls_in stages
four_words [] = omega arith
four_words (s ∷ more) =
    let writes = words_of_writes s.leaves.written s.sectors in
    let sync = four s.leaves.none s.leaves.others in
    omega (
      arith,
      length-append (writes ++ sync) (words_in more),
      length-append writes sync,
      writes_long s.leaves.written s.sectors,
      four_words more,
    )

-- ---- those that pass a test

-- 1 for a word that does
abbrev tally : (Bool → Bool) → Bool → ℕ
tally p w = cond (p w) 1 0

four_tallied : (p : Bool → Bool) (none others : Bool) → count_by p (four none others) ≡ tally p none + 3 * tally p others
four_tallied p none others = omega arith

write_tallied : (p : Bool → Bool) (written : Bool) (n : ℕ) (more : List ℕ)
    → count_by p (words_of_writes written (n ∷ more)) ≡ 4 * tally p written + count_by p (words_of_writes written more)
write_tallied p written n more =
    sum_by-append (tally p) (four written written) (words_of_writes written more)
    ∙ omega (arith, four_tallied p written written)

writes_true : (written : Bool) (sectors : List ℕ)
    → count_by (λ w. w) (words_of_writes written sectors) ≡ 4 * (one_if written * length sectors)
writes_true true [] = omega arith
writes_true false [] = omega arith
writes_true true (n ∷ more) = omega (arith, write_tallied (λ w. w) true n more, writes_true true more)
writes_true false (n ∷ more) = omega (arith, write_tallied (λ w. w) false n more, writes_true false more)

pub true_words : (stages : List Stage) → count_by (λ w. w) (words_in stages) ≡ afters_in stages
true_words [] = omega arith
true_words (s ∷ more) =
    let writes = words_of_writes s.leaves.written s.sectors in
    let sync = four s.leaves.none s.leaves.others in
    omega (
      arith,
      sum_by-append (tally (λ w. w)) (writes ++ sync) (words_in more),
      sum_by-append (tally (λ w. w)) writes sync,
      writes_true s.leaves.written s.sectors,
      four_tallied (λ w. w) s.leaves.none s.leaves.others,
      true_words more,
    )

-- each word passes the test or does not
one_of_two : (w : Bool) → tally (λ v. v) w + tally not w ≡ 1
one_of_two true = refl
one_of_two false = refl

both_tallied : (words : List Bool) → count_by (λ w. w) words + count_by not words ≡ length words
both_tallied [] = omega arith
both_tallied (w ∷ more) =
    omega (arith, sum_by-cons (tally (λ v. v)) w more, sum_by-cons (tally not) w more, one_of_two w, both_tallied more)

pub false_words : (stages : List Stage) → count_by not (words_in stages) ≡ 4 * calls_in stages - afters_in stages
false_words stages = omega (arith, both_tallied (words_in stages), true_words stages, four_words stages)

-- ---- no call

pub no_calls : (recovered committed : Bool) (recovery commit : Logged)
    → (calls_in (stages_by recovered committed recovery commit) ≡ 0) ↔ ((recovered ≡ false) × (committed ≡ false))
no_calls false false recovery commit = ((λ e. (refl, refl)), (λ e. refl))
no_calls false true recovery commit =
    ((λ e. absurd (omega (arith, e))), (λ e. absurd (false≢true (sym e.1))))
no_calls true committed recovery commit =
    ((λ e. absurd (omega (arith, e))), (λ e. absurd (false≢true (sym e.0))))
