-- Two sets are the same with all keys and values compared exactly where they are without, and their trees are equal.
use Rattle.std.proofs.Common.{◌≡◌, ◌↔◌, ℕ, Bool, true, false, not, cond, List, [], ◌∷◌, ◌++◌, refl, sym, ap, ◌∙◌}
use Rattle.std.specs.Prelude.{Option, Some, None}
use Rattle.std.proofs.lemmas.Bool.{false≢true}
use Rattle.hive_model.specs.Tree.{Tree}
use Rattle.hive_model.specs.Valid.{HoldsKeys}
use Rattle.hive_model.proofs.HeldLemmas.{held_key}
use Rattle.start_model.specs.Sets.{set_name, set_of, is_usable}
use Rattle.select_keys.specs.Sets.{usable_set}
use Rattle.answer_lines.specs.declared.diff_lines.lines.DiffLine.{DiffLine}
use Rattle.set_diff.specs.Sets.{sets_lines, is_difference, difference_count}
use Rattle.tree_diff.specs.Trees.{trees_lines}
use Rattle.set_commands.specs.diff_command.Compared.{both_found}
use Rattle.diff_laws.proofs.AgreeLemmas.{nil_of}
use Rattle.diff_laws.specs.tree_laws.Laws.{AreBothEqual, SameWithAll}
use Rattle.diff_laws.proofs.CountLemmas.{uncounted, all_parts}
use Rattle.diff_laws.proofs.EqualLemmas.{no_line_where_equal}
use Rattle.diff_laws.proofs.TellingLemmas.{is_quiet, trees_tell}

-- where none is counted, none reports a difference
counted_quiet : (lines : List DiffLine) → difference_count lines ≡ 0 → is_quiet lines ≡ true
counted_quiet lines e = (uncounted is_difference 0 lines e).1

never_same : (lines : List DiffLine) → is_quiet lines ≡ false → difference_count lines ≡ 0 → ⊥
never_same lines loud e = false≢true (sym loud ∙ counted_quiet lines e)

-- a set that isn't there is a difference
first_absent : (n m : ℕ) (o : Option Tree) → is_quiet (both_found true n None m o) ≡ false
unfolding is_difference
first_absent n m None = refl
first_absent n m (Some b) = refl

second_absent : (n m : ℕ) (a : Tree) → is_quiet (both_found true n (Some a) m None) ≡ false
unfolding is_difference
second_absent n m a = refl

-- the first set, where it is there, is one that a hive can hold
abbrev Held : Option Tree → Type 0
Held None = Unit {0}
Held (Some t) = HoldsKeys t

held_set : (t : Tree) (n : ℕ) → HoldsKeys t → Held (usable_set t n)
held_set t n holds = by (is_usable t n) (set_of t n) refl
  where
    by : (b : Bool) (o : Option Tree) → set_of t n ≡ o → Held (cond b o None)
    by true None is = tt
    by true (Some k) is = held_key (set_name n ∷ []) t k holds is
    by false o is = tt

-- the lines on the trees come after those without them, and where there are any, one of them reports a difference
sets_same : (n m : ℕ) (a b : Tree) → HoldsKeys a
    → (difference_count (both_found true n (Some a) m (Some b)) ≡ 0)
    ↔ ((difference_count (both_found false n (Some a) m (Some b)) ≡ 0) × AreBothEqual (Some a) (Some b))
sets_same n m a b holds = (told, untold)
  where
    found : List DiffLine
    found = sets_lines n (Some a) m (Some b)

    told : difference_count (found ++ trees_lines a b) ≡ 0 → (difference_count (found ++ []) ≡ 0) × AreBothEqual (Some a) (Some b)
    told e =
        let quiet = all_parts (λ line. not (is_difference line)) found (trees_lines a b) (counted_quiet (found ++ trees_lines a b) e) in
        let empty : trees_lines a b ≡ [] = nil_of (trees_lines a b) (trees_tell a b quiet.1) in
        (sym (ap (λ (lines : List DiffLine). difference_count (found ++ lines)) empty) ∙ e, (no_line_where_equal a b holds).0 empty)

    untold : (difference_count (found ++ []) ≡ 0) × AreBothEqual (Some a) (Some b) → difference_count (found ++ trees_lines a b) ≡ 0
    untold both =
        ap (λ (lines : List DiffLine). difference_count (found ++ lines)) ((no_line_where_equal a b holds).1 both.1) ∙ both.0

both_same : (n m : ℕ) (o p : Option Tree) → Held o
    → (difference_count (both_found true n o m p) ≡ 0) ↔ ((difference_count (both_found false n o m p) ≡ 0) × AreBothEqual o p)
both_same n m None None held =
    (λ e. absurd (never_same (both_found true n None m None) (first_absent n m None) e), λ both. absurd both.1)
both_same n m None (Some b) held =
    (λ e. absurd (never_same (both_found true n None m (Some b)) (first_absent n m (Some b)) e), λ both. absurd both.1)
both_same n m (Some a) None held =
    (λ e. absurd (never_same (both_found true n (Some a) m None) (second_absent n m a) e), λ both. absurd both.1)
both_same n m (Some a) (Some b) held = sets_same n m a b held

pub same_with_all : SameWithAll
same_with_all a n b m holds = both_same n m (usable_set a n) (usable_set b m) (held_set a n holds)
