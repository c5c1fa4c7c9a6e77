-- When are two sets the same? (this project's own)
use Rattle.std.specs.Prelude.{◌≡◌, ℕ, true}
use Rattle.hive_model.specs.Tree.{Tree}
use Rattle.set_diff.specs.Sets.{both_lines, compared_of, difference_count}
use Rattle.diff_laws.specs.diff_laws.Laws.{sets_agree}

-- no line on two sets reports a difference only where services, groups and boots agree
abbrev pub SameOnlyWhereAgree : Type 0
SameOnlyWhereAgree =
    (n m : ℕ) (first second : Tree) → difference_count (both_lines n first m second) ≡ 0
    → sets_agree (compared_of first) (compared_of second) ≡ true
