-- What do services, groups and tags have to do with a boot in which each attempt goes well? (this project's own)
use Rattle.std.specs.Prelude.{◌≡◌, ℕ, true, [], ◌∷◌}
use Rattle.hive_model.specs.Tree.{Tree}
use Rattle.hive_model.specs.Valid.{HoldsKeys}
use Rattle.answer_lines.specs.declared.diff_lines.lines.DiffLine.TheVariants.{Sets, StartsSame, Same, End}
use Rattle.set_diff.specs.Boots.{boot_of, boots_lines}
use Rattle.set_diff.specs.Services.{services_in, services_lines}
use Rattle.set_diff.specs.Sets.{compared_of, groups_lines, both_lines, closed}
use Rattle.diff_laws.specs.diff_laws.Laws.{is_none, services_agree, groups_agree, boots_agree}

-- where services and groups of two sets agree, so do their boots
abbrev pub BootsFollow : Type 0
BootsFollow =
    (first second : Tree) → HoldsKeys second → services_agree (services_in first) (services_in second) ≡ true
    → groups_agree (compared_of first) (compared_of second) ≡ true → boots_agree (boot_of first) (boot_of second) ≡ true

-- where there is no line on them, there is none on the boots
abbrev pub NoLineFollows : Type 0
NoLineFollows =
    (first second : Tree) → HoldsKeys second → is_none (services_lines (services_in first) (services_in second)) ≡ true
    → is_none (groups_lines (compared_of first) (compared_of second)) ≡ true
    → is_none (boots_lines (boot_of first) (boot_of second)) ≡ true

-- and so the answer is that nothing differs
abbrev pub SameFollows : Type 0
SameFollows =
    (n m : ℕ) (first second : Tree) → HoldsKeys second → services_agree (services_in first) (services_in second) ≡ true
    → groups_agree (compared_of first) (compared_of second) ≡ true
    → closed (both_lines n first m second) ≡ Sets n m ∷ StartsSame ∷ Same ∷ End ∷ []

-- a boot agrees with itself
abbrev pub OwnBoot : Type 0
OwnBoot = (set : Tree) → boots_lines (boot_of set) (boot_of set) ≡ []

-- a set compared with itself
abbrev pub OwnAnswer : Type 0
OwnAnswer = (n m : ℕ) (set : Tree) → HoldsKeys set → closed (both_lines n set m set) ≡ Sets n m ∷ StartsSame ∷ Same ∷ End ∷ []
