-- When does nothing differ between two control sets? Names and texts are compared folded. (this project's own)
use Rattle.std.specs.Prelude.{◌≡◌, ℕ, Bool, true, false, ◌&&◌, ◌==◌, List, [], ◌∷◌}
use Rattle.std.specs.List.{list_all}
use Rattle.std.specs.Option.{option_map_or}
use Rattle.hive_model.specs.Tree.{Tree}
use Rattle.start_model.specs.Order.{GroupOrder}
use Rattle.answer_lines.specs.declared.diff_lines.lines.DiffField.{DiffField}
use Rattle.answer_lines.specs.declared.diff_lines.lines.DiffLine.{DiffLine}
use Rattle.answer_lines.specs.declared.diff_lines.lines.DiffLine.TheVariants.{Sets, StartsSame, Same, End}
use Rattle.set_diff.specs.declared.boot.Attempt.{Attempt}
use Rattle.set_diff.specs.declared.boot.QuietBoot.{QuietBoot}
use Rattle.set_diff.specs.declared.service.Service.{Service}
use Rattle.set_diff.specs.Boots.{attempt_names, attempt_named, phase_rank, boots_lines}
use Rattle.set_diff.specs.Listed.{has}
use Rattle.set_diff.specs.Services.{all_fields, field_shown, service_named, service_names, services_lines}
use Rattle.set_diff.specs.Sets.{Compared, compared_of, group_names, group_named, groups_lines, both_lines, closed}
use Rattle.set_diff.specs.Shown.{names_same, numbers_same, shown_same}

-- there are no lines
abbrev pub is_none : List DiffLine → Bool
is_none [] = true
is_none (line ∷ lines) = false

-- each name of one list is in the other
abbrev pub has_all : List (List ℕ) → List (List ℕ) → Bool
has_all names others = list_all (has others) names

abbrev pub same_names : List (List ℕ) → List (List ℕ) → Bool
same_names names others = has_all names others && has_all others names

-- ---- services

abbrev pub field_agrees : Service → Service → DiffField → Bool
field_agrees a b field = shown_same (field_shown field a) (field_shown field b)

-- the same in every field
abbrev pub service_agrees : Service → Service → Bool
service_agrees a b = list_all (field_agrees a b) all_fields

-- as the other set's service of its name
abbrev pub service_agrees_in : List Service → Service → Bool
service_agrees_in others a = option_map_or (service_agrees a) (service_named others a.entry.name) true

abbrev pub services_agree : List Service → List Service → Bool
services_agree first second =
    names_same (service_names first) (service_names second) && list_all (service_agrees_in second) first

abbrev pub ServicesAgree : Type 0
ServicesAgree = (first second : List Service) → is_none (services_lines first second) ≡ services_agree first second

-- ---- groups

-- the same tags as the other set's group of its name
abbrev pub group_agrees_in : List GroupOrder → GroupOrder → Bool
group_agrees_in others a = option_map_or (λ (b : GroupOrder). numbers_same a.tags b.tags) (group_named others a.name) true

abbrev pub groups_agree : Compared → Compared → Bool
groups_agree a b =
    same_names (group_names a.groups) (group_names b.groups) && (names_same a.listed b.listed && list_all (group_agrees_in b.groups) a.groups)

abbrev pub GroupsAgree : Type 0
GroupsAgree = (a b : Compared) → is_none (groups_lines a b) ≡ groups_agree a b

-- ---- boots

-- in the same phase as the other boot's attempt of its name
abbrev pub attempt_agrees_in : List Attempt → Attempt → Bool
attempt_agrees_in others a =
    option_map_or (λ (b : Attempt). phase_rank a.phase == phase_rank b.phase) (attempt_named others a.name) true

abbrev pub boots_agree : QuietBoot → QuietBoot → Bool
boots_agree a b =
    same_names a.unmet b.unmet
    && (names_same (attempt_names a.attempts) (attempt_names b.attempts) && list_all (attempt_agrees_in b.attempts) a.attempts)

abbrev pub BootsAgree : Type 0
BootsAgree = (a b : QuietBoot) → is_none (boots_lines a b) ≡ boots_agree a b

-- ---- the whole

abbrev pub sets_agree : Compared → Compared → Bool
sets_agree a b = services_agree a.services b.services && (groups_agree a b && boots_agree a.boot b.boot)

abbrev pub SetsAgree : Type 0
SetsAgree =
    (n m : ℕ) (first second : Tree) → sets_agree (compared_of first) (compared_of second) ≡ true
    → closed (both_lines n first m second) ≡ Sets n m ∷ StartsSame ∷ Same ∷ End ∷ []
