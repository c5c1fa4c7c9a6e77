-- What do `services` and `check` say of one key? (this project's own)
use Rattle.std.specs.Prelude.{◌≡◌, Bool, true, false, ◌&&◌, ◌||◌, ◌==◌, [], Some, codes}
use Rattle.std.specs.List.{list_any, Contains}
use Rattle.hive_model.specs.Tree.{Tree}
use Rattle.start_model.specs.Entries.{Entry, entry_of}
use Rattle.answer_lines.specs.declared.check_lines.lines.Fault.TheVariants as faults
use Rattle.answer_lines.specs.declared.check_lines.lines.Field.TheVariants as values
use Rattle.service_check.specs.Children.{Scope, when, has_malformed, missing_faults, image_faults, child_faults}
use Rattle.service_list.specs.declared.field.Field.{Field}
use Rattle.service_list.specs.declared.field.Field.TheVariants as fields
use Rattle.service_list.specs.Fields.{number_field}
use Rattle.service_list.specs.Kinds.{is_listed, kind_of}
use Rattle.service_list.specs.Marks.{marks_of}
use Rattle.services_laws.specs.Marked.{is_no_image}

-- of a key that isn't listed `check` says nothing
abbrev pub UnlistedAgrees : Type 0
UnlistedAgrees = (s : Scope) (t : Tree) → is_listed t ≡ false → child_faults s t ≡ []

-- the field is `-`
abbrev pub is_missing : Field → Bool
is_missing fields.Missing = true
is_missing (fields.Number n) = false
is_missing (fields.Text text) = false
is_missing (fields.Other kind form) = false

-- the field stands in brackets
abbrev pub is_other : Field → Bool
is_other fields.Missing = false
is_other (fields.Number n) = false
is_other (fields.Text text) = false
is_other (fields.Other kind form) = true

abbrev pub NoStartAgrees : Type 0
NoStartAgrees =
    (t : Tree) → is_listed t ≡ true
    → (Contains (missing_faults t) faults.NoStart → is_missing (number_field (codes "Start") t) ≡ true)
    × (is_missing (number_field (codes "Start") t) ≡ true → Contains (missing_faults t) faults.NoStart)

abbrev pub NoTypeAgrees : Type 0
NoTypeAgrees =
    (t : Tree) → is_listed t ≡ true
    → (Contains (missing_faults t) faults.NoType → is_missing (number_field (codes "Type") t) ≡ true)
    × (is_missing (number_field (codes "Type") t) ≡ true → Contains (missing_faults t) faults.NoType)

-- of each value that is a number
pub record MalformedAgrees : Type 0 where
  pub start : (t : Tree) → has_malformed t values.Start ≡ is_other (number_field (codes "Start") t)
  pub kind : (t : Tree) → has_malformed t values.Type ≡ is_other (number_field (codes "Type") t)
  pub control : (t : Tree) → has_malformed t values.ErrorControl ≡ is_other (number_field (codes "ErrorControl") t)
  pub tag : (t : Tree) → has_malformed t values.Tag ≡ is_other (number_field (codes "Tag") t)

-- the faults are those of one entry without an image where it is of Start 2 or 3 and has the mark
abbrev pub is_two_or_three : Entry → Bool
is_two_or_three e = (e.start == 2) || (e.start == 3)

abbrev pub has_no_image : Tree → Bool
has_no_image t = list_any is_no_image (marks_of (kind_of t) t)

abbrev pub NoImageAgrees : Type 0
NoImageAgrees =
    (t : Tree) (e : Entry) → entry_of t ≡ Some e → image_faults true t e ≡ when (is_two_or_three e && has_no_image t) faults.NoImage

-- there are none in a set in which no entry has an image
abbrev pub NoImageWithoutAny : Type 0
NoImageWithoutAny = (t : Tree) (e : Entry) → image_faults false t e ≡ []
