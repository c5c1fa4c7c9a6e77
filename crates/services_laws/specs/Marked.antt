-- When does a mark stand, and what does a time take? (this project's own)
use Rattle.std.specs.Prelude.{◌≡◌, ◌↔◌, ◌≤◌, ℕ, Bool, true, false, not, ◌&&◌, ◌||◌, List, Option, Some}
use Rattle.std.specs.List.{list_any}
use Rattle.hive_model.specs.Tree.{Tree, head}
use Rattle.answer_lines.specs.declared.why_lines.lines.EntryKind.{EntryKind}
use Rattle.service_list.specs.declared.marks.Mark.{Mark}
use Rattle.service_list.specs.declared.marks.Mark.TheVariants.{NoImage, ImageOutside, NoDll, DllOutside}
use Rattle.service_list.specs.Kinds.{is_service_kind, kind_of, is_since}
use Rattle.service_list.specs.Marks.{is_some_text, is_there_outside, is_there_svchost, texts_of, marks_by, marks_of}

abbrev pub SinceIsNotBefore : Type 0
SinceIsNotBefore = (stamp : ℕ) (t : Tree) → (is_since (Some stamp) t ≡ true) ↔ (stamp ≤ (head t).stamp)

-- ---- marks

abbrev pub is_no_image : Mark → Bool
is_no_image NoImage = true
is_no_image ImageOutside = false
is_no_image NoDll = false
is_no_image DllOutside = false

abbrev pub is_image_outside : Mark → Bool
is_image_outside NoImage = false
is_image_outside ImageOutside = true
is_image_outside NoDll = false
is_image_outside DllOutside = false

abbrev pub is_no_dll : Mark → Bool
is_no_dll NoImage = false
is_no_dll ImageOutside = false
is_no_dll NoDll = true
is_no_dll DllOutside = false

abbrev pub is_dll_outside : Mark → Bool
is_dll_outside NoImage = false
is_dll_outside ImageOutside = false
is_dll_outside NoDll = false
is_dll_outside DllOutside = true

-- each mark is there exactly where its condition holds
pub record MarksStand : Type 0 where
  pub no_image : (kind : EntryKind) (image dll own : Option (List ℕ))
      → list_any is_no_image (marks_by kind (record { image = image; dll = dll; own = own })) ≡ (is_service_kind kind && not (is_some_text image))
  pub image_outside : (kind : EntryKind) (image dll own : Option (List ℕ))
      → list_any is_image_outside (marks_by kind (record { image = image; dll = dll; own = own })) ≡ is_there_outside image
  pub no_dll : (kind : EntryKind) (image dll own : Option (List ℕ))
      → list_any is_no_dll (marks_by kind (record { image = image; dll = dll; own = own }))
      ≡ (is_service_kind kind && is_there_svchost image && not (is_some_text dll || is_some_text own))
  pub dll_outside : (kind : EntryKind) (image dll own : Option (List ℕ))
      → list_any is_dll_outside (marks_by kind (record { image = image; dll = dll; own = own }))
      ≡ (is_there_outside dll || is_there_outside own)

-- two keys of one kind and with the same texts have the same marks
abbrev pub MarksDepend : Type 0
MarksDepend = (t u : Tree) → kind_of t ≡ kind_of u → texts_of t ≡ texts_of u → marks_of (kind_of t) t ≡ marks_of (kind_of u) u
