-- When marks stand, and what a time takes.
use Rattle.std.proofs.Common.{◌≡◌, ℕ, Bool, true, false, not, ◌&&◌, List, ◌++◌, Option, refl}
use Rattle.std.specs.Prelude.{◌||◌}
use Rattle.std.specs.List.{list_any}
use Rattle.std.proofs.lemmas.Bool.{leb-true, le-leb}
use Rattle.hive_model.specs.Tree.{head}
use Rattle.answer_lines.specs.declared.why_lines.lines.EntryKind.{EntryKind}
use Rattle.service_list.specs.declared.marks.Mark.{Mark}
use Rattle.service_list.specs.declared.marks.Mark.TheVariants.{NoImage, ImageOutside, NoDll, DllOutside}
use Rattle.service_list.specs.Kinds.{is_service_kind}
use Rattle.service_list.specs.Marks.{mark_when, is_some_text, is_there_outside, is_there_svchost, marks_by}
use Rattle.services_laws.specs.Marked.{SinceIsNotBefore, MarksStand, MarksDepend, is_no_image, is_image_outside, is_no_dll, is_dll_outside}

pub since_is_not_before : SinceIsNotBefore
since_is_not_before stamp t = (λ e. leb-true stamp (head t).stamp e, λ le. le-leb stamp (head t).stamp le)

abbrev marked : Bool → Bool → Bool → Bool → List Mark
marked a b c d = mark_when a NoImage ++ mark_when b ImageOutside ++ mark_when c NoDll ++ mark_when d DllOutside

first_mark : (a b c d : Bool) → list_any is_no_image (marked a b c d) ≡ a
first_mark true b c d = refl
first_mark false true true true = refl
first_mark false true true false = refl
first_mark false true false true = refl
first_mark false true false false = refl
first_mark false false true true = refl
first_mark false false true false = refl
first_mark false false false true = refl
first_mark false false false false = refl

second_mark : (a b c d : Bool) → list_any is_image_outside (marked a b c d) ≡ b
second_mark true true c d = refl
second_mark false true c d = refl
second_mark true false true true = refl
second_mark true false true false = refl
second_mark true false false true = refl
second_mark true false false false = refl
second_mark false false true true = refl
second_mark false false true false = refl
second_mark false false false true = refl
second_mark false false false false = refl

third_mark : (a b c d : Bool) → list_any is_no_dll (marked a b c d) ≡ c
third_mark true true true d = refl
third_mark true false true d = refl
third_mark false true true d = refl
third_mark false false true d = refl
third_mark true true false true = refl
third_mark true true false false = refl
third_mark true false false true = refl
third_mark true false false false = refl
third_mark false true false true = refl
third_mark false true false false = refl
third_mark false false false true = refl
third_mark false false false false = refl

last_mark : (a b c d : Bool) → list_any is_dll_outside (marked a b c d) ≡ d
last_mark true true true true = refl
last_mark true true true false = refl
last_mark true true false true = refl
last_mark true true false false = refl
last_mark true false true true = refl
last_mark true false true false = refl
last_mark true false false true = refl
last_mark true false false false = refl
last_mark false true true true = refl
last_mark false true true false = refl
last_mark false true false true = refl
last_mark false true false false = refl
last_mark false false true true = refl
last_mark false false true false = refl
last_mark false false false true = refl
last_mark false false false false = refl

abbrev a_of : EntryKind → Option (List ℕ) → Bool
a_of kind image = is_service_kind kind && not (is_some_text image)

abbrev c_of : EntryKind → Option (List ℕ) → Option (List ℕ) → Option (List ℕ) → Bool
c_of kind image dll own = is_service_kind kind && is_there_svchost image && not (is_some_text dll || is_some_text own)

abbrev d_of : Option (List ℕ) → Option (List ℕ) → Bool
d_of dll own = is_there_outside dll || is_there_outside own

pub marks_stand : MarksStand
marks_stand = record {
  no_image = λ kind image dll own. first_mark (a_of kind image) (is_there_outside image) (c_of kind image dll own) (d_of dll own);
  image_outside = λ kind image dll own. second_mark (a_of kind image) (is_there_outside image) (c_of kind image dll own) (d_of dll own);
  no_dll = λ kind image dll own. third_mark (a_of kind image) (is_there_outside image) (c_of kind image dll own) (d_of dll own);
  dll_outside = λ kind image dll own. last_mark (a_of kind image) (is_there_outside image) (c_of kind image dll own) (d_of dll own);
}

pub marks_depend : MarksDepend
marks_depend t u kind texts = λ i. marks_by (kind i) (texts i)
