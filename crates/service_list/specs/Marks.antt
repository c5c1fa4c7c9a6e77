-- What stands out in a service? (this project's own)
--
-- The texts are those of the book, which reads types 1 and 2 up to the first zero unit.
use Rattle.std.specs.Prelude.{ℕ, Bool, false, not, ◌&&◌, ◌||◌, List, [], ◌∷◌, ◌++◌, Option, None, find, codes, if◌then◌else◌}
use Rattle.std.specs.Option.{option_map_or}
use Rattle.nt_bytes.specs.Text.{is_filled}
use Rattle.hive_model.specs.Tree.{Tree, children, is_named, find_string}
use Rattle.answer_lines.specs.declared.why_lines.lines.EntryKind.{EntryKind}
use Rattle.service_list.specs.declared.marks.Mark.{Mark}
use Rattle.service_list.specs.declared.marks.Mark.TheVariants.{NoImage, ImageOutside, NoDll, DllOutside}
use Rattle.service_list.specs.declared.marks.MarkTexts.{MarkTexts}
use Rattle.service_list.specs.Folders.{is_outside, names_svchost}
use Rattle.service_list.specs.Kinds.{is_service_kind}

-- ---- what they depend on

-- the text of the key's own ServiceDll, and of that of its subkey Parameters
abbrev pub own_text : Tree → Option (List ℕ)
own_text t = find_string (codes "ServiceDll") t

abbrev pub dll_text : Tree → Option (List ℕ)
dll_text t = option_map_or own_text (find (is_named (codes "Parameters")) (children t)) None

abbrev pub texts_of : Tree → MarkTexts
texts_of t = record { image = find_string (codes "ImagePath") t; dll = dll_text t; own = own_text t }

-- ---- conditions

-- the text is there and isn't empty
abbrev pub is_some_text : Option (List ℕ) → Bool
is_some_text text = option_map_or is_filled text false

-- it is there and outside of the Windows folder; an empty one is nowhere
abbrev pub is_there_outside : Option (List ℕ) → Bool
is_there_outside text = option_map_or is_outside text false

-- it is there and names svchost
abbrev pub is_there_svchost : Option (List ℕ) → Bool
is_there_svchost text = option_map_or names_svchost text false

-- ---- the marks, in their order

abbrev pub mark_when : Bool → Mark → List Mark
mark_when holds mark = if holds then mark ∷ [] else []

abbrev pub marks_by : EntryKind → MarkTexts → List Mark
marks_by kind texts =
    mark_when (is_service_kind kind && not (is_some_text texts.image)) NoImage
    ++ mark_when (is_there_outside texts.image) ImageOutside
    ++ mark_when (is_service_kind kind && is_there_svchost texts.image && not (is_some_text texts.dll || is_some_text texts.own)) NoDll
    ++ mark_when (is_there_outside texts.dll || is_there_outside texts.own) DllOutside

abbrev pub marks_of : EntryKind → Tree → List Mark
marks_of kind t = marks_by kind (texts_of t)
