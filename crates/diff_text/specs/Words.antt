-- Which words have the lines of a comparison? (this project's own)
use Rattle.std.specs.Prelude.{ℕ, List, codes}
use Rattle.boot_phases.specs.declared.boot_phases.phase.Phase.{Phase}
use Rattle.boot_phases.specs.declared.boot_phases.phase.Phase.TheVariants as phases
use Rattle.answer_lines.specs.declared.diff_lines.lines.DiffField.{DiffField}
use Rattle.answer_lines.specs.declared.diff_lines.lines.DiffField.TheVariants as fields
use Rattle.answer_lines.specs.declared.diff_lines.lines.DiffLine.{DiffLine}
use Rattle.answer_lines.specs.declared.diff_lines.lines.DiffLine.TheVariants as lines
use Rattle.answer_lines.specs.declared.diff_lines.lines.KeyField.{KeyField}
use Rattle.answer_lines.specs.declared.diff_lines.lines.KeyField.TheVariants as key_fields
use Rattle.answer_lines.specs.declared.diff_lines.lines.Part.{Part}
use Rattle.answer_lines.specs.declared.diff_lines.lines.Part.TheVariants as parts
use Rattle.answer_lines.specs.declared.diff_lines.lines.Sequence.{Sequence}
use Rattle.answer_lines.specs.declared.diff_lines.lines.Sequence.TheVariants as sequences
use Rattle.answer_lines.specs.declared.diff_lines.lines.Side.{Side}
use Rattle.answer_lines.specs.declared.diff_lines.lines.Side.TheVariants as sides

abbrev pub side_word : Side → List ℕ
side_word sides.First = codes "first"
side_word sides.Second = codes "second"

abbrev pub field_word : DiffField → List ℕ
field_word fields.Start = codes "Start"
field_word fields.Type = codes "Type"
field_word fields.ErrorControl = codes "ErrorControl"
field_word fields.Group = codes "Group"
field_word fields.Tag = codes "Tag"
field_word fields.DependOnService = codes "DependOnService"
field_word fields.DependOnGroup = codes "DependOnGroup"
field_word fields.ImagePath = codes "ImagePath"
field_word fields.ObjectName = codes "ObjectName"

abbrev pub sequence_word : Sequence → List ℕ
sequence_word sequences.Registry = codes "registry"
sequence_word sequences.Groups = codes "groups"
sequence_word sequences.Starts = codes "start-order"

abbrev pub part_word : Part → List ℕ
part_word parts.Group = codes "group-only"
part_word parts.Start = codes "start-only"
part_word parts.Unmet = codes "unmet-only"

-- what the name of a part is called in an object
abbrev pub part_name : Part → List ℕ
part_name parts.Group = codes "group"
part_name parts.Start = codes "name"
part_name parts.Unmet = codes "name"

abbrev pub key_field_word : KeyField → List ℕ
key_field_word key_fields.Name = codes "name"
key_field_word key_fields.Class = codes "class"
key_field_word key_fields.Security = codes "security"
key_field_word key_fields.Values = codes "values"
key_field_word key_fields.Keys = codes "keys"

abbrev pub phase_word : Phase → List ℕ
phase_word phases.Boot = codes "boot"
phase_word phases.System = codes "system"
phase_word phases.Automatic = codes "automatic"
phase_word phases.Done = codes "done"

-- the first word of a line
abbrev pub line_word : DiffLine → List ℕ
line_word (lines.NoSet side number) = codes "no-set"
line_word (lines.Sets first second) = codes "sets"
line_word (lines.Only side start kind control image name) = codes "only"
line_word (lines.Differs field first second name) = codes "differs"
line_word (lines.Parts sequence place first second) = sequence_word sequence
line_word (lines.Lone part side name) = part_word part
line_word (lines.Tags first second group) = codes "tags"
line_word (lines.StartPhase first second name) = codes "start-phase"
line_word lines.StartsSame = codes "starts"
line_word (lines.KeyDiffers field path) = codes "key-differs"
line_word (lines.ValueDiffers name path) = codes "value-differs"
line_word (lines.ValueOnly side name path) = codes "value-only"
line_word (lines.Data side kind bytes) = side_word side
line_word (lines.KeyOnly side keys path) = codes "key-only"
line_word (lines.Stamps count) = codes "stamps"
line_word (lines.Flags count) = codes "flags"
line_word lines.Same = codes "same"
line_word (lines.Differ count) = codes "differ"
line_word lines.End = codes "end"
