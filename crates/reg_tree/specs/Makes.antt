-- What a call did that is to edit a tree: the edit of the book, or a refusal.
use Rattle.std.specs.Prelude.{◌≡◌, Option, Some, None, Result, Ok, Err}
use Rattle.std.specs.Option.{IfSome}
use Rattle.hive_model.specs.Tree.{Tree}
use Rattle.hive_model.specs.Edit.{Step, Refusal, set_value, delete_value, make_key, delete_key, copy_child, add_child, no_key, no_value, bad_name, exists, name_too_long, too_deep, data_too_long, full}
use Rattle.reg_tree.specs.declared.stop.EditStop.{EditStop}
use Rattle.reg_tree.specs.declared.stop.EditStop.TheVariants as stops
use Rattle.reg_tree.specs.declared.steps.TreeStep.{TreeStep}
use Rattle.reg_tree.specs.declared.steps.TreeStep.TheVariants as made

-- the refusal that a stop reports; lack of memory is none
abbrev pub refusal_of : EditStop → Option Refusal
refusal_of stops.NoKey = Some no_key
refusal_of stops.NoValue = Some no_value
refusal_of stops.BadName = Some bad_name
refusal_of stops.Exists = Some exists
refusal_of stops.NameTooLong = Some name_too_long
refusal_of stops.TooDeep = Some too_deep
refusal_of stops.DataTooLong = Some data_too_long
refusal_of stops.Full = Some full
refusal_of stops.Memory = None

-- the step of the book
abbrev pub step_of : TreeStep → Step
step_of (made.SetValue path name kind bytes) = set_value path name kind bytes
step_of (made.DeleteValue path name) = delete_value path name
step_of (made.MakeKey parent name) = make_key parent name
step_of (made.DeleteKey path) = delete_key path
step_of (made.CopyChild from to) = copy_child from to
step_of (made.AddChild name tree) = add_child name tree

-- the edit is refused as the stop says, or memory ran out
abbrev pub IsRefused : Result Tree Refusal → EditStop → Type 0
IsRefused edit stop = IfSome (refusal_of stop) (λ why. edit ≡ Err why)

-- what remains after a call is the edited tree, or the edit is refused as the call says
abbrev pub Edits : Tree → Result (Unit {0}) EditStop → Result Tree Refusal → Type 0
Edits new (Ok _) edit = edit ≡ Ok new
Edits new (Err stop) edit = IsRefused edit stop

-- the call made the edit, or it is refused as the call says and nothing changed
abbrev pub Makes : Tree → Tree → Result (Unit {0}) EditStop → Result Tree Refusal → Type 0
Makes old new (Ok _) edit = edit ≡ Ok new
Makes old new (Err stop) edit = IsRefused edit stop × (new ≡ old)
