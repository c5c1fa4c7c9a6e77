-- What do the edits of a text make of a hive, and what is printed for that? (this project's own)
use Rattle.std.specs.Prelude.{ℕ, Bool, true, false, if◌then◌else◌, List, [], Option, Some, None, Result, Ok, Err}
use Rattle.std.specs.Option.{option_map_or}
use Rattle.hive_model.specs.Edit.{Step, Refusal, no_key, no_value, bad_name, exists, name_too_long, too_deep, data_too_long, full, edited}
use Rattle.hive_model.specs.State.{HiveState}
use Rattle.hive_model.specs.Tree.{Tree, same_tree}
use Rattle.hive_commit.specs.Stages.{next_number}
use Rattle.reg_tree.specs.declared.stop.EditStop.{EditStop}
use Rattle.reg_tree.specs.declared.stop.EditStop.TheVariants as stops
use Rattle.start_model.specs.Sets.{is_usable, select_numbers_of}
use Rattle.reg_text.specs.declared.stop.RegFault.{RegFault}
use Rattle.reg_text.specs.declared.stop.RegFaultKind.TheVariants.{Mark}
use Rattle.reg_text.specs.Reading.{reg_steps_of}
use Rattle.import_steps.specs.Current.{SetSteps, set_steps}
use Rattle.import_steps.specs.Encoding.{utf16_of}
use Rattle.import_steps.specs.Left.{LeftSteps, left_of}
use Rattle.command_words.specs.declared.asked.AskedEncoding.{AskedEncoding}
use Rattle.command_words.specs.declared.asked.AskedEncoding.TheVariants.{Utf16, Utf8}
use Rattle.command_words.specs.declared.asked.AskedSet.{AskedSet}
use Rattle.command_words.specs.declared.asked.AskedSet.TheVariants as asked_sets
use Rattle.text_commands.specs.declared.said.Done.{Done}
use Rattle.text_commands.specs.declared.said.Done.TheVariants as dones
use Rattle.text_commands.specs.declared.said.How.{How}
use Rattle.text_commands.specs.declared.said.ImportStop.{ImportStop}
use Rattle.text_commands.specs.declared.said.ImportStop.TheVariants as import_stops
use Rattle.text_commands.specs.declared.said.Said.{Said}

-- ---- the text

-- the edits of a text that is encoded so, or its first fault; one that is to be UTF-8 and isn't has a fault before its first line
abbrev pub steps_in : AskedEncoding → List ℕ → Result (List Step) RegFault
steps_in Utf16 text = reg_steps_of text
steps_in Utf8 text = option_map_or reg_steps_of (utf16_of text) (Err (record { kind = Mark; line = 0 }))

-- ---- the tree

-- the stop that reports a refusal
abbrev pub stop_of : Refusal → EditStop
stop_of no_key = stops.NoKey
stop_of no_value = stops.NoValue
stop_of bad_name = stops.BadName
stop_of exists = stops.Exists
stop_of name_too_long = stops.NameTooLong
stop_of too_deep = stops.TooDeep
stop_of data_too_long = stops.DataTooLong
stop_of full = stops.Full

-- the tree after the edits, or why they are refused
abbrev pub as_edited : Result Tree Refusal → Result Tree ImportStop
as_edited (Ok t) = Ok t
as_edited (Err why) = Err (import_stops.Edit (stop_of why))

-- the same where a step after them is refused: it comes before the size of the tree is judged
abbrev pub as_protected : Result Tree Refusal → Result Tree ImportStop
as_protected (Ok t) = Err import_stops.Protected
as_protected (Err full) = Err import_stops.Protected
as_protected (Err why) = Err (import_stops.Edit (stop_of why))

abbrev pub tree_by : Bool → Result Tree Refusal → Result Tree ImportStop
tree_by protected edit = if protected then as_protected edit else as_edited edit

-- ---- the change

-- The edits are refused; or they give the same tree; or they give another one, which is committed under the next number.
abbrev pub done_by : HiveState → Result Tree ImportStop → Done
done_by s (Err stop) = dones.Refused stop
done_by s (Ok t) = if same_tree s.tree t then dones.Nothing else dones.Commit (next_number s.sequence)

-- the state that the hive has afterwards: the one before, but where another tree is committed
abbrev pub state_by : HiveState → Result Tree ImportStop → HiveState
state_by s (Err stop) = s
state_by s (Ok t) = if same_tree s.tree t then s else record s { tree = t; sequence = next_number s.sequence }

-- how many steps were passed over is printed where nothing is refused
abbrev pub said_of : Option ℕ → Option ℕ → Done → Said
said_of current passed (dones.Refused stop) = record { current = current; passed = None; done = dones.Refused stop }
said_of current passed done = record { current = current; passed = passed; done = done }

-- what is printed for the change, the steps that are made or refused, and the states that the hive has before and afterwards
pub record Change : Type 0 where
  pub said : Said
  pub before : HiveState
  pub steps : List Step
  pub state : HiveState

abbrev pub change_by : Option ℕ → Option ℕ → HiveState → List Step → Result Tree ImportStop → Change
change_by current passed s steps edit =
    record { said = said_of current passed (done_by s edit); before = s; steps = steps; state = state_by s edit }

-- the change by these steps, and how many were passed over before, if that is asked for
abbrev pub change_left : Option ℕ → Option ℕ → HiveState → SetSteps → Change
change_left current passed s made = change_by current passed s made.steps (tree_by made.protected (edited s.version s.tree made.steps))

-- the change by steps, those that delete what isn't there passed over or not
abbrev pub change_made : Option ℕ → Bool → HiveState → SetSteps → Change
change_made current false s made = change_left current None s made
change_made current true s made =
    let left : LeftSteps = left_of s.tree made.steps in
    change_left current (Some left.passed) s (record { steps = left.steps; protected = made.protected })

-- the number of the set that is asked for
abbrev pub number_in : AskedSet → Tree → ℕ
number_in (asked_sets.Number n) t = n
number_in asked_sets.Default t = (select_numbers_of t).default

-- the change where `CurrentControlSet` stands for the set of this number, if there is one
abbrev pub change_in : ℕ → Bool → HiveState → List Step → Change
change_in n lenient s steps =
    if is_usable s.tree n then change_made (Some n) lenient s (set_steps n steps)
    else change_by None None s [] (Err import_stops.NoControlSet)

-- the change where that stands for a set, or for no other key
abbrev pub change_for : Option AskedSet → Bool → HiveState → List Step → Change
change_for None lenient s steps = change_made None lenient s (record { steps = steps; protected = false })
change_for (Some set) lenient s steps = change_in (number_in set s.tree) lenient s steps

-- the change of a hive by the edits of a text
abbrev pub change_of : How → HiveState → List Step → Change
change_of how s steps = change_for how.current how.lenient s steps
