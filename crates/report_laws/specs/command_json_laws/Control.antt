-- Which lines has the report of `control`, and how is one read from its object? (this project's own)
use Rattle.std.specs.Prelude.{ℕ, ◌||◌, if◌then◌else◌, List, [], ◌∷◌, ◌++◌, map, Option, codes}
use Rattle.std.specs.Str.{bytes_eq}
use Rattle.std.specs.Option.{option_map_or}
use Rattle.hive_model.specs.Tree.{Tree}
use Rattle.report_words.specs.declared.words.Verdict.TheVariants.{NoControlSet}
use Rattle.report_words.specs.declared.line.Line.TheVariants.{Verdict as VerdictLine, End as EndLine}
use Rattle.start_model.specs.Lines.{name_text}
use Rattle.report_text.specs.line_text.Objects.{Text}
use Rattle.json_laws.specs.Reports.{Fields, Reader, Said, said}
use Rattle.report_laws.specs.report_json_laws.Starts.{said_of, start_reader}
use Rattle.dependencies.specs.Work.{names_of}
use Rattle.service_control.specs.State.{ControlState}
use Rattle.service_control.specs.Calls.{start_refusal, stop_refusal, off_refusal, new_of, stopped_by}
use Rattle.service_control.specs.First.{control_of}
use Rattle.service_control.specs.declared.stop.ControlStop.{ControlStop}
use Rattle.control_command.specs.declared.command.ControlCommand.{ControlCommand}
use Rattle.control_command.specs.declared.command.ControlCommand.TheVariants.{Start, Stop, StopAll, Listing}
use Rattle.control_command.specs.Report.{name_line, stop_fields, refused_line, spelled, answer_to, default_set}

-- ---- the lines

-- a word and a name
abbrev pub name_said : List ℕ → List ℕ → Said
name_said word name = said (name_line word name) word ((codes "name", Text name) ∷ [])

abbrev pub names_said : List ℕ → List (List ℕ) → List Said
names_said word names = map (name_said word) names

-- a refusal of a command, which names this service
abbrev pub refused_said : List ℕ → List ℕ → ControlStop → Said
refused_said command name stop =
    said (refused_line command name stop) (codes "refused") ((codes "command", Text command) ∷ (codes "name", Text name) ∷ stop_fields stop)

-- the refusal, where there is one, else these lines
abbrev pub unless_said : Option ControlStop → List ℕ → List ℕ → List Said → List Said
unless_said why command name done = option_map_or (λ stop. refused_said command name stop ∷ []) why done

abbrev pub answer_said : ControlState → ControlCommand → List Said
answer_said c (Start name) = unless_said (start_refusal c name) (codes "start") name (names_said (codes "started") (names_of (new_of c name)))
answer_said c (Stop name) = unless_said (stop_refusal c name) (codes "stop") name (name_said (codes "stopped") (spelled c name) ∷ [])
answer_said c (StopAll name) = unless_said (off_refusal c name) (codes "stopall") name (names_said (codes "stopped") (stopped_by c name))
answer_said c Listing = names_said (codes "running") (names_of c.running)

-- those of each command, and the end
abbrev pub answers_said : ControlState → List ControlCommand → List Said
answers_said c [] = said_of EndLine ∷ []
answers_said c (command ∷ more) = answer_said c command ++ answers_said (answer_to c command).state more

-- where Default names no usable set
abbrev pub no_set_said : List Said
no_set_said = said_of (VerdictLine NoControlSet) ∷ said_of EndLine ∷ []

-- the report on the services of this tree
abbrev pub control_said : Tree → List ControlCommand → List Said
control_said tree commands = option_map_or (λ set. answers_said (control_of set) commands) (default_set tree) no_set_said

-- ---- the text of an object

-- a command, the name in it, and why it was refused
abbrev pub refused_by : List ℕ → List ℕ → List ℕ → List ℕ
refused_by command name why = codes "refused " ++ command ++ codes " " ++ name_text name ++ codes " " ++ why ++ codes "\n"

-- a service may come after the word of why; lack of memory has no word
abbrev pub refused_text : Fields → List ℕ
refused_text ((a, Text command) ∷ (b, Text name) ∷ []) = refused_by command name []
refused_text ((a, Text command) ∷ (b, Text name) ∷ (c, Text why) ∷ []) = refused_by command name why
refused_text ((a, Text command) ∷ (b, Text name) ∷ (c, Text why) ∷ (d, Text other) ∷ []) =
    refused_by command name (why ++ codes " " ++ name_text other)
refused_text other = []

abbrev pub name_fields_text : List ℕ → Fields → List ℕ
name_fields_text word ((a, Text name) ∷ []) = word ++ codes " " ++ name_text name ++ codes "\n"
name_fields_text word other = []

-- a verdict and the end are read as those of a start
abbrev pub control_reader : Reader
control_reader word fields =
    if bytes_eq word (codes "refused") then refused_text fields
    else if bytes_eq word (codes "verdict") || bytes_eq word (codes "end") then start_reader word fields
    else name_fields_text word fields
