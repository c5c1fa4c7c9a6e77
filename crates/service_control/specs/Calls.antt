-- When is a call refused, and what does it do? (this project's own)
use Rattle.std.specs.Prelude.{◌≡◌, ℕ, not, ◌==◌, List, [], ◌++◌, length, filter, reverse, Option, Some, None, Result, Ok, Err, if◌then◌else◌}
use Rattle.std.specs.Option.{option_map, option_map_or, option_or}
use Rattle.nt_bytes.specs.Folding.{folds_same}
use Rattle.start_model.specs.Demand.{Need}
use Rattle.start_model.specs.Ready.{Label, has_name}
use Rattle.dependencies.specs.Work.{names_of}
use Rattle.service_control.specs.declared.stop.ControlStop.{ControlStop}
use Rattle.service_control.specs.declared.stop.ControlStop.TheVariants.{NoService, Disabled, Running, NotStarted, Missing, NeedDisabled, InUse, Unmet, Memory}
use Rattle.service_control.specs.State.{ControlState, named, labels_of}
use Rattle.service_control.specs.Turns.{starts_of}
use Rattle.service_control.specs.Needed.{members_of, missing_in, disabled_in}
use Rattle.service_control.specs.Leaning.{in_use_by, others_in, leaning_in}

-- a call stops for this reason; lack of memory may stop any call
abbrev pub StopsBy : Option ControlStop → ControlStop → Type 0
StopsBy why Memory = Unit {0}
StopsBy why stop = why ≡ Some stop

-- a call is refused where there is a reason, and for that reason; else it is done, or memory is lacking
abbrev pub Answers : {T : Type 0} → Result T ControlStop → Option ControlStop → Type 0
Answers (Ok value) why = why ≡ None
Answers (Err stop) why = StopsBy why stop

-- a reason that is known without memory is given, whether there is memory or not
abbrev pub KnowsRefusal : {T : Type 0} → Result T ControlStop → Option ControlStop → Type 0
KnowsRefusal result reason = (why : ControlStop) → reason ≡ Some why → result ≡ Err why

-- ---- start

-- it is disabled, or started already
abbrev pub entry_refusal : List Label → Need → Option ControlStop
entry_refusal started n = if n.start == 4 then Some Disabled else (if has_name started n.name then Some Running else None)

-- a name that is needed is no entry, or is disabled
abbrev pub members_refusal : List (List ℕ) → List Need → Option ControlStop
members_refusal names members = option_or (option_map Missing (missing_in names members)) (option_map NeedDisabled (disabled_in members))

-- not all of these start
abbrev pub turns_refusal : List Need → List Need → Option ControlStop
turns_refusal members new = if length new == length members then None else Some Unmet

-- those that a start of this service starts, in the order of their turns
abbrev pub started_by : ControlState → List ℕ → List Need
started_by c name = starts_of (members_of c.by_group (labels_of c.running) name) (labels_of c.running)

-- why the start of an entry is refused, the first of the reasons
abbrev pub turns_refusal_at : ControlState → Need → Option ControlStop
turns_refusal_at c n = turns_refusal (members_of c.by_group (labels_of c.running) n.name) (started_by c n.name)

abbrev pub needs_refusal : ControlState → Need → Option ControlStop
needs_refusal c n = option_or (members_refusal (names_of c.table) (members_of c.table (labels_of c.running) n.name)) (turns_refusal_at c n)

abbrev pub start_refusal_at : ControlState → Need → Option ControlStop
start_refusal_at c n = option_or (entry_refusal (labels_of c.running) n) (needs_refusal c n)

abbrev pub start_refusal : ControlState → List ℕ → Option ControlStop
start_refusal c name = option_map_or (start_refusal_at c) (named c.table name) (Some NoService)

-- the reasons that are found before memory is asked for
abbrev pub known_refusal : ControlState → List ℕ → Option ControlStop
known_refusal c name = option_map_or (entry_refusal (labels_of c.running)) (named c.table name) (Some NoService)

-- those that a start starts: what the entry of this name needs
abbrev pub new_of : ControlState → List ℕ → List Need
new_of c name = option_map_or (λ n. started_by c n.name) (named c.table name) []

-- they stand after the others
abbrev pub after_start : ControlState → List ℕ → ControlState
after_start c name = record c { running = c.running ++ new_of c name }

-- ---- stop

-- none of this name is started
abbrev pub idle_refusal : List Label → List ℕ → Option ControlStop
idle_refusal started name = if has_name started name then None else Some NotStarted

-- there is no entry of this name, or it is not started
abbrev pub off_refusal : ControlState → List ℕ → Option ControlStop
off_refusal c name = option_map_or (λ n. idle_refusal (labels_of c.running) name) (named c.table name) (Some NoService)

-- another one leans on it
abbrev pub stop_refusal : ControlState → List ℕ → Option ControlStop
stop_refusal c name = option_or (off_refusal c name) (option_map InUse (in_use_by c.running name))

-- it alone is taken out
abbrev pub after_stop : ControlState → List ℕ → ControlState
after_stop c name = record c { running = filter (λ n. not (folds_same name n.name)) c.running }

-- those that lean on it are taken out
abbrev pub after_stop_all : ControlState → List ℕ → ControlState
after_stop_all c name = record c { running = others_in c.running name }

-- their names, the last one that was started first
abbrev pub stopped_by : ControlState → List ℕ → List (List ℕ)
stopped_by c name = names_of (reverse (leaning_in c.running name))
