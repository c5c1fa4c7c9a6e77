-- What does a save of a good start begin with? (this project's own)
use Rattle.std.specs.Prelude.{◌≡◌, true, Option, Some, None, Result, Ok, Err}
use Rattle.hive_model.specs.Tree.{Tree}
use Rattle.start_model.specs.Machine.{Start}
use Rattle.start_model.specs.Sets.{SelectNumbers, SetPlan, SetStop, select_numbers_of, usable_numbers_of, save_plan_of}
use Rattle.start_model.specs.Act.{RunState, Act, say}
use Rattle.start_model.specs.Commit.{select_line, noted_saved}

-- this start runs, whose clone was handed out
abbrev pub HandedOut : RunState → Start → Type 0
HandedOut m s = m.machine.start ≡ Some (record s { clone = None })

-- the plan is that of the clone's save in the tree
abbrev pub IsSavePlan : Tree → Tree → SetPlan → Type 0
IsSavePlan tree clone plan = save_plan_of (select_numbers_of tree) (usable_numbers_of tree) clone ≡ Ok plan

-- it is the plan, or there is none
abbrev pub PlansOr : Option SetPlan → Result SetPlan SetStop → Type 0
PlansOr None r = (stop : SetStop) × (r ≡ Err stop)
PlansOr (Some plan) r = r ≡ Ok plan

-- after the commit of a save: the numbers are printed, the save is noted, and the run goes on
abbrev pub noting : SelectNumbers → Start → (RunState → Act) → RunState → Act
noting numbers s next after = say (select_line numbers) (next (noted_saved true s after))
