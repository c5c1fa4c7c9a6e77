-- What the calls return, against what a definition gives: lack of memory is free.
use Rattle.std.specs.Prelude.{◌≡◌, ℕ, List, map, Option, Some, None, Result, Ok, Err}
use Rattle.reg_tree.specs.declared.steps.TreeStep.{TreeStep}
use Rattle.reg_tree.specs.Makes.{step_of}
use Rattle.hive_model.specs.Edit.{Step}
use Rattle.reg_text.specs.declared.stop.RegFaultKind.{RegFaultKind}
use Rattle.reg_text.specs.declared.stop.RegFault.{RegFault}
use Rattle.reg_text.specs.declared.stop.RegStop.{RegStop}
use Rattle.reg_text.specs.declared.stop.RegStop.TheVariants as stops
use Rattle.reg_text.specs.declared.stop.RegLineStop.{RegLineStop}
use Rattle.reg_text.specs.declared.stop.RegLineStop.TheVariants as line_stops

-- ---- one line

-- the fault is in this line
abbrev pub at_line : {A : Type 0} → ℕ → Result A RegFaultKind → Result A RegFault
at_line n (Ok x) = Ok x
at_line n (Err kind) = Err (record { kind = kind; line = n })

-- what was found, seen by view, is what the definition finds
abbrev pub Finds : {X Y : Type 0} → (X → Y) → Option X → Option Y → Type 0
Finds view (Some x) found = found ≡ Some (view x)
Finds view None found = found ≡ None

-- the line has this fault, or memory ran out
abbrev pub Fails : {Y : Type 0} → RegLineStop → Result Y RegFaultKind → Type 0
Fails line_stops.Memory read = Unit {0}
Fails (line_stops.Kind k) read = read ≡ Err k

-- the same, unless memory ran out
abbrev pub Gives : {X Y : Type 0} → (X → Y) → Result X RegLineStop → Result Y RegFaultKind → Type 0
Gives view (Ok x) read = read ≡ Ok (view x)
Gives view (Err e) read = Fails e read

-- ---- the whole

-- the call stops by the fault, or memory ran out
abbrev pub FailsBy : {Y : Type 0} → RegStop → Result Y RegFault → Type 0
FailsBy stops.Memory given = Unit {0}
FailsBy (stops.Fault f) given = given ≡ Err f

-- the call gives the bytes, or it stops by the fault, or memory ran out
abbrev pub GivesText : Result (List ℕ) RegStop → Result (List ℕ) RegFault → Type 0
GivesText (Ok bytes) given = given ≡ Ok bytes
GivesText (Err e) given = FailsBy e given

-- the call gives the edits, or it stops by the fault, or memory ran out
abbrev pub GivesSteps : Result (List TreeStep) RegStop → Result (List Step) RegFault → Type 0
GivesSteps (Ok steps) given = given ≡ Ok (map step_of steps)
GivesSteps (Err e) given = FailsBy e given
