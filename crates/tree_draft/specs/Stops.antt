-- What did a change of a draft do? (this project's own)
use Rattle.std.specs.Prelude.{◌≡◌, None, Result, Ok, Err}
use Rattle.std.specs.Option.{IfSome}
use Rattle.hive_model.specs.Edit.{Refusal}
use Rattle.reg_tree.specs.Makes.{refusal_of}
use Rattle.tree_draft.specs.declared.stop.DraftStop.{DraftStop}
use Rattle.tree_draft.specs.declared.stop.DraftStop.TheVariants.{Refused, Disorder}

-- the edit is refused as the stop says, or memory ran out, or no draft serves the tree
abbrev pub IsStopped : {A : Type 0} → Result A Refusal → DraftStop → Type 0
IsStopped edit (Refused stop) = IfSome (refusal_of stop) (λ why. edit ≡ Err why)
IsStopped edit Disorder = Unit {0}

-- the stop says nothing of an edit: memory ran out, or no draft serves the tree
abbrev pub RefusesNothing : DraftStop → Type 0
RefusesNothing (Refused stop) = refusal_of stop ≡ None
RefusesNothing Disorder = Unit {0}

-- what remains after a call is what the edit makes, or the edit stops as the call says
abbrev pub Drafts : {A : Type 0} → A → Result (Unit {0}) DraftStop → Result A Refusal → Type 0
Drafts new (Ok _) edit = edit ≡ Ok new
Drafts new (Err stop) edit = IsStopped edit stop

-- what a call answers is what the edit makes, or the edit stops as the call says
abbrev pub Answers : {A : Type 0} → Result A DraftStop → Result A Refusal → Type 0
Answers (Ok new) edit = edit ≡ Ok new
Answers (Err stop) edit = IsStopped edit stop
