-- What the calls that read a line do with the list of edits.
use Rattle.std.specs.Prelude.{◌≡◌, ◌++◌, List, map, Option, Some, None, Result, Ok, Err, ℕ}
use Rattle.std.specs.Borrow.{Bor}
use Rattle.std.specs.Str.Lines.{lines}
use Rattle.reg_tree.specs.declared.steps.TreeStep.{TreeStep}
use Rattle.reg_tree.specs.Makes.{step_of}
use Rattle.hive_model.specs.Edit.{Step}
use Rattle.reg_text.specs.declared.stop.RegFault.{RegFault}
use Rattle.reg_text.specs.declared.stop.RegStop.{RegStop}
use Rattle.reg_text.specs.declared.stop.RegFaultKind.{RegFaultKind}
use Rattle.reg_text.specs.declared.stop.RegFaultKind.TheVariants.{Line}
use Rattle.reg_text.specs.declared.item.Begun.{Begun}
use Rattle.reg_text.specs.declared.item.LineItem.{LineItem}
use Rattle.reg_text.specs.declared.state.State.{State}
use Rattle.reg_text.specs.Gives.{FailsBy}
use Rattle.reg_text.specs.Reading.{edits_of, key_after, begun_after}

-- the path of the key in which values stand
abbrev pub path_of : Option (List (List ℕ)) → Result (List (List ℕ)) RegFaultKind
path_of None = Err Line
path_of (Some path) = Ok path

-- the list has these edits more
pub record AddsEdits (old new : List TreeStep) (said : Result (List Step) RegFaultKind) : Type 0 where
  pub edits : List Step
  pub reads : said ≡ Ok edits
  pub adds : map step_of new ≡ map step_of old ++ edits

-- the list has the edits of what a line says more, and this is kept after it
pub record TakesItem (old new : List TreeStep) (key : Option (List (List ℕ))) (item : LineItem) (kept : Option (List (List ℕ)) × Option Begun) : Type 0 where
  pub added : AddsEdits old new (edits_of key item)
  pub key_is : kept.0 ≡ key_after key item
  pub begun_is : kept.1 ≡ begun_after item

-- the list has the edits of a line more, and this is kept after it
pub record TakesLine (old new : List TreeStep) (said : Result (List Step × State) RegFaultKind) (after : State) : Type 0 where
  pub edits : List Step
  pub reads : said ≡ Ok (edits, after)
  pub adds : map step_of new ≡ map step_of old ++ edits

-- what follows the header, or its fault
abbrev pub GivesBody : Result (Bor (List ℕ)) RegFaultKind → Result (List (List ℕ)) RegFaultKind → Type 0
GivesBody (Ok rest) read = read ≡ Ok (lines rest.now)
GivesBody (Err kind) read = read ≡ Err kind

-- the edits of lines with what is kept after them, or the fault, or lack of memory
abbrev pub GivesLines : Result (List TreeStep × State) RegStop → Result (List Step × State) RegFault → Type 0
GivesLines (Ok r) given = given ≡ Ok (map step_of r.0, r.1)
GivesLines (Err e) given = FailsBy e given
