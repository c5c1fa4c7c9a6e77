-- What does a host come to, to which a text is printed piece by piece? (this project's own)
use Rattle.std.specs.Prelude.{◌≡◌, ℕ, true, List, ◌++◌, Result, OnOk, OnErr, IsErrOf}
use Rattle.nt_edge.specs.Host.{HostState, KeepsHost, KeepsFiles, AsksNone, CountsFault, SaysFront}
use Rattle.nt_edge.specs.declared.host.HostStop.{HostStop}
use Rattle.nt_edge.specs.declared.host.HostStop.TheVariants.{Read}
use Rattle.command_parts.specs.declared.command_parts.status.Status.{Status}
use Rattle.command_parts.specs.declared.command_parts.status.Status.TheVariants as statuses
use Rattle.command_parts.specs.command_parts.Leaves.{CountsBy, stop_in}
use Rattle.command_parts.specs.command_parts.Refusals.{Answer, Ends}

-- The text was printed, or the host or the memory stopped, and a first part of it was. Nothing else was done.
pub record Prints (text : List ℕ) (result : Result (Unit {0}) HostStop) (old new : HostState) : Type 0 where
  pub said : old.tells ≡ true → OnOk result (new.said ≡ old.said ++ text)
  pub front : old.tells ≡ true → OnErr result (SaysFront old.said new.said text)
  pub keeps : KeepsHost old new
  pub files : KeepsFiles old new
  pub unasked : AsksNone old new
  pub counts : CountsFault result old new
  pub unread : IsErrOf result Read → ⊥

-- an answer was printed, or the host or the memory stopped it; no file was asked for
pub record Answers (answer : Answer) (status : Status) (old new : HostState) : Type 0 where
  pub keeps : KeepsHost old new
  pub files : KeepsFiles old new
  pub unasked : AsksNone old new
  pub counts : CountsBy (stop_in status) old new
  pub said : old.tells ≡ true → Ends answer status old.said new.said
  pub used : status ≡ statuses.Usage → ⊥
  pub unread : status ≡ statuses.ReadFault → ⊥
