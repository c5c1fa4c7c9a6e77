-- What does a host come to that says a text in pieces? (this project's own)
use Rattle.std.specs.Prelude.{◌≡◌, ℕ, true, List, ◌++◌}
use Rattle.nt_edge.specs.Host.{HostState, KeepsHost, KeepsFiles, KeepsCounts, Counts, AsksNone, SaysFront}
use Rattle.nt_edge.specs.declared.host.HostStop.{HostStop}
use Rattle.nt_edge.specs.declared.host.HostStop.TheVariants.{Read}

-- the text was said, and nothing else was done
pub record Says (old new : HostState) (text : List ℕ) : Type 0 where
  pub said : old.tells ≡ true → new.said ≡ old.said ++ text
  pub keeps : KeepsHost old new
  pub files : KeepsFiles old new
  pub unasked : AsksNone old new
  pub counts : KeepsCounts old new

-- a first part of the text was said; then the host or the memory stopped, which is no fault in reading
pub record Breaks (stop : HostStop) (old new : HostState) (text : List ℕ) : Type 0 where
  pub front : old.tells ≡ true → SaysFront old.said new.said text
  pub keeps : KeepsHost old new
  pub files : KeepsFiles old new
  pub unasked : AsksNone old new
  pub counts : Counts old new stop
  pub unread : stop ≡ Read → ⊥
