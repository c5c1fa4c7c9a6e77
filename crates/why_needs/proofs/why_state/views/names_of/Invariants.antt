use Rattle.std.proofs.Common.{◌≡◌, take}
use Rattle.why_needs.specs.why_state.Views.{names_of}
use Rattle.why_needs.proofs.why_state.views.names_of.Given as goal

abbrev pub invariant-loop-entry : goal.invariant-loop-entry
invariant-loop-entry l = l.names ≡ names_of (take l.entry-index l.entries)
