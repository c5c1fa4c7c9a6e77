-- What is reported of a name in the last start of a script? (this project's own)
use Rattle.std.specs.Prelude.{ℕ, List, [], ◌∷◌, ◌++◌, slice_get, codes, Option, None, Some}
use Rattle.std.specs.Option.{option_map_or}
use Rattle.hive_model.specs.Tree.{Tree, find_dword}
use Rattle.start_model.specs.Entries.{Entry, control_in}
use Rattle.quiet_run.specs.declared.last.BegunPhase.{BegunPhase}
use Rattle.quiet_run.specs.declared.last.QuietRun.{QuietRun}
use Rattle.answer_lines.specs.declared.why_lines.lines.NameState.{NameState}
use Rattle.answer_lines.specs.declared.why_lines.lines.NameState.TheVariants as states
use Rattle.answer_lines.specs.declared.why_lines.lines.WhyLine.{WhyLine}
use Rattle.answer_lines.specs.declared.why_lines.lines.WhyLine.TheVariants as lines
use Rattle.why_needs.specs.declared.why_state.views.PhaseView.{PhaseView}
use Rattle.why_needs.specs.declared.why_state.views.ViewedRun.{ViewedRun}
use Rattle.why_needs.specs.why_state.Views.{viewed_of}
use Rattle.why_needs.specs.why_state.States.{key_named, attempt_upto, placed_of, state_of}
use Rattle.why_needs.specs.why_state.Heads.{head_lines}
use Rattle.why_needs.specs.why_needs.Ready.{ready_at, ready_line}
use Rattle.why_lacks.specs.declared.why_items.needs.NeedsRun.{NeedsRun}
use Rattle.why_lacks.specs.why_items.Vertices.{number_of}
use Rattle.why_lacks.specs.why_items.Items.{needs_run_of, items_of}
use Rattle.why_lacks.specs.why_lacks.Lacks.{spelled, lack_lines}
use Rattle.why_lacks.specs.why_cycle.Cycle.{cycle_lines}
use Rattle.why_answer.specs.why_place.Place.{order_of, kind_of, entry_line, place_lines}
use Rattle.why_answer.specs.why_pulled.Pulled.{pulled_lines}

-- ---- a name that no plan has

-- the line of an entry: Start and Type, where both are there, and ErrorControl
abbrev pub lines_with : Option ℕ → Option ℕ → ℕ → List WhyLine
lines_with (Some start) (Some kind) control = lines.Entry (kind_of kind) start kind control ∷ []
lines_with (Some start) None control = []
lines_with None kind control = []

-- the same of a key
abbrev pub key_lines : Tree → List WhyLine
key_lines t = lines_with (find_dword (codes "Start") t) (find_dword (codes "Type") t) (control_in t)

-- the same of the key that the name has in a set
abbrev pub named_lines : Tree → List ℕ → List WhyLine
named_lines set name = option_map_or key_lines (key_named set name) []

-- the name as the set has it in the end, and its entry there; and what became of it
abbrev pub unplaced_lines : ViewedRun → List ℕ → List WhyLine
unplaced_lines r name =
    lines.Name (spelled r.run.set name) ∷ named_lines r.run.set name ++ lines.State (state_of r name) ∷ []

-- ---- a name that a plan has

-- its places in the order of the set that the phase read, and who pulls it
abbrev pub order_lines : Tree → PhaseView → ℕ → Entry → List WhyLine
order_lines set v p e = place_lines (order_of set v.phase) v.phase v.plan p e ++ pulled_lines (order_of set v.phase) v p e

-- from which moment on it was ready, where it was attempted in the phase, before which that many attempts were made
abbrev pub ready_lines : NeedsRun → ℕ → PhaseView → List ℕ → Entry → List WhyLine
ready_lines n from v name e =
    option_map_or (λ k. ready_line n.run from (ready_at n.run n.starts e) ∷ []) (attempt_upto n.run v.end name) []

-- an entry, and all that it leads to, with what each lacked; and the cycle that it waits for
abbrev pub items_lines : NeedsRun → ℕ → List WhyLine
items_lines n number = lack_lines n (items_of n number) ++ cycle_lines n (items_of n number)

-- the same where the entry was unmet
abbrev pub unmet_lines : NeedsRun → NameState → ℕ → List WhyLine
unmet_lines n states.Unmet number = items_lines n number
unmet_lines n state number = []

-- from its entry on: the places, the moment, what became of it, and what it lacked
abbrev pub told_lines : NeedsRun → List ℕ → ℕ × ℕ → BegunPhase → PhaseView → Entry → List WhyLine
told_lines n name place b v e =
    order_lines b.set v place.1 e
    ++ ready_lines n b.from v name e
    ++ lines.State (state_of n.run name)
    ∷ unmet_lines n (state_of n.run name) (number_of n.run.views place)

-- the name as the plan has it, its entry, and what is reported of it
abbrev pub placed_lines : NeedsRun → List ℕ → ℕ × ℕ → BegunPhase → PhaseView → Entry → List WhyLine
placed_lines n name place b v e = lines.Name e.name ∷ entry_line e ∷ told_lines n name place b v e

-- the same by its place: that of the phase, and that in its plan
abbrev pub lines_at : NeedsRun → List ℕ → ℕ × ℕ → List WhyLine
lines_at n name place =
    option_map_or (λ (b : BegunPhase).
    option_map_or (λ (v : PhaseView).
    option_map_or (placed_lines n name place b v) (slice_get v.plan place.1) (unplaced_lines n.run name))
    (slice_get n.run.views place.0) (unplaced_lines n.run name))
    (slice_get n.run.run.start.phases place.0) (unplaced_lines n.run name)

-- ---- the answer

-- by the last plan that has the name, if one has
abbrev pub name_lines : NeedsRun → List ℕ → List WhyLine
name_lines n name = option_map_or (lines_at n name) (placed_of n.run name) (unplaced_lines n.run name)

-- the start, the name, and the end
abbrev pub answer_of : NeedsRun → List ℕ → List WhyLine
answer_of n name = head_lines n.run.run.start ++ name_lines n name ++ lines.End ∷ []

-- a run with what its needs are looked up in
unfoldable pub prepared : QuietRun → NeedsRun
prepared run = needs_run_of (viewed_of run)

-- what is reported of a name in what a script leaves of its last start
unfoldable pub why_lines_of : QuietRun → List ℕ → List WhyLine
why_lines_of run name = answer_of (prepared run) name
