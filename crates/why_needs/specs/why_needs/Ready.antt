-- From which moment on was an entry ready that was attempted? (this project's own)
use Rattle.std.specs.Prelude.{ℕ, nat_lt, max, List, [], ◌∷◌, slice_get, Option, None, Some, if◌then◌else◌}
use Rattle.std.specs.Option.{option_map_or}
use Rattle.start_model.specs.Entries.{Entry}
use Rattle.quiet_run.specs.declared.last.Attempt.{Attempt}
use Rattle.answer_lines.specs.declared.why_lines.lines.WhyLine.{WhyLine}
use Rattle.answer_lines.specs.declared.why_lines.lines.WhyLine.TheVariants as lines
use Rattle.why_needs.specs.declared.why_state.views.ViewedRun.{ViewedRun}
use Rattle.why_needs.specs.declared.why_needs.met.GroupStarts.{GroupStarts}
use Rattle.why_needs.specs.why_needs.Met.{service_met, group_met}

-- the later of two attempts
abbrev pub later : Option ℕ → Option ℕ → Option ℕ
later None b = b
later (Some a) None = Some a
later (Some a) (Some b) = Some (max a b)

-- the latest attempt at which one of these needs was met, or the one so far
abbrev pub latest : (List ℕ → Option ℕ) → Option ℕ → List (List ℕ) → Option ℕ
latest met so_far [] = so_far
latest met so_far (name ∷ names) = latest met (later so_far (met name)) names

-- the attempt at which the last of an entry's needs was met
abbrev pub ready_at : ViewedRun → GroupStarts → Entry → Option ℕ
ready_at r g e = latest (group_met g) (latest (service_met r) None e.services) e.groups

-- the line of an attempt at which the last need was met, in a phase before which that many were made
abbrev pub ready_line : ViewedRun → ℕ → Option ℕ → WhyLine
ready_line r from None = lines.ReadyAtOnce
ready_line r from (Some k) =
    if nat_lt k from then lines.ReadyAtOnce
    else option_map_or (λ (a : Attempt). lines.ReadyAfter a.name) (slice_get r.run.start.attempts k) lines.ReadyAtOnce
