use Rattle.std.proofs.Common.{◌≡◌, ◌++◌, take}
use Rattle.std.specs.List.{filter_map}
use Rattle.why_answer.specs.why_pulled.Pulled.{puller_line}
use Rattle.why_answer.proofs.why_pulled.pulled.push_lines.Given as goal

abbrev pub invariant-loop-place : goal.invariant-loop-place
invariant-loop-place l = l.lines ≡ l.initial.lines ++ filter_map (puller_line l.view) (take l.place-index l.places)
