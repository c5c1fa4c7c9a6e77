-- Does the text of a start's graph tell all of it? (this project's own)
use Rattle.std.specs.Prelude.{ℕ, List, Option}
use Rattle.start_model.specs.Events.{Event}
use Rattle.start_model.specs.Possible.{Woken}
use Rattle.start_model.specs.Boot.{Choice}
use Rattle.why_laws.specs.why_laws.States.{view_from}
use Rattle.graph_rule.specs.Shown.{graph_of}
use Rattle.graph_laws.specs.dot_laws.Forms.{IsStartGraph}

-- kinds, states, phases and numbers of nodes agree, and an edge is of a group where it leads from one, as the laws of the text ask
abbrev pub GraphIsOfStart : Type 0
GraphIsOfStart =
    (choice : Option ℕ → Choice) (script : List Event) (placed : Woken) (of : Option (List ℕ))
    → IsStartGraph (graph_of (view_from choice script placed) of)
