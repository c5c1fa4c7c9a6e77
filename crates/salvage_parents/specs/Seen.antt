-- The search as the code has it.
use Rattle.salvage_walk.specs.Walked.{state_of}
use Rattle.salvage_parents.specs.declared.search.Searching.{Searching}
use Rattle.salvage_parents.specs.Search.{Search}

abbrev pub search_seen : Searching → Search
search_seen s = record { tree = s.draft; used = state_of s.walk; said = s.said; notes = s.notes }
