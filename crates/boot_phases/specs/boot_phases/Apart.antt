-- When is each entry taken once?
use Rattle.std.specs.Prelude.{◌≡◌, List, nat_eq, false}
use Rattle.std.specs.List.{AllPairs}
use Rattle.start_model.specs.Order.{Rank}

-- no two of the ranks are of one place
abbrev pub StandApart : List Rank → Type 0
StandApart ranks = AllPairs (λ (a b : Rank). nat_eq a.place b.place ≡ false) ranks
