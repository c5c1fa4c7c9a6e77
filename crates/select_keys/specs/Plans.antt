-- Is a call's answer the plan of the book, or its reason for having none? And which numbers are given up?
use Rattle.std.specs.Prelude.{◌≡◌, ℕ, Bool, ◌&&◌, not, Result, Ok, Err, IsOk}
use Rattle.start_model.specs.Sets.{SelectNumbers, SetPlan, SetStop, NoControlSet, NoLastKnownGood, NoFreeNumber, has_number, four_of}
use Rattle.select_keys.specs.declared.stop.SelectStop.{SelectStop}
use Rattle.select_keys.specs.declared.stop.SelectStop.TheVariants as stops

-- there is no plan for this reason; or there is one, and memory ran out
abbrev pub IsStopped : Result SetPlan SetStop → SelectStop → Type 0
IsStopped plan stops.NoControlSet = plan ≡ Err NoControlSet
IsStopped plan stops.NoLastKnownGood = plan ≡ Err NoLastKnownGood
IsStopped plan stops.NoFreeNumber = plan ≡ Err NoFreeNumber
IsStopped plan stops.Memory = IsOk plan

-- the call made this plan, or it was stopped as it says
abbrev pub Plans : Result SetPlan SelectStop → Result SetPlan SetStop → Type 0
Plans (Ok made) plan = plan ≡ Ok made
Plans (Err stop) plan = IsStopped plan stop

-- one of the old numbers is this one, and none of the new ones
abbrev pub gives_up : SelectNumbers → SelectNumbers → ℕ → Bool
gives_up old new n = has_number (four_of old) n && not (has_number (four_of new) n)
