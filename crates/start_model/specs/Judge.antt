-- What does a failed attempt lead to?
--
-- An entry's ErrorControl decides (Microsoft's documentation of service entries: ignore, normal,
-- severe, critical). That a severe failure on LastKnownGood goes on and a critical one ends the start is
-- Windows Internals, 4th edition, startup; that a start without a usable LastKnownGood is judged as one
-- that is on it is this project's own.
use Rattle.std.specs.Prelude.{ℕ, Bool, ◌&&◌, not, ◌==◌, if◌then◌else◌}

-- what a failed attempt leads to: the start goes on and nobody is notified, or the failure is logged; or it ends and the
-- next one takes LastKnownGood, or it just ends
pub data Judgement : Type 0 where
  -- the start goes on, and nobody is notified
  Ignore : Judgement
  -- the start goes on, and the failure is logged
  Log : Judgement
  -- the start ends, and the next one takes LastKnownGood
  FallBack : Judgement
  -- the start ends
  Stop : Judgement

-- falling back helps where the start is not on LastKnownGood, and that names a set of the live tree
abbrev pub can_fall_back : Bool → Bool → Bool
can_fall_back on_good usable = not on_good && usable

-- 0 is ignore, 2 severe and 3 critical; 1 is normal, and each greater number is taken for it
abbrev pub judgement_of : ℕ → Bool → Bool → Judgement
judgement_of control on_good usable =
    if control == 0
    then Ignore
    else (if control == 2 then (if can_fall_back on_good usable then FallBack else Log)
    else (if control == 3 then (if can_fall_back on_good usable then FallBack else Stop) else Log))
