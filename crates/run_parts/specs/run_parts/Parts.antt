-- What was done to a disk in a part of a run? (this project's own)
--
-- What happened beside the lines are the notes of the book. They tell what was done to the disk from outside: its wakes, the
-- stops that were ordered and the cuts of the script.
use Rattle.std.specs.Prelude.{◌≡◌, ◌≤◌, ◌==◌, not, true, ℕ, List, [], ◌∷◌, ◌++◌, map, None}
use Rattle.std.specs.List.{list_all}
use Rattle.hive_model.specs.Image.{Image}
use Rattle.nt_edge.specs.Disk.{DiskState, Wake, next}
use Rattle.start_model.specs.Summary.{Summary}
use Rattle.start_model.specs.Fits.{MayLoad}
use Rattle.start_model.specs.Orders.{ordered_in}
use Rattle.start_model.specs.Causes.{Tally, Caused}
use Rattle.start_model.specs.Act.{Act, Note, Cuts, RunState}
use Rattle.start_model.specs.Run.{play}

-- ---- the disk's counts

-- the counts at a wake
abbrev pub tally_at : Wake → Tally
tally_at w = record { cuts = w.cuts; faults = w.faults }

-- the counts at each of the wakes
abbrev pub tallies : List Wake → List Tally
tallies wakes = map tally_at wakes

-- the counts as they stand
abbrev pub tally_now : DiskState → Tally
tally_now s = record { cuts = s.cuts; faults = s.faults }

-- the counts at the last of the wakes, or else these
abbrev pub last_tally : List Tally → Tally → Tally
last_tally [] since = since
last_tally (w ∷ ws) since = last_tally ws w

-- the counts at the disk's last wake, none before the first
abbrev pub since_wake : DiskState → Tally
since_wake s = last_tally (tallies s.history.wakes) (record { cuts = 0; faults = 0 })

-- a later count is no smaller, and one that is at its end stays there
pub record NoLess (before after : ℕ) : Type 0 where
  pub grown : before ≤ after
  pub ended : before ≡ 18446744073709551615 → after ≡ 18446744073709551615

-- neither count fell between the two moments
pub record NoneFell (before after : Tally) : Type 0 where
  pub cuts : NoLess before.cuts after.cuts
  pub faults : NoLess before.faults after.faults

-- no count fell from then to the first of these wakes, from each wake to the next, and from the last one to now
abbrev pub Later : Tally → List Tally → Tally → Type 0
Later since [] now = NoneFell since now
Later since (w ∷ ws) now = NoneFell since w × Later w ws now

-- the counts are no smaller than at the disk's last wake
abbrev pub IsMarked : DiskState → Type 0
IsMarked s = Later (since_wake s) [] (tally_now s)

-- ---- what was done to the disk

-- the count of cuts that were called for, after those of the notes
abbrev pub cuts_behind : List Note → ℕ → ℕ
cuts_behind [] n = n
cuts_behind (Cuts ∷ notes) n = cuts_behind notes (next n)
cuts_behind (note ∷ notes) n = cuts_behind notes n

-- The disk's history grew by these wakes, and by the orders and cuts that the notes have; no file was placed or taken; and each
-- stop that the notes have has its cause.
pub record Grew (notes : List Note) (added : List Wake) (old new : DiskState) : Type 0 where
  pub wakes : new.history.wakes ≡ old.history.wakes ++ added
  pub armings : new.history.armings ≡ old.history.armings ++ ordered_in notes
  pub cut_calls : new.history.cut_calls ≡ cuts_behind notes old.history.cut_calls
  pub placings : new.history.placings ≡ old.history.placings
  pub takings : new.history.takings ≡ old.history.takings
  pub later : Later (tally_now old) (tallies added) (tally_now new)
  pub caused : Caused notes (tallies added) (since_wake old) (tally_now new)

-- ---- what was reported

-- what was printed so far, and what its lines came to
pub record Told : Type 0 where
  pub said : List ℕ
  pub summary : Summary

-- no line ends in the text
abbrev pub HasNoLineFeed : List ℕ → Type 0
HasNoLineFeed text = list_all (λ c. not (c == 10)) text ≡ true

-- whatever the disk may load as in a state in which nothing is open, it may after the first words of what follows too
abbrev pub Stays : (RunState → Act) → Type 0
Stays next = (m : RunState) (c : Image) → m.disk.other ≡ None → MayLoad m.disk c → MayLoad (play (next m) [] []).disk c
