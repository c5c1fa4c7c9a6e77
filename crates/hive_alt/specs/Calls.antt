-- Which calls of the disk are made where a copy is written, where two copies are changed and where one is repaired, and in
-- which order? (This project's own.)
use Rattle.std.specs.Prelude.{◌≡◌, ◌+◌, ◌/◌, ◌==◌, not, if◌then◌else◌, Bool, true, false, ℕ, List, [], ◌∷◌, ◌++◌, length, map, filter, Option, Some, None, Result, Ok, Err}
use Rattle.std.specs.List.{range_with_len}
use Rattle.nt_bytes.specs.declared.fault.HiveFault.{HiveFault}
use Rattle.hive_model.specs.Base.{Base, base_text}
use Rattle.hive_model.specs.Image.{Image, File, Primary, Log, Address, Write}
use Rattle.hive_model.specs.Log.{dirty}
use Rattle.hive_model.specs.Recovery.{Recovered, sector, base_in}
use Rattle.nt_edge.specs.Calls.{Made, Synced, Wrote, reads_of, writes_of}
use Rattle.hive_commit.specs.Calls.{closing_calls}
use Rattle.hive_commit.specs.Stages.{opened_of, closed_of}
use Rattle.hive_alt.specs.Copies.{unfinished_of}
use Rattle.hive_alt.specs.Twin.{copy_at, twin_of}

-- bins sector i of a copy gets that of these data
abbrev pub bin_write : File → List ℕ → ℕ → Write
bin_write file bins i = (copy_at file (8 + i), sector bins i)

-- those of the first n bins sectors of a copy whose bit is on, in rising order
abbrev pub copy_below : File → (ℕ → Bool) → List ℕ → ℕ → List Write
copy_below file bits bins n = map (bin_write file bins) (filter bits (range_with_len 0 n))

-- the bins sectors of a copy whose bit is on, in rising order
abbrev pub copy_writes : File → (ℕ → Bool) → List ℕ → List Write
copy_writes file bits bins = copy_below file bits bins (length bins / 512)

-- a copy's base block, and a sync
abbrev pub copy_block_calls : File → Base → List Made
copy_block_calls file base = Wrote (copy_at file 0, base_text base) ∷ Synced ∷ []

-- what closes a copy: the bins sectors whose bit is on, a sync, the base block, a sync
abbrev pub copy_closing_calls : File → Base → (ℕ → Bool) → List ℕ → List Made
copy_closing_calls file closed bits bins = writes_of (copy_writes file bits bins) ++ Synced ∷ copy_block_calls file closed

-- a copy is rewritten: the base block that opens it, a sync, and what closes it
abbrev pub rewrite_calls : File → Base → Base → (ℕ → Bool) → List ℕ → List Made
rewrite_calls file opened closed bits bins = copy_block_calls file opened ++ copy_closing_calls file closed bits bins

-- a change: the second copy is rewritten with the sectors that differ, and then the primary with the same ones
abbrev pub pair_calls : Base → List ℕ → List ℕ → ℕ → List Made
pair_calls base old new root =
    let closed = closed_of base new root in
    let bits = dirty old new in
    rewrite_calls Log (opened_of base) closed bits new ++ rewrite_calls Primary (opened_of base) closed bits new

-- a repair, with all bins sectors: where the second copy stands the primary is closed, else the second copy is rewritten
abbrev pub mend_calls : Bool → Base → List ℕ → List Made
mend_calls true base bins = copy_closing_calls Primary base (λ i. true) bins
mend_calls false base bins = rewrite_calls Log (unfinished_of base) base (λ i. true) bins

-- the calls of the repair of some image
pub record IsMending (calls : List Made) : Type 0 where
  pub second : Bool
  pub base : Base
  pub bins : List ℕ
  pub calls_are : calls ≡ mend_calls second base bins

-- the second copy stands: the primary's base block can't be read, or has two numbers
abbrev pub second_stands : Result (Option Base) HiveFault → Bool
second_stands (Ok None) = true
second_stands (Ok (Some base)) = not (base.first == base.second)
second_stands (Err fault) = false

-- what is found is repaired, where something is to be
abbrev pub mending_as : Image → Result Recovered HiveFault → List Made
mending_as image (Ok found) = if found.dirty then mend_calls (second_stands (base_in image)) found.base found.bins else []
mending_as image (Err fault) = []

-- a load of two copies: sectors are read, and then what is found is repaired
pub record IsPairLoad (image : Image) (calls : List Made) : Type 0 where
  pub sectors : List Address
  pub calls_are : calls ≡ reads_of sectors ++ mending_as image (twin_of image)

-- with a log: the calls that close the recovery of some image
pub record IsRestoring (calls : List Made) : Type 0 where
  pub closed : Base
  pub bits : ℕ → Bool
  pub bins : List ℕ
  pub calls_are : calls ≡ closing_calls closed bits bins
