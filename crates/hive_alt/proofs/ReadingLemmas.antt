-- Reads, in sequence.
use Rattle.std.proofs.Common.{◌++◌, ◌∷◌, [], Bool, List, Result}
use Rattle.nt_edge.specs.Calls.{Made, ReadAt, Makes}
use Rattle.hive_model.specs.Image.{Address}
use Rattle.hive_log.specs.Asked.{AsksFirst}
use Rattle.hive_log.specs.declared.stops.LoadStop.{LoadStop}
use Rattle.hive_log.proofs.Asking.{reads_in_turn}
use Rattle.hive_alt.specs.Schemes.{OnlyReads}

pub reads_one : (a b : List Made → Type 0) (at : Address) → Makes a b (ReadAt at ∷ []) → OnlyReads a b
reads_one a b at made = record { sectors = at ∷ []; made = made; are = tt }

pub reads_then : {a b c : List Made → Type 0} → OnlyReads a b → OnlyReads b c → OnlyReads a c
reads_then {a = a} {b = b} {c = c} one two =
    record {
      sectors = one.sectors ++ two.sectors;
      made = reads_in_turn a b c one.sectors two.sectors one.made two.made;
      are = tt;
    }

-- a part of what recovery asks for
pub reads_part : {T : Type 0} {a b : List Made → Type 0} {tells : Bool} {part : List Address → List Address}
    {result : Result T LoadStop} → AsksFirst a b tells part result → OnlyReads a b
reads_part part = record { sectors = part.sectors; made = part.made; are = tt }
