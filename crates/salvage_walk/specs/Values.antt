-- A value with its data (forms: regf format 1.3 and 1.5, key value, big data; the order of checks is this project's own).
use Rattle.std.specs.Prelude.{ℕ, ◌-◌, false, if◌then◌else◌, List, [], ◌∷◌, ◌++◌, Option, Some, None, Result, Ok}
use Rattle.nt_bytes.specs.declared.fault.HiveFault.{HiveFault}
use Rattle.nt_bytes.specs.Reading.{◌>>=◌}
use Rattle.hive_model.specs.Forms.{bytes_in}
use Rattle.hive_model.specs.Bins.{with_place}
use Rattle.hive_model.specs.KeyValue.{KeyValue, data_inside}
use Rattle.hive_model.specs.Lists.{offsets_in}
use Rattle.hive_model.specs.Size.{segment_bytes, is_big, segment_part}
use Rattle.hive_model.specs.Tree.{Item}
use Rattle.hive_model.specs.Walk.{big_data_of}
use Rattle.salvage_bins.specs.Ground.{Ground}
use Rattle.salvage_walk.specs.declared.claims.Claim.{Claim}
use Rattle.salvage_walk.specs.Parts.{part, value_form, value_long, bytes_long, big_long, offsets_long}

-- the first n bytes of the cell at an offset
unfoldable pub bytes_part : ℕ → Ground → List Claim → ℕ → Result (List ℕ × List Claim) HiveFault
bytes_part n hive claims at = with_place at (part (bytes_in n) bytes_long false hive claims at)

-- these bytes, then those of the segments at these offsets, in which n bytes are left
unfoldable pub segments_part : Ground → List ℕ → ℕ → List ℕ → List Claim → Result (List ℕ × List Claim) HiveFault
segments_part hive bytes n [] claims = Ok (bytes, claims)
segments_part hive bytes n (at ∷ more) claims =
    bytes_part (segment_part n) hive claims at >>= λ s. segments_part hive (bytes ++ s.0) (n - segment_bytes) more s.1

-- big data of n bytes, whose cell `db` is at an offset
unfoldable pub big_part : ℕ → Ground → List Claim → ℕ → Result (List ℕ × List Claim) HiveFault
big_part n hive claims at =
    with_place at (part (big_data_of n) big_long false hive claims at) >>= λ big.
    with_place big.0.list (part (offsets_in big.0.segments) offsets_long false hive big.1 big.0.list) >>= λ list.
    segments_part hive [] n list.0 list.1

-- n bytes of data, in a cell or big
unfoldable pub celled_part : ℕ → Ground → List Claim → ℕ → Result (List ℕ × List Claim) HiveFault
celled_part n hive claims at =
    if is_big hive.cells.version n then big_part n hive claims at else bytes_part n hive claims at

-- data that the value holds, or else those of cells
abbrev pub data_where : Option (List ℕ) → List Claim → Result (List ℕ × List Claim) HiveFault → Result (List ℕ × List Claim) HiveFault
data_where (Some bytes) claims other = Ok (bytes, claims)
data_where None claims other = other

-- a value's data
unfoldable pub data_part : KeyValue → Ground → List Claim → Result (List ℕ × List Claim) HiveFault
data_part value hive claims = data_where (data_inside value) claims (celled_part value.size hive claims value.offset)

-- a value with these data
abbrev pub item_of : KeyValue → List ℕ → Item
item_of value bytes = record { name = value.name; kind = value.kind; bytes = bytes }

-- the value at an offset, beside values of these names, and the uses with its own; or the first check of it or of its data that fails
unfoldable pub value_part : List (List ℕ) → Ground → List Claim → ℕ → Result (Item × List Claim) HiveFault
value_part names hive claims at =
    with_place at (part (value_form names) value_long false hive claims at) >>= λ value.
    data_part value.0 hive value.1 >>= λ bytes.
    Ok (item_of value.0 bytes.0, bytes.1)
