-- In which order are the lines? (this project's own)
use Rattle.std.specs.Prelude.{Bool, List, [], ◌∷◌, Option, Some, None, if◌then◌else◌}
use Rattle.std.specs.Ordering.{nat_cmp, is_lt}
use Rattle.nt_bytes.specs.Folding.{folded_order}
use Rattle.service_list.specs.declared.kinds.SortBy.{SortBy}
use Rattle.service_list.specs.declared.kinds.SortBy.TheVariants.{Name, Written, Order}
use Rattle.service_list.specs.declared.entry.ServiceEntry.{ServiceEntry}

-- ---- a list in an order

-- put before the first one that isn't before it
abbrev pub put_by : {X : Type 0} → (X → X → Bool) → X → List X → List X
put_by before x [] = x ∷ []
put_by before x (y ∷ ys) = if before y x then y ∷ put_by before x ys else x ∷ y ∷ ys

-- each put in its place; those of which none is before the other stay as they were
abbrev pub sorted_by : {X : Type 0} → (X → X → Bool) → List X → List X
sorted_by before [] = []
sorted_by before (x ∷ xs) = put_by before x (sorted_by before xs)

-- ---- of entries

-- by folded name, unit by unit, a beginning before the whole
abbrev pub is_named_before : ServiceEntry → ServiceEntry → Bool
is_named_before a b = is_lt (folded_order a.name b.name)

-- the greatest stamp first
abbrev pub is_newer : ServiceEntry → ServiceEntry → Bool
is_newer a b = is_lt (nat_cmp b.written a.written)

-- in the order in which the quiet start tells of them, and then the others
abbrev pub is_earlier : ServiceEntry → ServiceEntry → Bool
is_earlier a b = is_lt (nat_cmp a.turn b.turn)

abbrev pub comes_before : SortBy → ServiceEntry → ServiceEntry → Bool
comes_before Name = is_named_before
comes_before Written = is_newer
comes_before Order = is_earlier

-- as they were where no order is asked for
abbrev pub arranged : Option SortBy → List ServiceEntry → List ServiceEntry
arranged None entries = entries
arranged (Some by) entries = sorted_by (comes_before by) entries
