-- How many entries are there of each kind and of each Start? (Starts: Microsoft's documentation of service entries)
use Rattle.std.specs.Prelude.{ℕ, Bool, true, false, ◌==◌, nat_lt, List, length, count_by}
use Rattle.service_list.specs.declared.counts.Counts.{Counts}
use Rattle.service_list.specs.declared.entry.ServiceEntry.{ServiceEntry}
use Rattle.service_list.specs.declared.field.Field.{Field}
use Rattle.service_list.specs.declared.field.Field.TheVariants as fields
use Rattle.service_list.specs.Kinds.{is_driver_kind, is_service_kind, is_other_kind}

-- ---- kinds

abbrev pub is_driver : ServiceEntry → Bool
is_driver e = is_driver_kind e.kind

abbrev pub is_service : ServiceEntry → Bool
is_service e = is_service_kind e.kind

abbrev pub is_other : ServiceEntry → Bool
is_other e = is_other_kind e.kind

-- ---- Starts

-- the field is this number
abbrev pub is_number : ℕ → Field → Bool
is_number n fields.Missing = false
is_number n (fields.Number m) = m == n
is_number n (fields.Text text) = false
is_number n (fields.Other kind form) = false

-- a number above 4
abbrev pub is_beyond : Field → Bool
is_beyond fields.Missing = false
is_beyond (fields.Number m) = nat_lt 4 m
is_beyond (fields.Text text) = false
is_beyond (fields.Other kind form) = false

-- no number
abbrev pub is_none : Field → Bool
is_none fields.Missing = true
is_none (fields.Number m) = false
is_none (fields.Text text) = true
is_none (fields.Other kind form) = true

abbrev pub starts_as : ℕ → ServiceEntry → Bool
starts_as n e = is_number n e.numbers.start

abbrev pub has_beyond : ServiceEntry → Bool
has_beyond e = is_beyond e.numbers.start

abbrev pub has_none : ServiceEntry → Bool
has_none e = is_none e.numbers.start

-- ---- all

-- the counts of these entries, which are of that many listed keys
unfoldable pub counts_of : ℕ → List ServiceEntry → Counts
counts_of of entries = record {
  count = length entries;
  of = of;
  driver = count_by is_driver entries;
  service = count_by is_service entries;
  other = count_by is_other entries;
  boot = count_by (starts_as 0) entries;
  system = count_by (starts_as 1) entries;
  automatic = count_by (starts_as 2) entries;
  demand = count_by (starts_as 3) entries;
  disabled = count_by (starts_as 4) entries;
  beyond = count_by has_beyond entries;
  none = count_by has_none entries;
}
