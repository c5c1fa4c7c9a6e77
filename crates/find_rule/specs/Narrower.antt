-- What is looked for in less, or exactly? (this project's own)
use Rattle.std.specs.Prelude.{Bool, true, false}
use Rattle.find_rule.specs.declared.wanted.Wanted.{Wanted}
use Rattle.find_rule.specs.Hits.{Hit, KeyName, ValueName, Data}

-- the place is a name, of a key or of a value
abbrev pub is_name : Hit → Bool
is_name (KeyName path name) = true
is_name (ValueName path name) = true
is_name (Data path v) = false

-- the same, in names alone, and in data alone
abbrev pub in_names_alone : Wanted → Wanted
in_names_alone w = record w { names = true; strings = false }

abbrev pub in_data_alone : Wanted → Wanted
in_data_alone w = record w { names = false; strings = true }

-- the same exactly, and with more before and after
abbrev pub exactly : Wanted → Wanted
exactly w = record w { exact = true }

abbrev pub loosely : Wanted → Wanted
loosely w = record w { exact = false }
