-- What does a line say of a driver or service? (values of a service's key: Microsoft's documentation of service entries; the rest is this project's own)
use Rattle.std.specs.Prelude.{List, map, codes}
use Rattle.hive_model.specs.Tree.{Tree, head}
use Rattle.service_list.specs.declared.entry.NumberFields.{NumberFields}
use Rattle.service_list.specs.declared.entry.TextFields.{TextFields}
use Rattle.service_list.specs.declared.entry.ServiceEntry.{ServiceEntry}
use Rattle.service_list.specs.declared.kinds.Selection.{Selection}
use Rattle.service_list.specs.declared.turns.Turn.{Turn}
use Rattle.service_list.specs.Fields.{number_field, text_field, dll_field}
use Rattle.service_list.specs.Kinds.{kind_of, chosen_of}
use Rattle.service_list.specs.Marks.{marks_of}
use Rattle.service_list.specs.Overrides.{overrides_of}
use Rattle.service_list.specs.Turns.{turn_at, place_at}

abbrev pub number_fields : Tree → NumberFields
number_fields t = record {
  start = number_field (codes "Start") t;
  service_type = number_field (codes "Type") t;
  control = number_field (codes "ErrorControl") t;
  tag = number_field (codes "Tag") t;
}

abbrev pub text_fields : Tree → TextFields
text_fields t = record {
  group = text_field (codes "Group") t;
  account = text_field (codes "ObjectName") t;
  image = text_field (codes "ImagePath") t;
  dll = dll_field t;
  own = text_field (codes "ServiceDll") t;
}

-- what is said of a key, by the turns of its set's quiet start
abbrev pub entry_of : List Turn → Tree → ServiceEntry
entry_of turns t = record {
  kind = kind_of t;
  name = (head t).name;
  numbers = number_fields t;
  texts = text_fields t;
  turn = turn_at turns (head t).name;
  place = place_at turns (turn_at turns (head t).name);
  written = (head t).stamp;
  overrides = overrides_of t;
  marks = marks_of (kind_of t) t;
}

-- of those of these keys that are chosen, in their order
abbrev pub entries_of : List Turn → Selection → List Tree → List ServiceEntry
entries_of turns s keys = map (entry_of turns) (chosen_of s keys)
