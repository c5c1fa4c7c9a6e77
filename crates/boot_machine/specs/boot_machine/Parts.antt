-- Which entry do a need and the rest of an entry make? (this project's own)
use Rattle.std.specs.Prelude.{List, map}
use Rattle.std.specs.List.{zip}
use Rattle.start_model.specs.Demand.{Need}
use Rattle.start_model.specs.Entries.{Entry}
use Rattle.boot_machine.specs.declared.boot_machine.parts.Rest.{Rest}

-- what an entry has beside its need: Type, ErrorControl and Tag
abbrev pub rest_of : Entry → Rest
rest_of e = record { kind = e.kind; control = e.control; tag = e.tag }

-- the entry of a need and a rest
abbrev pub joined : Need → Rest → Entry
joined n r = record {
  name = n.name;
  start = n.start;
  kind = r.kind;
  control = r.control;
  group = n.group;
  tag = r.tag;
  services = n.services;
  groups = n.groups;
}

-- the entries of needs and rests, place by place
abbrev pub all_joined : List Need → List Rest → List Entry
all_joined needs rests = map (λ p. joined p.0 p.1) (zip needs rests)
