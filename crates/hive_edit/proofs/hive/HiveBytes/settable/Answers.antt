use Rattle.std.proofs.Common.{◌≡◌, ◌∙◌}
use Rattle.hive_model.specs.Footprint.{key_place}
use Rattle.hive_edit.specs.Hive.{cells_in}
use Rattle.hive_look.proofs.ResultLemmas.{some}
use Rattle.hive_edit.proofs.NewValueLemmas.{sets_nowhere, sets_long_name, sets_long_data, key_seen, stands_at, value_seen_in}
use Rattle.hive_edit.proofs.hive.HiveBytes.settable.Goals as goal
use Rattle.hive_edit.proofs.hive.HiveBytes.settable.Goals.{In-Some}

key : (c : In-Some) → let h = c.args.self.now in key_place (cells_in h) c.args.path.now h.root ≡ some c.in-Some.key
key c =
    let i = c.self.inside in
    key_seen i.cells c.cells.result.now i.root i.version c.args.self.now c.args.path.now c.in-Some.key c.cells.ensures
    c.self.view_is c.in-Some.ensures.place

pub returns-in-None-clause-refused : goal.returns-in-None-clause-refused
returns-in-None-clause-refused c = λ kind.
    let i = c.self.inside in
    sets_nowhere i.cells c.cells.result.now i.root i.version i.bulk c.args.self.now c.args.path.now c.args.name.now kind
    c.args.bytes.now c.self.invariant c.cells.ensures c.self.view_is c.in-None.ensures.place

pub returns-then-name-gt-LONGEST_VALUE_NAME-clause-refused : goal.returns-then-name-gt-LONGEST_VALUE_NAME-clause-refused
returns-then-name-gt-LONGEST_VALUE_NAME-clause-refused c = λ kind.
    let i = c.self.inside in
    sets_long_name i.cells i.root i.version i.bulk c.args.self.now c.args.path.now c.args.name.now c.in-Some.key kind
    c.args.bytes.now c.self.invariant c.self.view_is
    (key (goal.at.returns-then-name-gt-LONGEST_VALUE_NAME-clause-refused c).In-Some)
    c.if-name-gt-LONGEST_VALUE_NAME.true

pub returns-then-bytes-gt-LONGEST_DATA-clause-refused : goal.returns-then-bytes-gt-LONGEST_DATA-clause-refused
returns-then-bytes-gt-LONGEST_DATA-clause-refused c = λ kind.
    let i = c.self.inside in
    sets_long_data i.cells i.root i.version i.bulk c.args.self.now c.args.path.now c.args.name.now c.in-Some.key kind
    c.args.bytes.now c.self.invariant c.self.view_is
    (key (goal.at.returns-then-bytes-gt-LONGEST_DATA-clause-refused c).In-Some)
    c.if-name-gt-LONGEST_VALUE_NAME.false c.if-bytes-gt-LONGEST_DATA.true

pub value_at-value-requires : goal.value_at-value-requires
value_at-value-requires c =
    let i = c.self.inside in
    stands_at i.cells c.cells.result.now i.root i.version i.bulk c.args.self.now c.args.path.now c.in-Some.key
    c.self.invariant c.cells.ensures c.self.view_is
    (key (goal.at.value_at-value-requires c).In-Some)

pub returns-else-bytes-gt-LONGEST_DATA-clause-may : goal.returns-else-bytes-gt-LONGEST_DATA-clause-may
returns-else-bytes-gt-LONGEST_DATA-clause-may c =
    let i = c.self.inside in
    record {
      key = key (goal.at.returns-else-bytes-gt-LONGEST_DATA-clause-may c).In-Some;
      there = c.value_at-value.ensures.place
          ∙ value_seen_in i.cells c.cells.result.now i.root i.version c.args.self.now c.args.name.now c.in-Some.key
          c.cells.ensures c.self.view_is;
      short = c.if-name-gt-LONGEST_VALUE_NAME.false;
      few = c.if-bytes-gt-LONGEST_DATA.false;
    }
