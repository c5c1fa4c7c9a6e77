use Rattle.std.proofs.Common.{◌+◌, length, ap, ◌∙◌}
use Rattle.std.specs.Int.{w32, from_le_bytes}
use Rattle.hive_model.specs.Size.{bulk_of}
use Rattle.hive_model.specs.Tree.{Tree}
use Rattle.hive_edit.specs.Edits.{value_fields}
use Rattle.hive_edit.proofs.InsideLemmas.{value_written}
use Rattle.hive_edit.proofs.SetLemmas.{inside_long}
use Rattle.hive_edit.proofs.ToldLemmas.{value_told}
use Rattle.hive_edit.proofs.hive.HiveBytes.set_inside.Goals as goal

pub returns-clause-stepped : goal.returns-clause-stepped
returns-clause-stepped c =
    value_told c.args.self.now c.write_inside.new.self c.tell.new.self c.args.path.now c.args.name.now c.args.kind
    c.args.bytes.now 0 c.stands.ensures c.write_inside.ensures.stepped
    (inside_long c.args.self.now c.args.path.now c.args.name.now c.args.at c.requires.there) c.tell.ensures.told

pub returns-clause-bulk : goal.returns-clause-bulk
returns-clause-bulk c =
    ap (λ (t : Tree). bulk_of c.args.self.now.version t) c.tell.ensures.told.tree ∙ c.write_inside.ensures.bulk

pub returns-clause-written : goal.returns-clause-written
returns-clause-written c =
    value_written c.args.self.now c.write_inside.new.self c.tell.new.self c.args.path.now c.args.at
    (value_fields (2147483648 + length c.args.bytes.now) (from_le_bytes w32 c.args.bytes.now) c.args.kind)
    (length c.args.bytes.now) c.write_inside.ensures.written c.write_inside.ensures.stepped.version
    c.write_inside.ensures.stepped.root c.tell.ensures.told
