use Rattle.std.proofs.Common.{◌*◌, length, List, ap, arith}
use Rattle.hive_model.specs.Tree.{Item, Tree, head}
use Rattle.hive_model.specs.Packed.{greatest}
use Rattle.hive_pack.proofs.Written.{holds_parted}
use Rattle.hive_pack.proofs.Counts.{short_names, short_classes, short_value_names, short_data}
use Rattle.hive_model.specs.Tree.{children}
use Rattle.hive_pack.proofs.forms.node_form.Goals as goal

pub greatest_child_name-requires : goal.greatest_child_name-requires
greatest_child_name-requires c =
    omega (
      arith,
      short_names (children c.args.key.now) (holds_parted c.args.key.now c.requires.valid).1,
      ap (λ (ks : List Tree). greatest (λ (k : Tree). 2 * length (head k).name) ks) c.subkeys-keys.ensures,
    )

pub greatest_child_class-requires : goal.greatest_child_class-requires
greatest_child_class-requires c =
    omega (
      arith,
      short_classes (children c.args.key.now) (holds_parted c.args.key.now c.requires.valid).1,
      ap (λ (ks : List Tree). greatest (λ (k : Tree). length (head k).class) ks) c.subkeys-keys.ensures,
    )

pub greatest_value_name-requires : goal.greatest_value_name-requires
greatest_value_name-requires c =
    omega (
      arith,
      short_value_names (head c.args.key.now).values (holds_parted c.args.key.now c.requires.valid).0.items,
      ap (λ (vs : List Item). greatest (λ (v : Item). 2 * length v.name) vs) c.items-values.ensures,
    )

pub greatest_value_size-requires : goal.greatest_value_size-requires
greatest_value_size-requires c =
    omega (
      arith,
      short_data (head c.args.key.now).values (holds_parted c.args.key.now c.requires.valid).0.items,
      ap (λ (vs : List Item). greatest (λ (v : Item). length v.bytes) vs) c.items-values.ensures,
    )
