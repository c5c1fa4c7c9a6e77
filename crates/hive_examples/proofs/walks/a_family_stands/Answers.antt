use Rattle.std.proofs.Common.{refl, [], ◌∷◌, codes}
use Rattle.hive_model.specs.Stands.{class_of, security_of, values_of}
use Rattle.hive_model.specs.Walk.{nowhere}
use Rattle.hive_model.specs.Forms.{bytes_in}
use Rattle.hive_model.specs.StoredNames.{key_name_at, value_name_at}
use Rattle.hive_model.specs.KeyNode.{key_node_at, key_node_text}
use Rattle.hive_model.specs.KeyValue.{key_value_at, key_value_text}
use Rattle.hive_model.specs.Security.{security_at, security_text}
use Rattle.hive_model.specs.Lists.{list_of, list_at, li_text, lf_text, ri_text, offsets_in}
use Rattle.hive_model.specs.Packed.{filled}
use Rattle.hive_model.specs.Walk.{node_at, leaf_at, entries_at, class_checks, security_checks, data_checks, value_checks, values_checks, entries_checks, children_checks, key_checks, all_checks}
use Rattle.hive_examples.specs.SmallCells.{family, plain_node}
use Rattle.hive_examples.proofs.walks.a_family_stands.Goals as goal

pub returns-clause-sound : goal.returns-clause-sound
unfolding key_name_at value_name_at key_node_at key_node_text key_value_at key_value_text bytes_in security_at
    security_text list_of list_at li_text lf_text ri_text offsets_in filled node_at leaf_at entries_at class_checks
    security_checks data_checks value_checks values_checks entries_checks children_checks key_checks all_checks family
returns-clause-sound c = λ version. refl

pub returns-clause-tree : goal.returns-clause-tree
unfolding key_name_at key_node_at key_node_text list_of list_at lf_text filled entries_at class_of security_of values_of
    family
returns-clause-tree c = λ version. (
  144 ∷ 232 ∷ [],
  record {
    node = plain_node 32 (codes "R") 2 120;
    read = refl;
    name = refl;
    flags = refl;
    stamp = refl;
    class = refl;
    security = refl;
    values = refl;
    children = (refl, refl);
  },
  (
    144,
    232 ∷ [],
    refl,
    (
      [],
      record {
        node = plain_node 32 (codes "A") 0 nowhere;
        read = refl;
        name = refl;
        flags = refl;
        stamp = refl;
        class = refl;
        security = refl;
        values = refl;
        children = refl;
      },
      refl,
    ),
    (
      232,
      [],
      refl,
      (
        [],
        record {
          node = plain_node 32 (codes "B") 0 nowhere;
          read = refl;
          name = refl;
          flags = refl;
          stamp = refl;
          class = refl;
          security = refl;
          values = refl;
          children = refl;
        },
        refl,
      ),
      refl,
    ),
  ),
)
