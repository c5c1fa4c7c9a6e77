use Rattle.std.proofs.Common.{◌≡◌, ◌++◌, List, ℕ, length, sym, ap, ◌∙◌, arith}
use Rattle.hive_model.specs.Tree.{Item, Tree, trees, listed, head, children}
use Rattle.hive_model.specs.Size.{security_size, items_size}
use Rattle.hive_model.specs.KeyNode.{key_node_text}
use Rattle.hive_model.specs.Packed.{descriptor_place, cell_text, text, node_of, class_cells, security_cells, sharers_of_all, items_cells}
use Rattle.hive_pack.specs.Writes.{above}
use Rattle.reg_tree.proofs.Outcomes.{on_ok}
use Rattle.reg_tree.proofs.Trees.{listed_trees}
use Rattle.hive_pack.proofs.Written.{size_parted, class_at, values_at, head_written}
use Rattle.hive_pack.proofs.Counts.{few_of_all}
use Rattle.hive_pack.proofs.write.write_head.Goals as goal
use Rattle.hive_pack.proofs.write.write_head.Goals.{In_ok-write_node, In_ok-write_class, In_ok-write_security}

-- the node was written, then the class
node_is : (c : In_ok-write_node) → let old = c.args.out.now in let t = c.args.key.now in
    c.write_node.new.out ≡ old ++ cell_text (key_node_text
    (node_of c.args.version (above c.args.up) (length old) (head t) (listed (trees (children t)))))
node_is c =
    let old = c.args.out.now in
    c.in_ok-write_node.ensures
    ∙ ap (λ (ks : List Tree). old ++ cell_text (key_node_text (node_of c.args.version (above c.args.up) (length old)
    (head c.args.key.now) ks))) (sym (listed_trees (children c.args.key.now)))

class_is : (c : In_ok-write_class)
    → c.write_class.new.out ≡ c.write_node.new.out ++ text (class_cells (head c.args.key.now).class)
class_is c = c.in_ok-write_class.ensures ∙ ap (λ (b : List ℕ). c.write_node.new.out ++ text (class_cells b))
    c.class.ensures

-- the descriptor is next
security_next : (c : In_ok-write_class)
    → length c.write_class.new.out ≡ descriptor_place (length c.args.out.now) (head c.args.key.now)
security_next c =
    class_at c.args.version (above c.args.up) (head c.args.key.now) (trees (children c.args.key.now)) c.args.out.now
    c.write_node.new.out c.write_class.new.out (node_is (goal.at.In_ok-write_class c).In_ok-write_node) (class_is c)

-- the security cell was written, if the key has its own
security_is : (c : In_ok-write_security) → let two = c.write_class.new.out in let t = c.args.key.now in
    c.write_security.new.out ≡ two ++ text (security_cells (above c.args.up) (length two) (head t).security
    (sharers_of_all (head t).security (trees (children t))))
security_is c =
    c.in_ok-write_security.ensures
    ∙ (λ j. c.write_class.new.out ++ text (security_cells (above c.args.up) (length c.write_class.new.out)
    (c.security.ensures j) (sharers_of_all (c.security.ensures j) (trees (c.subkeys.ensures j)))))

pub write_security-requires-clause-room : goal.write_security-requires-clause-room
write_security-requires-clause-room c =
    let up = above c.args.up in
    omega (
      arith,
      security_next (goal.at.write_security-requires-clause-room c).In_ok-write_class,
      ap (λ (s : List ℕ). security_size up.security s) c.security.ensures,
      size_parted c.args.version up.security c.args.key.now,
      c.requires.room,
    )

pub write_security-requires-clause-few : goal.write_security-requires-clause-few
write_security-requires-clause-few c =
    let t = c.args.key.now in
    let same : sharers_of_all c.security.result.now (trees c.subkeys.result.now)
    ≡ sharers_of_all (head t).security (trees (children t)) =
    λ j. sharers_of_all (c.security.ensures j) (trees (c.subkeys.ensures j)) in
    omega (
      arith,
      same,
      few_of_all c.args.version (head t).security (head t).security (trees (children t)),
      size_parted c.args.version c.args.up.security.now t,
      c.requires.room,
    )

pub write_values-requires-clause-room : goal.write_values-requires-clause-room
write_values-requires-clause-room c =
    let t = c.args.key.now in
    let up = above c.args.up in
    let two = c.write_class.new.out in
    let own = security_next (goal.at.write_values-requires-clause-room c).In_ok-write_class in
    let three =
    security_is (goal.at.write_values-requires-clause-room c).In_ok-write_security
    ∙ ap (λ n. two ++ text (security_cells up n (head t).security (sharers_of_all (head t).security (trees (children t)))))
    own in
    omega (
      arith,
      values_at up (head t) (trees (children t)) c.args.out.now two c.write_security.new.out own three,
      ap (λ (vs : List Item). items_size c.args.version vs) c.items.ensures,
      size_parted c.args.version up.security t,
      c.requires.room,
    )

pub returns : goal.returns
returns c =
    let three = c.write_security.new.out in
    on_ok c.write_values.result _ _
    (λ e. head_written c.args.version (above c.args.up) (head c.args.key.now) (trees (children c.args.key.now))
    c.args.out.now c.write_node.new.out c.write_class.new.out three c.write_values.new.out
    (node_is (goal.at.returns c).In_ok-write_node) (class_is (goal.at.returns c).In_ok-write_class)
    (security_is (goal.at.returns c).In_ok-write_security)
    (e ∙ ap (λ (vs : List Item). three ++ text (items_cells c.args.version (length three) vs)) c.items.ensures))
    c.write_values.ensures
