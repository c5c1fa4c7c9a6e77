use Rattle.std.proofs.Common.{◌≡◌, ◌+◌, ◌++◌, List, ℕ, length, ap, ◌∙◌, arith}
use Rattle.hive_model.specs.Tree.{Item, Tree, trees, head, children}
use Rattle.hive_model.specs.Codes.{weights}
use Rattle.hive_model.specs.Size.{class_size, security_size, items_size, list_size, size, size_of_all}
use Rattle.hive_model.specs.Packed.{own_place, children_place, ring_of_all}
use Rattle.reg_tree.proofs.Outcomes.{on_ok}
use Rattle.hive_pack.proofs.Written.{size_parted, weight_parted, ring_written}
use Rattle.hive_pack.proofs.ring.+ring.Goals as goal
use Rattle.hive_pack.proofs.ring.+ring.Goals.{ring_of-After-list_len, ring_of-After-subkeys-2}
use Rattle.std.proofs.lemmas.Result.{IfOk-weaker}

-- the children's cells follow the key's own and its lists
first_is : (m : ℕ) (c : ring_of-After-list_len m) → let t = c.args.key.now in
    c.args.at + c.node_len.result + c.class_len.result + c.security_len.result + c.values_len.result + c.list_len.result
    ≡ children_place c.args.version c.args.shared.now c.args.at (head t) (length (children t))
first_is m c =
    omega (
      arith,
      c.node_len.ensures,
      c.class_len.ensures ∙ ap class_size c.class.ensures,
      c.security_len.ensures ∙ ap (λ (s : List ℕ). security_size c.args.shared.now s) c.security-security.ensures,
      c.values_len.ensures ∙ ap (λ (vs : List Item). items_size c.args.version vs) c.items.ensures,
      c.list_len.ensures ∙ ap (λ (ks : List Tree). list_size (length ks)) c.subkeys.ensures,
    )

-- the tree ends where its children do
end_is : (m : ℕ) (c : ring_of-After-subkeys-2 m)
    → c.args.at + c.node_len.result + c.class_len.result + c.security_len.result + c.values_len.result + c.list_len.result
    + size_of_all c.args.version c.security-security.result.now (trees c.subkeys-2.result.now)
    ≡ c.args.at + size c.args.version c.args.shared.now c.args.key.now
end_is m c =
    omega (
      arith,
      first_is m (goal.at.ring_of-After-subkeys-2 m c).After-list_len,
      size_parted c.args.version c.args.shared.now c.args.key.now,
      ap (λ (s : List ℕ). size_of_all c.args.version s (trees c.subkeys-2.result.now)) c.security-security.ensures
          ∙ ap (λ (ks : List Tree). size_of_all c.args.version (head c.args.key.now).security (trees ks))
          c.subkeys-2.ensures,
    )

pub ring_of-ring_of_all-requires : goal.ring_of-ring_of_all-requires
ring_of-ring_of_all-requires m c = (
  omega (arith, weight_parted c.args.key.now, ap weights c.subkeys-2.ensures),
  omega (arith, c.requires, end_is m (goal.at.ring_of-ring_of_all-requires m c).After-subkeys-2),
)

pub ring_of-returns-clause-listed : goal.ring_of-returns-clause-listed
ring_of-returns-clause-listed m c =
    let shared = c.args.shared.now in
    let own = c.args.at + c.node_len.result + c.class_len.result in
    let first = own + c.security_len.result + c.values_len.result + c.list_len.result in
    on_ok c.ring_of_all.result _ _
    (λ e. ring_written c.args.version shared c.args.at c.args.key.now c.args.ring.now.items c.add_own.new.ring.items
    c.ring_of_all.new.ring.items own first
    (omega (arith, c.node_len.ensures, c.class_len.ensures ∙ ap class_size c.class.ensures))
    (first_is m (goal.at.ring_of-returns-clause-listed m c).After-list_len)
    (c.in_ok-add_own.ensures ∙ ap (λ (s : List ℕ). c.args.ring.now.items ++ own_place shared own s)
    c.security-security.ensures)
    (e ∙ (λ j. c.add_own.new.ring.items
    ++ ring_of_all c.args.version (c.security-security.ensures j) first (trees (c.subkeys-2.ensures j)))))
    c.ring_of_all.ensures.listed

pub ring_of-returns-clause-end : goal.ring_of-returns-clause-end
ring_of-returns-clause-end m c =
    let is = end_is m (goal.at.ring_of-returns-clause-end m c).After-subkeys-2 in
    IfOk-weaker c.ring_of_all.result _ _ (λ e q. q ∙ is) c.ring_of_all.ensures.end
