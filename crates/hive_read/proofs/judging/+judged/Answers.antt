use Rattle.std.proofs.Common.{◌-◌, ℕ, map, false, length, take, drop, get_or, sym, ◌∙◌, arith}
use Rattle.hive_cells.specs.Sources.{cells_of}
use Rattle.hive_model.specs.Size.{size}
use Rattle.hive_model.specs.Walk.{below_node, key_checks}
use Rattle.cell_forms.specs.Views.{node_seen}
use Rattle.hive_read.specs.Judged.{Counts}
use Rattle.hive_read.specs.Walked.{walk}
use Rattle.hive_read.proofs.Walks.{stopped, stops-on, steps-same, none-left, first-and-rest}
use Rattle.hive_read.proofs.KeyWalks.{key-deep, key-off, key-unnamed, key-below, below-class, below-security, below-values, below-children, children-off, children-count, children-on, key_name, keys-off}
use Rattle.hive_read.proofs.DescribedLemmas.{its-own}
use Rattle.hive_read.proofs.JudgingLemmas.{KeyHere, BelowHere, keys-first, keys-next, keys-last, no-children, children-counts, below-counts, key-counts}
use Rattle.hive_read.proofs.judging.+judged.Goals as goal

-- ---- judge_key

pub judge_key-returns-then-left-eq0 : goal.judge_key-returns-then-left-eq0
judge_key-returns-then-left-eq0 t c = λ names k.
    rw c.stop.ensures (key-deep c.args.left (cells_of c.args.cells.now)
    c.args.root c.args.used.now names c.args.at c.if-left-eq0.true)

pub judge_key-returns-in_err-node : goal.judge_key-returns-in_err-node
judge_key-returns-in_err-node t c = λ names k.
    rw (stopped c.from_residual.result c.in_err-node.field-0.0 c.from_residual.ensures.1)
    (stops-on c.in_err-node.field-0.0 _ _ (λ f. key-off c.args.left (cells_of c.args.cells.now) c.args.root
    c.args.used.now names
    c.args.at f (omega arith)) c.in_err-node.ensures)

pub judge_key-returns-in_err-take_name : goal.judge_key-returns-in_err-take_name
judge_key-returns-in_err-take_name t c = λ names k.
    rw (stopped c.from_residual-in_err-take_name.result c.in_err-take_name.field-0.0
    c.from_residual-in_err-take_name.ensures.1)
    (stops-on c.in_err-take_name.field-0.0 _ _ (λ f. key-unnamed c.args.left (cells_of c.args.cells.now) c.args.root
    c.args.used.now names c.args.at (node_seen c.in_ok-node.node) f (omega arith) c.in_ok-node.ensures.0
    c.in_ok-node.ensures.1)
    (c.in_err-take_name.ensures.walked names k (cells_of c.args.cells.now) c.use_node.new.used))

pub judge_key-returns : goal.judge_key-returns
judge_key-returns t c = λ names k.
    let cells = cells_of c.args.cells.now in
    let u = c.in_ok-node.ensures in
    let node = node_seen c.in_ok-node.node in
    steps-same (Counts (BelowHere cells c.args.at node) (size cells.version c.args.shared.now.bytes.now))
    (Counts (KeyHere cells c.args.root c.args.at c.args.taken.now c.take_name.new.taken)
    (size cells.version c.args.shared.now.bytes.now))
    (walk cells c.use_node.new.used (below_node (key_checks (c.args.left - 1) cells false) cells node c.args.at))
    (walk cells c.args.used.now (key_checks c.args.left cells c.args.root names c.args.at))
    c.judge_below.new.used c.judge_below.result
    (key-below c.args.left cells c.args.root c.args.used.now names c.args.at node (omega arith) u.0 u.1
    (c.in_ok-take_name.ensures.walked names k cells c.use_node.new.used).0)
    (λ (n : ℕ) b. key-counts cells c.args.root c.args.at node c.args.shared.now.bytes.now
    c.args.taken.now c.take_name.new.taken n u.1 c.in_ok-take_name.ensures.known b)
    c.judge_below.ensures

-- ---- judge_below

pub judge_below-judge_children-requires : goal.judge_below-judge_children-requires
judge_below-judge_children-requires t c = (
  omega arith,
  λ other same. its-own (cells_of c.args.cells.now) (node_seen c.args.node.now)
      other c.in_ok-security.security.now c.in_ok-security.ensures.1 same,
)

pub judge_below-returns-in_err-class : goal.judge_below-returns-in_err-class
judge_below-returns-in_err-class t c =
    rw (stopped c.from_residual.result c.in_err-class.field-0.0 c.from_residual.ensures.1)
    (stops-on c.in_err-class.field-0.0 _ _ (λ f. below-class c.args.left (cells_of c.args.cells.now) c.args.used.now
    (node_seen c.args.node.now) c.args.at f) c.in_err-class.ensures)

pub judge_below-returns-in_err-security : goal.judge_below-returns-in_err-security
judge_below-returns-in_err-security t c =
    rw (stopped c.from_residual-in_err-security.result c.in_err-security.field-0.0
    c.from_residual-in_err-security.ensures.1)
    (stops-on c.in_err-security.field-0.0 _ _ (λ f. below-security c.args.left (cells_of c.args.cells.now)
    c.args.used.now (node_seen c.args.node.now) c.args.at f c.in_ok-class.ensures.0) c.in_err-security.ensures)

pub judge_below-returns-in_err-values : goal.judge_below-returns-in_err-values
judge_below-returns-in_err-values t c =
    rw (stopped c.from_residual-in_err-values.result c.in_err-values.field-0.0 c.from_residual-in_err-values.ensures.1)
    (stops-on c.in_err-values.field-0.0 _ _ (λ f. below-values c.args.left (cells_of c.args.cells.now) c.args.used.now
    (node_seen c.args.node.now) c.args.at f c.in_ok-class.ensures.0 c.in_ok-security.ensures.0) c.in_err-values.ensures)

pub judge_below-returns-in_err-children : goal.judge_below-returns-in_err-children
judge_below-returns-in_err-children t c =
    rw (stopped c.from_residual-in_err-children.result c.in_err-children.field-0.0
    c.from_residual-in_err-children.ensures.1)
    (stops-on c.in_err-children.field-0.0 _ _ (λ f e. below-children c.args.left (cells_of c.args.cells.now)
    c.args.used.now (node_seen c.args.node.now) c.args.at c.in_ok-class.ensures.0 c.in_ok-security.ensures.0
    c.in_ok-values.ensures.0 ∙ e) c.in_err-children.ensures)

pub judge_below-returns : goal.judge_below-returns
judge_below-returns t c =
    let node = node_seen c.args.node.now in
    let s = c.in_ok-children.ensures in (
      below-children c.args.left (cells_of c.args.cells.now) c.args.used.now node c.args.at
          c.in_ok-class.ensures.0 c.in_ok-security.ensures.0 c.in_ok-values.ensures.0 ∙ s.0,
      below-counts (cells_of c.args.cells.now) c.args.at node c.args.shared.now.bytes.now c.in_ok-security.security.now
          c.stored_size-own.result c.in_ok-class.class c.descriptor_size-descriptor.result
          c.in_ok-values.values c.in_ok-children.children
          c.saturating_add.result c.saturating_add-2.result c.saturating_add-3.result c.saturating_add-4.result
          (record {
            own = c.stored_size-own.ensures;
            class = c.in_ok-class.ensures.1;
            security = c.in_ok-security.ensures.1;
            described = c.descriptor_size-descriptor.ensures;
            values = c.in_ok-values.ensures.1;
            below = s.1;
          })
          c.saturating_add.ensures c.saturating_add-2.ensures c.saturating_add-3.ensures c.saturating_add-4.ensures,
    )

-- ---- judge_children

pub judge_children-returns-then-node-eq0 : goal.judge_children-returns-then-node-eq0
judge_children-returns-then-node-eq0 t c =
    no-children c.args.left (cells_of c.args.cells.now) c.args.used.now (node_seen c.args.node.now) c.args.at
    c.args.shared.now.bytes.now c.if-node-eq0.true

pub judge_children-returns-in_err-offsets : goal.judge_children-returns-in_err-offsets
judge_children-returns-in_err-offsets t c =
    rw (stopped c.from_residual.result c.in_err-offsets.field-0.0 c.from_residual.ensures.1)
    (stops-on c.in_err-offsets.field-0.0 _ _ (λ f. children-off c.args.left (cells_of c.args.cells.now) c.args.used.now
    (node_seen c.args.node.now) c.args.at f c.if-node-eq0.false) c.in_err-offsets.ensures)

pub judge_children-returns-then-found-node : goal.judge_children-returns-then-found-node
judge_children-returns-then-found-node t c =
    rw c.stop.ensures (children-count c.args.left (cells_of c.args.cells.now) c.args.used.now (node_seen
    c.args.node.now)
    c.args.at c.if-node-eq0.false c.in_ok-offsets.ensures.0 c.in_ok-offsets.ensures.1 c.as_slice-found.ensures
    c.if-found-node.true)

pub judge_children-returns-in_err-children : goal.judge_children-returns-in_err-children
judge_children-returns-in_err-children t c =
    let on = children-on c.args.left (cells_of c.args.cells.now) c.args.used.now (node_seen c.args.node.now) c.args.at
    c.if-node-eq0.false c.in_ok-offsets.ensures.0 c.in_ok-offsets.ensures.1 c.as_slice-found.ensures
    c.if-found-node.false in
    rw (stopped c.from_residual-in_err-children.result c.in_err-children.field-0.0
    c.from_residual-in_err-children.ensures.1)
    (stops-on c.in_err-children.field-0.0 _ _ (λ f s. on.0 ∙ s)
    (rw c.as_slice-found.ensures at c.in_err-children.ensures))

pub judge_children-returns : goal.judge_children-returns
judge_children-returns t c =
    let on = children-on c.args.left (cells_of c.args.cells.now) c.args.used.now (node_seen c.args.node.now) c.args.at
    c.if-node-eq0.false c.in_ok-offsets.ensures.0 c.in_ok-offsets.ensures.1 c.as_slice-found.ensures
    c.if-found-node.false in
    let s = rw c.as_slice-found.ensures at c.in_ok-children.ensures in (
      on.0 ∙ s.0,
      children-counts (cells_of c.args.cells.now) (node_seen c.args.node.now)
          c.args.shared.now.bytes.now c.in_ok-offsets.offsets c.list_size-lists.result c.in_ok-children.children
          c.saturating_add.result on.1
          (rw c.as_slice-found.ensures at c.list_size-lists.ensures) s.1 c.saturating_add.ensures,
    )

-- ---- judge_in_turn

pub judge_in_turn-children-init : goal.judge_in_turn-children-init
judge_in_turn-children-init t c =
    keys-first (cells_of c.args.cells.now)
    c.args.left c.args.shared.now.bytes.now c.args.offsets.now c.new-taken.result c.args.used.now c.new-taken.ensures

pub judge_in_turn-returns-in_default : goal.judge_in_turn-returns-in_default
judge_in_turn-returns-in_default t c =
    keys-last (cells_of c.args.cells.now)
    c.args.left c.args.shared.now.bytes.now c.args.offsets.now c.children.rest.now c.children.taken c.children.total
    c.children.used c.args.used.now c.children.invariant
    (none-left c.children.rest.now c.in_default.len_below)

pub judge_in_turn-returns-in_err-child : goal.judge_in_turn-returns-in_err-child
judge_in_turn-returns-in_err-child t c =
    rw (stopped c.from_residual.result c.in_err-child.field-0.0 c.from_residual.ensures.1)
    (stops-on c.in_err-child.field-0.0 _ _ (λ f e. sym c.children.invariant.told
    ∙ keys-off c.args.left (cells_of c.args.cells.now) c.children.used (map key_name c.children.invariant.children)
    c.children.rest.now f c.in-len1-up.len_at_least e)
    (c.in_err-child.ensures (map key_name c.children.invariant.children) c.children.invariant.knows))

pub judge_in_turn-children-preserved : goal.judge_in_turn-children-preserved
judge_in_turn-children-preserved t c =
    let i = c.children.invariant in
    let rest = c.children.rest.now in
    let s = c.in_ok-child.ensures (map key_name i.children) i.knows in
    rw c.saturating_add-total.ensures
    (keys-next (cells_of c.args.cells.now) c.args.left c.args.shared.now.bytes.now c.args.offsets.now
    rest c.children.taken c.judge_key.new.taken c.children.total c.in_ok-child.child
    c.children.used c.args.used.now c.judge_key.new.used
    (get_or rest 0 0) (take (length rest - 1) (drop 1 rest)) i (first-and-rest rest c.in-len1-up.len_at_least) s.0 s.1)
