use Rattle.std.proofs.Common.{◌≡◌, ◌-◌, ℕ, ◌||◌, List, [], ◌∷◌, map, false, length, take, drop, get_or, Ok, refl, sym, ap, subst, ◌∙◌, arith}
use Rattle.std.proofs.lemmas.Result.{IfOk-weaker}
use Rattle.std.proofs.lemmas.List.{append-nil, map_push}
use Rattle.nt_bytes.specs.Folding.{folds_same}
use Rattle.hive_model.specs.KeyNode.{KeyNode, key_node_at}
use Rattle.hive_cells.specs.Sources.{cells_of}
use Rattle.hive_model.specs.Tree.{Tree, trees, head}
use Rattle.hive_model.specs.Walk.{reading, names_of, keys_in_turn, below_node, key_checks}
use Rattle.hive_model.specs.Stands.{Stands, AllStand}
use Rattle.cell_forms.specs.Views.{name_of, node_seen}
use Rattle.hive_read.specs.Taken.{has_name, Knows}
use Rattle.hive_read.specs.Walked.{walk, KeyRead, ChildrenRead}
use Rattle.hive_read.proofs.TakenLemmas.{knows-none, knows-more}
use Rattle.hive_read.proofs.Walks.{stopped, stops-on, steps-same, steps-with, none-left, first-and-rest}
use Rattle.hive_read.proofs.KeyWalks.{key-deep, key-off, key-unnamed, key-below, node-plain, below-class, below-security, below-values, below-children, children-none, children-off, children-count, children-on, key_name, keys-off, keys-on, stand-one}
use Rattle.hive_read.proofs.key.+walk.Goals as goal

-- ---- read_key

pub read_key-returns-then-left-eq0-clause-walked : goal.read_key-returns-then-left-eq0-clause-walked
read_key-returns-then-left-eq0-clause-walked t c = λ names k.
    rw c.stop.ensures (key-deep c.args.left (cells_of c.args.cells.now)
    c.args.root c.args.used.now names c.args.at c.if-left-eq0.true)

pub read_key-returns-in_err-node-clause-walked : goal.read_key-returns-in_err-node-clause-walked
read_key-returns-in_err-node-clause-walked t c = λ names k.
    rw (stopped c.from_residual.result c.in_err-node.field-0.0 c.from_residual.ensures.1)
    (stops-on c.in_err-node.field-0.0 _ _ (λ f. key-off c.args.left (cells_of c.args.cells.now) c.args.root
    c.args.used.now names
    c.args.at f (omega arith)) c.in_err-node.ensures)

pub read_key-returns-in_err-take_name-clause-walked : goal.read_key-returns-in_err-take_name-clause-walked
read_key-returns-in_err-take_name-clause-walked t c = λ names k.
    rw (stopped c.from_residual-in_err-take_name.result c.in_err-take_name.field-0.0
    c.from_residual-in_err-take_name.ensures.1)
    (stops-on c.in_err-take_name.field-0.0 _ _ (λ f. key-unnamed c.args.left (cells_of c.args.cells.now) c.args.root
    c.args.used.now names c.args.at (node_seen c.in_ok-node.node) f (omega arith) c.in_ok-node.ensures.0
    c.in_ok-node.ensures.1)
    (c.in_err-take_name.ensures.walked names k (cells_of c.args.cells.now) c.use_node.new.used))

pub read_key-returns-clause-walked : goal.read_key-returns-clause-walked
read_key-returns-clause-walked t c = λ names k.
    let cells = cells_of c.args.cells.now in
    let u = c.in_ok-node.ensures in
    let node = node_seen c.in_ok-node.node in
    steps-with (λ (key : Tree). reading key_node_at cells c.args.at ≡ Ok node → Stands cells c.args.at key)
    (KeyRead cells c.args.root c.args.at) (λ (key : Tree). (head key).name ≡ node.name)
    (walk cells c.use_node.new.used (below_node (key_checks (c.args.left - 1) cells false) cells node c.args.at))
    (walk cells c.args.used.now (key_checks c.args.left cells c.args.root names c.args.at))
    c.read_below.new.used c.read_below.result
    (key-below c.args.left cells c.args.root c.args.used.now names c.args.at node (omega arith) u.0 u.1
    (c.in_ok-take_name.ensures.walked names k cells c.use_node.new.used).0)
    (λ key stands named. (
      stands (node-plain c.args.root cells c.args.at node u.1),
      ap (names_of (λ (n : KeyNode). n.name)) u.1 ∙ ap (λ (n : List ℕ). n ∷ []) (sym named),
    ))
    c.read_below.ensures.named c.read_below.ensures.walked

pub read_key-returns-clause-known : goal.read_key-returns-clause-known
read_key-returns-clause-known t c =
    IfOk-weaker c.read_below.result (λ (key : Tree). (head key).name ≡ name_of c.in_ok-node.node.name) _
    (λ key named n. c.in_ok-take_name.ensures.known n
    ∙ ap (λ (m : List ℕ). has_name c.args.taken.now n || folds_same n m) (sym named)) c.read_below.ensures.named

-- ---- read_below

pub read_below-returns-in_err-class-clause-walked : goal.read_below-returns-in_err-class-clause-walked
read_below-returns-in_err-class-clause-walked t c =
    rw (stopped c.from_residual.result c.in_err-class.field-0.0 c.from_residual.ensures.1)
    (stops-on c.in_err-class.field-0.0 _ _ (λ f. below-class c.args.left (cells_of c.args.cells.now) c.args.used.now
    (node_seen c.args.node.now) c.args.at f) c.in_err-class.ensures)

pub read_below-returns-in_err-security-clause-walked : goal.read_below-returns-in_err-security-clause-walked
read_below-returns-in_err-security-clause-walked t c =
    rw (stopped c.from_residual-in_err-security.result c.in_err-security.field-0.0
    c.from_residual-in_err-security.ensures.1)
    (stops-on c.in_err-security.field-0.0 _ _ (λ f. below-security c.args.left (cells_of c.args.cells.now)
    c.args.used.now (node_seen c.args.node.now) c.args.at f c.in_ok-class.ensures.0) c.in_err-security.ensures)

pub read_below-returns-in_err-values-clause-walked : goal.read_below-returns-in_err-values-clause-walked
read_below-returns-in_err-values-clause-walked t c =
    rw (stopped c.from_residual-in_err-values.result c.in_err-values.field-0.0 c.from_residual-in_err-values.ensures.1)
    (stops-on c.in_err-values.field-0.0 _ _ (λ f. below-values c.args.left (cells_of c.args.cells.now) c.args.used.now
    (node_seen c.args.node.now) c.args.at f c.in_ok-class.ensures.0 c.in_ok-security.ensures.0) c.in_err-values.ensures)

pub read_below-returns-in_err-children-clause-walked : goal.read_below-returns-in_err-children-clause-walked
read_below-returns-in_err-children-clause-walked t c =
    rw (stopped c.from_residual-in_err-children.result c.in_err-children.field-0.0
    c.from_residual-in_err-children.ensures.1)
    (stops-on c.in_err-children.field-0.0 _ _ (λ f e. below-children c.args.left (cells_of c.args.cells.now)
    c.args.used.now (node_seen c.args.node.now) c.args.at c.in_ok-class.ensures.0 c.in_ok-security.ensures.0
    c.in_ok-values.ensures.0 ∙ e) c.in_err-children.ensures)

pub read_below-returns-clause-walked : goal.read_below-returns-clause-walked
read_below-returns-clause-walked t c =
    let s = c.in_ok-children.ensures in (
      below-children c.args.left (cells_of c.args.cells.now) c.args.used.now (node_seen c.args.node.now) c.args.at
          c.in_ok-class.ensures.0 c.in_ok-security.ensures.0 c.in_ok-values.ensures.0 ∙ s.0,
      λ read. (
        s.1.0,
        record {
          node = node_seen c.args.node.now;
          read = read;
          name = c.in_ok-name.ensures;
          flags = c.own_flags-flags.ensures;
          stamp = refl;
          class = c.in_ok-class.ensures.1;
          security = c.in_ok-security.ensures.1;
          values = c.in_ok-values.ensures.1;
          children = s.1.1;
        },
        s.1.2,
      ),
    )

-- ---- read_children

pub read_children-returns-then-node-eq0 : goal.read_children-returns-then-node-eq0
read_children-returns-then-node-eq0 t c =
    let n = children-none (key_checks c.args.left (cells_of c.args.cells.now) false) (cells_of c.args.cells.now)
    c.args.used.now (node_seen c.args.node.now) c.args.at c.if-node-eq0.true in
    rw c.new.ensures (n.0, ([], n.1, refl))

pub read_children-returns-in_err-offsets : goal.read_children-returns-in_err-offsets
read_children-returns-in_err-offsets t c =
    rw (stopped c.from_residual.result c.in_err-offsets.field-0.0 c.from_residual.ensures.1)
    (stops-on c.in_err-offsets.field-0.0 _ _ (λ f. children-off c.args.left (cells_of c.args.cells.now) c.args.used.now
    (node_seen c.args.node.now) c.args.at f c.if-node-eq0.false) c.in_err-offsets.ensures)

pub read_children-returns-then-found-node : goal.read_children-returns-then-found-node
read_children-returns-then-found-node t c =
    rw c.stop.ensures (children-count c.args.left (cells_of c.args.cells.now) c.args.used.now (node_seen
    c.args.node.now)
    c.args.at c.if-node-eq0.false c.in_ok-offsets.ensures.0 c.in_ok-offsets.ensures.1 c.as_slice-found.ensures
    c.if-found-node.true)

pub read_children-returns : goal.read_children-returns
read_children-returns t c =
    let on = children-on c.args.left (cells_of c.args.cells.now) c.args.used.now (node_seen c.args.node.now) c.args.at
    c.if-node-eq0.false c.in_ok-offsets.ensures.0 c.in_ok-offsets.ensures.1 c.as_slice-found.ensures
    c.if-found-node.false in
    steps-same (λ (ts : List Tree). AllStand (cells_of c.args.cells.now) c.in_ok-offsets.offsets (trees ts))
    (ChildrenRead (cells_of c.args.cells.now) (node_seen c.args.node.now)) _ _ c.read_in_turn.new.used
    c.read_in_turn.result on.0 (λ ts a. (c.in_ok-offsets.offsets, on.1, a)) (rw c.as_slice-found.ensures at c.read_in_turn.ensures)

-- ---- read_in_turn

pub read_in_turn-children-init : goal.read_in_turn-children-init
read_in_turn-children-init t c =
    rw c.new-children.ensures
    (record { told = refl; stand = λ more e. e; knows = knows-none c.new-taken.result c.new-taken.ensures })

pub read_in_turn-returns-in_default : goal.read_in_turn-returns-in_default
read_in_turn-returns-in_default t c =
    let cells = cells_of c.args.cells.now in
    let z = none-left c.children.rest.now c.in_default.len_below in (
      sym c.children.invariant.told ∙ ap (λ r. walk cells c.children.used
          (keys_in_turn (key_checks c.args.left cells false) cells (map key_name c.children.children) r)) z,
      subst (λ (us : List Tree). AllStand cells c.args.offsets.now (trees us)) (append-nil c.children.children)
          (c.children.invariant.stand [] z),
    )

pub read_in_turn-returns-in_err-child : goal.read_in_turn-returns-in_err-child
read_in_turn-returns-in_err-child t c =
    rw (stopped c.from_residual.result c.in_err-child.field-0.0 c.from_residual.ensures.1)
    (stops-on c.in_err-child.field-0.0 _ _ (λ f e. sym c.children.invariant.told
    ∙ keys-off c.args.left (cells_of c.args.cells.now) c.children.used (map key_name c.children.children)
    c.children.rest.now f c.in-len1-up.len_at_least e)
    (c.in_err-child.ensures.walked (map key_name c.children.children) c.children.invariant.knows))

pub read_in_turn-children-preserved : goal.read_in_turn-children-preserved
read_in_turn-children-preserved t c =
    let i = c.children.invariant in
    let rest = c.children.rest.now in
    let r = first-and-rest rest c.in-len1-up.len_at_least in
    let s = c.in_ok-child.ensures.walked (map key_name c.children.children) i.knows in
    rw c.in_ok-push.ensures.ok (record {
      told = sym (keys-on c.args.left (cells_of c.args.cells.now) c.children.used c.read_key.new.used c.children.children rest
          (get_or rest 0 0) (take (length rest - 1) (drop 1 rest)) c.in_ok-child.child r s.0 s.1) ∙ i.told;
      stand = stand-one (cells_of c.args.cells.now) rest (take (length rest - 1) (drop 1 rest)) c.args.offsets.now (get_or rest 0 0)
          c.children.children c.in_ok-child.child r s.1.0 i.stand;
      knows =
          subst (λ (ns : List (List ℕ)). Knows c.read_key.new.taken ns)
          (sym (map_push key_name c.children.children c.in_ok-child.child))
          (knows-more c.children.taken c.read_key.new.taken (map key_name c.children.children)
          (key_name c.in_ok-child.child) i.knows c.in_ok-child.ensures.known);
    })
