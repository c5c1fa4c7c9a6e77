use Rattle.std.specs.Prelude.{◌&&◌, not, is_some}
use Rattle.std.proofs.Common.{rules, ◌-◌, ℕ, Bool, List, length, take, drop, get_or, sym, ap, ◌∙◌, arith}
use Rattle.cell_forms.specs.Views.{key_node_of}
use Rattle.salvage_bins.specs.Ground.{ground_of}
use Rattle.salvage_walk.specs.Keys.{judged_key, with_child}
use Rattle.salvage_walk.specs.Walked.{state_of}
use Rattle.salvage_walk.proofs.UseLemmas.{none-left, first-and-rest}
use Rattle.salvage_walk.specs.Incomplete.{incomplete_at, noted, notes_key}
use Rattle.salvage_walk.proofs.WalkLemmas.{keys-end, keys-on, notes-end, notes-on}
use Rattle.salvage_walk.proofs.RememberedLemmas.{remembers-class, remembers-entries, remembers-more, remembers-security}
use Rattle.salvage_walk.proofs.keys.+walk.Goals as goal

pub keys-returns-in_default : goal.keys-returns-in_default
keys-returns-in_default t c =
    let hive = ground_of c.args.cells.now in
    let judge = judged_key c.args.left hive in
    let z = none-left c.children.rest.now c.in_default.len_below in
    record {
      walked = sym (keys-end judge c.args.above.now c.args.path.now c.children.number c.children.rest.now c.children.children
          (state_of c.children.walk) z) ∙ c.children.invariant.told;
      noted = sym (notes-end judge (notes_key c.args.left hive) (incomplete_at c.args.own c.args.path.now) c.args.above.now
          c.args.path.now c.children.number c.children.rest.now c.children.children (state_of c.children.walk) c.children.noted
          c.children.notes z) ∙ c.children.invariant.noted;
      listed = c.children.invariant.listed;
    }

pub keys-children-preserved : goal.keys-children-preserved
keys-children-preserved t c =
    let judge = judged_key c.args.left (ground_of c.args.cells.now) in
    let i = c.children.invariant in
    let w = state_of c.children.walk in
    let rest = c.children.rest.now in
    let others = take (length rest - 1) (drop 1 rest) in
    let r = first-and-rest rest c.in-len1-up.len_at_least in
    record {
      told = keys-on judge c.args.above.now c.args.path.now c.children.number (get_or rest 0 0) rest others
          c.children.children c.add.new.children w (state_of c.key.new.walk) r
          (c.in_ok-add.ensures.added (state_of c.key.new.walk)
          ∙ ap (with_child c.children.children) (c.in_ok-child.ensures.walked
          ∙ ap (λ (ns : List (List ℕ)). judge c.args.above.now c.args.path.now ns c.children.number (get_or rest 0 0) w)
          i.known)) ∙ i.told;
      known = c.in_ok-add.ensures.known;
      noted = notes-on judge (notes_key c.args.left (ground_of c.args.cells.now)) (incomplete_at c.args.own c.args.path.now)
          c.args.above.now c.args.path.now c.children.number (get_or rest 0 0) rest others c.children.children
          c.add.new.children w (state_of c.key.new.walk) c.in_ok-child.child c.children.noted _ c.children.notes _ r
          (c.in_ok-child.ensures.walked
          ∙ ap (λ (ns : List (List ℕ)). judge c.args.above.now c.args.path.now ns c.children.number (get_or rest 0 0) w) i.known)
          (c.in_ok-add.ensures.added (state_of c.key.new.walk))
          c.is_noted-noted.ensures
          (c.in_ok-note.ensures ∙ ap (λ (b : Bool). noted b (incomplete_at c.args.own c.args.path.now) c.key.new.notes) c.is_new-is.ensures
          ∙ ap (noted (not c.children.noted && not (is_some c.in_ok-child.child)) (incomplete_at c.args.own c.args.path.now))
          (c.in_ok-child.ensures.noted
          ∙ ap (λ (ns : List (List ℕ)). notes_key c.args.left (ground_of c.args.cells.now) c.args.above.now c.args.path.now ns
          c.children.number (get_or rest 0 0) w c.children.notes) i.known)) ∙ i.noted;
      listed = c.in_ok-child.ensures.listed;
      few = omega arith;
    }

pub key-key_of-requires : goal.key-key_of-requires
key-key_of-requires t c = (
  search rules,
  remembers-more (ground_of c.args.cells.now) c.args.walk.now.used c.use_node.new.used c.args.lists.now c.in-Ok.ensures.1 c.requires,
)

pub key_of-values-requires : goal.key_of-values-requires
key_of-values-requires t c =
    let hive = ground_of c.args.cells.now in
    let node = key_node_of c.args.node in
    remembers-security hive c.args.above.now c.args.path.now node c.args.lists.now (state_of c.class.new.walk) (state_of c.security.new.walk)
    c.in_ok-security.security c.in_ok-security.ensures
    (remembers-class hive c.args.path.now node c.args.lists.now (state_of c.args.walk.now) (state_of c.class.new.walk)
    c.in_ok-class.class c.in_ok-class.ensures c.requires)

pub key_of-keys-requires : goal.key_of-keys-requires
key_of-keys-requires t c = (
  search rules,
  remembers-entries (ground_of c.args.cells.now) c.args.path.now (key_node_of c.args.node) c.args.at c.values.new.lists
      (state_of c.values.new.walk) (state_of c.entries.new.walk) c.in_ok-offsets.offsets.items c.in_ok-offsets.ensures
      c.in_ok-values.ensures.listed,
)
