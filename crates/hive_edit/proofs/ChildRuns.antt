-- The run of a child that is put below the root: its cells are held as they were written, whatever changes after.
use Rattle.std.proofs.Common.{◌≡◌, ◌≤◌, ◌<◌, ℕ, ◌+◌, List, ◌∷◌, ◌++◌, length, map, Option, Some, inl, refl, sym, ap, subst, ◌∙◌, arith}
use Rattle.nt_bytes.specs.declared.version.HiveVersion.{HiveVersion}
use Rattle.hive_model.specs.Bins.{Cell, look_up, or_else}
use Rattle.hive_model.specs.Footprint.{child_places}
use Rattle.hive_model.specs.KeyNode.{KeyNode, key_node_at}
use Rattle.hive_model.specs.Packed.{Above as PackedAbove, allocated_cell, cells_of}
use Rattle.hive_model.specs.Size.{size}
use Rattle.hive_model.specs.Stands.{IsWellFormed}
use Rattle.hive_model.specs.Tree.{Tree}
use Rattle.hive_model.specs.Valid.{HoldsKeys}
use Rattle.hive_cells.specs.Opened.{Opened}
use Rattle.hive_cells.specs.Held.{held_at, held_among}
use Rattle.hive_cells.proofs.HeldLemmas.{payload_held, held_payload}
use Rattle.hive_pack.specs.Below.{beside}
use Rattle.hive_pack.proofs.Rows.{space_tree}
use Rattle.hive_pack.proofs.Whole.{used_size}
use Rattle.hive_read.proofs.FormFacts.{then-so}
use Rattle.edited_cells.specs.Owned.{In}
use Rattle.edited_cells.proofs.ChildrenColumn.{places_listed}
use Rattle.edited_cells.proofs.Ins.{in_right}
use Rattle.key_index.proofs.Runs.{among_from}
use Rattle.hive_edit.specs.declared.making.Above.{Above}
use Rattle.hive_edit.specs.Grafted.{IsGrafted}
use Rattle.hive_edit.specs.Hive.{HiveCells, cells_in, hive_of}
use Rattle.hive_edit.specs.NewRun.{HasNewRun, new_cells}
use Rattle.hive_edit.proofs.GraftLemmas.{in_run, changes}
use Rattle.hive_edit.proofs.GraftRuns.{graft_run}
use Rattle.hive_edit.proofs.GraftedLemmas.{Ready, front, back, grafts}
use Rattle.hive_edit.proofs.KeyLemmas.{node_read}
use Rattle.hive_look.proofs.ResultLemmas.{some, no_some}

-- each cell of a run begins inside it
run_inside : (version : HiveVersion) (up : PackedAbove) (at : ℕ) (k : Tree) (o : ℕ) (p : List ℕ)
    → held_among o at (map allocated_cell (cells_of version up at k)) ≡ Some p
    → (at ≤ o) × (o < at + size version up.security k)
run_inside version up at k o p h =
    let ps = cells_of version up at k in
    let a = among_from o at (map allocated_cell ps) p h in
    (a.0, omega (arith, a.1, used_size ps, space_tree version up at k))

-- the lists, the root's node and the count of the shared security were written into other cells
pub run_made : (version : HiveVersion) (old new : Opened) (root : ℕ) (t : Tree) (n : KeyNode) (above : Above)
    (shared : List ℕ) (k : Tree) (at : ℕ) → Ready version old.bins root t root t n 511 above shared k at → HoldsKeys k
    → IsGrafted version root above shared k at old.bins new.bins
    → HasNewRun (hive_of old root version) shared k (hive_of new root version)
run_made version old new root t n above shared k at r holds a =
    let b = look_up version old.bins in
    let m = look_up version a.mid in
    let l = look_up version a.linked.listed in
    let c = look_up version new.bins in
    let sz = size version shared k in
    let sp = above.security in
    let fr = front version old.bins a.mid root t root t n 511 above shared k at r a.numbers holds a.put in
    let bk = back version old.bins a.mid root t root t n 511 above shared k at r a.numbers holds a.put in
    let g = grafts version old.bins new.bins root t root t n 511 above shared k at r holds a in
    let ch = changes b m l c root t root t n 511 k at sz sp a.linked.list shared fr bk g in
    let places : child_places c root ≡ fr ++ at ∷ bk =
    places_listed c root ch.new (fr ++ at ∷ bk) ch.read_new ch.listed_new in
    let inside = r.inside in
    let run = graft_run version (beside version root shared sp at k) at k a.put.run a.put.is (omega (arith, inside)) in
    let long : length a.put.run ≡ sz = run.long in
    record {
      at = at;
      child = subst (λ (os : List ℕ). In os at) (sym places) (in_right fr (at ∷ bk) at (inl refl));
      security = sp;
      shares = r.shares;
      fresh = λ o low high. a.put.put.fresh o low (omega (arith, high, long));
      held = λ o p h.
          let i = run_inside version (beside version root shared sp at k) at k o p h in
          let there : held_at a.mid o ≡ some p =
          a.put.put.held o ∙ ap (λ (cs : List Cell). or_else (held_among o at cs) (held_at old.bins o)) run.cells
          ∙ ap (λ (z : Option (List ℕ)). or_else z (held_at old.bins o)) h in
          payload_held new.bins o p
          (in_run b m l c root t root t n 511 k at sz sp a.linked.list shared fr bk g o p i.0 i.1 (held_payload a.mid o p there));
    }

-- and they are held still where no cell changes but the root's node, which was there before
pub run_kept : (old mid new : HiveCells) (shared : List ℕ) (k : Tree) → IsWellFormed (cells_in old) old.root old.tree
    → ((o : ℕ) → (o ≡ old.root → ⊥) → held_at new.bins o ≡ held_at mid.bins o)
    → child_places (cells_in new) old.root ≡ child_places (cells_in mid) old.root
    → HasNewRun old shared k mid → HasNewRun old shared k new
run_kept old mid new shared k well others places r = record {
  at = r.at;
  child = subst (λ (os : List ℕ). In os r.at) (sym places) r.child;
  security = r.security;
  shares = r.shares;
  fresh = r.fresh;
  held = λ o p h. others o (not_root o p h) ∙ r.held o p h;
}
  where
    not_root : (o : ℕ) (p : List ℕ) → held_among o r.at (new_cells old r.security shared k r.at) ≡ Some p
        → o ≡ old.root → ⊥
    not_root o p h same =
        let i = run_inside old.version (beside old.version old.root shared r.security r.at k) r.at k o p h in
        let n = node_read (cells_in old) old.root old.tree well.stands in
        let q = then-so ((cells_in old).payload old.root) key_node_at n.0 n.1 in
        no_some (held_at old.bins o) q.0 (r.fresh o i.0 i.1)
        (ap (held_at old.bins) same ∙ payload_held old.bins old.root q.0 q.1)
