-- Cells without a first fault are well-formed, and what reading a tree answers.
use Rattle.std.proofs.Common.{◌≡◌, ℕ, true, [], Option, Some, None, Result, Ok, Err, ap, subst, ◌∙◌}
use Rattle.std.specs.Prelude.{IfOk}
use Rattle.std.specs.FinMap as map
use Rattle.nt_bytes.specs.declared.fault.HiveFault.{HiveFault}
use Rattle.nt_bytes.specs.declared.fault.ReadStop.{ReadStop}
use Rattle.nt_bytes.specs.declared.fault.ReadStop.TheVariants as stops
use Rattle.hive_model.specs.Bins.{Cells}
use Rattle.hive_model.specs.Tree.{Tree}
use Rattle.hive_model.specs.Walk.{key_checks, all_checks, first_fault}
use Rattle.hive_model.specs.Valid.{IsValid}
use Rattle.hive_model.specs.Stands.{Stands, IsWellFormed}
use Rattle.hive_read.specs.Walked.{Seen, walk, Steps, Reads, KeyRead}
use Rattle.hive_read.proofs.Passing.{passing}
use Rattle.hive_model.proofs.UsedOnce.{used_once}
use Rattle.hive_read.proofs.Firsts.{Agrees, remembers-none, walk-first}
use Rattle.hive_read.proofs.Making.{key-made}
use Rattle.hive_read.proofs.One.{one_stands}
use Rattle.hive_read.proofs.ValidTrees.{AreBytes, well-formed-valid}

-- where no check fails, a tree is in well-formed cells
pub stands-where-none-fails : (cells : Cells) (root : ℕ) → first_fault cells root ≡ None
    → (t : Tree) × IsWellFormed cells root t
unfolding all_checks
stands-where-none-fails cells root e =
    let p = passing cells [] (key_checks 512 cells true [] root) e in
    let m = key-made 512 cells true [] root p.0 in (
      m.tree,
      record {
        stands = m.read.0;
        levels = m.levels;
        names = m.apart;
        once = used_once (key_checks 512 cells true [] root) p.1;
      },
    )

-- a tree that stands where no check fails is the one that is in well-formed cells
pub well_formed : (cells : Cells) (root : ℕ) (t : Tree) → Stands cells root t → first_fault cells root ≡ None
    → IsWellFormed cells root t
well_formed cells root t s e =
    let w = stands-where-none-fails cells root e in
    subst (λ (u : Tree). IsWellFormed cells root u) (one_stands cells root w.0 t w.1.stands s) w.1

abbrev failed : HiveFault → Result Seen HiveFault
failed f = Err f

err_is : (f g : HiveFault) → failed f ≡ failed g → f ≡ g
err_is f g e = cc

-- what a reader of the whole tree did
pub reads-all : (cells : Cells) (root : ℕ) (new : Seen) (r : Result Tree ReadStop)
    → Steps (KeyRead cells true root) (walk cells map.empty (all_checks cells root)) new r → Reads cells root r
reads-all cells root new (Ok t) s =
    let none = at_ok (walk cells map.empty (all_checks cells root)) (first_fault cells root) s.0
    (walk-first cells map.empty [] (all_checks cells root) remembers-none) in
    (well_formed cells root t s.1.0 none, none)
  where
    at_ok : (w : Result Seen HiveFault) (first : Option HiveFault) → w ≡ Ok new → Agrees w first → first ≡ None
    at_ok (Ok after) first e a = a
    at_ok (Err f) first e a = absurd cc
reads-all cells root new (Err stops.Memory) s = tt
reads-all cells root new (Err (stops.Fault f)) s =
    at_err (walk cells map.empty (all_checks cells root)) (first_fault cells root) s
    (walk-first cells map.empty [] (all_checks cells root) remembers-none)
  where
    at_err : (w : Result Seen HiveFault) (first : Option HiveFault) → w ≡ Err f → Agrees w first → first ≡ Some f
    at_err (Ok after) first e a = absurd cc
    at_err (Err g) first e a = let same : g ≡ f = err_is g f e in a ∙ ap Some same

-- the same, as `read_tree` calls it
pub reads-root : (cells : Cells) (root : ℕ) (old new : Seen) (r : Result Tree ReadStop) → old ≡ map.empty
    → Steps (KeyRead cells true root) (walk cells old (key_checks 512 cells true [] root)) new r → Reads cells root r
unfolding all_checks
reads-root cells root old new r e s =
    reads-all cells root new r
    (subst (λ (o : Seen). Steps (KeyRead cells true root) (walk cells o (key_checks 512 cells true [] root)) new r)
    e s)

-- a tree that was read from cells of bytes is one that a hive can hold
pub reads-valid : (cells : Cells) (root : ℕ) (r : Result Tree ReadStop) → AreBytes cells → Reads cells root r
    → IfOk r IsValid
reads-valid cells root (Ok t) b s = well-formed-valid cells root t b s.0
reads-valid cells root (Err e) b s = tt
