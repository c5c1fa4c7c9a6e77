-- What is held at an offset, and what a lookup answers there.
use Rattle.std.proofs.Common.{◌≡◌, ℕ, Bool, true, false, cond, List, Option, Some, None, Result, Ok, Err, ◌∙◌}
use Rattle.std.specs.Prelude.{IfOk}
use Rattle.nt_bytes.specs.declared.fault.HiveFaultKind.{HiveFaultKind}
use Rattle.nt_bytes.specs.declared.fault.HiveFaultKind.TheVariants.{FreeCell}
use Rattle.nt_bytes.specs.declared.fault.HiveFault.{HiveFault}
use Rattle.nt_bytes.specs.Reading.{Sees}
use Rattle.hive_model.specs.Bins.{Cell, Bin, cell_at, payload_of, payload_at, with_place}
use Rattle.hive_cells.specs.Held.{allocated_payload, held_at}

-- what was looked up is held
of_cell : (o : Option Cell) (p : List ℕ) → payload_of o ≡ Ok p → allocated_payload o ≡ Some p
of_cell None p e = absurd cc
of_cell (Some c) p e = by_flag c.allocated c.payload p e
  where
    by_flag : (u : Bool) (q p : List ℕ) → cond u (Ok q) (Err FreeCell) ≡ Ok p → cond u (Some q) None ≡ Some p
    by_flag true q p e = cc
    by_flag false q p e = absurd cc

pub payload_held : (bins : List Bin) (o : ℕ) (p : List ℕ) → payload_at bins o ≡ Ok p → held_at bins o ≡ Some p
payload_held bins o p e = of_cell (cell_at bins o) p e

-- what is held is looked up
of_held : (o : Option Cell) (p : List ℕ) → allocated_payload o ≡ Some p → payload_of o ≡ Ok p
of_held None p e = absurd cc
of_held (Some c) p e = by_flag c.allocated c.payload p e
  where
    by_flag : (u : Bool) (q p : List ℕ) → cond u (Some q) None ≡ Some p → cond u (Ok q) (Err FreeCell) ≡ Ok p
    by_flag true q p e = cc
    by_flag false q p e = absurd cc

pub held_payload : (bins : List Bin) (o : ℕ) (p : List ℕ) → held_at bins o ≡ Some p → payload_at bins o ≡ Ok p
held_payload bins o p e = of_held (cell_at bins o) p e

-- what is held as before is looked up as before
pub payload_kept : (old new : List Bin) (o : ℕ) (p : List ℕ) → held_at new o ≡ held_at old o → payload_at old o ≡ Ok p
    → payload_at new o ≡ Ok p
payload_kept old new o p same e = held_payload new o p (same ∙ payload_held old o p e)

placed_ok : (at : ℕ) (r : Result (List ℕ) HiveFaultKind) (p : List ℕ) → with_place at r ≡ Ok p → r ≡ Ok p
placed_ok at (Ok q) p e = cc
placed_ok at (Err k) p e = absurd cc

-- what a lookup answered is held
pub seen_held : {X : Type 0} (view : X → List ℕ) (bins : List Bin) (at : ℕ) (r : Result X HiveFault)
    → Sees view r (with_place at (payload_at bins at)) → IfOk r (λ p. held_at bins at ≡ Some (view p))
seen_held view bins at (Ok x) e = payload_held bins at (view x) (placed_ok at (payload_at bins at) (view x) e)
seen_held view bins at (Err e) seen = tt
