-- Steps that grow the data in order stay within their strain, and one that finds no room after them has a strain
-- over the limit.
use Rattle.std.proofs.Common.{◌≡◌, ℕ, ◌+◌, ◌<◌, ◌≤◌, List, [], ◌∷◌, ◌++◌, subst, Ok, arith}
use Rattle.nt_bytes.specs.declared.version.HiveVersion.{HiveVersion}
use Rattle.hive_model.specs.Tree.{Tree}
use Rattle.hive_model.specs.Edit.{Step, after_step}
use Rattle.hive_model.specs.Packed.{rounded}
use Rattle.hive_model.specs.Footprint.{room_of, needed_sizes, strain_of}
use Rattle.edited_cells.specs.Sizes.{total, AreSome, AreGrown}
use Rattle.edited_cells.proofs.RoomLemmas.{room_some, strain_one, strain_more, strain_least, no_room}

-- what stands after steps has with them no less strain than alone, from the length that they left
pub strain_behind : (version : HiveVersion) (bytes now : ℕ) (t u : Tree) (steps further : List Step)
    → AreGrown version bytes t steps now u
    → strain_of version now u further ≤ strain_of version bytes t (steps ++ further)
strain_behind version bytes now t u [] further g =
    let m = strain_more version now bytes t further g.0 in go t u now bytes further g.1 m
  where
    go : (t u : Tree) (now bytes : ℕ) (further : List Step) → t ≡ u
        → strain_of version now t further ≤ strain_of version bytes t further
        → strain_of version now u further ≤ strain_of version bytes t further
    go t u now bytes further e m =
        subst (λ (w : Tree). strain_of version now w further ≤ strain_of version bytes t further) e m
strain_behind version bytes now t u (step ∷ steps) further g =
    let deep = strain_behind version g.1 now g.0 u steps further g.6 in
    let r = room_some g.2 (needed_sizes version t step g.0) g.4 in
    let grown = g.5 in
    let m = strain_more version g.1 (bytes + room_of (needed_sizes version t step g.0)) g.0 (steps ++ further)
    (omega (arith, r, grown)) in
    let e = strain_one version bytes t g.0 step (steps ++ further) g.3 in omega (arith, deep, m, e)

-- the data are no longer than the strain of the steps that grew them, and of any after
pub grown_within : (version : HiveVersion) (bytes now : ℕ) (t u : Tree) (steps further : List Step)
    → AreGrown version bytes t steps now u → now ≤ strain_of version bytes t (steps ++ further)
grown_within version bytes now t u steps further g =
    let l = strain_least version now u further in let b = strain_behind version bytes now t u steps further g in
    omega (arith, l, b)

-- Where a step after others finds no room below a limit for cells that it may need, the strain of all is over the
-- limit.
pub no_room_behind : (version : HiveVersion) (bytes now limit : ℕ) (t u v : Tree) (steps further : List Step)
    (step : Step) (asked : List ℕ) → AreGrown version bytes t steps now u → after_step step u ≡ Ok v
    → AreSome asked (needed_sizes version u step v) → 0 < total asked → limit < now + rounded (total asked + 32)
    → limit < strain_of version bytes t (steps ++ step ∷ further)
no_room_behind version bytes now limit t u v steps further step asked g ok part some over =
    let n = no_room version now limit u v step further asked ok part some over in let b =
    strain_behind version bytes now t u steps (step ∷ further) g in omega (arith, n, b)
