-- What is found at the places of cells in a row.
use Rattle.std.proofs.Common.{◌≡◌, ◌≤◌, ℕ, ◌+◌, ◌-◌, true, false, eqb, List, [], ◌∷◌, ◌++◌, length, map, None, Result, Ok, refl, sym, ap, subst, ◌∙◌, eq-eqb, arith}
use lib.ListN.{replicate}
use Rattle.std.proofs.lemmas.Bool.{ne_eqb}
use Rattle.nt_bytes.specs.declared.fault.HiveFaultKind.{HiveFaultKind}
use Rattle.nt_bytes.specs.declared.version.HiveVersion.{HiveVersion}
use Rattle.nt_bytes.specs.Reading.{◌>>=◌}
use Rattle.hive_model.specs.Tree.{Tree}
use Rattle.hive_model.specs.Size.{cell}
use Rattle.hive_model.specs.Bins.{Cell, Cells, cell_size, in_cells, or_else, payload_of, look_up}
use Rattle.hive_model.specs.Walk.{reading}
use Rattle.hive_model.specs.Packed.{filled, allocated_cell, packed_cells, whole, rounded, free_cells, packed_bins}
use Rattle.hive_pack.proofs.Rows.{space, length_filled}

-- these payloads are in a row from here on
abbrev pub Has : Cells → ℕ → List (List ℕ) → Type 0
Has cells at [] = Unit {0}
Has cells at (p ∷ ps) = (cells.payload at ≡ Ok (filled p)) × Has cells (at + cell (length p)) ps

pub has_front : (cells : Cells) (at : ℕ) (a b : List (List ℕ)) → Has cells at (a ++ b) → Has cells at a
has_front cells at [] b h = tt
has_front cells at (p ∷ ps) b h = (h.0, has_front cells (at + cell (length p)) ps b h.1)

pub has_back : (cells : Cells) (at : ℕ) (a b : List (List ℕ)) → Has cells at (a ++ b) → Has cells (at + space a) b
has_back cells at [] b h = let e : at + 0 ≡ at = omega arith in rw e h
has_back cells at (p ∷ ps) b h = let e : at + (cell (length p) + space ps) ≡ at + cell (length p) + space ps =
    omega arith in rw e (has_back cells (at + cell (length p)) ps b h.1)

-- after cells that take that many bytes
pub has_behind : (cells : Cells) (at n place : ℕ) (a b : List (List ℕ)) → space a ≡ n → at + n ≡ place
    → Has cells at (a ++ b)
    → Has cells place b
has_behind cells at n place a b s p h =
    subst (λ (k : ℕ). Has cells k b) (ap (λ k. at + k) s ∙ p) (has_back cells at a b h)

-- after a payload of k bytes
pub has_next : (cells : Cells) (at k : ℕ) (p : List ℕ) (ps : List (List ℕ)) → length p ≡ k → Has cells at (p ∷ ps)
    → Has cells (at + cell k) ps
has_next cells at k p ps e h = subst (λ (n : ℕ). Has cells (at + cell n) ps) e h.1

has_same : (c d : Cells) (at : ℕ) (ps : List (List ℕ)) → ((o : ℕ) → at ≤ o → c.payload o ≡ d.payload o) → Has c at ps
    → Has d at ps
has_same c d at [] e h = tt
has_same c d at (p ∷ ps) e h =
    (sym (e at (omega arith)) ∙ h.0, has_same c d (at + cell (length p)) ps (λ o le. e o (omega arith)) h.1)

-- cells that begin here, looked up
abbrev seen : HiveVersion → List Cell → ℕ → Cells
seen version cs start = record { version = version; payload = λ o. payload_of (or_else (in_cells o start cs) None) }

has_seen : (version : HiveVersion) (start : ℕ) (ps : List (List ℕ)) (more : List Cell)
    → Has (seen version (map allocated_cell ps ++ more) start) start ps
has_seen version start [] more = tt
has_seen version start (p ∷ ps) more =
    let cs = map allocated_cell ps ++ more in
    let next : start + cell_size (allocated_cell p) ≡ start + cell (length p) = omega (arith, length_filled p) in
    let here : eqb start start ≡ true = eq-eqb start start refl in (
      rw here refl,
      has_same (seen version cs (start + cell (length p))) (seen version (allocated_cell p ∷ cs) start)
          (start + cell (length p)) ps
          (λ o le.
          let no : eqb start o ≡ false = ne_eqb start o (λ e. omega arith) in
          rw (no, next) refl)
          (has_seen version (start + cell (length p)) ps more),
    )

pub has_all : (version : HiveVersion) (t : Tree)
    → Has (look_up version (packed_bins version t)) 32 (packed_cells version t)
unfolding packed_bins
has_all version t = has_seen version 32 (packed_cells version t)
    (free_cells (rounded (whole version t) - whole version t))

-- a form that is read, whatever fills the cell after it, is read in its cell
pub reads_in : {F : Type 0} (form : List ℕ → Result F HiveFaultKind) (cells : Cells) (at : ℕ) (p : List ℕ) (x : F)
    → cells.payload at ≡ Ok (filled p) → ((slack : List ℕ) → form (p ++ slack) ≡ Ok x) → reading form cells at ≡ Ok x
unfolding filled
reads_in form cells at p x h r = ap (λ c. c >>= form) h ∙ r (replicate (cell (length p) - 4 - length p) 0)
