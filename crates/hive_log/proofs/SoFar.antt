-- A run of sectors as it is read, and a fault in a part of what is read.
use Rattle.std.proofs.Common.{◌≡◌, ◌<◌, ◌≤◌, ◌+◌, ◌-◌, ◌*◌, ◌++◌, ℕ, suc, List, [], length, Option, Result, Ok, Err, refl, sym, ◌∙◌, ap, subst, arith, add-one, append_assoc, append-nil, length-append, ⊎_elim}
use Rattle.nt_bytes.specs.declared.fault.HiveFault.{HiveFault}
use Rattle.hive_model.specs.Image.{Address, Write, Content, overlaid}
use Rattle.hive_model.specs.Recovery.{Sectors, sector, joined, gathered}
use Rattle.nt_edge.specs.Disk.{DiskState, now_of}
use Rattle.hive_log.specs.declared.stops.LoadStop.{LoadStop}
use Rattle.hive_log.specs.declared.stops.LoadStop.TheVariants as load
use Rattle.hive_log.specs.Stops.{IsFaultOf}
use Rattle.hive_log.proofs.Ranks.{split}
use Rattle.hive_log.proofs.Runs.{sector_front, sector_back, sector_whole}

-- what was read so far, and after it what is still to be read, is all
pub record ReadSoFar (at : Sectors) (count : ℕ) (bytes : List ℕ) (i : ℕ) : Type 0 where
  pub all : joined (Ok bytes) (gathered at i (count - i)) ≡ gathered at 0 count
  pub sectors : (j : ℕ) → j < i → at j ≡ Ok (sector bytes j)

empty_front : (r : Result (List ℕ) HiveFault) → joined (Ok []) r ≡ r
empty_front (Ok rest) = refl
empty_front (Err f) = refl

behind : (front s : List ℕ) (r : Result (List ℕ) HiveFault)
    → joined (Ok (front ++ s)) r ≡ joined (Ok front) (joined (Ok s) r)
behind front s (Ok rest) = ap (λ l. Ok l) (append_assoc front s rest)
behind front s (Err f) = refl

-- a sector more is 512 bytes more
pub longer : (bytes s after : List ℕ) (i : ℕ) → after ≡ bytes ++ s → length bytes ≡ 512 * i → length s ≡ 512
    → length after ≡ 512 * (i + 1)
longer bytes s after i appended long one = ap length appended ∙ omega (arith, length-append bytes s)

module _ (at : Sectors) (count : ℕ) where
  pub read_start : ReadSoFar at count [] 0
  read_start = record {
    all = ap (λ n. joined (Ok []) (gathered at 0 n)) (omega arith)
        ∙ empty_front (gathered at 0 count);
    sectors = λ j below. absurd (omega arith);
  }

  next : (i : ℕ) → i < count → gathered at i (count - i) ≡ joined (at i) (gathered at (i + 1) (count - (i + 1)))
  next i small =
      let long : count - i ≡ suc (count - (i + 1)) = omega arith in
      ap (gathered at i) long ∙ ap (λ k. joined (at i) (gathered at k (count - (i + 1)))) (sym (add-one i))

  pub read_more : (bytes s after : List ℕ) (i : ℕ) → after ≡ bytes ++ s → i < count → length bytes ≡ 512 * i
      → length s ≡ 512 → at i ≡ Ok s → ReadSoFar at count bytes i → ReadSoFar at count after (i + 1)
  read_more bytes s after i appended small long one is so_far =
      subst (λ (b : List ℕ). ReadSoFar at count b (i + 1)) (sym appended) (record {
        all =
            behind bytes s (gathered at (i + 1) (count - (i + 1)))
            ∙ ap (λ r. joined (Ok bytes) (joined r (gathered at (i + 1) (count - (i + 1))))) (sym is)
            ∙ ap (joined (Ok bytes)) (sym (next i small)) ∙ so_far.all;
        sectors = λ j below. ⊎_elim
            (λ less. so_far.sectors j less ∙ ap (λ b. Ok b) (sym (sector_front bytes s j (omega arith))))
            (λ same.
            let place : i + 0 ≡ j = omega arith in
            ap at same ∙ is ∙ ap (λ b. Ok b)
            (sym (sector_whole s one) ∙ sym (sector_back bytes s i 0 long) ∙ ap (sector (bytes ++ s)) place))
            (split j i (omega arith));
      })

  pub read_fault : (bytes : List ℕ) (i : ℕ) → i < count → ReadSoFar at count bytes i → (f : HiveFault) → at i ≡ Err f
      → gathered at 0 count ≡ Err f
  read_fault bytes i small so_far f is =
      sym so_far.all ∙ ap (joined (Ok bytes)) (next i small)
      ∙ ap (λ r. joined (Ok bytes) (joined r (gathered at (i + 1) (count - (i + 1))))) is

  pub read_end : (bytes : List ℕ) (i : ℕ) → count ≤ i → ReadSoFar at count bytes i → gathered at 0 count ≡ Ok bytes
  read_end bytes i done so_far =
      let none : count - i ≡ 0 = omega arith in
      sym so_far.all ∙ ap (λ n. joined (Ok bytes) (gathered at i n)) none ∙ ap (λ l. Ok l) (append-nil bytes)

-- what a read gives where nothing is in flight
pub read_held : (s : DiskState) (a : Address) (x : Option Content) → s.flight ≡ [] → now_of s a ≡ x → s.held a ≡ x
read_held s a x none is = ap (λ (ws : List Write). overlaid s.held ws a) (sym none) ∙ is

-- a fault of a part is the fault of the whole
pub fault_on : {T U : Type 0} (e : LoadStop) (part : Result T HiveFault) (whole : Result U HiveFault)
    → ((f : HiveFault) → part ≡ Err f → whole ≡ Err f) → IsFaultOf e part → IsFaultOf e whole
fault_on (load.Fault f) part whole goes is = goes f is
fault_on load.PowerLost part whole goes is = tt
fault_on load.Device part whole goes is = tt
fault_on load.Memory part whole goes is = tt
