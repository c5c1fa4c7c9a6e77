-- Walks over the checks of big data.
use Rattle.std.proofs.Common.{◌≡◌, ℕ, ◌-◌, ◌≤◌, false, List, [], ◌∷◌, length, get_or, arith, ◌++◌, Ok, Err, refl, sym, ap, ◌∙◌, append_assoc}
use Rattle.nt_bytes.specs.declared.fault.HiveFault.{HiveFault}
use Rattle.hive_model.specs.Forms.{bytes_in}
use Rattle.hive_model.specs.BigData.{BigData}
use Rattle.hive_model.specs.Lists.{offsets_in}
use Rattle.hive_model.specs.Size.{segment_bytes, segment_part}
use Rattle.hive_model.specs.Bins.{Cells}
use Rattle.hive_model.specs.Walk.{Check, reading, below_of, use_as, big_data_of, segments_checks, big_checks}
use Rattle.hive_model.specs.Stands.{joined_segments, big_bytes_at}
use Rattle.hive_read.specs.Walked.{Seen, walk}
use Rattle.hive_read.proofs.Walks.{walk-on, walk-off, walk-below}

-- ---- segments

-- the walk over segments ends where the first one has a fault, and goes on after it where it has none
pub segments-off : (cells : Cells) (seen : Seen) (n : ℕ) (offsets : List ℕ) (f : HiveFault) → 1 ≤ length offsets
    → walk cells seen (use_as false (bytes_in (segment_part n)) cells (get_or offsets 0 0)) ≡ Err f
    → walk cells seen (segments_checks cells n offsets) ≡ Err f
segments-off cells seen n [] f l e = absurd (omega arith)
segments-off cells seen n (at ∷ rest) f l e =
    walk-off cells seen (use_as false (bytes_in (segment_part n)) cells at)
    (segments_checks cells (n - segment_bytes) rest) f e

pub segments-on : (cells : Cells) (seen after : Seen) (n : ℕ) (offsets : List ℕ) (at : ℕ) (rest : List ℕ)
    → offsets ≡ at ∷ rest
    → walk cells seen (use_as false (bytes_in (segment_part n)) cells at) ≡ Ok after
    → walk cells seen (segments_checks cells n offsets)
    ≡ walk cells after (segments_checks cells (n - segment_bytes) rest)
segments-on cells seen after n offsets at rest o e =
    ap (λ xs. walk cells seen (segments_checks cells n xs)) o
    ∙ walk-on cells seen after (use_as false (bytes_in (segment_part n)) cells at)
    (segments_checks cells (n - segment_bytes) rest) e

-- what completes the rest completes the whole
pub segments-one : (cells : Cells) (n size : ℕ) (offsets rest whole : List ℕ) (at : ℕ) (bytes part : List ℕ)
    → offsets ≡ at ∷ rest
    → reading (bytes_in (segment_part n)) cells at ≡ Ok part
    → ((more : List ℕ) → joined_segments cells n offsets ≡ Ok more
    → joined_segments cells size whole ≡ Ok (bytes ++ more))
    → (more : List ℕ) → joined_segments cells (n - segment_bytes) rest ≡ Ok more
    → joined_segments cells size whole ≡ Ok ((bytes ++ part) ++ more)
segments-one cells n size offsets rest whole at bytes part o s h more r =
    h (part ++ more) (rw o (rw (s, r) refl)) ∙ ap (λ i. Ok i) (sym (append_assoc bytes part more))

-- ---- the cell and the list

-- the list of big data's segments, and the segments
abbrev pub listed_segments : Cells → ℕ → BigData → List Check
listed_segments cells n big =
    use_as false (offsets_in big.segments) cells big.list
    ++ below_of (reading (offsets_in big.segments) cells big.list) (segments_checks cells n)

-- big data has the fault of its own cell first, then that of its list, then those of its segments
pub big-off : (cells : Cells) (seen : Seen) (n at : ℕ) (f : HiveFault)
    → walk cells seen (use_as false (big_data_of n) cells at) ≡ Err f → walk cells seen (big_checks cells n at) ≡ Err f
unfolding big_checks
big-off cells seen n at f e =
    walk-off cells seen (use_as false (big_data_of n) cells at)
    (below_of (reading (big_data_of n) cells at) (listed_segments cells n)) f e

pub big-unlisted : (cells : Cells) (seen after : Seen) (n at : ℕ) (big : BigData) (f : HiveFault)
    → walk cells seen (use_as false (big_data_of n) cells at) ≡ Ok after → reading (big_data_of n) cells at ≡ Ok big
    → walk cells after (use_as false (offsets_in big.segments) cells big.list) ≡ Err f
    → walk cells seen (big_checks cells n at) ≡ Err f
unfolding big_checks
big-unlisted cells seen after n at big f e r s =
    walk-below cells seen after (use_as false (big_data_of n) cells at) (reading (big_data_of n) cells at)
    (listed_segments cells n) big e r
    ∙ walk-off cells after (use_as false (offsets_in big.segments) cells big.list)
    (below_of (reading (offsets_in big.segments) cells big.list) (segments_checks cells n)) f s

-- where both stand, the walk goes on over the segments, whose bytes are its bytes
pub big-on : (cells : Cells) (seen after next : Seen) (n at : ℕ) (big : BigData) (offsets : List ℕ)
    → walk cells seen (use_as false (big_data_of n) cells at) ≡ Ok after → reading (big_data_of n) cells at ≡ Ok big
    → walk cells after (use_as false (offsets_in big.segments) cells big.list) ≡ Ok next
    → reading (offsets_in big.segments) cells big.list ≡ Ok offsets
    → (walk cells seen (big_checks cells n at) ≡ walk cells next (segments_checks cells n offsets))
    × (big_bytes_at cells n at ≡ joined_segments cells n offsets)
unfolding big_checks big_bytes_at
big-on cells seen after next n at big offsets e r d o = (
  walk-below cells seen after (use_as false (big_data_of n) cells at) (reading (big_data_of n) cells at)
      (listed_segments cells n) big e r
      ∙ walk-below cells after next (use_as false (offsets_in big.segments) cells big.list)
      (reading (offsets_in big.segments) cells big.list) (segments_checks cells n) offsets d o,
  rw (r, o) refl,
)
