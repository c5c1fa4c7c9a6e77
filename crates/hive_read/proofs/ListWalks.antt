-- Walks over the checks of subkey lists.
use Rattle.std.proofs.Common.{◌≡◌, ℕ, ◌≤◌, length, get_or, arith, true, false, List, [], ◌∷◌, ◌++◌, Ok, Err, refl, sym, ap, ◌∙◌, append_assoc}
use Rattle.std.specs.Prelude.{if◌then◌else◌}
use Rattle.nt_bytes.specs.declared.fault.HiveFault.{HiveFault}
use Rattle.nt_bytes.specs.Reading.{◌>>=◌}
use Rattle.hive_model.specs.Lists.{SubkeyList, list_at}
use Rattle.hive_model.specs.Bins.{Cells}
use Rattle.hive_model.specs.Walk.{Check, reading, below_of, use_as, is_list_of_lists, leaf_at, joined_at, entries_of, entries_at, leaves_checks, entries_checks}
use Rattle.hive_read.specs.Walked.{Seen, walk}
use Rattle.hive_read.proofs.Walks.{walk-on, walk-off, walk-below}

-- the walk over leaves ends where one can't be read, and goes on after one that can
pub leaves-off : (cells : Cells) (seen : Seen) (lists : List ℕ) (f : HiveFault) → 1 ≤ length lists
    → walk cells seen (use_as false leaf_at cells (get_or lists 0 0)) ≡ Err f
    → walk cells seen (leaves_checks cells lists) ≡ Err f
leaves-off cells seen [] f n e = absurd (omega arith)
leaves-off cells seen (at ∷ rest) f n e =
    walk-off cells seen (use_as false leaf_at cells at) (leaves_checks cells rest) f e

pub leaves-on : (cells : Cells) (seen after : Seen) (lists : List ℕ) (at : ℕ) (rest : List ℕ) → lists ≡ at ∷ rest
    → walk cells seen (use_as false leaf_at cells at) ≡ Ok after
    → walk cells seen (leaves_checks cells lists) ≡ walk cells after (leaves_checks cells rest)
leaves-on cells seen after lists at rest o e =
    ap (λ xs. walk cells seen (leaves_checks cells xs)) o
    ∙ walk-on cells seen after (use_as false leaf_at cells at) (leaves_checks cells rest) e

-- what completes the rest completes the whole
pub joined-one : (cells : Cells) (lists rest whole : List ℕ) (at : ℕ) (all leaf : List ℕ) → lists ≡ at ∷ rest
    → reading leaf_at cells at ≡ Ok leaf
    → ((more : List ℕ) → joined_at cells lists ≡ Ok more → joined_at cells whole ≡ Ok (all ++ more))
    → (more : List ℕ) → joined_at cells rest ≡ Ok more → joined_at cells whole ≡ Ok ((all ++ leaf) ++ more)
joined-one cells lists rest whole at all leaf o s h more r =
    h (leaf ++ more) (rw o (rw (s, r) refl)) ∙ ap (λ xs. Ok xs) (sym (append_assoc all leaf more))

abbrev leaves_of : Cells → SubkeyList → List Check
leaves_of cells list = if is_list_of_lists list.kind then leaves_checks cells list.offsets else []

-- a list that can't be read ends the walk
pub entries-off : (cells : Cells) (seen : Seen) (at : ℕ) (f : HiveFault)
    → walk cells seen (use_as false list_at cells at) ≡ Err f → walk cells seen (entries_checks cells at) ≡ Err f
unfolding entries_checks
entries-off cells seen at f e =
    walk-off cells seen (use_as false list_at cells at) (below_of (reading list_at cells at) (leaves_of cells)) f e

-- a leaf has its offsets itself, and a list of lists those of its leaves, in order
pub entries-own : (cells : Cells) (seen after : Seen) (at : ℕ) (list : SubkeyList)
    → walk cells seen (use_as false list_at cells at) ≡ Ok after → reading list_at cells at ≡ Ok list
    → is_list_of_lists list.kind ≡ false
    → (walk cells seen (entries_checks cells at) ≡ Ok after) × (entries_at cells at ≡ Ok list.offsets)
unfolding entries_checks entries_at
entries-own cells seen after at list e r k = (
  walk-below cells seen after (use_as false list_at cells at) (reading list_at cells at) (leaves_of cells) list e r
      ∙ rw k refl,
  ap (λ q. q >>= entries_of cells) r ∙ rw k refl,
)

pub entries-lists : (cells : Cells) (seen after : Seen) (at : ℕ) (list : SubkeyList)
    → walk cells seen (use_as false list_at cells at) ≡ Ok after → reading list_at cells at ≡ Ok list
    → is_list_of_lists list.kind ≡ true
    → (walk cells seen (entries_checks cells at) ≡ walk cells after (leaves_checks cells list.offsets))
    × (entries_at cells at ≡ joined_at cells list.offsets)
unfolding entries_checks entries_at
entries-lists cells seen after at list e r k = (
  walk-below cells seen after (use_as false list_at cells at) (reading list_at cells at) (leaves_of cells) list e r
      ∙ rw k refl,
  ap (λ q. q >>= entries_of cells) r ∙ rw k refl,
)
