-- Lists that stand as they are written.
use Rattle.std.proofs.Common.{◌≡◌, ◌≤◌, ◌<◌, ℕ, zero, suc, ◌+◌, ◌*◌, ◌-◌, true, false, eqb, List, ◌∷◌, [], length, take, drop, Some, None, Ok, ◌⊎◌, inl, inr, refl, ap, ◌∙◌, sym, arith}
use Rattle.std.specs.Prelude.{nat_lt, min}
use lib.ListN.{replicate}
use Rattle.std.proofs.lemmas.Bool.{ne_eqb, le-ltb, lt-ltb, cases_lt}
use Rattle.std.proofs.lemmas.List.{length-take, length-drop, length-map}
use Rattle.nt_bytes.specs.declared.version.HiveVersion.{HiveVersion}
use Rattle.hive_model.specs.Size.{cell, part_count}
use Rattle.hive_model.specs.Bins.{Bin, Cells, look_up}
use Rattle.hive_model.specs.Lists.{AreHints, ri_text}
use Rattle.hive_model.specs.Packed.{filled, part_places, list_text, parts, list_cells}
use Rattle.hive_model.specs.InPlace.{BeginsWith, PartsAt, IsPackedList}
use Rattle.hive_model.proofs.Spelling.{length_ri}
use Rattle.hive_pack.proofs.Rows.{hints_take, hints_drop, length_list_text, length_part_places}
use Rattle.hive_pack.proofs.Found.{Has, has_next}
use Rattle.hive_cells.specs.Held.{held_at}
use Rattle.hive_cells.proofs.HeldLemmas.{held_payload}
use Rattle.key_index.specs.Lists.{hint_in, hints_in}
use Rattle.key_index.specs.Relists.{AreRelisted}
use Rattle.key_index.proofs.Runs.{has_held, hints_four}

begins : (cells : Cells) (at : ℕ) (p : List ℕ) → cells.payload at ≡ Ok (filled p) → BeginsWith cells at p
unfolding filled
begins cells at p h = record { rest = replicate (cell (length p) - 4 - length p) 0; payload = h }

-- the lists of a list of lists
parts_at : (cells : Cells) (k n at : ℕ) (os : List ℕ) (hs : List (List ℕ)) → length os ≡ n → length os ≡ length hs
    → AreHints hs → part_count n ≡ k → Has cells at (parts cells.version k os hs)
    → PartsAt cells (part_places k at) os hs
parts_at cells zero n at os hs l e g p has = tt
parts_at cells (suc zero) n at os hs l e g p has =
    (begins cells at (list_text cells.version (take 500 os) (take 500 hs)) has.0, tt)
parts_at cells (suc (suc k)) n at os hs l e g p has =
    let first = list_text cells.version (take 500 os) (take 500 hs) in
    let later = parts cells.version (suc k) (drop 500 os) (drop 500 hs) in
    let same : length (take 500 os) ≡ length (take 500 hs) = omega (arith, length-take 500 os, length-take 500 hs) in
    let len : length first ≡ 4 + 8 * min 500 n =
    length_list_text cells.version (take 500 os) (take 500 hs) same (hints_take 500 hs g)
    ∙ omega (arith, length-take 500 os) in
    let full : length first ≡ 4004 = len ∙ omega arith in (
      begins cells at first has.0,
      parts_at cells (suc k) (n - 500) (at + cell 4004) (drop 500 os) (drop 500 hs) (length-drop 500 os ∙ omega arith)
          (omega (arith, length-drop 500 os, length-drop 500 hs)) (hints_drop 500 hs g) (omega arith)
          (has_next cells at 4004 first later full has),
    )

has_packed : (cells : Cells) (at : ℕ) (os : List ℕ) (hs : List (List ℕ))
    → Has cells at (list_cells cells.version at os hs)
    → 0 < length os → length os ≡ length hs → AreHints hs → IsPackedList cells at os hs
unfolding list_cells
has_packed cells at os hs has some e g = go (cases_lt (length os) 501)
  where
    n : ℕ
    n = length os

    not_none : eqb (length os) 0 ≡ false
    not_none = ne_eqb (length os) 0 (λ z. omega arith)

    go : (n < 501) ⊎ (501 ≤ n) → IsPackedList cells at os hs
    go (inl few) =
        let one : nat_lt (length os) 501 ≡ true = lt-ltb (length os) 501 few in
        let here : Has cells at (list_text cells.version os hs ∷ []) = rw (not_none, one) at has in
        inl (record {
          some = some;
          few = omega (arith, few);
          whole = begins cells at (list_text cells.version os hs) here.0;
        })
    go (inr many) =
        let lists : nat_lt (length os) 501 ≡ false = le-ltb (length os) 501 many in
        let first = at + cell (4 + 4 * part_count (length os)) in
        let starts = part_places (part_count (length os)) first in
        let here : Has cells at (ri_text starts ∷ parts cells.version (part_count (length os)) os hs) =
        rw (not_none, lists) at has in
        let k : length starts ≡ part_count (length os) = length_part_places (part_count (length os)) first in
        let back = has_next cells at (4 + 4 * part_count (length os)) (ri_text starts)
        (parts cells.version (part_count (length os)) os hs) (length_ri starts ∙ ap (λ x. 4 + 4 * x) k) here in
        inr (record {
          many = omega (arith, many);
          lists = starts;
          number = k;
          whole = begins cells at (ri_text starts) here.0;
          parts = parts_at cells (part_count (length os)) (length os) first os hs refl e g refl back;
        })

-- lists that were written again are so in later bins that hold what was new of theirs
pub relisted_packed : (version : HiveVersion) (gone offsets : List ℕ) (cells : Cells) (old new later : List Bin) (at : ℕ)
    → AreRelisted version gone offsets (hints_in cells offsets) old new at → 0 < length offsets
    → ((o : ℕ) (p : List ℕ) → held_at new o ≡ Some p → held_at old o ≡ None → held_at later o ≡ Some p)
    → IsPackedList (look_up version later) at offsets (hints_in cells offsets)
relisted_packed version gone offsets cells old new later at a some kept =
    let hints = hints_in cells offsets in
    has_packed (look_up version later) at offsets hints
    (has_held (look_up version later) at (list_cells version at offsets hints)
    (λ o p h. let r = a.run o p h in held_payload later o p (kept o p r.0 r.1)))
    some (sym (length-map offsets (hint_in cells))) (hints_four cells offsets)
