-- The children of a key are named by its packed lists.
use Rattle.std.proofs.Common.{◌≡◌, ◌≤◌, ◌<◌, ℕ, zero, suc, ◌+◌, ◌*◌, ◌-◌, ◌^◌, true, false, eqb, List, [], ◌∷◌, ◌++◌, length, take, drop, min, ◌⊎◌, inl, inr, Ok, refl, sym, ap, ◌∙◌, arith}
use Rattle.std.specs.Prelude.{nat_lt}
use Rattle.std.proofs.lemmas.Bool.{ne_eqb, le-ltb, lt-ltb, cases_lt}
use Rattle.std.proofs.lemmas.List.{append-nil, length-take, length-drop, take-append-drop}
use Rattle.nt_bytes.specs.declared.version.HiveVersion.{HiveVersion}
use Rattle.nt_bytes.specs.declared.version.HiveVersion.TheVariants.{V3, V5}
use Rattle.hive_model.specs.Size.{cell, part_count, list_size}
use Rattle.hive_model.specs.Bins.{Cells}
use Rattle.hive_model.specs.KeyNode.{KeyNode}
use Rattle.hive_model.specs.Lists.{ListKind, Lf, Lh, Ri, AreOffsets, AreHints, list_at, ri_text}
use Rattle.hive_model.specs.Walk.{reading, is_list_of_lists, leaf_at, joined_at, entries_at}
use Rattle.hive_model.specs.Stands.{ListsChildren}
use Rattle.hive_model.specs.Packed.{part_places, list_text, parts, list_cells, place_of_some}
use Rattle.hive_model.proofs.Spelling.{lf_again, lh_again, ri_again, length_ri}
use Rattle.hive_pack.proofs.Rows.{length_list_text, length_part_places, hints_take, hints_drop, many_lists}
use Rattle.hive_pack.proofs.Found.{Has, has_next, reads_in}
use Rattle.hive_pack.proofs.Items.{no_bytes}

offsets_take : (n : ℕ) (os : List ℕ) → AreOffsets os → AreOffsets (take n os)
offsets_take zero os f = tt
offsets_take (suc n) [] f = tt
offsets_take (suc n) (o ∷ os) f = (f.0, offsets_take n os f.1)

offsets_drop : (n : ℕ) (os : List ℕ) → AreOffsets os → AreOffsets (drop n os)
offsets_drop zero os f = f
offsets_drop (suc n) [] f = tt
offsets_drop (suc n) (o ∷ os) f = offsets_drop n os f.1

-- the kind of the lists that a version writes
abbrev pub written_kind : HiveVersion → ListKind
written_kind V3 = Lf
written_kind V5 = Lh

-- a written list is read, whatever fills its cell
list_again : (version : HiveVersion) (os : List ℕ) (hs : List (List ℕ)) (slack : List ℕ) → length os ≡ length hs
    → length os ≤ 500
    → AreOffsets os → AreHints hs
    → list_at (list_text version os hs ++ slack) ≡ Ok (record { kind = written_kind version; offsets = os })
list_again V3 os hs slack e few f g = lf_again os hs slack e (omega arith) f g
list_again V5 os hs slack e few f g = lh_again os hs slack e (omega arith) f g

-- and it is no list of lists
leaf_again : (version : HiveVersion) (os : List ℕ) (hs : List (List ℕ)) (slack : List ℕ) → length os ≡ length hs
    → length os ≤ 500
    → AreOffsets os → AreHints hs
    → leaf_at (list_text version os hs ++ slack) ≡ Ok os
unfolding leaf_at
leaf_again V3 os hs slack e few f g = rw (list_again V3 os hs slack e few f g) refl
leaf_again V5 os hs slack e few f g = rw (list_again V5 os hs slack e few f g) refl

-- in neither version
pub no_lists : (version : HiveVersion) → is_list_of_lists (written_kind version) ≡ false
no_lists V3 = refl
no_lists V5 = refl

-- one list
leaf_read : (cells : Cells) (at : ℕ) (os : List ℕ) (hs : List (List ℕ)) (later : List (List ℕ))
    → Has cells at (list_text cells.version os hs ∷ later) → length os ≡ length hs → length os ≤ 500 → AreOffsets os
    → AreHints hs
    → reading leaf_at cells at ≡ Ok os
leaf_read cells at os hs later has e few f g =
    reads_in leaf_at cells at (list_text cells.version os hs) os has.0
    (λ slack. leaf_again cells.version os hs slack e few f g)

take_all : (os : List ℕ) → length os ≤ 500 → take 500 os ≡ os
take_all os h = go (cases os)
  where
    go : drop 500 os ≡ [] → take 500 os ≡ os
    go d = sym (append-nil (take 500 os)) ∙ ap (λ (x : List ℕ). take 500 os ++ x) (sym d) ∙ take-append-drop 500 os

    cases : (xs : List ℕ) → drop 500 os ≡ []
    cases xs = no_bytes 0 (drop 500 os) (length-drop 500 os ∙ omega arith) refl

-- one list, and the rest where it is full
part_then : (cells : Cells) (k n at : ℕ) (os : List ℕ) → length os ≡ n → part_count n ≡ suc k
    → reading leaf_at cells at ≡ Ok (take 500 os)
    → (500 < n → joined_at cells (part_places k (at + cell 4004)) ≡ Ok (drop 500 os))
    → joined_at cells (part_places (suc k) at) ≡ Ok os
part_then cells k n at os l p one rest = go (cases_lt 500 n)
  where
    go : (500 < n) ⊎ (n ≤ 500) → joined_at cells (part_places (suc k) at) ≡ Ok os
    go (inl many) = rw (one, rest many) (ap (λ (x : List ℕ). Ok x) (take-append-drop 500 os))
    go (inr few) =
        let last : k ≡ 0 = omega arith in
        let none_left : joined_at cells (part_places k (at + cell 4004)) ≡ Ok [] =
        ap (λ (m : ℕ). joined_at cells (part_places m (at + cell 4004))) last in
        rw (one, none_left) (ap (λ (x : List ℕ). Ok x) (append-nil (take 500 os) ∙ take_all os (omega arith)))

-- the lists of a list of lists
parts_read : (cells : Cells) (k n at : ℕ) (os : List ℕ) (hs : List (List ℕ)) → length os ≡ n → length os ≡ length hs
    → AreOffsets os → AreHints hs → part_count n ≡ k → Has cells at (parts cells.version k os hs)
    → joined_at cells (part_places k at) ≡ Ok os
parts_read cells zero n at os hs l e f g p has = ap (λ (x : List ℕ). Ok x) (sym (no_bytes n os l (omega arith)))
parts_read cells (suc k) n at os hs l e f g p has =
    let first = list_text cells.version (take 500 os) (take 500 hs) in
    let later = parts cells.version k (drop 500 os) (drop 500 hs) in
    let same : length (take 500 os) ≡ length (take 500 hs) = omega (arith, length-take 500 os, length-take 500 hs) in
    let few : length (take 500 os) ≤ 500 = omega (arith, length-take 500 os) in
    let len : length first ≡ 4 + 8 * min 500 n =
    length_list_text cells.version (take 500 os) (take 500 hs) same (hints_take 500 hs g)
    ∙ omega (arith, length-take 500 os) in
    part_then cells k n at os l p
    (leaf_read cells at (take 500 os) (take 500 hs) later has same few (offsets_take 500 os f)
    (hints_take 500 hs g))
    (λ many.
    let full : length first ≡ 4004 = len ∙ omega arith in
    parts_read cells k (n - 500) (at + cell 4004) (drop 500 os) (drop 500 hs) (length-drop 500 os ∙ omega arith)
    (omega (arith, length-drop 500 os, length-drop 500 hs)) (offsets_drop 500 os f) (hints_drop 500 hs g)
    (omega arith)
    (has_next cells at 4004 first later full has))

starts_fit : (k at : ℕ) → at + 4008 * k < 2 ^ 32 → AreOffsets (part_places k at)
starts_fit zero at h = tt
starts_fit (suc k) at h = (omega arith, starts_fit k (at + cell 4004) (omega arith))

-- one list is read
pub list_read : (cells : Cells) (at : ℕ) (os : List ℕ) (hs : List (List ℕ))
    → Has cells at (list_cells cells.version at os hs)
    → 0 < length os → length os < 501 → length os ≡ length hs → AreOffsets os → AreHints hs
    → reading list_at cells at ≡ Ok (record { kind = written_kind cells.version; offsets = os })
unfolding list_cells
list_read cells at os hs has some few e f g =
    let not_none : eqb (length os) 0 ≡ false = ne_eqb (length os) 0 (λ z. omega arith) in
    let one : nat_lt (length os) 501 ≡ true = lt-ltb (length os) 501 few in
    let here : Has cells at (list_text cells.version os hs ∷ []) = rw (not_none, one) at has in
    reads_in list_at cells at (list_text cells.version os hs) _ here.0
    (λ slack. list_again cells.version os hs slack e (omega arith) f g)

-- a list of lists is read
pub lists_read : (cells : Cells) (at : ℕ) (os : List ℕ) (hs : List (List ℕ))
    → Has cells at (list_cells cells.version at os hs)
    → 501 ≤ length os → at + list_size (length os) ≤ 16777216
    → reading list_at cells at
    ≡ Ok (record {
      kind = Ri;
      offsets = part_places (part_count (length os)) (at + cell (4 + 4 * part_count (length os)));
    })
unfolding list_cells
lists_read cells at os hs has many le =
    let not_none : eqb (length os) 0 ≡ false = ne_eqb (length os) 0 (λ z. omega arith) in
    let lists : nat_lt (length os) 501 ≡ false = le-ltb (length os) 501 many in
    let first = at + cell (4 + 4 * part_count (length os)) in
    let starts = part_places (part_count (length os)) first in
    let here : Has cells at (ri_text starts ∷ parts cells.version (part_count (length os)) os hs) =
    rw (not_none, lists) at has in
    let k : length starts ≡ part_count (length os) = length_part_places (part_count (length os)) first in
    let size = many_lists (length os) many in
    reads_in list_at cells at (ri_text starts) _ here.0
    (λ slack. ri_again starts slack (omega (arith, k, size))
    (starts_fit (part_count (length os)) first (omega (arith, size))))

pub entries_read : (cells : Cells) (at : ℕ) (os : List ℕ) (hs : List (List ℕ))
    → Has cells at (list_cells cells.version at os hs)
    → 0 < length os → length os ≡ length hs → AreOffsets os → AreHints hs → at + list_size (length os) ≤ 16777216
    → entries_at cells at ≡ Ok os
unfolding list_cells entries_at
entries_read cells at os hs has some e f g le = go (cases_lt (length os) 501)
  where
    n : ℕ
    n = length os

    not_none : eqb (length os) 0 ≡ false
    not_none = ne_eqb (length os) 0 (λ z. omega arith)

    go : (n < 501) ⊎ (501 ≤ n) → entries_at cells at ≡ Ok os
    go (inl few) =
        let one : nat_lt (length os) 501 ≡ true = lt-ltb (length os) 501 few in
        let here : Has cells at (list_text cells.version os hs ∷ []) = rw (not_none, one) at has in
        let read : reading list_at cells at ≡ Ok (record { kind = written_kind cells.version; offsets = os }) =
        reads_in list_at cells at (list_text cells.version os hs) _ here.0
        (λ slack. list_again cells.version os hs slack e (omega arith) f g) in
        rw (read, no_lists cells.version) refl
    go (inr many) =
        let lists : nat_lt (length os) 501 ≡ false = le-ltb (length os) 501 many in
        let first = at + cell (4 + 4 * part_count (length os)) in
        let starts = part_places (part_count (length os)) first in
        let here : Has cells at (ri_text starts ∷ parts cells.version (part_count (length os)) os hs) =
        rw (not_none, lists) at has in
        let k : length starts ≡ part_count (length os) = length_part_places (part_count (length os)) first in
        let size = many_lists (length os) many in
        let read : reading list_at cells at ≡ Ok (record { kind = Ri; offsets = starts }) =
        reads_in list_at cells at (ri_text starts) _ here.0
        (λ slack. ri_again starts slack (omega (arith, k, size))
        (starts_fit (part_count (length os)) first (omega (arith, size)))) in
        let back = has_next cells at (4 + 4 * part_count (length os)) (ri_text starts)
        (parts cells.version (part_count (length os)) os hs) (length_ri starts ∙ ap (λ x. 4 + 4 * x) k) here in
        rw read (parts_read cells (part_count (length os)) (length os) first os hs refl e f g refl back)

pub children_named : (cells : Cells) (node : KeyNode) (at : ℕ) (os : List ℕ) (hs : List (List ℕ))
    → Has cells at (list_cells cells.version at os hs) → node.child_count ≡ length os
    → node.child_list ≡ place_of_some (length os) at
    → length os ≡ length hs → AreOffsets os → AreHints hs → at + list_size (length os) ≤ 16777216
    → ListsChildren cells node os
children_named cells node at [] hs has c l e f g le = rw c refl
children_named cells node at (o ∷ os) hs has c l e f g le =
    let some : eqb (length (o ∷ os)) 0 ≡ false = ne_eqb _ _ (λ z. omega arith) in
    let place : node.child_list ≡ at = l ∙ rw some refl in
    rw (c, some, place) (entries_read cells at (o ∷ os) hs has (omega arith) e f g le, refl)
