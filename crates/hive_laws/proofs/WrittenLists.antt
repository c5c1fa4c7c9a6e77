-- The lists of a key's children that are in sequence are a list as it is written.
use Rattle.std.specs.Prelude.{nat_lt, if◌then◌else◌}
use Rattle.std.proofs.Common.{◌≡◌, ◌<◌, ◌+◌, ◌*◌, ◌==◌, ℕ, zero, suc, Bool, true, false, List, [], ◌∷◌, length, take, drop, refl, ap, subst, ◌∙◌, inl, inr, arith, length-drop, length-take}
use Rattle.std.proofs.lemmas.Bool.{eqb-true, ltb-true, ltb-false}
use Rattle.nt_bytes.specs.declared.version.HiveVersion.{HiveVersion}
use Rattle.nt_bytes.specs.declared.version.HiveVersion.TheVariants.{V3, V5}
use Rattle.hive_model.specs.Size.{cell, part_count}
use Rattle.hive_model.specs.Bins.{Cells}
use Rattle.hive_model.specs.Lists.{AreHints, ri_text}
use Rattle.hive_model.specs.Packed.{list_text, part_places, parts, list_cells}
use Rattle.hive_model.specs.InPlace.{PartsAt, PartedAt, IsPackedList}
use Rattle.hive_model.proofs.Spelling.{length_lf, length_lh, length_ri}
use Rattle.hive_laws.specs.hive_laws.Rows.{InARow}

-- a list takes four bytes, and eight for each child
list_long : (version : HiveVersion) (places : List ℕ) (hints : List (List ℕ)) → length places ≡ length hints
    → AreHints hints
    → length (list_text version places hints) ≡ 4 + 8 * length places
list_long V3 places hints same four = length_lf places hints same four
list_long V5 places hints same four = length_lh places hints same four

hints_take : (n : ℕ) (hints : List (List ℕ)) → AreHints hints → AreHints (take n hints)
hints_take zero hints four = tt
hints_take (suc n) [] four = tt
hints_take (suc n) (h ∷ hs) four = (four.0, hints_take n hs four.1)

hints_drop : (n : ℕ) (hints : List (List ℕ)) → AreHints hints → AreHints (drop n hints)
hints_drop zero hints four = four
hints_drop (suc n) [] four = tt
hints_drop (suc n) (h ∷ hs) four = hints_drop n hs four.1

places_long : (n at : ℕ) → length (part_places n at) ≡ n
places_long zero at = refl
places_long (suc n) at = ap suc (places_long n (at + cell 4004))

-- each list but the last is full, so that its cell has the size of a full one
in_parts : (cells : Cells) (n at : ℕ) (places : List ℕ) (hints : List (List ℕ)) → 500 * n < length places + 500
    → length places ≡ length hints
    → AreHints hints → InARow cells at (parts cells.version n places hints)
    → PartsAt cells (part_places n at) places hints
in_parts cells zero at places hints full same four row = tt
in_parts cells (suc zero) at places hints full same four row = (row.0, tt)
in_parts cells (suc (suc n)) at places hints full same four row =
    let taken : length (take 500 places) ≡ length (take 500 hints) =
    omega (arith, same, length-take 500 places, length-take 500 hints) in
    let long : length (list_text cells.version (take 500 places) (take 500 hints)) ≡ 4004 =
    omega (
      arith,
      full,
      length-take 500 places,
      list_long cells.version (take 500 places) (take 500 hints) taken (hints_take 500 hints four),
    ) in
    let next = subst (λ k. InARow cells (at + cell k) (parts cells.version (suc n) (drop 500 places) (drop 500 hints)))
    long row.1 in (
      row.0,
      in_parts cells (suc n) (at + cell 4004) (drop 500 places) (drop 500 hints)
          (omega (arith, full, length-drop 500 places))
          (omega (arith, same, length-drop 500 places, length-drop 500 hints)) (hints_drop 500 hints four) next,
    )

-- a list of lists and its parts, in sequence, are a parted list
parted : (cells : Cells) (at n : ℕ) (places : List ℕ) (hints : List (List ℕ)) → 500 < length places
    → n ≡ part_count (length places)
    → length places ≡ length hints → AreHints hints
    → InARow cells at (ri_text (part_places n (at + cell (4 + 4 * n))) ∷ parts cells.version n places hints)
    → PartedAt cells at places hints
parted cells at n places hints many number same four row =
    let lists = part_places n (at + cell (4 + 4 * n)) in
    let long : length (ri_text lists) ≡ 4 + 4 * n =
    omega (arith, length_ri lists, places_long n (at + cell (4 + 4 * n))) in
    let next = subst (λ k. InARow cells (at + cell k) (parts cells.version n places hints)) long row.1 in
    record {
      many = many;
      lists = lists;
      number = places_long n (at + cell (4 + 4 * n)) ∙ number;
      whole = row.0;
      parts = in_parts cells n (at + cell (4 + 4 * n)) places hints (omega (arith, number)) same four next;
    }

-- a key's lists as they are packed: one list, or a list of lists with full ones and a rest
pub packed_list : (cells : Cells) (at : ℕ) (places : List ℕ) (hints : List (List ℕ)) → 0 < length places
    → length places ≡ length hints → AreHints hints
    → InARow cells at (list_cells cells.version at places hints) → IsPackedList cells at places hints
unfolding list_cells
packed_list cells at places hints some same four row =
    let lists = part_count (length places) in
    let here : (empty few : Bool) → (length places == 0) ≡ empty → nat_lt (length places) 501 ≡ few
    → InARow cells at (if empty then [] else if few then list_text cells.version places hints ∷ []
    else ri_text (part_places lists (at + cell (4 + 4 * lists))) ∷ parts cells.version lists places hints)
    → IsPackedList cells at places hints =
    elim [
      | true ↦ λ few none. absurd (omega (arith, some, eqb-true _ _ none))
      | false ↦ elim [
        | true ↦ λ e less row. inl
            (record { some = some; few = (let l = ltb-true _ _ less in omega (arith, l)); whole = row.0 })
        | false ↦ λ e more row. (let l = ltb-false _ _ more in
            inr (parted cells at lists places hints (omega (arith, l)) refl same four row))
      ]
    ] in
    here (length places == 0) (nat_lt (length places) 501) refl refl row
