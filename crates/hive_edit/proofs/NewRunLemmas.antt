-- The run of a value of a new name: the old list's bytes, the fields of the value's cell, and the cells in a row.
use Rattle.std.proofs.Common.{◌≡◌, ◌≤◌, ◌<◌, ◌^◌, ℕ, zero, suc, ◌+◌, ◌*◌, List, [], ◌∷◌, ◌++◌, length, get_or, take, Some, refl, sym, ap, subst, ◌∙◌, append_assoc, arith}
use Rattle.std.specs.Option.{IsSome}
use Rattle.std.specs.Int.{w32, from_le_bytes, to_le_bytes}
use Rattle.std.proofs.lemmas.Nat.{le_bytes_4}
use Rattle.std.proofs.lemmas.List.{append-nil}
use Rattle.std.proofs.lemmas.Grind.{flat_map-append}
use Rattle.nt_bytes.specs.declared.version.HiveVersion.{HiveVersion}
use Rattle.hive_model.specs.Bins.{Bin, bins_size}
use Rattle.hive_model.specs.Size.{cell}
use Rattle.hive_model.specs.Tree.{Item}
use Rattle.hive_model.specs.KeyValue.{key_value_text}
use Rattle.hive_model.specs.Lists.{AreOffsets, numbers_in, offsets_text}
use Rattle.hive_model.specs.Packed.{data_place, item_form, data_cells, item_cells, cell_text, text}
use Rattle.hive_model.proofs.Spelling.{length_offsets}
use Rattle.hive_cells.specs.Held.{held_at, IsRun}
use Rattle.hive_pack.proofs.Rows.{space, length_text, space_append, space_value}
use Rattle.key_index.proofs.Runs.{run_is}
use Rattle.hive_edit.specs.NewValue.{added_cells, added_size, ListsThese}
use Rattle.hive_edit.proofs.GoneLemmas.{list_facts, is_held, offsets_few}
use Rattle.hive_look.proofs.ResultLemmas.{some_same}

-- ---- numbers and their bytes

four_bytes : (a b c d : ℕ) → a < 256 → b < 256 → c < 256 → d < 256 → (from_le_bytes w32 (a ∷ b ∷ c ∷ d ∷ []) < 2 ^ 32)
    × (to_le_bytes w32 (from_le_bytes w32 (a ∷ b ∷ c ∷ d ∷ [])) ≡ a ∷ b ∷ c ∷ d ∷ [])
four_bytes a b c d p q r s =
    (omega arith, le_bytes_4 (a ∷ b ∷ c ∷ d ∷ []) (from_le_bytes w32 (a ∷ b ∷ c ∷ d ∷ [])) refl small refl)
  where
    small : (k : ℕ) → get_or (a ∷ b ∷ c ∷ d ∷ []) k 0 < 256
    small zero = p
    small (suc zero) = q
    small (suc (suc zero)) = r
    small (suc (suc (suc zero))) = s
    small (suc (suc (suc (suc k)))) = omega arith

-- numbers that are read of bytes fit their fields, and are spelled as these bytes
pub numbers_spelled : (n : ℕ) (p : List ℕ) → ((k : ℕ) → get_or p k 0 < 256) → 4 * n ≤ length p
    → AreOffsets (numbers_in 4 n p) × (take (4 * n) p ≡ offsets_text (numbers_in 4 n p))
numbers_spelled zero p small long = (tt, refl)
numbers_spelled (suc n) [] small long = absurd (omega (arith, long))
numbers_spelled (suc n) (a ∷ []) small long = absurd (omega (arith, long))
numbers_spelled (suc n) (a ∷ b ∷ []) small long = absurd (omega (arith, long))
numbers_spelled (suc n) (a ∷ b ∷ c ∷ []) small long = absurd (omega (arith, long))
numbers_spelled (suc n) (a ∷ b ∷ c ∷ d ∷ p) small long =
    let rest = numbers_spelled n p (λ k. small (suc (suc (suc (suc k))))) (omega (arith, long)) in
    let one = four_bytes a b c d (small 0) (small 1) (small 2) (small 3) in
    let e : 4 * suc n ≡ suc (suc (suc (suc (4 * n)))) = omega arith in (
      (one.0, rest.0),
      ap (λ (m : ℕ). take m (a ∷ b ∷ c ∷ d ∷ p)) e
          ∙ ap (λ (xs : List ℕ). a ∷ b ∷ c ∷ d ∷ xs) rest.1
          ∙ ap (λ (xs : List ℕ). xs ++ offsets_text (numbers_in 4 n p)) (sym one.1),
    )

-- one more after them
pub more_spelled : (os : List ℕ) (o : ℕ) → offsets_text os ++ to_le_bytes w32 o ≡ offsets_text (os ++ o ∷ [])
more_spelled [] o = sym (append-nil (to_le_bytes w32 o))
more_spelled (x ∷ os) o =
    append_assoc (to_le_bytes w32 x) (offsets_text os) (to_le_bytes w32 o)
    ∙ ap (λ (xs : List ℕ). to_le_bytes w32 x ++ xs) (more_spelled os o)

pub more_fit : (os : List ℕ) (o : ℕ) → AreOffsets os → o < 2 ^ 32 → AreOffsets (os ++ o ∷ [])
more_fit [] o h lt = (lt, tt)
more_fit (x ∷ os) o h lt = (h.0, more_fit os o h.1 lt)

pub more_long : (os : List ℕ) (o : ℕ) → length (os ++ o ∷ []) ≡ suc (length os)
more_long [] o = refl
more_long (x ∷ os) o = let d = more_long os o in omega (arith, d)

-- ---- the old list

-- its list is read where it is held
pub some_listed : (bins : List Bin) (list count : ℕ) (p os : List ℕ) → (count ≡ 0 → ⊥) → held_at bins list ≡ Some p
    → ListsThese bins list count os
    → (4 * count ≤ length p) × (numbers_in 4 count p ≡ os)
some_listed bins list count p os n e l =
    let h = l.there n in
    let f = list_facts bins list count os h in
    let same : h.text ≡ p = some_same h.text p (sym h.there ∙ e) in
    subst (λ (t : List ℕ). (4 * count ≤ length t) × (numbers_in 4 count t ≡ os)) same (f.long, sym f.are)

pub list_held : (bins : List Bin) (list count : ℕ) (os : List ℕ) → ListsThese bins list count os → (count ≡ 0 → ⊥)
    → IsSome (held_at bins list)
list_held bins list count os l n = is_held (held_at bins list) (l.there n).text (l.there n).there

pub listed_few : (bins : List Bin) (list count : ℕ) (os : List ℕ) → ListsThese bins list count os
    → bins_size bins ≤ 16777216 → count ≤ 4194304
listed_few bins list zero os l fits = omega arith
listed_few bins list (suc n) os l fits = offsets_few bins list (suc n) os (l.there (λ e. omega (arith, e))) fits

-- ---- the run

pub added_space : (version : HiveVersion) (place : ℕ) (os : List ℕ) (v : Item)
    → space (added_cells version place os v) ≡ added_size version (length os) v
unfolding added_cells
added_space version place os v =
    let list = offsets_text (os ++ place ∷ []) in
    let n : length list ≡ 4 * suc (length os) =
    length_offsets (os ++ place ∷ []) ∙ ap (λ (k : ℕ). 4 * k) (more_long os place) in
    let c : cell (length list) ≡ cell (4 * suc (length os)) = ap cell n in
    omega (arith, c, space_append (item_cells version place v) (list ∷ []), space_value version place v)

-- the run is its cells
pub record IsAddedRun (version : HiveVersion) (place count : ℕ) (os : List ℕ) (v : Item) (run : List ℕ) : Type 0 where
  pub long : length run ≡ added_size version count v
  pub sound : IsRun run

pub added_run : (version : HiveVersion) (place count : ℕ) (os : List ℕ) (v : Item) (run : List ℕ) → length os ≡ count
    → run ≡ text (added_cells version place os v)
    → place + added_size version count v ≤ 16777216 → IsAddedRun version place count os v run
added_run version place count os v run n e room =
    let ps = added_cells version place os v in
    let long : space ps ≡ added_size version count v =
    added_space version place os v ∙ ap (λ (k : ℕ). added_size version k v) n in
    record {
      long = ap length e ∙ length_text ps ∙ long;
      sound = (run_is run ps e (omega (arith, long, room)) (omega (arith, long))).0;
    }

-- written cell by cell
pub run_written : (version : HiveVersion) (place : ℕ) (os : List ℕ) (v : Item) (one two list : List ℕ)
    → one ≡ text (item_cells version place v) → list ≡ offsets_text (os ++ place ∷ []) → two ≡ one ++ cell_text list
    → two ≡ text (added_cells version place os v)
unfolding added_cells
run_written version place os v one two list o l g =
    let value = item_cells version place v in
    let last = offsets_text (os ++ place ∷ []) in
    g ∙ (λ i. o i ++ cell_text (l i))
    ∙ ap (λ (xs : List ℕ). text value ++ xs) (sym (append-nil (cell_text last)))
    ∙ sym (flat_map-append cell_text value (last ∷ []))

pub value_written : (version : HiveVersion) (at behind : ℕ) (v : Item) (out one two p : List ℕ)
    → p ≡ key_value_text (item_form at v) → one ≡ out ++ cell_text p
    → behind ≡ data_place at v → two ≡ one ++ text (data_cells version behind v.bytes)
    → two ≡ out ++ text (item_cells version at v)
unfolding item_cells
value_written version at behind v out one two p e f d g =
    g ∙ ap (λ (n : ℕ). one ++ text (data_cells version n v.bytes)) d
    ∙ ap (λ (xs : List ℕ). xs ++ text (data_cells version (data_place at v) v.bytes))
    (f ∙ ap (λ (q : List ℕ). out ++ cell_text q) e)
    ∙ append_assoc out (cell_text (key_value_text (item_form at v)))
    (text (data_cells version (data_place at v) v.bytes))

-- how long the longer list is
pub list_long : (os p : List ℕ) (at count : ℕ) → p ≡ offsets_text (os ++ at ∷ []) → length os ≡ count
    → length p ≡ 4 * suc count
list_long os p at count e n =
    ap length e ∙ length_offsets (os ++ at ∷ []) ∙ ap (λ (k : ℕ). 4 * k) (more_long os at ∙ ap suc n)
