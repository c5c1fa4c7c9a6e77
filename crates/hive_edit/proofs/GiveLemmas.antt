-- Other data for a value that is there, as they are read back.
use Rattle.std.proofs.Common.{◌≡◌, ◌≤◌, ◌<◌, inl, inr, ℕ, zero, suc, ◌+◌, ◌-◌, ◌*◌, Bool, true, false, eqb, cond, List, [], ◌∷◌, length, get_or, map, take, Option, Some, None, refl, sym, ap, subst, ◌∙◌, arith}
use Rattle.std.specs.Prelude.{nat_lt}
use Rattle.std.specs.Option.{IsSome, IsSomeAnd, option_map}
use Rattle.std.specs.Int.{w32, from_le_bytes, to_le_bytes}
use Rattle.std.specs.List.{All, Contains}
use Rattle.std.proofs.lemmas.Bool.{ne_eqb, lt-ltb, le-ltb, lt-leb}
use Rattle.nt_bytes.specs.declared.version.HiveVersion.{HiveVersion}
use Rattle.hive_model.specs.Bins.{Cell, Bin, Cells, cells_size, bins_size, look_up, or_else}
use Rattle.hive_model.specs.Size.{cell, is_big, segment_count, segment_sizes, cells_sum, data_size}
use Rattle.hive_model.specs.Forms.{bytes_in}
use Rattle.hive_model.specs.KeyValue.{KeyValue, data_inside}
use Rattle.hive_model.specs.Packed.{allocated_cell, data_cells, segment_places, big_cells, text}
use Rattle.hive_model.specs.Walk.{reading, big_checks, data_checks}
use Rattle.hive_model.specs.Footprint.{used_in}
use Rattle.hive_model.specs.Stands.{big_bytes_at, data_of}
use Rattle.hive_model.proofs.Spelling.{bytes_again}
use Rattle.hive_cells.specs.Held.{held_at, held_among, patched, run_cells, IsRun}
use Rattle.hive_cells.specs.Holes.{new_bin_size}
use Rattle.hive_cells.proofs.HeldLemmas.{held_payload}
use Rattle.hive_pack.proofs.Rows.{space, length_text, space_data, segments_room}
use Rattle.hive_pack.proofs.Found.{Has, reads_in}
use Rattle.hive_pack.proofs.Items.{BigStands, big_stands}
use Rattle.key_index.proofs.Runs.{among_from, has_held, run_is, none_some}
use Rattle.edited_cells.specs.Owned.{In}
use Rattle.edited_cells.specs.Pairs.{Pairwise}
use Rattle.edited_cells.proofs.FromCells.{data_held_inside, data_in_cell, data_in_segments}
use Rattle.hive_edit.specs.Edits.{value_fields}
use Rattle.hive_edit.specs.Given.{with_fields, IsGiven}
use Rattle.hive_edit.specs.Runs.{IsRunPutAt}
use Rattle.hive_look.proofs.ResultLemmas.{done}
use Rattle.hive_edit.proofs.InPlaceLemmas.{inside_size, inside_again, inside_data}
use Rattle.hive_look.proofs.DataLemmas.{big_used}
use Rattle.hive_pack.proofs.Whole.{used_size}

-- ---- a run of data

-- data of over four bytes are read in the cells that they were written to, and use these
pub record IsDataRun (c : Cells) (place : ℕ) (bytes : List ℕ) : Type 0 where
  pub cells : List ℕ
  pub reads : (value : KeyValue) (kind : ℕ) → data_of c (with_fields value (length bytes) place kind) ≡ done bytes
  pub used : (value : KeyValue) (kind : ℕ)
      → used_in (data_checks c (with_fields value (length bytes) place kind)) ≡ cells
  pub within : (o : ℕ) → In cells o → (place ≤ o) × (o < place + data_size c.version bytes)
  pub once : Pairwise (λ p q. p ≡ q → ⊥) cells

segments_within : (k at o : ℕ) → In (segment_places k at) o → (at ≤ o) × (o + 16352 ≤ at + 16352 * k)
segments_within zero at o i = absurd i
segments_within (suc k) at o (inl e) = (omega (arith, e), omega (arith, e))
segments_within (suc k) at o (inr i) = let r = segments_within k (at + cell 16344) o i in
    (omega (arith, r.0), omega (arith, r.1))

segments_once : (k at : ℕ) → Pairwise (λ p q. p ≡ q → ⊥) (segment_places k at)
segments_once zero at = tt
segments_once (suc k) at = (
  λ y i e. let r = segments_within k (at + cell 16344) y i in
      absurd (omega (arith, r.0, e)),
  segments_once k (at + cell 16344),
)

bytes_stand : (c : Cells) (at k : ℕ) (bytes : List ℕ) → BigStands c at k bytes
    → big_bytes_at c (length bytes) at ≡ done bytes
unfolding big_bytes_at
bytes_stand c at k bytes stands = rw (stands.big, stands.list, stands.segments) refl

pub data_run_stands : (c : Cells) (place : ℕ) (bytes : List ℕ) → 4 < length bytes → length bytes ≤ 1048576
    → place + data_size c.version bytes ≤ 16777216
    → Has c place (data_cells c.version place bytes) → IsDataRun c place bytes
data_run_stands c place bytes long few room has = go (is_big c.version (length bytes)) refl
  where
    n : ℕ
    n = length bytes

    outside : (value : KeyValue) (kind : ℕ) → data_inside (with_fields value n place kind) ≡ None
    outside value kind =
        ap (λ (t : Bool). cond t (Some (take (n - 2147483648) (to_le_bytes w32 place))) (cond (eqb n 0) (Some []) None))
        (lt-leb 2147483648 n (omega (arith, few)))
        ∙ ap (λ (t : Bool). cond t (Some []) None) (ne_eqb n 0 (λ z. omega (arith, z, long)))

    four_more : nat_lt 4 (length bytes) ≡ true
    four_more = lt-ltb 4 (length bytes) long

    go : (big : Bool) → is_big c.version (length bytes) ≡ big → IsDataRun c place bytes
    go true q =
        let k = segment_count n in
        let first = place + cell 8 + cell (4 * k) in
        let here : Has c place (big_cells place k bytes) = rw q at has in
        let size : data_size c.version bytes ≡ cells_sum (8 ∷ 4 * k ∷ segment_sizes k n) = rw q refl in
        let stands = big_stands c place k bytes refl here (omega (arith, size, room)) in
        let whole = segments_room k n refl in
        let uses : used_in (big_checks c n place) ≡ place ∷ (place + cell 8) ∷ segment_places k first =
        big_used c n place (record { segments = k; list = place + cell 8 }) (segment_places k first)
        stands.big stands.list in
        record {
          cells = place ∷ (place + cell 8) ∷ segment_places k first;
          reads = λ value kind. (data_in_segments c (with_fields value n place kind) (outside value kind) q).1
              ∙ bytes_stand c place k bytes stands;
          used = λ value kind. (data_in_segments c (with_fields value n place kind) (outside value kind) q).0 ∙ uses;
          within = λ o i. big_within o k (data_size c.version bytes) (cells_sum (segment_sizes k n)) size whole i;
          once = (
            λ y i e. big_later y k (place + cell 8) i e refl,
            (λ y i e. absurd (let r = segments_within k first y i in omega (arith, r.0, e)), segments_once k first),
          );
        }
      where
        big_within : (o k size all : ℕ) → size ≡ 16 + (cell (4 * k) + all) → 16352 * k ≤ all + 16344
            → In (place ∷ (place + cell 8) ∷ segment_places k (place + cell 8 + cell (4 * k))) o
            → (place ≤ o) × (o < place + size)
        big_within o k size all e w (inl h) = (omega (arith, h), omega (arith, h, e))
        big_within o k size all e w (inr (inl h)) = (omega (arith, h), omega (arith, h, e))
        big_within o k size all e w (inr (inr i)) =
            let r = segments_within k (place + cell 8 + cell (4 * k)) o i in
            (omega (arith, r.0), omega (arith, r.1, e, w))

        big_later : (y k list : ℕ) → In (list ∷ segment_places k (place + cell 8 + cell (4 * k))) y → place ≡ y
            → list ≡ place + cell 8 → ⊥
        big_later y k list (inl h) e l = omega (arith, h, e, l)
        big_later y k list (inr i) e l = let r = segments_within k (place + cell 8 + cell (4 * k)) y i in
            omega (arith, r.0, e)
    go false q =
        let here : Has c place (bytes ∷ []) = rw (q, four_more) at has in
        let size : data_size c.version bytes ≡ cell n + 0 = rw (q, four_more) refl in
        let read : reading (bytes_in n) c place ≡ done bytes =
        reads_in (bytes_in n) c place bytes bytes here.0 (λ slack. bytes_again bytes slack) in
        record {
          cells = place ∷ [];
          reads = λ value kind. (data_in_cell c (with_fields value n place kind) (outside value kind) q).1 ∙ read;
          used = λ value kind. (data_in_cell c (with_fields value n place kind) (outside value kind) q).0;
          within = λ o i. one_within o n (data_size c.version bytes) size i;
          once = (λ y i. absurd i, tt);
        }
      where
        one_within : (o n size : ℕ) → size ≡ cell n + 0 → In (place ∷ []) o → (place ≤ o) × (o < place + size)
        one_within o n size e (inl h) = (omega (arith, h), omega (arith, h, e))
        one_within o n size e (inr z) = absurd z

-- ---- put, said by the value, and the old cells freed

-- the cells of data
abbrev pub data_run : HiveVersion → ℕ → List ℕ → List Cell
data_run version place bytes = map allocated_cell (data_cells version place bytes)

data_total : (version : HiveVersion) (place : ℕ) (bytes : List ℕ)
    → cells_size (data_run version place bytes) ≡ data_size version bytes
data_total version place bytes = used_size (data_cells version place bytes) ∙ space_data version place bytes

pub put_unheld : (version : HiveVersion) (place : ℕ) (bytes : List ℕ) (old mid : List Bin)
    → IsRunPutAt (data_size version bytes) place (data_run version place bytes) old mid
    → (o : ℕ) (p : List ℕ) → held_among o place (data_run version place bytes) ≡ Some p → held_at old o ≡ None
put_unheld version place bytes old mid put o p h =
    let r = among_from o place (data_run version place bytes) p h in
    put.fresh o r.0 (omega (arith, r.1, data_total version place bytes))

-- what was held is held as before
pub put_stays : (version : HiveVersion) (place : ℕ) (bytes : List ℕ) (old mid : List Bin)
    → IsRunPutAt (data_size version bytes) place (data_run version place bytes) old mid
    → (o : ℕ) → IsSome (held_at old o) → held_at mid o ≡ held_at old o
put_stays version place bytes old mid put o s = put.held o ∙ go (held_among o place (data_run version place bytes)) refl
  where
    go : (x : Option (List ℕ)) → held_among o place (data_run version place bytes) ≡ x
        → or_else x (held_at old o) ≡ held_at old o
    go None e = refl
    go (Some p) e = absurd (none_some (held_at old o) (put_unheld version place bytes old mid put o p e) s)

-- a run that is the text of these cells
pub record IsRunOf (version : HiveVersion) (place : ℕ) (bytes run : List ℕ) : Type 0 where
  pub long : length run ≡ data_size version bytes
  pub sound : IsRun run
  pub cells : run_cells run ≡ data_run version place bytes

pub some_size : (version : HiveVersion) (place : ℕ) (bytes : List ℕ) → 4 < length bytes
    → 0 < space (data_cells version place bytes)
some_size version place bytes long = go (is_big version (length bytes)) refl
  where
    four_more : nat_lt 4 (length bytes) ≡ true
    four_more = lt-ltb 4 (length bytes) long

    go : (big : Bool) → is_big version (length bytes) ≡ big → 0 < space (data_cells version place bytes)
    go true q =
        let size : data_size version bytes
        ≡ cells_sum (8 ∷ 4 * segment_count (length bytes)
        ∷ segment_sizes (segment_count (length bytes)) (length bytes)) = rw q refl in
        omega (arith, size, space_data version place bytes)
    go false q =
        let size : data_size version bytes ≡ cell (length bytes) + 0 = rw (q, four_more) refl in
        omega (arith, size, space_data version place bytes)

pub run_of : (version : HiveVersion) (place : ℕ) (bytes run : List ℕ) → 4 < length bytes
    → place + data_size version bytes ≤ 16777216 → run ≡ text (data_cells version place bytes)
    → IsRunOf version place bytes run
run_of version place bytes run long room e =
    let ps = data_cells version place bytes in
    let size = space_data version place bytes in
    let r = run_is run ps e (omega (arith, size, room)) (some_size version place bytes long) in
    record { long = ap length e ∙ length_text ps ∙ size; sound = r.0; cells = r.1 }

-- what was put is the run's cells
pub put_cells : (version : HiveVersion) (place : ℕ) (bytes run : List ℕ) (old mid : List Bin)
    → IsRunOf version place bytes run
    → IsRunPutAt (length run) place (run_cells run) old mid
    → IsRunPutAt (data_size version bytes) place (data_run version place bytes) old mid
put_cells version place bytes run old mid r p =
    subst (λ (n : ℕ). IsRunPutAt n place (data_run version place bytes) old mid) r.long
    (subst (λ (cs : List Cell). IsRunPutAt (length run) place cs old mid) r.cells p)

-- what is asked of the cells that go, after what was put
pub room_stays : (old mid : List Bin) (v : ℕ) → held_at mid v ≡ held_at old v
    → IsSomeAnd (held_at old v) (λ p. 16 ≤ length p) → IsSomeAnd (held_at mid v) (λ p. 16 ≤ length p)
room_stays old mid v e h = subst (λ (o : Option (List ℕ)). IsSomeAnd o (λ p. 16 ≤ length p)) (sym e) h

pub some_of : (o : Option (List ℕ)) (P : List ℕ → Type 0) → IsSomeAnd o P → IsSome o
some_of None P h = absurd h
some_of (Some p) P h = refl

pub given_run : (version : HiveVersion) (v kind place : ℕ) (bytes gone : List ℕ) (old mid new : List Bin)
    → 4 < length bytes → length bytes ≤ 1048576
    → place + data_size version bytes ≤ 16777216
    → IsRunPutAt (data_size version bytes) place (map allocated_cell (data_cells version place bytes)) old mid
    → IsSome (held_at old v) → All (λ o. IsSome (held_at old o)) gone
    → held_at new v ≡ option_map (patched 4 (value_fields (length bytes) place kind)) (held_at mid v)
    → ((o : ℕ) → Contains gone o → held_at new o ≡ None)
    → ((o : ℕ) → (o ≡ v → ⊥) → (Contains gone o → ⊥) → held_at new o ≡ held_at mid o)
    → bins_size new ≡ bins_size mid → IsGiven version v kind bytes gone old new
given_run version v kind place bytes gone old mid new long few room put there held here freed others size_same =
    record {
      size = length bytes;
      offset = place;
      size_fits = omega (arith, few);
      offset_fits = omega (arith, room);
      not_over = le-ltb 2147483652 (length bytes) (omega (arith, few));
      here = here ∙ ap (option_map (patched 4 (value_fields (length bytes) place kind))) (stays v there);
      reads = λ value. run.reads value kind;
      fresh = λ value o i. let w = run.within o (subst (λ (l : List ℕ). In l o) (run.used value kind) i) in
          put.fresh o w.0 w.1;
      once = λ value. subst (Pairwise (λ p q. p ≡ q → ⊥)) (sym (run.used value kind)) run.once;
      freed = freed;
      kept = λ o p apart outside h. others o apart outside ∙ stays o (subst IsSome (sym h) refl) ∙ h;
      least = subst (λ (m : ℕ). bins_size old ≤ m) (sym size_same) put.least;
      long = subst (λ (m : ℕ). bins_size new ≤ bins_size old + m)
          (sym (ap (λ (t : Bool). cond t (new_bin_size (data_size version bytes)) 0) (lt-ltb 4 (length bytes) long)))
          (subst (λ (m : ℕ). m ≤ bins_size old + new_bin_size (data_size version bytes)) (sym size_same) put.long);
    }
  where
    ps : List (List ℕ)
    ps = data_cells version place bytes

    unheld : (o : ℕ) (p : List ℕ) → held_among o place (map allocated_cell ps) ≡ Some p → held_at old o ≡ None
    unheld = put_unheld version place bytes old mid put

    stays : (o : ℕ) → IsSome (held_at old o) → held_at mid o ≡ held_at old o
    stays = put_stays version place bytes old mid put

    has : Has (look_up version new) place ps
    has = has_held (look_up version new) place ps
        (λ o p h. held_payload new o p
        (others o (λ e. none_some (held_at old o) (unheld o p h)
        (subst (λ (z : ℕ). IsSome (held_at old z)) (sym e) there))
        (λ k. none_some (held_at old o) (unheld o p h) (subst (λ (x : ℕ). IsSome (held_at old x)) k.2 (held k.0 o k.1)))
        ∙ put.held o ∙ ap (λ (x : Option (List ℕ)). or_else x (held_at old o)) h))

    run : IsDataRun (look_up version new) place bytes
    run = data_run_stands (look_up version new) place bytes long few room has

pub given_inside : (version : HiveVersion) (v kind : ℕ) (bytes gone : List ℕ) (old new : List Bin) → length bytes ≤ 4
    → ((i : ℕ) → get_or bytes i 0 < 256)
    → held_at new v ≡ option_map (patched 4 (value_fields (2147483648 + length bytes) (from_le_bytes w32 bytes) kind))
    (held_at old v)
    → ((o : ℕ) → Contains gone o → held_at new o ≡ None)
    → ((o : ℕ) → (o ≡ v → ⊥) → (Contains gone o → ⊥) → held_at new o ≡ held_at old o)
    → bins_size new ≡ bins_size old → IsGiven version v kind bytes gone old new
given_inside version v kind bytes gone old new short small here freed others same = record {
  size = 2147483648 + length bytes;
  offset = from_le_bytes w32 bytes;
  size_fits = omega (arith, short);
  offset_fits = omega (arith, small 0, small 1, small 2, small 3);
  not_over = (inside_size (length bytes) short).1;
  here = here;
  reads = λ value. inside_data (look_up version new)
      (with_fields value (2147483648 + length bytes) (from_le_bytes w32 bytes) kind) bytes
      (inside_again value kind bytes short small);
  fresh = λ value o i. absurd (subst (λ (l : List ℕ). In l o) (none value) i);
  once = λ value. subst (Pairwise (λ p q. p ≡ q → ⊥)) (sym (none value)) tt;
  freed = freed;
  kept = λ o p apart outside h. others o apart outside ∙ h;
  least = omega (arith, same);
  long = omega (arith, same);
}
  where
    none : (value : KeyValue)
        → used_in (data_checks (look_up version new)
        (with_fields value (2147483648 + length bytes) (from_le_bytes w32 bytes) kind)) ≡ []
    none value = (data_held_inside (look_up version new)
        (with_fields value (2147483648 + length bytes) (from_le_bytes w32 bytes) kind) bytes
        (inside_again value kind bytes short small)).0
