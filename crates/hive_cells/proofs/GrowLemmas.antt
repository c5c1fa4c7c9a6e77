-- A bin more.
use Rattle.std.proofs.Common.{◌≡◌, ℕ, suc, ◌+◌, ◌-◌, ◌*◌, ◌/◌, ◌%◌, ◌≤◌, Bool, true, false, cond, eqb, List, [], ◌∷◌, ◌++◌, length, set, take, replicate, Option, Some, None, refl, sym, ap, ◌∙◌, append_assoc, arith}
use Rattle.std.specs.Int.{w32, to_le_bytes}
use Rattle.std.proofs.lemmas.List.{append-nil, set_at, take_all, length-append, length-replicate, replicate-append-replicate}
use Rattle.std.proofs.lemmas.List.Concat.{flat_map-append}
use Rattle.hive_model.specs.Bins.{Cell, Bin, bin_size, bins_size, head_bytes, cell_bytes, bin_bytes, spelled, IsCell, IsBin, IsHeap, in_cells, in_bins, or_else}
use Rattle.hive_cells.specs.Reading.{bin_marks, marks, bins_of}
use Rattle.hive_cells.proofs.Tools.{length_spelled, both_hold, bins_size-append, spelled-append}
use Rattle.hive_cells.proofs.Again.{bins_of_again}
use Rattle.hive_cells.proofs.Steps.{kept_seen}
use Rattle.hive_cells.specs.Held.{allocated_payload}
use Rattle.hive_cells.specs.Holes.{cell_free_sizes, bin_free_sizes, free_sizes, free_bin, new_bin_size, IsHole}
use Rattle.hive_cells.proofs.Indexed.{IsIndexed}
use Rattle.std.specs.List.{AllByRecursion}
use Rattle.std.proofs.lemmas.Bool.{eq-eqb}
use Rattle.hive_cells.proofs.FilledLemmas.{lookup_over}
use Rattle.hive_cells.proofs.SizeLemmas.{length_bins}
use Rattle.hive_cells.proofs.PlaceLemmas.{marks_long}

abbrev zeros : ℕ → List ℕ
zeros n = replicate n 0

long_zeros : (n : ℕ) → length (zeros n) ≡ n
long_zeros n = length-replicate n 0

free_bin_size : (size : ℕ) → 4096 ≤ size → bin_size (free_bin size) ≡ size
free_bin_size size le = omega (arith, long_zeros (size - 36), le)

new_bytes : (at size : ℕ) → 4096 ≤ size
    → to_le_bytes w32 0x6e696268
    ++ (to_le_bytes w32 at ++ (to_le_bytes w32 size
    ++ (zeros 20 ++ (to_le_bytes w32 (size - 32) ++ zeros (size - 36))))) ≡ bin_bytes at (free_bin size)
unfolding head_bytes cell_bytes
new_bytes at size le =
    let zeros = zeros (size - 36) in
    let inner : 4 + length zeros ≡ size - 32 = omega (arith, long_zeros (size - 36), le) in
    let e = free_bin_size size le in
    rw (e, inner, append-nil zeros) refl

appended : (o a b c d e f : List ℕ)
    → (((((o ++ a) ++ b) ++ c) ++ d) ++ e) ++ f ≡ o ++ (a ++ (b ++ (c ++ (d ++ (e ++ f)))))
appended o a b c d e f = simp append_assoc

pub bin_pushed : (text t1 t2 t3 t4 t5 t6 : List ℕ) (at size : ℕ) → 4096 ≤ size → t1 ≡ text ++ to_le_bytes w32 0x6e696268
    → t2 ≡ t1 ++ to_le_bytes w32 at → t3 ≡ t2 ++ to_le_bytes w32 size → t4 ≡ t3 ++ zeros 20
    → t5 ≡ t4 ++ to_le_bytes w32 (size - 32) → t6 ≡ t5 ++ zeros (size - 36) → t6 ≡ text ++ bin_bytes at (free_bin size)
bin_pushed text t1 t2 t3 t4 t5 t6 at size least e1 e2 e3 e4 e5 e6 =
    let a = to_le_bytes w32 0x6e696268 in
    let b = to_le_bytes w32 at in
    let c = to_le_bytes w32 size in
    let d = zeros 20 in
    let e = to_le_bytes w32 (size - 32) in
    let f = zeros (size - 36) in
    e6 ∙ ap (λ (t : List ℕ). t ++ f)
    (e5 ∙ ap (λ (t : List ℕ). t ++ e)
    (e4 ∙ ap (λ (t : List ℕ). t ++ d) (e3 ∙ ap (λ (t : List ℕ). t ++ c) (e2 ∙ ap (λ (t : List ℕ). t ++ b) e1))))
    ∙ appended text a b c d e f ∙ ap (λ (t : List ℕ). text ++ t) (new_bytes at size least)

new_marks : (size : ℕ) → 4096 ≤ size → size % 4096 ≡ 0
    → replicate 4 false ++ (true ∷ replicate (size / 8 - 5) false) ≡ bin_marks (free_bin size)
new_marks size le whole =
    let e : (4 + length (zeros (size - 36))) / 8 - 1 ≡ size / 8 - 5 =
    omega (arith, long_zeros (size - 36), le, whole) in
    rw (e, append-nil (replicate (size / 8 - 5) false)) refl

pub marks_pushed : (starts : List Bool) (slot size : ℕ) → length starts ≡ slot → 4096 ≤ size → size % 4096 ≡ 0
    → set (starts ++ replicate (size / 8) false) (slot + 4) true ≡ starts ++ bin_marks (free_bin size)
marks_pushed starts slot size long least whole =
    let count : size / 8 ≡ 4 + suc (size / 8 - 5) = omega (arith, least, whole) in
    let more = replicate (size / 8 - 5) false in
    let split : replicate (size / 8) false ≡ replicate 4 false ++ (false ∷ more) =
    ap (λ (n : ℕ). replicate n false) count ∙ sym (replicate-append-replicate 4 (suc (size / 8 - 5)) false) in
    let all : length (starts ++ replicate 4 false) ≡ slot + 4 =
    omega (arith, long, length-append starts (replicate 4 false), length-replicate 4 false) in
    ap (λ (t : List Bool). set t (slot + 4) true)
    (ap (λ (t : List Bool). starts ++ t) split ∙ sym (append_assoc starts (replicate 4 false) (false ∷ more)))
    ∙ set_at (starts ++ replicate 4 false) false more true (slot + 4) all
    ∙ append_assoc starts (replicate 4 false) (true ∷ more)
    ∙ ap (λ (t : List Bool). starts ++ t) (new_marks size least whole)

new_rooms : (size : ℕ) → 4096 ≤ size → zeros 4 ++ ((size - 32) ∷ zeros (size / 8 - 5)) ≡ bin_free_sizes (free_bin size)
new_rooms size least =
    let inner : 4 + length (zeros (size - 36)) ≡ size - 32 = omega (arith, long_zeros (size - 36), least) in
    let count : size / 8 - 5 ≡ (size - 32) / 8 - 1 = omega (arith, least) in
    ap (λ (n : ℕ). zeros 4 ++ ((size - 32) ∷ zeros n)) count
    ∙ ap (λ (m : ℕ). zeros 4 ++ (m ∷ zeros (m / 8 - 1))) (sym inner)
    ∙ ap (λ (t : List ℕ). zeros 4 ++ t)
    (sym (append-nil (cell_free_sizes (record { allocated = false; payload = zeros (size - 36) }))))

pub rooms_pushed : (rooms : List ℕ) (slot size : ℕ) → length rooms ≡ slot → 4096 ≤ size → size % 4096 ≡ 0
    → set (rooms ++ zeros (512 * (size / 4096))) (slot + 4) (size - 32) ≡ rooms ++ bin_free_sizes (free_bin size)
rooms_pushed rooms slot size long least whole =
    let count : 512 * (size / 4096) ≡ 4 + suc (size / 8 - 5) = omega (arith, least, whole) in
    let more = zeros (size / 8 - 5) in
    let split : zeros (512 * (size / 4096)) ≡ zeros 4 ++ (0 ∷ more) =
    ap zeros count ∙ sym (replicate-append-replicate 4 (suc (size / 8 - 5)) 0) in
    let all : length (rooms ++ zeros 4) ≡ slot + 4 = omega (arith, long, length-append rooms (zeros 4), long_zeros 4) in
    ap (λ (t : List ℕ). set t (slot + 4) (size - 32))
    (ap (λ (t : List ℕ). rooms ++ t) split ∙ sym (append_assoc rooms (zeros 4) (0 ∷ more)))
    ∙ set_at (rooms ++ zeros 4) 0 more (size - 32) (slot + 4) all
    ∙ append_assoc rooms (zeros 4) ((size - 32) ∷ more)
    ∙ ap (λ (t : List ℕ). rooms ++ t) (new_rooms size least)

pub record Grown (text : List ℕ) (size : ℕ) (text2 : List ℕ) (starts2 : List Bool) (rooms2 : List ℕ) : Type 0 where
  pub kept : IsIndexed text2 starts2 rooms2
  pub seen : bins_of text2 ≡ bins_of text ++ free_bin size ∷ []

pub record Sizes (text : List ℕ) (starts : List Bool) (rooms : List ℕ) : Type 0 where
  pub flags : 8 * length starts ≡ length text
  pub slots : 8 * length rooms ≡ length text
  pub whole : length text ≡ bins_size (bins_of text)

pub sizes : (text : List ℕ) (starts : List Bool) (rooms : List ℕ) → IsIndexed text starts rooms
    → Sizes text starts rooms
sizes text starts rooms held =
    let kept = kept_seen text starts held.kept in
    let long : length text ≡ bins_size (bins_of text) =
    ap length kept.1 ∙ length_spelled 0 (bins_of text) kept.0.each in
    record {
      flags = ap (λ (r : List Bool). 8 * length r) kept.2 ∙ marks_long (bins_of text) kept.0.each ∙ sym long;
      slots = ap (λ (r : List ℕ). 8 * length r) held.index ∙ length_bins (bins_of text) kept.0.each ∙ sym long;
      whole = long;
    }

pub grown : (text : List ℕ) (starts : List Bool) (rooms : List ℕ) (size : ℕ) (text2 : List ℕ) (starts2 : List Bool)
    (rooms2 : List ℕ) → IsIndexed text starts rooms → 4096 ≤ size → size % 4096 ≡ 0
    → bins_size (bins_of text) + size ≤ 16777216
    → text2 ≡ text ++ bin_bytes (length text) (free_bin size) → starts2 ≡ starts ++ bin_marks (free_bin size)
    → rooms2 ≡ rooms ++ bin_free_sizes (free_bin size) → Grown text size text2 starts2 rooms2
grown text starts rooms size text2 starts2 rooms2 held le whole small bytes table index =
    let seen = kept_seen text starts held.kept in
    let bins = bins_of text in
    let b = free_bin size in
    let e = free_bin_size size le in
    let inner : 4 + length (zeros (size - 36)) ≡ size - 32 = omega (arith, long_zeros (size - 36), le) in
    let cell : IsCell (record { allocated = false; payload = zeros (size - 36) }) =
    record {
      least = omega (arith, inner, le);
      whole = omega (arith, inner, whole, le);
      fits = omega (arith, inner, small);
    } in
    let bin : IsBin b = record { ignored = long_zeros 20; whole = rw e whole; cells = (cell, tt) } in
    let all = bins ++ b ∷ [] in
    let heap : IsHeap all = record {
      each = both_hold IsBin bins (b ∷ []) seen.0.each (bin, tt);
      small = omega (arith, bins_size-append bins (b ∷ []), e, small);
    } in
    let place : 0 + bins_size bins ≡ length text = omega (arith, ap length seen.1, length_spelled 0 bins seen.0.each) in
    let spelling : text2 ≡ spelled 0 all =
    bytes ∙ ap (λ (t : List ℕ). t ++ bin_bytes (length text) b) seen.1
    ∙ sym (spelled-append 0 bins (b ∷ []) ∙ ap (λ (n : ℕ). spelled 0 bins ++ (bin_bytes n b ++ [])) place
    ∙ ap (λ (t : List ℕ). spelled 0 bins ++ t) (append-nil (bin_bytes (length text) b))) in
    let marked : starts2 ≡ marks all =
    table ∙ ap (λ (t : List Bool). t ++ bin_marks b) seen.2
    ∙ sym (flat_map-append bin_marks bins (b ∷ [])
    ∙ ap (λ (t : List Bool). marks bins ++ t) (append-nil (bin_marks b))) in
    let again : bins_of text2 ≡ all = ap bins_of spelling ∙ bins_of_again all heap in
    let roomed : rooms2 ≡ free_sizes all =
    index ∙ ap (λ (t : List ℕ). t ++ bin_free_sizes b) held.index
    ∙ sym (flat_map-append bin_free_sizes bins (b ∷ [])
    ∙ ap (λ (t : List ℕ). free_sizes bins ++ t) (append-nil (bin_free_sizes b))) in
    record {
      kept = record {
        kept = record { bins = all; sound = heap; bytes = spelling; table = marked };
        index = roomed ∙ sym (ap free_sizes again);
      };
      seen = again;
    }

-- what `resize` leaves of a list that it makes longer
pub resized : {X : Type 0} (xs : List X) (long len more : ℕ) (z : X) → length xs ≡ long → len ≡ long
    → take (len + more) xs ++ replicate (len + more - long) z ≡ xs ++ replicate more z
resized xs long len more z is same =
    ap (λ ys. ys ++ replicate (len + more - long) z) (take_all (len + more) xs (omega arith))
    ∙ ap (λ n. xs ++ replicate n z) (omega arith)

-- ---- what is found in the bins with one more

or_same : (x y z : Option Cell) → allocated_payload y ≡ allocated_payload z
    → allocated_payload (or_else x y) ≡ allocated_payload (or_else x z)
or_same None y z e = e
or_same (Some c) y z e = refl

pub held_before : (bs : List Bin) (n o p : ℕ)
    → allocated_payload (in_bins o p (bs ++ free_bin n ∷ [])) ≡ allocated_payload (in_bins o p bs)
held_before [] n o p = by_flag (eqb (p + 32) o)
  where
    by_flag : (t : Bool) → allocated_payload
        (or_else (cond t (Some (record { allocated = false; payload = zeros (n - 36) })) None) None) ≡ None
    by_flag true = refl
    by_flag false = refl
held_before (b ∷ bs) n o p =
    or_same (in_cells o (p + 32) b.cells) (in_bins o (p + bin_size b) (bs ++ free_bin n ∷ []))
    (in_bins o (p + bin_size b) bs) (held_before bs n o (p + bin_size b))

pub new_least : (size : ℕ) → 4096 ≤ new_bin_size size
new_least size = omega arith

pub new_hole : (bs : List Bin) (size : ℕ) → AllByRecursion IsBin bs
    → IsHole size (bs ++ free_bin (new_bin_size size) ∷ []) (bins_size bs + 32)
new_hole bs size sound =
    let n = new_bin_size size in
    let c : Cell = record { allocated = false; payload = zeros (n - 36) } in
    let z = 0 + (bins_size bs + (32 + 0)) in
    let o = bins_size bs + 32 in
    record {
      cell = c;
      here = lookup_over bs (zeros 20) [] (c ∷ []) [] o 0 sound (omega arith)
          ∙ ap (λ (t : Bool). or_else (cond t (Some c) None) None) (eq-eqb z o (omega arith));
      free = refl;
      fits = omega (arith, long_zeros (n - 36));
    }

pub new_long : (bs : List Bin) (size : ℕ)
    → bins_size (bs ++ free_bin (new_bin_size size) ∷ []) ≡ bins_size bs + new_bin_size size
new_long bs size = omega (
  arith,
  bins_size-append bs (free_bin (new_bin_size size) ∷ []),
  free_bin_size (new_bin_size size) (new_least size),
)
