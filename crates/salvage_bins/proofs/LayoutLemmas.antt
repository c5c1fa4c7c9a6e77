-- The steps of the loops over bins data.
use Rattle.std.proofs.Common.{◌≡◌, ◌⊎◌, ℕ, zero, suc, ◌+◌, ◌-◌, ◌*◌, ◌/◌, ◌<◌, ◌&&◌, ◌==◌, nat_le, if◌then◌else◌, Bool, true, false, List, [], ◌∷◌, ◌++◌, length, drop, Result, Ok, Err, refl, sym, ap, ◌∙◌, append_assoc, arith, inl, inr}
use Rattle.std.proofs.lemmas.List.{append-nil}
use Rattle.std.proofs.lemmas.Bool.Decides.{nat_tests}
use Rattle.nt_bytes.specs.declared.fault.HiveFault.{HiveFault}
use Rattle.nt_bytes.specs.Reading.{◌>>=◌}
use Rattle.salvage_bins.specs.declared.layout.Mark.{Mark}
use Rattle.salvage_bins.specs.declared.layout.Mark.TheVariants.{Nothing}
use Rattle.salvage_bins.specs.Whole.{slot_mark, cell_marks, bin_marks}
use Rattle.hive_model.specs.Bins.{size_at, header_at, with_place}
use Rattle.salvage_bins.specs.Loose.{loose_marks, loose_length, mark_where, names_itself}
use Rattle.salvage_bins.specs.Layout.{Laid, Stretch, joined, nothing, laid, stretch}

less-one : (n : ℕ) → suc n - 1 ≡ n
less-one n = omega arith

-- marks before those that were read
abbrev pub after : List Mark → Result (List Mark) HiveFault → Result (List Mark) HiveFault
after marks (Ok more) = Ok (marks ++ more)
after marks (Err fault) = Err fault

after-one : (marks : List Mark) (m : Mark) (r : Result (List Mark) HiveFault)
    → after (marks ++ m ∷ []) r ≡ after marks (r >>= λ more. Ok (m ∷ more))
after-one marks m (Ok more) = ap (λ xs. Ok xs) (append_assoc marks (m ∷ []) more)
after-one marks m (Err fault) = refl

pub cells-on : (marks : List Mark) (n covered at : ℕ) (bytes : List ℕ) (m : Mark × ℕ) → 0 < n
    → slot_mark (8 * n) covered at bytes ≡ Ok m
    → after (marks ++ m.0 ∷ []) (cell_marks (n - 1) m.1 (at + 8) (drop 8 bytes)) ≡ after marks (cell_marks n covered at bytes)
unfolding cell_marks
cells-on marks zero covered at bytes m h e = absurd (omega arith)
cells-on marks (suc n) covered at bytes m h e =
    rw (less-one n) (after-one marks m.0 (cell_marks n m.1 (at + 8) (drop 8 bytes))
    ∙ ap (λ (r : Result (Mark × ℕ) HiveFault). after marks (r >>= λ mark.
    cell_marks n mark.1 (at + 8) (drop 8 bytes) >>= λ more. Ok (mark.0 ∷ more))) (sym e))

pub cells-off : (marks : List Mark) (n covered at : ℕ) (bytes : List ℕ) (f : HiveFault) → 0 < n
    → slot_mark (8 * n) covered at bytes ≡ Err f → after marks (cell_marks n covered at bytes) ≡ Err f
unfolding cell_marks
cells-off marks zero covered at bytes f h e = absurd (omega arith)
cells-off marks (suc n) covered at bytes f h e =
    ap (λ (r : Result (Mark × ℕ) HiveFault). after marks (r >>= λ mark.
    cell_marks n mark.1 (at + 8) (drop 8 bytes) >>= λ more. Ok (mark.0 ∷ more))) e

pub cells-end : (marks : List Mark) (n covered at : ℕ) (bytes : List ℕ) → n ≡ 0
    → after marks (cell_marks n covered at bytes) ≡ Ok marks
unfolding cell_marks
cells-end marks zero covered at bytes e = ap (λ xs. Ok xs) (append-nil marks)
cells-end marks (suc n) covered at bytes e = absurd (omega arith)

pub loose-on : (marks all : List Mark) (m : Mark) (n : ℕ) (bytes : List ℕ) → 0 < n → m ≡ mark_where (size_at (8 * n) bytes)
    → marks ++ loose_marks n bytes ≡ all → (marks ++ m ∷ []) ++ loose_marks (n - 1) (drop 8 bytes) ≡ all
unfolding loose_marks
loose-on marks all m zero bytes h e was = absurd (omega arith)
loose-on marks all m (suc n) bytes h e was =
    rw (less-one n) (append_assoc marks (m ∷ []) (loose_marks n (drop 8 bytes))
    ∙ ap (λ x. marks ++ x ∷ loose_marks n (drop 8 bytes)) e ∙ was)

pub loose-end : (marks all : List Mark) (n : ℕ) (bytes : List ℕ) → n ≡ 0 → marks ++ loose_marks n bytes ≡ all → marks ≡ all
unfolding loose_marks
loose-end marks all zero bytes e was = sym (append-nil marks) ∙ was
loose-end marks all (suc n) bytes e was = absurd (omega arith)

pub pages-on : (n from fault at : ℕ) (bytes : List ℕ) → 0 < n
    → (nat_le fault (at + from) && names_itself (at + from) (drop from bytes)) ≡ false
    → loose_length (n - 1) (from + 4096) fault at bytes ≡ loose_length n from fault at bytes
unfolding loose_length
pages-on zero from fault at bytes h e = absurd (omega arith)
pages-on (suc n) from fault at bytes h e =
    rw (less-one n) (ap (λ b. if b then from else loose_length n (from + 4096) fault at bytes) (sym e))

pub pages-off : (n from fault at : ℕ) (bytes : List ℕ) → 0 < n
    → (nat_le fault (at + from) && names_itself (at + from) (drop from bytes)) ≡ true
    → loose_length n from fault at bytes ≡ from
unfolding loose_length
pages-off zero from fault at bytes h e = absurd (omega arith)
pages-off (suc n) from fault at bytes h e = ap (λ b. if b then from else loose_length n (from + 4096) fault at bytes) e

pub pages-end : (n from fault at : ℕ) (bytes : List ℕ) → n ≡ 0 → loose_length n from fault at bytes ≡ length bytes
unfolding loose_length
pages-end zero from fault at bytes e = refl
pages-end (suc n) from fault at bytes e = absurd (omega arith)

-- ---- stretches

joined-joined : (a b c : Laid) → joined (joined a b) c ≡ joined a (joined b c)
joined-joined a b c = rw (append_assoc a.marks b.marks c.marks, append_assoc a.broken b.broken c.broken) refl

laid-step : (seen all : Laid) (n at : ℕ) (bytes : List ℕ) (empty : Bool) (done : Laid) (first : Stretch) → empty ≡ false
    → joined seen (if empty then done else joined first.laid (laid n (at + first.long) (drop first.long bytes))) ≡ all
    → joined (joined seen first.laid) (laid n (at + first.long) (drop first.long bytes)) ≡ all
laid-step seen all n at bytes true done first e was = absurd cc
laid-step seen all n at bytes false done first e was = joined-joined seen first.laid _ ∙ was

pub laid-on : (seen all : Laid) (n at : ℕ) (bytes : List ℕ) (first : Stretch) → 0 < n → 0 < length bytes
    → first ≡ stretch at bytes → joined seen (laid n at bytes) ≡ all
    → joined (joined seen first.laid) (laid (n - 1) (at + first.long) (drop first.long bytes)) ≡ all
unfolding laid
laid-on seen all zero at bytes first h some e was = absurd (omega arith)
laid-on seen all (suc n) at bytes first h some e was =
    rw (less-one n, e) (laid-step seen all n at bytes (length bytes == 0) nothing (stretch at bytes) (grind (arith, nat_tests)) was)

nothing-after : (a : Laid) → joined a (record { marks = []; broken = [] }) ≡ a
nothing-after a = rw (append-nil a.marks, append-nil a.broken) refl

laid-last : (seen all done more : Laid) (empty : Bool) → empty ≡ true → done ≡ record { marks = []; broken = [] }
    → joined seen (if empty then done else more) ≡ all → seen ≡ all
laid-last seen all done more true e d was = sym (nothing-after seen) ∙ rw d at was
laid-last seen all done more false e d was = absurd cc

pub laid-end : (seen all : Laid) (n at : ℕ) (bytes : List ℕ) → (n ≡ 0) ⊎ (length bytes ≡ 0)
    → joined seen (laid n at bytes) ≡ all → seen ≡ all
unfolding laid
laid-end seen all zero at bytes e was = sym (nothing-after seen) ∙ was
laid-end seen all (suc n) at bytes (inl e) was = absurd (omega arith)
laid-end seen all (suc n) at bytes (inr e) was =
    laid-last seen all _ _ (length bytes == 0) (grind (arith, nat_tests)) refl was

-- ---- a whole bin

pub bin-off : (at : ℕ) (bytes : List ℕ) (f : HiveFault) → with_place at (header_at at bytes) ≡ Err f
    → bin_marks at bytes ≡ Err f
unfolding bin_marks
bin-off at bytes f e = rw e refl

pub bin-broken : (at size : ℕ) (bytes : List ℕ) (f : HiveFault) → with_place at (header_at at bytes) ≡ Ok size
    → cell_marks (size / 8 - 4) 0 (at + 32) (drop 32 bytes) ≡ Err f → bin_marks at bytes ≡ Err f
unfolding bin_marks
bin-broken at size bytes f e d = rw (e, d) refl

pub bin-whole : (at size : ℕ) (bytes : List ℕ) (marks : List Mark) → with_place at (header_at at bytes) ≡ Ok size
    → cell_marks (size / 8 - 4) 0 (at + 32) (drop 32 bytes) ≡ Ok marks
    → bin_marks at bytes ≡ Ok (Nothing ∷ Nothing ∷ Nothing ∷ Nothing ∷ marks, size)
unfolding bin_marks
bin-whole at size bytes marks e d = rw (e, d) refl
