-- Bits of words, and the marks that they make.
use Rattle.std.proofs.Common.{◌≡◌, ◌≢◌, ℕ, zero, suc, ◌+◌, ◌*◌, ◌/◌, ◌%◌, ◌<◌, ◌≤◌, Bool, true, false, not, ◌||◌, ◌&&◌, eqb, eq-eqb, cond, List, [], length, get_or, set, Option, Some, None, refl, sym, ap, ◌∙◌, arith}
use Rattle.std.specs.Prelude.{◌==◌, nat_lt, is_some, if◌then◌else◌}
use Rattle.std.specs.Ordering.{nat_cmp}
use Rattle.std.specs.Cmp.{nat_cmp_total, unsigned_ties}
use Rattle.std.specs.FinMap as map
use Rattle.std.specs.Int.{bit_at}
use Rattle.std.proofs.lemmas.List.{get_or_past, get_or-set_same, get_or-set_other}
use Rattle.std.proofs.lemmas.Bool.{eqb-true, eqb-false, lt-ltb, le-ltb}
use Rattle.std.proofs.lemmas.Bool.Decides.{nat_tests}
use Rattle.std.proofs.lemmas.Nat.Bits.{bit_at-zero}
use Rattle.hive_read.specs.Marks.{has_bit, HaveSame, slot_mark, with_mark, marks_below, marks_in}
use Rattle.hive_read.specs.Walked.{clashes}
use Rattle.hive_read.proofs.Walks.{not-same}

abbrev none : Option Bool
none = None

pub no-bit : (place : ℕ) → eqb (bit_at 0 place) 1 ≡ false
no-bit place = rw (bit_at-zero place) refl

-- after the last word no bit is on
pub bit-past : (words : List ℕ) (slot : ℕ) → length words ≤ slot / 64 → has_bit words slot ≡ false
unfolding has_bit
bit-past words slot h = ap (λ word. eqb (bit_at word (slot % 64)) 1) (get_or_past words (slot / 64) 0 h)
    ∙ no-bit (slot % 64)

-- words that are the same, a word past the end counting as 0, have the same bits
pub same-bits : (words others : List ℕ) → HaveSame words others → (slot : ℕ) → has_bit others slot ≡ has_bit words slot
unfolding has_bit
same-bits words others h slot = ap (λ word. eqb (bit_at word (slot % 64)) 1) (h (slot / 64))

-- a word with one bit more, in its place again
pub set-bit : (words : List ℕ) (slot word : ℕ) → slot / 64 < length words → bit_at word (slot % 64) ≡ 1
    → ((i : ℕ) → i ≢ slot % 64 → bit_at word i ≡ bit_at (get_or words (slot / 64) 0) i)
    → (i : ℕ) → has_bit (set words (slot / 64) word) i ≡ (eqb i slot || has_bit words i)
unfolding has_bit
set-bit words slot word within one others i = go (eqb (i / 64) (slot / 64)) (eqb (i % 64) (slot % 64)) refl refl
  where
    there : (i / 64 ≡ slot / 64) → get_or (set words (slot / 64) word) (i / 64) 0 ≡ word
    there e = ap (λ place. get_or (set words (slot / 64) word) place 0) e
        ∙ get_or-set_same words (slot / 64) word 0 within

    go : (a b : Bool) → eqb (i / 64) (slot / 64) ≡ a → eqb (i % 64) (slot % 64) ≡ b
        → eqb (bit_at (get_or (set words (slot / 64) word) (i / 64) 0) (i % 64)) 1
        ≡ (eqb i slot || eqb (bit_at (get_or words (i / 64) 0) (i % 64)) 1)
    go false b e f =
        let far : i / 64 ≢ slot / 64 = eqb-false (i / 64) (slot / 64) e in
        let other : eqb i slot ≡ false = not-same i slot (λ same. far (ap (λ n. n / 64) same)) in
        rw (other, get_or-set_other words (slot / 64) (i / 64) word 0 far) refl
    go true false e f =
        let near : i / 64 ≡ slot / 64 = eqb-true (i / 64) (slot / 64) e in
        let far : i % 64 ≢ slot % 64 = eqb-false (i % 64) (slot % 64) f in
        let other : eqb i slot ≡ false = not-same i slot (λ same. far (ap (λ n. n % 64) same)) in
        rw (other, there near, others (i % 64) far)
        (ap (λ place. eqb (bit_at (get_or words place 0) (i % 64)) 1) (sym near))
    go true true e f =
        let near : i / 64 ≡ slot / 64 = eqb-true (i / 64) (slot / 64) e in
        let place : i % 64 ≡ slot % 64 = eqb-true (i % 64) (slot % 64) f in
        let same : i ≡ slot = omega arith in
        rw (same, eq-eqb slot slot refl)
        (ap (λ word. eqb (bit_at word (slot % 64)) 1) (get_or-set_same words (slot / 64) word 0 within)
        ∙ ap (λ bit. eqb bit 1) one)

-- ---- marks

-- the mark of a cell
abbrev mark_at : List ℕ → List ℕ → ℕ → Option Bool
mark_at plain security at = if at % 8 == 0 then slot_mark plain security (at / 8) else None

-- the same where only the slots below n count
abbrev below_at : List ℕ → List ℕ → ℕ → ℕ → Option Bool
below_at plain security n at =
    cond (eqb (at % 8) 0) (cond (nat_lt (at / 8) n) (slot_mark plain security (at / 8)) None) None

-- one slot more
get-with : (n : ℕ) (mark : Option Bool) (others : List (ℕ × Bool)) (at : ℕ)
    → map.get (map.from_entries {R = nat_cmp} (with_mark n mark others)) at
    ≡ cond (is_some mark && eqb at (8 * n)) mark (map.get (map.from_entries {R = nat_cmp} others) at)
get-with n None others at = refl
get-with n (Some security) others at =
    map.get-insert nat_cmp_total (map.from_entries others) (8 * n) security at
    ∙ ap (λ b. cond b (Some security) (map.get (map.from_entries {R = nat_cmp} others) at))
    (sym (unsigned_ties at (8 * n)))

-- the table of the slots below n says what the bits of those slots say
get-below : (plain security : List ℕ) (n at : ℕ)
    → map.get (map.from_entries {R = nat_cmp} (marks_below plain security n)) at ≡ below_at plain security n at
get-below plain security zero at =
    map.get-empty nat_cmp at ∙ sym (rw (le-ltb (at / 8) 0 (omega arith)) (go (eqb (at % 8) 0)))
  where
    go : (b : Bool) → cond b None None ≡ none
    go true = refl
    go false = refl
get-below plain security (suc n) at =
    get-with n (slot_mark plain security n) (marks_below plain security n) at
    ∙ ap (cond (is_some (slot_mark plain security n) && eqb at (8 * n)) (slot_mark plain security n))
    (get-below plain security n at)
    ∙ go (eqb (at % 8) 0) (eqb (at / 8) n) refl refl
  where
    here : (mark : Option Bool) → cond (is_some mark && true) mark none ≡ mark
    here None = refl
    here (Some b) = refl

    off : (b : Bool) (mark other : Option Bool) → b ≡ false → cond (is_some mark && b) mark other ≡ other
    off b None other e = refl
    off b (Some m) other e = rw e refl

    go : (a b : Bool) → eqb (at % 8) 0 ≡ a → eqb (at / 8) n ≡ b
        → cond (is_some (slot_mark plain security n) && eqb at (8 * n)) (slot_mark plain security n)
        (below_at plain security n at) ≡ below_at plain security (suc n) at
    go false b e f =
        let odd : at % 8 ≢ 0 = eqb-false (at % 8) 0 e in
        let other : eqb at (8 * n) ≡ false = not-same at (8 * n) (λ same. odd (omega arith)) in
        off (eqb at (8 * n)) (slot_mark plain security n) (below_at plain security n at) other ∙ rw e refl
    go true false e f =
        let whole : at % 8 ≡ 0 = eqb-true (at % 8) 0 e in
        let far : at / 8 ≢ n = eqb-false (at / 8) n f in
        let other : eqb at (8 * n) ≡ false = not-same at (8 * n) (λ same. far (omega arith)) in
        let as_before : nat_lt (at / 8) (suc n) ≡ nat_lt (at / 8) n = grind (arith, nat_tests) in
        off (eqb at (8 * n)) (slot_mark plain security n) (below_at plain security n at) other ∙ rw as_before refl
    go true true e f =
        let whole : at % 8 ≡ 0 = eqb-true (at % 8) 0 e in
        let near : at / 8 ≡ n = eqb-true (at / 8) n f in
        let same : at ≡ 8 * n = omega arith in
        let there : eqb at (8 * n) ≡ true = eq-eqb at (8 * n) same in
        let past : nat_lt (at / 8) n ≡ false = le-ltb (at / 8) n (omega arith) in
        let within : nat_lt (at / 8) (suc n) ≡ true = lt-ltb (at / 8) (suc n) (omega arith) in
        rw (e, there, past, within, near) (here (slot_mark plain security n))

-- after all words no slot has a mark
slot-past : (plain security : List ℕ) (slot : ℕ) → 64 * (length plain + length security) ≤ slot
    → slot_mark plain security slot ≡ none
slot-past plain security slot h =
    let p = bit-past plain slot (omega arith) in
    let s = bit-past security slot (omega arith) in
    rw (s, p) refl

-- what the marks say of an offset
pub get-marks : (plain security : List ℕ) (at : ℕ) → map.get (marks_in plain security) at ≡ mark_at plain security at
unfolding marks_in
get-marks plain security at =
    let n = 64 * (length plain + length security) in
    get-below plain security n at ∙ ap (λ mark. cond (eqb (at % 8) 0) mark None) (go (nat_lt (at / 8) n) refl)
  where
    go : (b : Bool) → nat_lt (at / 8) (64 * (length plain + length security)) ≡ b
        → cond b (slot_mark plain security (at / 8)) None ≡ slot_mark plain security (at / 8)
    go true e = refl
    go false e = sym (slot-past plain security (at / 8) (grind (arith, nat_tests)))

-- a cell's mark is that of its slot, an eighth of its offset
whole-mark : (plain security : List ℕ) (at : ℕ) → at % 8 ≡ 0
    → mark_at plain security at ≡ slot_mark plain security (at / 8)
whole-mark plain security at whole = rw (eq-eqb (at % 8) 0 whole) refl

-- a cell's mark in a table, as two bits say it
pub clash-marks : (plain security : List ℕ) (at : ℕ) (again : Bool) → at % 8 ≡ 0
    → clashes (map.get (marks_in plain security) at) again
    ≡ cond (has_bit security (at / 8)) (not again) (has_bit plain (at / 8))
clash-marks plain security at again whole =
    ap (λ mark. clashes mark again) (get-marks plain security at ∙ whole-mark plain security at whole)
    ∙ go (has_bit security (at / 8)) (has_bit plain (at / 8))
  where
    go : (s p : Bool) → clashes (cond s (Some true) (cond p (Some false) None)) again ≡ cond s (not again) p
    go true p = refl
    go false true = refl
    go false false = refl

-- the slot of a cell has another mark, and no other slot has
replaced : (plain security others kept : List ℕ) (at : ℕ) (mark : Bool) → at % 8 ≡ 0
    → ((slot : ℕ) → slot_mark others kept slot ≡ cond (eqb slot (at / 8)) (Some mark) (slot_mark plain security slot))
    → marks_in others kept ≡ map.insert (marks_in plain security) at mark
replaced plain security others kept at mark whole new = map.same_map nat_cmp_total map.nat_cmp-IsAntisymmetric _ _ (λ q.
    get-marks others kept q ∙ ap (λ m. cond (eqb (q % 8) 0) m None) (new (q / 8))
    ∙ go q (eqb (q % 8) 0) (eqb (q / 8) (at / 8)) refl refl
    ∙ sym (map.get-insert nat_cmp_total (marks_in plain security) at mark q
    ∙ ap (λ b. cond b (Some mark) (map.get (marks_in plain security) q)) (sym (unsigned_ties q at))
    ∙ ap (cond (eqb q at) (Some mark)) (get-marks plain security q)))
  where
    go : (q : ℕ) (a b : Bool) → eqb (q % 8) 0 ≡ a → eqb (q / 8) (at / 8) ≡ b
        → cond a (cond b (Some mark) (slot_mark plain security (q / 8))) None
        ≡ cond (eqb q at) (Some mark) (cond a (slot_mark plain security (q / 8)) None)
    go q false b e f =
        let odd : q % 8 ≢ 0 = eqb-false (q % 8) 0 e in
        let other : eqb q at ≡ false = not-same q at (λ same. odd (omega arith)) in
        rw other refl
    go q true false e f =
        let far : q / 8 ≢ at / 8 = eqb-false (q / 8) (at / 8) f in
        let other : eqb q at ≡ false = not-same q at (λ same. far (ap (λ n. n / 8) same)) in
        rw other refl
    go q true true e f =
        let even : q % 8 ≡ 0 = eqb-true (q % 8) 0 e in
        let near : q / 8 ≡ at / 8 = eqb-true (q / 8) (at / 8) f in
        let same : eqb q at ≡ true = eq-eqb q at (omega arith) in
        rw same refl

-- a bit more is a mark more: of a security cell, and of any other cell
pub mark-security : (plain security others : List ℕ) (at : ℕ) → at % 8 ≡ 0
    → ((slot : ℕ) → has_bit others slot ≡ (eqb slot (at / 8) || has_bit security slot))
    → marks_in plain others ≡ map.insert (marks_in plain security) at true
mark-security plain security others at whole new =
    replaced plain security plain others at true whole (λ slot. rw (new slot) (go slot (eqb slot (at / 8))))
  where
    go : (slot : ℕ) (b : Bool)
        → cond (b || has_bit security slot) (Some true) (cond (has_bit plain slot) (Some false) None)
        ≡ cond b (Some true) (slot_mark plain security slot)
    go slot true = refl
    go slot false = refl

mark-plain : (plain security others : List ℕ) (at : ℕ) → at % 8 ≡ 0
    → clashes (map.get (marks_in plain security) at) false ≡ false
    → ((slot : ℕ) → has_bit others slot ≡ (eqb slot (at / 8) || has_bit plain slot))
    → marks_in others security ≡ map.insert (marks_in plain security) at false
mark-plain plain security others at whole fresh new =
    replaced plain security others security at false whole (λ slot. rw (new slot) (go slot (eqb slot (at / 8)) refl))
  where
    unkept : (s p : Bool) → cond s true p ≡ false → s ≡ false
    unkept true p e = absurd cc
    unkept false p e = refl

    go : (slot : ℕ) (b : Bool) → eqb slot (at / 8) ≡ b
        → cond (has_bit security slot) (Some true) (cond (b || has_bit plain slot) (Some false) None)
        ≡ cond b (Some false) (slot_mark plain security slot)
    go slot true e =
        let none_kept : has_bit security (at / 8) ≡ false =
        unkept (has_bit security (at / 8)) (has_bit plain (at / 8))
        (sym (clash-marks plain security at false whole) ∙ fresh) in
        let here : slot ≡ at / 8 = eqb-true slot (at / 8) e in
        rw (ap (has_bit security) here ∙ none_kept) refl
    go slot false e = refl

-- a security cell's mark is there already where its bit is on
pub mark-kept : (plain security : List ℕ) (at : ℕ) → at % 8 ≡ 0 → has_bit security (at / 8) ≡ true
    → marks_in plain security ≡ map.insert (marks_in plain security) at true
mark-kept plain security at whole kept =
    mark-security plain security security at whole (λ slot. go slot (eqb slot (at / 8)) refl)
  where
    go : (slot : ℕ) (b : Bool) → eqb slot (at / 8) ≡ b → has_bit security slot ≡ (b || has_bit security slot)
    go slot true e = ap (has_bit security) (eqb-true slot (at / 8) e) ∙ kept
    go slot false e = refl

-- a cell that is no security cell clashes where it has the other mark, and gets it where it does not
pub plain-clash : (plain security : List ℕ) (at : ℕ) → at % 8 ≡ 0 → has_bit security (at / 8) ≡ false
    → clashes (map.get (marks_in plain security) at) false ≡ has_bit plain (at / 8)
plain-clash plain security at whole kept = rw (clash-marks plain security at false whole, kept) refl

pub mark-unset : (plain security others : List ℕ) (at : ℕ) (fresh : Bool) → at % 8 ≡ 0
    → has_bit security (at / 8) ≡ false → fresh ≡ not (has_bit plain (at / 8))
    → ((slot : ℕ) → has_bit others slot ≡ (eqb slot (at / 8) || has_bit plain slot)) → fresh ≡ true
    → marks_in others security ≡ map.insert (marks_in plain security) at false
mark-unset plain security others at fresh whole kept f new e =
    mark-plain plain security others at whole
    (plain-clash plain security at whole kept ∙ flip (has_bit plain (at / 8)) (sym f ∙ e)) new
  where
    flip : (b : Bool) → not b ≡ true → b ≡ false
    flip true h = absurd cc
    flip false h = refl

-- the same bits are the same marks
pub same-marks : (plain security others kept : List ℕ) → ((slot : ℕ) → has_bit others slot ≡ has_bit plain slot)
    → ((slot : ℕ) → has_bit kept slot ≡ has_bit security slot)
    → marks_in others kept ≡ marks_in plain security
same-marks plain security others kept p s = map.same_map nat_cmp_total map.nat_cmp-IsAntisymmetric _ _ (λ q.
    get-marks others kept q ∙ rw (p (q / 8), s (q / 8)) refl ∙ sym (get-marks plain security q))

pub no-marks : marks_in [] [] ≡ map.empty
unfolding marks_in
no-marks = refl
