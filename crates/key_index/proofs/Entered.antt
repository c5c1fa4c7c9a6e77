-- The list in a payload, and its entries.
use Rattle.std.proofs.Common.{◌≡◌, ℕ, zero, suc, ◌+◌, ◌-◌, ◌*◌, ◌≤◌, ◌<◌, Bool, true, false, eqb, List, [], ◌∷◌, length, drop, get_or, Result, Err, cond, refl, sym, ap, subst, ◌∙◌, arith}
use Rattle.std.specs.Prelude.{◌==◌, nat_lt}
use Rattle.std.specs.Result.{IsOk}
use Rattle.std.proofs.Math.Seq.{drop-nil}
use Rattle.std.proofs.lemmas.Bool.{eqb-true, ltb-false}
use Rattle.nt_bytes.specs.declared.fault.HiveFaultKind.{HiveFaultKind}
use Rattle.nt_bytes.specs.declared.fault.HiveFaultKind.TheVariants.{FormShort, FormSign}
use Rattle.nt_bytes.specs.Fields.{u16_in, u32_in}
use Rattle.hive_model.specs.Lists.{ListKind, Li, Lf, Lh, Ri, SubkeyList, numbers_in, list_of, list_at}
use Rattle.hive_model.specs.Walk.{is_list_of_lists}
use Rattle.hive_model.specs.Footprint.{of_read}
use Rattle.key_index.specs.Lists.{offsets_of, entry_size, lists_lists}
use Rattle.key_index.proofs.Tests.{done, value_of, unless, ok_same}

pub not_below : (m n : ℕ) → nat_lt m n ≡ false → n ≤ m
not_below m n e = ltb-false m n e

-- a payload with a list is as long as its entries ask, and these are the offsets
pub record ListFacts (p : List ℕ) (list : SubkeyList) : Type 0 where
  pub long : 4 + entry_size p * u16_in p 2 ≤ length p
  pub offsets : list.offsets ≡ numbers_in (entry_size p) (u16_in p 2) (drop 4 p)
  pub lists : is_list_of_lists list.kind ≡ lists_lists p

facts_of : (p : List ℕ) (list : SubkeyList) (kind : ListKind) (step : ℕ) → entry_size p ≡ step
    → is_list_of_lists kind ≡ lists_lists p
    → list_of kind step p ≡ done list → ListFacts p list
unfolding list_of
facts_of p list kind step sized lists e =
    let made : SubkeyList = record { kind = kind; offsets = numbers_in step (u16_in p 2) (drop 4 p) } in
    let one = unless (nat_lt (length p) 4) FormShort
    (cond (nat_lt (length p) (4 + step * u16_in p 2)) (Err FormShort) (done made)) list e in
    let two = unless (nat_lt (length p) (4 + step * u16_in p 2)) FormShort (done made) list one.1 in
    let same : made ≡ list = ok_same made list two.1 in
    subst (λ (l : SubkeyList). ListFacts p l) same (record {
      long = rw sized (not_below (length p) (4 + step * u16_in p 2) two.0);
      offsets = rw sized refl;
      lists = lists;
    })

sign_is : (sign n : ℕ) → (sign == n) ≡ true → sign ≡ n
sign_is sign n e = eqb-true sign n e

pub list_facts : (p : List ℕ) (list : SubkeyList) → list_at p ≡ done list → ListFacts p list
unfolding list_at
list_facts p list e = signed (u16_in p 0 == 0x696c) (u16_in p 0 == 0x666c) (u16_in p 0 == 0x686c) (u16_in p 0 == 0x6972)
    refl refl refl refl
    (unless (nat_lt (length p) 2) FormShort
    (cond (u16_in p 0 == 0x696c) (list_of Li 4 p) (cond (u16_in p 0 == 0x666c) (list_of Lf 8 p)
    (cond (u16_in p 0 == 0x686c) (list_of Lh 8 p) (cond (u16_in p 0 == 0x6972) (list_of Ri 4 p) (Err FormSign)))))
    list e).1
  where
    signed : (li lf lh ri : Bool) → (u16_in p 0 == 0x696c) ≡ li → (u16_in p 0 == 0x666c) ≡ lf
        → (u16_in p 0 == 0x686c) ≡ lh → (u16_in p 0 == 0x6972) ≡ ri
        → cond li (list_of Li 4 p)
        (cond lf (list_of Lf 8 p) (cond lh (list_of Lh 8 p) (cond ri (list_of Ri 4 p) (Err FormSign)))) ≡ done list
        → ListFacts p list
    signed true lf lh ri a b c d r = facts_of p list Li 4 (rw (sign_is _ _ a) refl) (rw (sign_is _ _ a) refl) r
    signed false true lh ri a b c d r = facts_of p list Lf 8 (rw (sign_is _ _ b) refl) (rw (sign_is _ _ b) refl) r
    signed false false true ri a b c d r = facts_of p list Lh 8 (rw (sign_is _ _ c) refl) (rw (sign_is _ _ c) refl) r
    signed false false false true a b c d r = facts_of p list Ri 4 (rw (sign_is _ _ d) refl) (sym d) r
    signed false false false false a b c d r = absurd cc

-- ---- entries

length_numbers : (step n : ℕ) (p : List ℕ) → length (numbers_in step n p) ≡ n
length_numbers step zero p = refl
length_numbers step (suc n) p = ap suc (length_numbers step n (drop step p))

u32_behind : (k : ℕ) (p : List ℕ) → u32_in (drop k p) 0 ≡ u32_in p k
u32_behind k p = let e : k + 4 - k ≡ 4 = omega arith in rw e refl

pub drop_drop : (a b : ℕ) (p : List ℕ) → drop b (drop a p) ≡ drop (a + b) p
drop_drop zero b p = let e : 0 + b ≡ b = omega arith in rw e refl
drop_drop (suc a) b [] = drop-nil b ∙ sym (drop-nil (suc a + b))
drop_drop (suc a) b (x ∷ xs) = let e : suc a + b ≡ suc (a + b) = omega arith in rw e (drop_drop a b xs)

number_at : (step n i : ℕ) (p : List ℕ) → i < n → get_or (numbers_in step n p) i 0 ≡ u32_in (drop (step * i) p) 0
number_at step zero i p h = absurd (omega arith)
number_at step (suc n) zero p h = let e : step * 0 ≡ 0 = omega arith in rw e refl
number_at step (suc n) (suc i) p h =
    let e : step + step * i ≡ step * suc i = omega arith in
    number_at step n i (drop step p) (omega arith) ∙ ap (λ (q : List ℕ). u32_in q 0) (drop_drop step (step * i) p)
    ∙ ap (λ (k : ℕ). u32_in (drop k p) 0) e

pub has_head : (p : List ℕ) → IsOk (list_at p) → 4 + entry_size p * u16_in p 2 ≤ length p
has_head p h = let v = value_of (list_at p) h in (list_facts p v.0 v.1).long

pub offsets_are : (p : List ℕ) → IsOk (list_at p) → offsets_of p ≡ numbers_in (entry_size p) (u16_in p 2) (drop 4 p)
unfolding offsets_of
offsets_are p h = let v = value_of (list_at p) h in
    ap (λ (r : Result SubkeyList HiveFaultKind). of_read r (λ list. list.offsets)) v.1 ∙ (list_facts p v.0 v.1).offsets

pub has_count : (p : List ℕ) → IsOk (list_at p) → length (offsets_of p) ≡ u16_in p 2
has_count p h = ap length (offsets_are p h) ∙ length_numbers (entry_size p) (u16_in p 2) (drop 4 p)

pub entry_is : (p : List ℕ) (i : ℕ) → IsOk (list_at p) → i < length (offsets_of p)
    → get_or (offsets_of p) i 0 ≡ u32_in p (4 + entry_size p * i)
entry_is p i h lt =
    let small : i < u16_in p 2 = omega (arith, has_count p h) in
    ap (λ (xs : List ℕ). get_or xs i 0) (offsets_are p h) ∙ number_at (entry_size p) (u16_in p 2) i (drop 4 p) small
    ∙ ap (λ (q : List ℕ). u32_in q 0) (drop_drop 4 (entry_size p * i) p) ∙ u32_behind (4 + entry_size p * i) p

pub entry_inside : (p : List ℕ) (i : ℕ) → IsOk (list_at p) → i < length (offsets_of p)
    → 4 + entry_size p * i + 4 ≤ length p
entry_inside p i h lt =
    let small : i < u16_in p 2 = omega (arith, has_count p h) in
    let long = has_head p h in
    fits (eqb (u16_in p 0) 0x696c) (eqb (u16_in p 0) 0x6972) (u16_in p 2) i (length p) small long
  where
    fits : (a b : Bool) (n i room : ℕ) → i < n → 4 + (cond a 4 (cond b 4 8)) * n ≤ room
        → 4 + (cond a 4 (cond b 4 8)) * i + 4 ≤ room
    fits true b n i room lt h = omega arith
    fits false true n i room lt h = omega arith
    fits false false n i room lt h = omega arith

pub has_four : (p : List ℕ) → IsOk (list_at p) → 4 ≤ length p
has_four p h = omega (arith, has_head p h)
