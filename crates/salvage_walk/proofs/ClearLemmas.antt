-- Segments that are clear of uses, and those that stand in turn.
use Rattle.std.proofs.Common.{◌≡◌, ℕ, zero, suc, ◌+◌, ◌-◌, ◌*◌, ◌<◌, ◌≤◌, Bool, cond, true, false, Option, None, Some, Result, Ok, Err, List, [], ◌∷◌, ◌++◌, length, take, drop, inl, inr, refl, sym, ap, subst, ◌∙◌, arith, append_assoc}
use Rattle.std.specs.Prelude.{◌==◌, ◌||◌, ◌⊎◌, ◌&&◌, find, if◌then◌else◌, is_some, min, nat_lt, slice_get}
use Rattle.std.specs.List.{list_any}
use Rattle.std.proofs.lemmas.Bool.{eqb-true}
use Rattle.std.proofs.lemmas.Bool.Decides.{nat_tests}
use Rattle.std.proofs.lemmas.List.{drop-drop, length-append, length-take-le}
use Rattle.nt_bytes.specs.declared.fault.HiveFault.{HiveFault}
use Rattle.nt_bytes.specs.declared.fault.HiveFaultKind.{HiveFaultKind}
use Rattle.nt_bytes.specs.declared.fault.HiveFaultKind.TheVariants.{FormShort, Shared}
use Rattle.nt_bytes.specs.Fields.{u32_in}
use Rattle.nt_bytes.specs.Reading.{◌>>=◌}
use Rattle.hive_model.specs.Forms.{bytes_in}
use Rattle.hive_model.specs.Lists.{numbers_in}
use Rattle.hive_model.specs.Size.{segment_bytes}
use Rattle.salvage_bins.specs.Ground.{Ground}
use Rattle.salvage_walk.specs.declared.claims.Claim.{Claim}
use Rattle.salvage_walk.specs.Uses.{admitted, clashes, claim_at, claimed, lies_in, claim_of, overlaps}
use Rattle.salvage_walk.specs.Parts.{part, bytes_long}
use Rattle.salvage_walk.specs.Values.{bytes_part}
use Rattle.salvage_walk.specs.Segments.{segments_used}
use Rattle.salvage_walk.specs.Clear.{IsClear, IsSegment, Stand}
use Rattle.salvage_walk.specs.Remembered.{AreClearBelow, AreFull}
use Rattle.salvage_walk.proofs.PlacedLemmas.{find-rest, find-take, get-push}
use Rattle.salvage_walk.proofs.LooseLemmas.{any-rest}

-- ---- one segment

find-both : (p : Claim → Bool) (xs ys : List Claim) → find p xs ≡ None → find p ys ≡ None → find p (xs ++ ys) ≡ None
find-both p [] ys e d = d
find-both p (x ∷ xs) ys e d =
    let r = find-rest p x xs e in
    ap (λ b. cond b (Some x) (find p (xs ++ ys))) r.0 ∙ find-both p xs ys r.1 d

any-both : (p : Claim → Bool) (xs ys : List Claim) → list_any p xs ≡ false → list_any p ys ≡ false
    → list_any p (xs ++ ys) ≡ false
any-both p [] ys e d = d
any-both p (x ∷ xs) ys e d =
    let r = any-rest (p x) (list_any p xs) e in
    ap (λ b. b || list_any p (xs ++ ys)) r.0 ∙ any-both p xs ys r.1 d

any-take : (p : Claim → Bool) (n : ℕ) (xs : List Claim) → list_any p xs ≡ false → list_any p (take n xs) ≡ false
any-take p zero xs e = refl
any-take p (suc n) [] e = refl
any-take p (suc n) (x ∷ xs) e =
    let r = any-rest (p x) (list_any p xs) e in
    ap (λ b. b || list_any p (take n xs)) r.0 ∙ any-take p n xs r.1

pub clear-both : (xs ys : List Claim) (s : Claim) → IsClear xs s → IsClear ys s → IsClear (xs ++ ys) s
clear-both xs ys s f g = record {
  fresh = find-both (λ (d : Claim). d.at == s.at) xs ys f.fresh g.fresh;
  free = λ l. any-both (lies_in s.at s.end) xs ys (f.free l) (g.free l);
}

pub clear-take : (n : ℕ) (xs : List Claim) (s : Claim) → IsClear xs s → IsClear (take n xs) s
clear-take n xs s f = record {
  fresh = find-take (λ (d : Claim). d.at == s.at) n xs f.fresh;
  free = λ l. any-take (lies_in s.at s.end) n xs (f.free l);
}

-- a full segment that has no byte up to the end of a use from its beginning on
pub clear-far : (c s : Claim) (end : ℕ) → s.end ≡ s.at + 16348 → c.at < end → c.end ≤ end
    → (c.at - 16347 ≤ s.at → s.at < end → ⊥) → IsClear (c ∷ []) s
clear-far c s end full begun ended far = record {
  fresh = same (c.at == s.at) refl;
  free = λ l. lies c.loose (nat_lt c.at s.end) (nat_lt s.at c.end) refl refl;
}
  where
    same : (b : Bool) → (c.at == s.at) ≡ b → cond b (Some c) None ≡ None
    same false t = refl
    same true t =
        let e : c.at ≡ s.at = eqb-true c.at s.at t in absurd (far (omega (arith, e)) (omega (arith, e, begun)))

    lies : (l a b : Bool) → nat_lt c.at s.end ≡ a → nat_lt s.at c.end ≡ b → ((l && (a && b)) || false) ≡ false
    lies false a b h k = refl
    lies true false b h k = refl
    lies true true false h k = refl
    lies true true true h k =
        let low : c.at < s.end = grind (arith, nat_tests, h) in
        let high : s.at < c.end = grind (arith, nat_tests, k) in
        absurd (far (omega (arith, low, full)) (omega (arith, high, ended)))

-- ---- lists of segments

take-more : (n : ℕ) (xs : List Claim) (c : Claim) → slice_get xs n ≡ Some c → take (suc n) xs ≡ take n xs ++ c ∷ []
take-more zero [] c e = absurd cc
take-more zero (x ∷ xs) c e = let h : x ≡ c = cc in ap (λ (d : Claim). d ∷ []) h
take-more (suc n) [] c e = absurd cc
take-more (suc n) (x ∷ xs) c e = ap (λ (ys : List Claim). x ∷ ys) (take-more n xs c e)

pub take-on : (n : ℕ) (xs : List Claim) (c : Claim) → slice_get xs n ≡ Some c → take (n + 1) xs ≡ take n xs ++ c ∷ []
take-on n xs c e = let k : n + 1 ≡ suc n = omega arith in ap (λ m. take m xs) k ∙ take-more n xs c e

append-none : (xs : List Claim) → xs ++ [] ≡ xs
append-none [] = refl
append-none (x ∷ xs) = ap (λ (ys : List Claim). x ∷ ys) (append-none xs)

pub stand-push : (hive : Ground) (before : List Claim) (os : List ℕ) (list : List Claim) (at : ℕ) (s : Claim)
    → Stand hive before os list → IsSegment hive at s → IsClear (before ++ list) s
    → Stand hive before (os ++ at ∷ []) (list ++ s ∷ [])
unfolding Stand
stand-push hive before [] [] at s h i c = (i, subst (λ (b : List Claim). IsClear b s) (append-none before) c, tt)
stand-push hive before [] (t ∷ list) at s h i c = absurd h
stand-push hive before (o ∷ os) [] at s h i c = absurd h
stand-push hive before (o ∷ os) (t ∷ list) at s h i c = (
  h.0,
  h.1,
  stand-push hive (before ++ t ∷ []) os list at s h.2 i
      (subst (λ (b : List Claim). IsClear b s) (sym (append_assoc before (t ∷ []) list)) c),
)

pub stand-take : (hive : Ground) (before : List Claim) (n : ℕ) (os : List ℕ) (list : List Claim)
    → Stand hive before os list → Stand hive before (take n os) (take n list)
unfolding Stand
stand-take hive before zero os list h = tt
stand-take hive before (suc n) [] [] h = tt
stand-take hive before (suc n) [] (t ∷ list) h = absurd h
stand-take hive before (suc n) (o ∷ os) [] h = absurd h
stand-take hive before (suc n) (o ∷ os) (t ∷ list) h = (h.0, h.1, stand-take hive (before ++ t ∷ []) n os list h.2)

-- each of them is clear of other uses too
pub stand-after : (hive : Ground) (uses before : List Claim) (os : List ℕ) (list : List Claim)
    → ((i : ℕ) (s : Claim) → slice_get list i ≡ Some s → IsClear uses s)
    → Stand hive before os list → Stand hive (uses ++ before) os list
unfolding Stand
stand-after hive uses before [] [] c h = tt
stand-after hive uses before [] (t ∷ list) c h = absurd h
stand-after hive uses before (o ∷ os) [] c h = absurd h
stand-after hive uses before (o ∷ os) (t ∷ list) c h = (
  h.0,
  clear-both uses before t (c 0 t refl) h.1,
  subst (λ (b : List Claim). Stand hive b os list) (sym (append_assoc uses before (t ∷ [])))
      (stand-after hive uses (before ++ t ∷ []) os list (λ i s e. c (suc i) s e) h.2),
)

-- those before a number
pub get-front : (n : ℕ) (xs : List Claim) (i : ℕ) (c : Claim) → slice_get (take n xs) i ≡ Some c
    → (slice_get xs i ≡ Some c) × (i < n)
get-front zero xs i c e = absurd cc
get-front (suc n) [] i c e = absurd cc
get-front (suc n) (x ∷ xs) zero c e = (e, omega arith)
get-front (suc n) (x ∷ xs) (suc i) c e =
    let r = get-front n xs i c e in let l : suc i < suc n = omega (arith, r.1) in (r.0, l)

pub front-stands : (hive : Ground) (uses : List Claim) (os : List ℕ) (list : List Claim) (n : ℕ)
    → AreClearBelow uses list n → Stand hive [] os list → Stand hive uses (take n os) (take n list)
front-stands hive uses os list n c h =
    subst (λ (b : List Claim). Stand hive b (take n os) (take n list)) (append-none uses)
    (stand-after hive uses [] (take n os) (take n list)
    (λ i s e. let r = get-front n list i s e in c i s r.1 r.0) (stand-take hive [] n os list h))

-- ---- offsets

pub numbers-front : (n m : ℕ) (p : List ℕ) → n ≤ m → take n (numbers_in 4 m p) ≡ numbers_in 4 n p
numbers-front zero m p l = refl
numbers-front (suc n) zero p l = absurd (omega (arith, l))
numbers-front (suc n) (suc m) p l = rw (numbers-front n m (drop 4 p) (omega (arith, l))) refl

pub numbers-split : (n m : ℕ) (p : List ℕ) → numbers_in 4 (n + m) p ≡ numbers_in 4 n p ++ numbers_in 4 m (drop (4 * n) p)
numbers-split zero m p = let e : 0 + m ≡ m = omega arith in ap (λ k. numbers_in 4 k p) e
numbers-split (suc n) m p =
    let k : suc n + m ≡ suc (n + m) = omega arith in
    let e : 4 + 4 * n ≡ 4 * suc n = omega arith in
    ap (λ x. numbers_in 4 x p) k ∙ ap (λ (os : List ℕ). u32_in p 0 ∷ os) (numbers-split n m (drop 4 p)
    ∙ ap (λ (q : List ℕ). numbers_in 4 n (drop 4 p) ++ numbers_in 4 m q) (drop-drop (4 * n) 4 p ∙ ap (λ k. drop k p) e))

-- ---- the part of a segment

-- the uses with that of a full segment that is clear of them
pub record IsAdded (hive : Ground) (uses : List Claim) (at : ℕ) (new : List Claim) : Type 0 where
  pub segment : Claim
  pub full : IsSegment hive at segment
  pub clear : IsClear uses segment
  pub is : new ≡ uses ++ segment ∷ []

pub part-segment : (hive : Ground) (uses : List Claim) (at : ℕ) (r : List ℕ × List Claim)
    → part (bytes_in segment_bytes) bytes_long false hive uses at ≡ Ok r → IsAdded hive uses at r.1
unfolding part admitted bytes_in claimed
part-segment hive uses at r e = by (hive.cells.payload at) refl e
  where
    use-of : ℕ → Claim
    use-of long = claim_at hive false at long

    last : (p : List ℕ) (long : ℕ) (b : Bool) → hive.cells.payload at ≡ Ok p → segment_bytes ≤ length p
        → claim_of at uses ≡ None → long ≡ 4 + segment_bytes
        → (hive.loose at && overlaps at (at + long) uses) ≡ b
        → ((if b then Err Shared else Ok (uses ++ use-of long ∷ [])) >>= λ after. Ok (take segment_bytes p, after)) ≡ Ok r
        → IsAdded hive uses at r.1
    last p long true there full fresh l o e = absurd cc
    last p long false there full fresh l o e =
        let f : (take segment_bytes p, uses ++ use-of long ∷ []) ≡ r = cc in record {
          segment = use-of long;
          full = record { payload = p; there = there; full = full; is = ap use-of l };
          clear = record {
            fresh = fresh;
            free = λ h. sym (ap (λ b. b && overlaps at (at + long) uses) h) ∙ o;
          };
          is = ap (λ x. x.1) (sym f);
        }

    long : (p : List ℕ) (b : Bool) → hive.cells.payload at ≡ Ok p → claim_of at uses ≡ None
        → nat_lt (length p) segment_bytes ≡ b
        → ((if b then Err FormShort else Ok (take segment_bytes p))
        >>= λ f. (if is_some (claim_of at uses) then Ok uses
        else if hive.loose at && overlaps at (at + bytes_long f) uses then Err Shared
        else Ok (uses ++ use-of (bytes_long f) ∷ [])) >>= λ after. Ok (f, after)) ≡ Ok r
        → IsAdded hive uses at r.1
    long p true there fresh l e = absurd cc
    long p false there fresh l e =
        let full : segment_bytes ≤ length p = grind (arith, nat_tests, l) in
        last p (bytes_long (take segment_bytes p)) _ there full fresh
        (ap (λ n. 4 + n) (length-take-le segment_bytes p full)) refl
        (rw fresh at e)

    free : (p : List ℕ) (o : Option Claim) → hive.cells.payload at ≡ Ok p → claim_of at uses ≡ o
        → ((if clashes o false then Err Shared else Ok p)
        >>= λ q. (if nat_lt (length q) segment_bytes then Err FormShort else Ok (take segment_bytes q))
        >>= λ f. (if is_some (claim_of at uses) then Ok uses
        else if hive.loose at && overlaps at (at + bytes_long f) uses then Err Shared
        else Ok (uses ++ use-of (bytes_long f) ∷ [])) >>= λ after. Ok (f, after)) ≡ Ok r
        → IsAdded hive uses at r.1
    free p (Some c) there u e = absurd cc
    free p None there u e = long p (nat_lt (length p) segment_bytes) there u refl e

    by : (a : Result (List ℕ) HiveFaultKind) → hive.cells.payload at ≡ a
        → ((a >>= λ p. if clashes (claim_of at uses) false then Err Shared else Ok p)
        >>= λ q. (if nat_lt (length q) segment_bytes then Err FormShort else Ok (take segment_bytes q))
        >>= λ f. (if is_some (claim_of at uses) then Ok uses
        else if hive.loose at && overlaps at (at + bytes_long f) uses then Err Shared
        else Ok (uses ++ use-of (bytes_long f) ∷ [])) >>= λ after. Ok (f, after)) ≡ Ok r
        → IsAdded hive uses at r.1
    by (Err kind) there e = absurd cc
    by (Ok p) there e = free p (claim_of at uses) there refl e

-- a full segment that is clear of uses stands after them
pub segment-part : (hive : Ground) (uses : List Claim) (at : ℕ) (s : Claim) → IsSegment hive at s → IsClear uses s
    → (bytes : List ℕ) × (bytes_part segment_bytes hive uses at ≡ Ok (bytes, uses ++ s ∷ []))
unfolding bytes_part part admitted bytes_in claimed
segment-part hive uses at s f c =
    let p = f.payload in
    let fits : nat_lt (length p) segment_bytes ≡ false = grind (arith, nat_tests, f.full) in
    let same : s.at ≡ at = ap (λ (x : Claim). x.at) f.is in
    let ends : s.end ≡ at + (4 + segment_bytes) = ap (λ (x : Claim). x.end) f.is in
    let fresh : claim_of at uses ≡ None = ap (λ n. claim_of n uses) (sym same) ∙ c.fresh in
    let long : length (take segment_bytes p) ≡ segment_bytes = length-take-le segment_bytes p f.full in
    let free : (hive.loose at && overlaps at (at + (4 + segment_bytes)) uses) ≡ false = apart (hive.loose at) refl same ends in
    (take segment_bytes p, rw (f.there, fresh, fits, long, free, f.is) refl)
  where
    apart : (l : Bool) → hive.loose at ≡ l → s.at ≡ at → s.end ≡ at + (4 + segment_bytes)
        → (l && overlaps at (at + (4 + segment_bytes)) uses) ≡ false
    apart false h same ends = refl
    apart true h same ends =
        ap (λ n. overlaps n (at + (4 + segment_bytes)) uses) (sym same) ∙ ap (λ n. overlaps s.at n uses) (sym ends)
        ∙ c.free (ap (λ (x : Claim). x.loose) f.is ∙ h)

-- segments that stand are used before the others of their list
pub stand-used : (hive : Ground) (uses : List Claim) (os : List ℕ) (list : List Claim) (n : ℕ) (rest : List ℕ)
    → Stand hive uses os list → segment_bytes * length os ≤ n
    → segments_used hive n (os ++ rest) uses ≡ segments_used hive (n - segment_bytes * length os) rest (uses ++ list)
unfolding Stand segments_used
stand-used hive uses [] [] n rest h l =
    let e : n ≡ n - segment_bytes * 0 = omega arith in
    ap (λ (u : List Claim). segments_used hive n rest u) (sym (append-none uses))
    ∙ ap (λ m. segments_used hive m rest (uses ++ [])) e
stand-used hive uses [] (t ∷ list) n rest h l = absurd h
stand-used hive uses (o ∷ os) [] n rest h l = absurd h
stand-used hive uses (o ∷ os) (t ∷ list) n rest h l =
    let whole : min segment_bytes n ≡ segment_bytes = omega (arith, l) in
    let s = segment-part hive uses o t h.0 h.1 in
    let left : n - segment_bytes - segment_bytes * length os ≡ n - segment_bytes * length (o ∷ os) = omega arith in
    ap (λ m. bytes_part m hive uses o >>= λ s. segments_used hive (n - segment_bytes) (os ++ rest) s.1) whole
    ∙ ap (λ (r : Result (List ℕ × List Claim) HiveFault). r >>= λ s. segments_used hive (n - segment_bytes) (os ++ rest) s.1) s.1
    ∙ stand-used hive (uses ++ t ∷ []) os list (n - segment_bytes) rest h.2 (omega (arith, l))
    ∙ ap (λ m. segments_used hive m rest ((uses ++ t ∷ []) ++ list)) left
    ∙ ap (λ (u : List Claim). segments_used hive (n - segment_bytes * length (o ∷ os)) rest u) (append_assoc uses (t ∷ []) list)

-- ---- the first segments of a list

pub first-none : (hive : Ground) (p : List ℕ) (list : List Claim) → list ≡ [] → Stand hive [] (numbers_in 4 (length list) p) list
unfolding Stand
first-none hive p list e = subst (λ (x : List Claim). Stand hive [] (numbers_in 4 (length x) p) x) (sym e) tt

pub full-none : (list : List Claim) → list ≡ [] → AreFull list
full-none list e = subst AreFull (sym e) (λ i s h. absurd cc)

pub rest-none : (p : List ℕ) (list : List Claim) → list ≡ [] → p ≡ drop (4 * length list) p
rest-none p list e = rw e refl

added-length : (hive : Ground) (list new : List Claim) (at : ℕ) → IsAdded hive list at new → length new ≡ length list + 1
added-length hive list new at a = ap length a.is ∙ length-append list (a.segment ∷ [])

pub first-more : (hive : Ground) (p rest : List ℕ) (list new : List Claim) (at : ℕ) → at ≡ u32_in rest 0
    → rest ≡ drop (4 * length list) p → IsAdded hive list at new → Stand hive [] (numbers_in 4 (length list) p) list
    → Stand hive [] (numbers_in 4 (length new) p) new
first-more hive p rest list new at e d a h =
    let os : numbers_in 4 (length new) p ≡ numbers_in 4 (length list) p ++ at ∷ []
    = ap (λ n. numbers_in 4 n p) (added-length hive list new at a) ∙ numbers-split (length list) 1 p
    ∙ ap (λ n. numbers_in 4 (length list) p ++ n ∷ []) (ap (λ (q : List ℕ). u32_in q 0) (sym d) ∙ sym e) in
    subst (λ (xs : List ℕ). Stand hive [] xs new) (sym os)
    (subst (λ (x : List Claim). Stand hive [] (numbers_in 4 (length list) p ++ at ∷ []) x) (sym a.is)
    (stand-push hive [] (numbers_in 4 (length list) p) list at a.segment h a.full a.clear))

pub full-more : (hive : Ground) (list new : List Claim) (at : ℕ) → IsAdded hive list at new → AreFull list → AreFull new
full-more hive list new at a f = subst AreFull (sym a.is) (λ i s e. go i s (get-push list a.segment i s e))
  where
    long : a.segment.end ≡ a.segment.at + 16348
    long =
        let e : a.segment.end ≡ at + (4 + 16344) = ap (λ (x : Claim). x.end) a.full.is in
        let d : a.segment.at ≡ at = ap (λ (x : Claim). x.at) a.full.is in omega (arith, e, d)

    go : (i : ℕ) (s : Claim)
        → ((slice_get list i ≡ Some s) × (take i (list ++ a.segment ∷ []) ≡ take i list)) ⊎ ((s ≡ a.segment) × (take i (list ++ a.segment ∷ []) ≡ list))
        → s.end ≡ s.at + 16348
    go i s (inl r) = f i s r.0
    go i s (inr r) = subst (λ (x : Claim). x.end ≡ x.at + 16348) (sym r.0) long

pub rest-more : (hive : Ground) (p rest : List ℕ) (list new : List Claim) (at : ℕ) → rest ≡ drop (4 * length list) p
    → IsAdded hive list at new → drop 4 rest ≡ drop (4 * length new) p
rest-more hive p rest list new at d a =
    let n : length new ≡ length list + 1 = added-length hive list new at a in
    let e : 4 * length list + 4 ≡ 4 * length new = omega (arith, n) in
    ap (drop 4) d ∙ drop-drop 4 (4 * length list) p ∙ ap (λ k. drop k p) e
