-- Segments that are used first and read then.
use Rattle.std.proofs.Common.{◌≡◌, ℕ, zero, suc, ◌-◌, ◌<◌, drop, arith, Bool, true, false, List, [], ◌∷◌, ◌++◌, length, take, Result, Ok, Err, refl, sym, ap, ◌∙◌, append_assoc}
use Rattle.std.specs.Prelude.{nat_lt, if◌then◌else◌}
use Rattle.nt_bytes.specs.declared.fault.HiveFault.{HiveFault}
use Rattle.nt_bytes.specs.declared.fault.HiveFaultKind.{HiveFaultKind}
use Rattle.nt_bytes.specs.declared.fault.HiveFaultKind.TheVariants.{FormShort, Shared}
use Rattle.nt_bytes.specs.declared.fault.ReadStop.{ReadStop}
use Rattle.nt_bytes.specs.declared.fault.ReadStop.TheVariants as stops
use Rattle.hive_model.specs.Bins.{with_place}
use Rattle.hive_model.specs.Forms.{bytes_in}
use Rattle.hive_model.specs.Lists.{numbers_in}
use Rattle.nt_bytes.specs.Fields.{u32_in}
use Rattle.nt_bytes.specs.Reading.{◌>>=◌}
use Rattle.hive_model.specs.Size.{segment_bytes, segment_part}
use Rattle.salvage_bins.specs.Ground.{Ground}
use Rattle.salvage_walk.specs.declared.claims.Claim.{Claim}
use Rattle.salvage_walk.specs.Uses.{admitted, claim_of, claimed, clashes}
use Rattle.salvage_walk.specs.Parts.{part, bytes_long}
use Rattle.salvage_walk.specs.Values.{bytes_part, segments_part}
use Rattle.salvage_walk.specs.Segments.{segments_used, segments_there, front_in, Spends}
use Rattle.salvage_walk.specs.Walked.{Before, Tries}
use Rattle.salvage_walk.proofs.UseLemmas.{before-after}

-- ---- offsets in a row

pub numbers-length : (step n : ℕ) (p : List ℕ) → length (numbers_in step n p) ≡ n
numbers-length step zero p = refl
numbers-length step (suc n) p = ap suc (numbers-length step n (drop step p))

pub numbers-end : (n : ℕ) (p : List ℕ) → n ≡ 0 → numbers_in 4 n p ≡ []
numbers-end n p e = rw e refl

pub numbers-more : (n at : ℕ) (p : List ℕ) → 0 < n → at ≡ u32_in p 0 → numbers_in 4 n p ≡ at ∷ numbers_in 4 (n - 1) (drop 4 p)
numbers-more zero at p l e = absurd (omega arith)
numbers-more (suc n) at p l e = let d : suc n - 1 ≡ n = omega arith in rw (d, e) refl

-- ---- the loops

pub used-end : (hive : Ground) (n : ℕ) (offsets : List ℕ) (claims : List Claim) → offsets ≡ []
    → segments_used hive n offsets claims ≡ Ok claims
unfolding segments_used
used-end hive n offsets claims e = rw e refl

pub used-on : (hive : Ground) (n at : ℕ) (offsets more : List ℕ) (claims after : List Claim) (bytes : List ℕ)
    → offsets ≡ at ∷ more → bytes_part (segment_part n) hive claims at ≡ Ok (bytes, after)
    → segments_used hive (n - segment_bytes) more after ≡ segments_used hive n offsets claims
unfolding segments_used
used-on hive n at offsets more claims after bytes e d = rw (e, d) refl

pub used-off : (hive : Ground) (n at : ℕ) (offsets more : List ℕ) (claims : List Claim) (f : HiveFault)
    → offsets ≡ at ∷ more → bytes_part (segment_part n) hive claims at ≡ Err f
    → segments_used hive n offsets claims ≡ Err f
unfolding segments_used
used-off hive n at offsets more claims f e d = rw (e, d) refl

nothing-behind : (xs : List ℕ) → xs ≡ xs ++ []
nothing-behind [] = refl
nothing-behind (x ∷ xs) = ap (λ (ys : List ℕ). x ∷ ys) (nothing-behind xs)

pub there-end : (hive : Ground) (n : ℕ) (offsets bytes whole : List ℕ) → offsets ≡ []
    → bytes ++ segments_there hive n offsets ≡ whole → bytes ≡ whole
unfolding segments_there
there-end hive n offsets bytes whole e d =
    nothing-behind bytes ∙ sym (ap (λ (o : List ℕ). bytes ++ segments_there hive n o) e) ∙ d

pub there-on : (hive : Ground) (n at : ℕ) (offsets more bytes : List ℕ) → offsets ≡ at ∷ more
    → (bytes ++ front_in (segment_part n) (hive.cells.payload at)) ++ segments_there hive (n - segment_bytes) more
    ≡ bytes ++ segments_there hive n offsets
unfolding segments_there
there-on hive n at offsets more bytes e =
    let part = front_in (segment_part n) (hive.cells.payload at) in
    rw e (append_assoc bytes part (segments_there hive (n - segment_bytes) more))

-- ---- both together

-- a part that is used is the front of its payload
front-is : (n : ℕ) (hive : Ground) (claims : List Claim) (at : ℕ) (s : List ℕ × List Claim)
    → bytes_part n hive claims at ≡ Ok s
    → s.0 ≡ front_in n (hive.cells.payload at)
unfolding bytes_part part admitted bytes_in
front-is n hive claims at s e = by (hive.cells.payload at) e
  where
    claims-end : (bytes : List ℕ) (r : Result (List Claim) HiveFaultKind)
        → with_place at (r >>= λ after. Ok (bytes, after)) ≡ Ok s → s.0 ≡ bytes
    claims-end bytes (Ok after) e = let f : (bytes, after) ≡ s = cc in ap (λ x. x.0) (sym f)
    claims-end bytes (Err kind) e = absurd cc

    form : (p : List ℕ) (b : Bool)
        → with_place at ((if b then Err FormShort else Ok (take n p))
        >>= λ f. claimed hive claims false at (bytes_long f) >>= λ after. Ok (f, after))
        ≡ Ok s → s.0 ≡ take n p
    form p true e = absurd cc
    form p false e = claims-end (take n p) (claimed hive claims false at (bytes_long (take n p))) e

    free : (p : List ℕ) (b : Bool)
        → with_place at ((if b then Err Shared else Ok p)
        >>= λ q. (if nat_lt (length q) n then Err FormShort else Ok (take n q))
        >>= λ f. claimed hive claims false at (bytes_long f) >>= λ after. Ok (f, after))
        ≡ Ok s → s.0 ≡ take n p
    free p true e = absurd cc
    free p false e = form p (nat_lt (length p) n) e

    by : (r : Result (List ℕ) HiveFaultKind)
        → with_place at ((r >>= λ p. if clashes (claim_of at claims) false then Err Shared else Ok p)
        >>= λ q. (if nat_lt (length q) n then Err FormShort else Ok (take n q))
        >>= λ f. claimed hive claims false at (bytes_long f) >>= λ after. Ok (f, after))
        ≡ Ok s → s.0 ≡ front_in n r
    by (Ok p) e = free p (clashes (claim_of at claims) false) e
    by (Err kind) e = absurd cc

-- uses with bytes
abbrev with_bytes : List ℕ → Result (List Claim) HiveFault → Result (List ℕ × List Claim) HiveFault
with_bytes bytes (Ok claims) = Ok (bytes, claims)
with_bytes bytes (Err f) = Err f

joined : (hive : Ground) (bytes : List ℕ) (n : ℕ) (offsets : List ℕ) (claims : List Claim)
    → segments_part hive bytes n offsets claims
    ≡ with_bytes (bytes ++ segments_there hive n offsets) (segments_used hive n offsets claims)
unfolding segments_part segments_used segments_there
joined hive bytes n [] claims = ap (λ (b : List ℕ). Ok (b, claims)) (nothing-behind bytes)
joined hive bytes n (at ∷ more) claims =
    by (bytes_part (segment_part n) hive claims at) refl
    (λ (s : List ℕ × List Claim). joined hive (bytes ++ s.0) (n - segment_bytes) more s.1)
  where
    rest : List ℕ
    rest = segments_there hive (n - segment_bytes) more

    by : (r : Result (List ℕ × List Claim) HiveFault) → bytes_part (segment_part n) hive claims at ≡ r
        → ((s : List ℕ × List Claim) → segments_part hive (bytes ++ s.0) (n - segment_bytes) more s.1
        ≡ with_bytes ((bytes ++ s.0) ++ rest) (segments_used hive (n - segment_bytes) more s.1))
        → (r >>= λ s. segments_part hive (bytes ++ s.0) (n - segment_bytes) more s.1)
        ≡ with_bytes (bytes ++ (front_in (segment_part n) (hive.cells.payload at) ++ rest))
        (r >>= λ s. segments_used hive (n - segment_bytes) more s.1)
    by (Err f) e more-of = refl
    by (Ok s) e more-of =
        more-of s ∙ ap (λ (b : List ℕ). with_bytes b (segments_used hive (n - segment_bytes) more s.1))
        (append_assoc bytes s.0 rest
        ∙ ap (λ (b : List ℕ). bytes ++ (b ++ rest)) (front-is (segment_part n) hive claims at s e))

-- the bytes of segments that were used
pub tries-joined : {X : Type 0} (v : X → List ℕ) (hive : Ground) (n : ℕ) (offsets : List ℕ) (old new : List Claim)
    (x : X)
    → v x ≡ segments_there hive n offsets → Spends old new (Ok tt) (segments_used hive n offsets old)
    → Tries v old new (Ok x) (segments_part hive [] n offsets old)
tries-joined v hive n offsets old new x e s = (
  joined hive [] n offsets old ∙ ap (with_bytes (segments_there hive n offsets)) s.0
      ∙ ap (λ (b : List ℕ). Ok (b, new)) (sym e),
  s.1,
)

pub tries-unjoined : {X : Type 0} (v : X → List ℕ) (hive : Ground) (n : ℕ) (offsets : List ℕ) (old new : List Claim)
    (r : ReadStop)
    → Spends old new (Err r) (segments_used hive n offsets old)
    → Tries v old new (Err r) (segments_part hive [] n offsets old)
tries-unjoined v hive n offsets old new stops.Memory s = tt
tries-unjoined v hive n offsets old new (stops.Fault f) s =
    (joined hive [] n offsets old ∙ ap (with_bytes (segments_there hive n offsets)) s.0, s.1)

-- a segment that failed after others
pub spends-off : {X : Type 0} (v : X → List ℕ) (hive : Ground) (n at : ℕ) (offsets more : List ℕ) (a b c : List Claim)
    (r : ReadStop)
    (answer : Result (List Claim) HiveFault) → offsets ≡ at ∷ more → segments_used hive n offsets b ≡ answer
    → Before a b
    → Tries {X = X} v b c (Err r) (bytes_part (segment_part n) hive b at) → Spends a c (Err r) answer
spends-off v hive n at offsets more a b c stops.Memory answer e told before t = tt
spends-off v hive n at offsets more a b c (stops.Fault f) answer e told before t =
    (sym told ∙ used-off hive n at offsets more b f e t.0, before-after a b c before t.1)
