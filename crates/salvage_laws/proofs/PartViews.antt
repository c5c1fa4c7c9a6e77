-- What a part of the tree says of its cell, whether it was made or refused.
use Rattle.std.proofs.Common.{◌≡◌, ℕ, ◌+◌, Bool, true, false, cond, List, [], ◌∷◌, ◌++◌, Option, Some, None, Result, Ok, Err, refl, sym, ap, ◌∙◌, append-nil}
use Rattle.std.specs.Prelude.{◌&&◌, is_some}
use Rattle.nt_bytes.specs.declared.fault.HiveFaultKind.{HiveFaultKind}
use Rattle.nt_bytes.specs.declared.fault.HiveFaultKind.TheVariants.{Shared}
use Rattle.nt_bytes.specs.Reading.{◌>>=◌}
use Rattle.salvage_bins.specs.Ground.{Ground}
use Rattle.salvage_walk.specs.declared.claims.Claim.{Claim}
use Rattle.salvage_walk.specs.Uses.{claim_of, clashes, admitted, overlaps, claim_at, claimed}
use Rattle.salvage_walk.specs.Parts.{part}
use Rattle.salvage_walk.specs.Fronts.{Front, kind_or_short, claimed_or_short, front_part}

abbrev pub done : {A : Type 0} → A → Result A HiveFaultKind
done x = Ok x

abbrev pub failed : {A : Type 0} → HiveFaultKind → Result A HiveFaultKind
failed k = Err k

-- ---- a use

-- the cell was used before, and is used again; or it is used now, and of a loose one no byte was
pub data Gained (hive : Ground) (claims : List Claim) (security : Bool) (at long : ℕ) (after : List Claim) : Type 0 where
  again : (c : Claim) → claim_of at claims ≡ Some c → after ≡ claims → Gained hive claims security at long after
  fresh : claim_of at claims ≡ None → (hive.loose at && overlaps at (at + long) claims) ≡ false
      → after ≡ claims ++ claim_at hive security at long ∷ [] → Gained hive claims security at long after

-- bytes of a loose cell were used before
pub record Covered (hive : Ground) (claims : List Claim) (at long : ℕ) (kind : HiveFaultKind) : Type 0 where
  pub fresh : claim_of at claims ≡ None
  pub over : (hive.loose at && overlaps at (at + long) claims) ≡ true
  pub is : kind ≡ Shared

abbrev pub ClaimView : Ground → List Claim → Bool → ℕ → ℕ → Result (List Claim) HiveFaultKind → Type 0
ClaimView hive claims security at long (Ok after) = Gained hive claims security at long after
ClaimView hive claims security at long (Err kind) = Covered hive claims at long kind

pub claim-view : (hive : Ground) (claims : List Claim) (security : Bool) (at long : ℕ)
    → ClaimView hive claims security at long (claimed hive claims security at long)
unfolding claimed
claim-view hive claims security at long = by (claim_of at claims) refl
  where
    over : claim_of at claims ≡ None → (b : Bool) → (hive.loose at && overlaps at (at + long) claims) ≡ b
        → ClaimView hive claims security at long (cond b (Err Shared) (Ok (claims ++ claim_at hive security at long ∷ [])))
    over n true e = record { fresh = n; over = e; is = refl }
    over n false e = fresh n e refl

    by : (o : Option Claim) → claim_of at claims ≡ o
        → ClaimView hive claims security at long (cond (is_some o) (Ok claims)
        (cond (hive.loose at && overlaps at (at + long) claims) (Err Shared) (Ok (claims ++ claim_at hive security at long ∷ []))))
    by (Some c) e = again c e refl
    by None e = over e (hive.loose at && overlaps at (at + long) claims) refl

-- uses grow at their end
pub gained-more : (hive : Ground) (claims : List Claim) (security : Bool) (at long : ℕ) (after : List Claim)
    → Gained hive claims security at long after → (more : List Claim) × (after ≡ claims ++ more)
gained-more hive claims security at long after (again c e d) = ([], d ∙ sym (append-nil claims))
gained-more hive claims security at long after (fresh n o d) = (claim_at hive security at long ∷ [], d)

-- ---- a part

-- the cell is there, may be used, and has the form
pub record Made {F : Type 0} (form : List ℕ → Result F HiveFaultKind) (long : F → ℕ) (security : Bool) (hive : Ground) (claims : List Claim)
    (at : ℕ) (f : F) (after : List Claim) : Type 0 where
  pub payload : List ℕ
  pub there : hive.cells.payload at ≡ Ok payload
  pub free : clashes (claim_of at claims) security ≡ false
  pub has : form payload ≡ Ok f
  pub gains : Gained hive claims security at (long f) after

-- there is none, it was used, it has another form, or bytes of it were used
pub data Refused {F : Type 0} (form : List ℕ → Result F HiveFaultKind) (long : F → ℕ) (security : Bool) (hive : Ground) (claims : List Claim)
    (at : ℕ) (kind : HiveFaultKind) : Type 0 where
  absent : hive.cells.payload at ≡ Err kind → Refused form long security hive claims at kind
  taken : (p : List ℕ) → hive.cells.payload at ≡ Ok p → clashes (claim_of at claims) security ≡ true → kind ≡ Shared
      → Refused form long security hive claims at kind
  unformed : (p : List ℕ) → hive.cells.payload at ≡ Ok p → clashes (claim_of at claims) security ≡ false → form p ≡ Err kind
      → Refused form long security hive claims at kind
  covered : (p : List ℕ) (f : F) → hive.cells.payload at ≡ Ok p → clashes (claim_of at claims) security ≡ false → form p ≡ Ok f
      → Covered hive claims at (long f) kind → Refused form long security hive claims at kind

abbrev pub PartView : {F : Type 0} → (List ℕ → Result F HiveFaultKind) → (F → ℕ) → Bool → Ground → List Claim → ℕ
    → Result (F × List Claim) HiveFaultKind → Type 0
PartView form long security hive claims at (Ok r) = Made form long security hive claims at r.0 r.1
PartView form long security hive claims at (Err kind) = Refused form long security hive claims at kind

module _ {F : Type 0} (form : List ℕ → Result F HiveFaultKind) (long : F → ℕ) (security : Bool) (hive : Ground) (claims : List Claim)
    (at : ℕ) where
  abbrev rest : List ℕ → Result (F × List Claim) HiveFaultKind
  rest p = form p >>= λ f. claimed hive claims security at (long f) >>= λ after. Ok (f, after)

  by-claim : (p : List ℕ) (f : F) → hive.cells.payload at ≡ Ok p → clashes (claim_of at claims) security ≡ false → form p ≡ Ok f
      → (r : Result (List Claim) HiveFaultKind) → ClaimView hive claims security at (long f) r
      → PartView form long security hive claims at (r >>= λ after. Ok (f, after))
  by-claim p f there free has (Ok after) v = record { payload = p; there = there; free = free; has = has; gains = v }
  by-claim p f there free has (Err kind) v = covered p f there free has v

  by-form : (p : List ℕ) → hive.cells.payload at ≡ Ok p → clashes (claim_of at claims) security ≡ false
      → (r : Result F HiveFaultKind) → form p ≡ r
      → PartView form long security hive claims at (r >>= λ f. claimed hive claims security at (long f) >>= λ after. Ok (f, after))
  by-form p there free (Ok f) e =
      by-claim p f there free e (claimed hive claims security at (long f)) (claim-view hive claims security at (long f))
  by-form p there free (Err kind) e = unformed p there free e

  by-clash : (p : List ℕ) → hive.cells.payload at ≡ Ok p → (b : Bool) → clashes (claim_of at claims) security ≡ b
      → PartView form long security hive claims at (cond b (Err Shared) (Ok p) >>= rest)
  by-clash p there true e = taken p there e refl
  by-clash p there false e = by-form p there e (form p) refl

  by-payload : (r : Result (List ℕ) HiveFaultKind) → hive.cells.payload at ≡ r
      → PartView form long security hive claims at
      ((r >>= λ p. cond (clashes (claim_of at claims) security) (Err Shared) (Ok p)) >>= rest)
  by-payload (Ok p) e = by-clash p e (clashes (claim_of at claims) security) refl
  by-payload (Err kind) e = absent e

  pub part-view : PartView form long security hive claims at (part form long security hive claims at)
  unfolding part admitted
  part-view = by-payload (hive.cells.payload at) refl

-- ---- a list

-- the same of a list of which a beginning is read
pub data Unread (form : List ℕ → Result Front HiveFaultKind) (hive : Ground) (claims : List Claim) (at : ℕ) (kind : HiveFaultKind) : Type 0 where
  none_there : hive.cells.payload at ≡ Err kind → Unread form hive claims at kind
  list_taken : (p : List ℕ) → hive.cells.payload at ≡ Ok p → clashes (claim_of at claims) false ≡ true → kind ≡ Shared
      → Unread form hive claims at kind
  no_list : (p : List ℕ) → hive.cells.payload at ≡ Ok p → clashes (claim_of at claims) false ≡ false → form p ≡ Err kind
      → Unread form hive claims at kind
  list_covered : (p : List ℕ) (f : Front) → hive.cells.payload at ≡ Ok p → clashes (claim_of at claims) false ≡ false → form p ≡ Ok f
      → Covered hive claims at f.long Shared → kind ≡ kind_or_short f.short Shared → Unread form hive claims at kind

abbrev pub FrontView : (List ℕ → Result Front HiveFaultKind) → Ground → List Claim → ℕ → Result (Front × List Claim) HiveFaultKind → Type 0
FrontView form hive claims at (Ok r) = Made form (λ (f : Front). f.long) false hive claims at r.0 r.1
FrontView form hive claims at (Err kind) = Unread form hive claims at kind

module _ (form : List ℕ → Result Front HiveFaultKind) (hive : Ground) (claims : List Claim) (at : ℕ) where
  abbrev list_rest : List ℕ → Result (Front × List Claim) HiveFaultKind
  list_rest p = form p >>= λ (f : Front). claimed_or_short f (claimed hive claims false at f.long)

  list-claim : (p : List ℕ) (f : Front) → hive.cells.payload at ≡ Ok p → clashes (claim_of at claims) false ≡ false → form p ≡ Ok f
      → (r : Result (List Claim) HiveFaultKind) → ClaimView hive claims false at f.long r
      → FrontView form hive claims at (claimed_or_short f r)
  list-claim p f there free has (Ok after) v = record { payload = p; there = there; free = free; has = has; gains = v }
  list-claim p f there free has (Err kind) v =
      list_covered p f there free has (record { fresh = v.fresh; over = v.over; is = refl }) (ap (kind_or_short f.short) v.is)

  list-form : (p : List ℕ) → hive.cells.payload at ≡ Ok p → clashes (claim_of at claims) false ≡ false
      → (r : Result Front HiveFaultKind) → form p ≡ r
      → FrontView form hive claims at (r >>= λ (f : Front). claimed_or_short f (claimed hive claims false at f.long))
  list-form p there free (Ok f) e =
      list-claim p f there free e (claimed hive claims false at f.long) (claim-view hive claims false at f.long)
  list-form p there free (Err kind) e = no_list p there free e

  list-clash : (p : List ℕ) → hive.cells.payload at ≡ Ok p → (b : Bool) → clashes (claim_of at claims) false ≡ b
      → FrontView form hive claims at (cond b (Err Shared) (Ok p) >>= list_rest)
  list-clash p there true e = list_taken p there e refl
  list-clash p there false e = list-form p there e (form p) refl

  list-payload : (r : Result (List ℕ) HiveFaultKind) → hive.cells.payload at ≡ r
      → FrontView form hive claims at ((r >>= λ p. cond (clashes (claim_of at claims) false) (Err Shared) (Ok p)) >>= list_rest)
  list-payload (Ok p) e = list-clash p e (clashes (claim_of at claims) false) refl
  list-payload (Err kind) e = none_there e

  pub front-view : FrontView form hive claims at (front_part form hive claims at)
  unfolding front_part admitted
  front-view = list-payload (hive.cells.payload at) refl
