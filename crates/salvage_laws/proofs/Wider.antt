-- Why parts are refused, and by which uses of the whole result.
use Rattle.std.proofs.Common.{◌≡◌, inl, inr, ℕ, ◌+◌, ◌-◌, Bool, true, false, cond, List, [], ◌∷◌, ◌++◌, Option, Some, None, Result, Ok, Err, refl, sym, ap, subst, ◌∙◌, append_assoc, append-nil}
use Rattle.std.specs.Prelude.{◌==◌, ◌&&◌, ◌||◌, is_some}
use Rattle.std.specs.Option.{option_or}
use Rattle.std.specs.List.{list_any}
use Rattle.std.proofs.lemmas.List.Folds.{find-append, list_any-append}
use Rattle.nt_bytes.specs.Folding.{folds_same}
use Rattle.nt_bytes.specs.declared.fault.HiveFault.{HiveFault}
use Rattle.nt_bytes.specs.declared.fault.HiveFaultKind.{HiveFaultKind}
use Rattle.nt_bytes.specs.Reading.{◌>>=◌}
use Rattle.hive_model.specs.BigData.{BigData}
use Rattle.hive_model.specs.Bins.{with_place}
use Rattle.hive_model.specs.Forms.{bytes_in}
use Rattle.hive_model.specs.KeyValue.{KeyValue, key_value_at, data_inside}
use Rattle.hive_model.specs.Lists.{offsets_in}
use Rattle.hive_model.specs.Size.{segment_bytes, is_big, segment_part}
use Rattle.hive_model.specs.Stands.{data_or, joined_segments, big_bytes_at, data_of, item_at}
use Rattle.hive_model.specs.Tree.{Item}
use Rattle.hive_model.specs.Walk.{reading, big_data_of}
use Rattle.hive_read.proofs.FormFacts.{then-so}
use Rattle.hive_read.proofs.ValueWalks.{item-stands}
use Rattle.hive_read.proofs.WeighingLemmas.{bytes-long}
use Rattle.salvage_bins.specs.Ground.{Ground}
use Rattle.salvage_walk.specs.declared.claims.Claim.{Claim}
use Rattle.salvage_walk.specs.Uses.{claim_of, clashes, lies_in, overlaps, claim_at}
use Rattle.salvage_walk.specs.Parts.{part, unless_named, value_form, value_long, bytes_long, big_long, offsets_long}
use Rattle.salvage_walk.specs.Fronts.{Front}
use Rattle.salvage_walk.specs.Values.{bytes_part, segments_part, big_part, celled_part, data_where, data_part, item_of, value_part}
use Rattle.salvage_laws.specs.Fails.{Fails, is_wrong, is_used, is_covered, ListFails, list_wrong, list_used, list_covered, FailsAt, SegmentFails, BigFails, cell_fails, segments_unlisted, segment_fails, ItemFails, value_fails, big_fails, data_fails}
use Rattle.salvage_laws.specs.Left.{segments_uses, big_uses, data_uses, item_uses}
use Rattle.salvage_laws.proofs.PartViews.{done, Gained, again, fresh, Made, Refused, absent, taken, unformed, covered, PartView, part-view, Unread, none_there, list_taken, no_list, list_covered as unread_covered}
use Rattle.salvage_laws.proofs.Grows.{Adds}
use Rattle.salvage_laws.proofs.Alike.{named-so}

-- ---- uses among more

-- what clashes with one of these, or covers a byte of one, does so with those
pub record Wider (old new : List Claim) : Type 0 where
  pub clash : (at : ℕ) → clashes (claim_of at old) false ≡ true → clashes (claim_of at new) false ≡ true
  pub cover : (at end : ℕ) → overlaps at end old ≡ true → overlaps at end new ≡ true

-- these uses come first in those
abbrev pub Upto : List Claim → List Claim → Type 0
Upto old used = (later : List Claim) × (used ≡ old ++ later)

pub upto-adds : (old new used : List Claim) → Adds old new → Upto new used → Upto old used
upto-adds old new used a u =
    (a.more ++ u.0, u.1 ∙ ap (λ cs. cs ++ u.0) a.is ∙ append_assoc old a.more u.0)

pub clash-upto : (at : ℕ) (security : Bool) (old used : List Claim) → Upto old used → clashes (claim_of at old) security ≡ true
    → clashes (claim_of at used) security ≡ true
clash-upto at security old used u e =
    ap (λ cs. clashes (claim_of at cs) security) u.1
    ∙ ap (λ o. clashes o security) (find-append (λ (d : Claim). d.at == at) old u.0) ∙ by (claim_of at old) (claim_of at u.0) e
  where
    by : (o p : Option Claim) → clashes o security ≡ true → clashes (option_or o p) security ≡ true
    by (Some c) p e = e
    by None p e = absurd cc

or-first : (a b : Bool) → a ≡ true → (a || b) ≡ true
or-first true b e = refl
or-first false b e = absurd cc

pub cover-upto : (at end : ℕ) (old used : List Claim) → Upto old used → overlaps at end old ≡ true → overlaps at end used ≡ true
cover-upto at end old used u e =
    ap (overlaps at end) u.1 ∙ list_any-append (lies_in at end) old u.0 ∙ or-first (overlaps at end old) (overlaps at end u.0) e

pub wider-upto : (old used : List Claim) → Upto old used → Wider old used
wider-upto old used u = record { clash = λ at e. clash-upto at false old used u e; cover = λ at end e. cover-upto at end old used u e }

or-wider : (a b c : Bool) → (a ≡ true → b ≡ true) → (a || c) ≡ true → (b || c) ≡ true
or-wider true b c h e = or-first b c (h refl)
or-wider false true c h e = refl
or-wider false false c h e = e

wider-push : (old new : List Claim) (c : Claim) → Wider old new → Wider (old ++ c ∷ []) (new ++ c ∷ [])
wider-push old new c w = record {
  clash = λ at e. ap (λ o. clashes o false) (find-append (λ (d : Claim). d.at == at) new (c ∷ []))
      ∙ by at (claim_of at old) (claim_of at new) (cond (c.at == at) (Some c) None) (w.clash at)
      (sym (ap (λ o. clashes o false) (find-append (λ (d : Claim). d.at == at) old (c ∷ []))) ∙ e);
  cover = λ at end e. list_any-append (lies_in at end) new (c ∷ [])
      ∙ or-wider (overlaps at end old) (overlaps at end new) (overlaps at end (c ∷ [])) (w.cover at end)
      (sym (list_any-append (lies_in at end) old (c ∷ [])) ∙ e);
}
  where
    by : (at : ℕ) (o p q : Option Claim) → (clashes o false ≡ true → clashes p false ≡ true) → clashes (option_or o q) false ≡ true
        → clashes (option_or p q) false ≡ true
    by at (Some d) (Some f) q h e = refl
    by at (Some d) None q h e = absurd (let k : false ≡ true = h refl in cc)
    by at None (Some f) q h e = refl
    by at None None q h e = e

-- ---- refusals

and-wider : (a b c : Bool) → (b ≡ true → c ≡ true) → (a && b) ≡ true → (a && c) ≡ true
and-wider true b c h e = h e
and-wider false b c h e = e

abbrev Taking : Bool → List Claim → List Claim → Type 0
Taking security old new = (at : ℕ) → clashes (claim_of at old) security ≡ true → clashes (claim_of at new) security ≡ true

fails-so : {F : Type 0} (form : List ℕ → Result F HiveFaultKind) (long : F → ℕ) (security : Bool) (hive : Ground) (claims used : List Claim)
    (at : ℕ) (kind : HiveFaultKind) → Taking security claims used
    → ((at end : ℕ) → overlaps at end claims ≡ true → overlaps at end used ≡ true)
    → Refused form long security hive claims at kind → Fails form long security hive used at kind
fails-so form long security hive claims used at kind clash cover (absent e) = is_wrong (rw e refl)
fails-so form long security hive claims used at kind clash cover (taken p e c d) = is_used (clash at c) d
fails-so form long security hive claims used at kind clash cover (unformed p e c d) = is_wrong (rw (e, d) refl)
fails-so form long security hive claims used at kind clash cover (covered p f e c d v) =
    is_covered f (rw (e, d) refl)
    (and-wider (hive.loose at) (overlaps at (at + long f) claims) (overlaps at (at + long f) used) (cover at (at + long f)) v.over) v.is

pub fails-wider : {F : Type 0} (form : List ℕ → Result F HiveFaultKind) (long : F → ℕ) (hive : Ground) (claims used : List Claim) (at : ℕ)
    (kind : HiveFaultKind) → Wider claims used → Refused form long false hive claims at kind → Fails form long false hive used at kind
fails-wider form long hive claims used at kind w r = fails-so form long false hive claims used at kind w.clash w.cover r

pub fails-upto : {F : Type 0} (form : List ℕ → Result F HiveFaultKind) (long : F → ℕ) (security : Bool) (hive : Ground)
    (claims used : List Claim) (at : ℕ) (kind : HiveFaultKind) → Upto claims used → Refused form long security hive claims at kind
    → Fails form long security hive used at kind
fails-upto form long security hive claims used at kind u r =
    fails-so form long security hive claims used at kind (λ at e. clash-upto at security claims used u e)
    (λ at end e. cover-upto at end claims used u e) r

pub list-fails : (form : List ℕ → Result Front HiveFaultKind) (hive : Ground) (claims used : List Claim) (at : ℕ) (kind : HiveFaultKind)
    → Upto claims used → Unread form hive claims at kind → ListFails form hive used at kind
list-fails form hive claims used at kind u (none_there e) = list_wrong (rw e refl)
list-fails form hive claims used at kind u (list_taken p e c d) = list_used (clash-upto at false claims used u c) d
list-fails form hive claims used at kind u (no_list p e c d) = list_wrong (rw (e, d) refl)
list-fails form hive claims used at kind u (unread_covered p f e c d v g) =
    list_covered f (rw (e, d) refl)
    (and-wider (hive.loose at) (overlaps at (at + f.long) claims) (overlaps at (at + f.long) used)
    (cover-upto at (at + f.long) claims used u) v.over) g

-- ---- parts that were made

-- a part that is not used as security is used now
pub gained-now : (hive : Ground) (claims : List Claim) (at long : ℕ) (after : List Claim) → clashes (claim_of at claims) false ≡ false
    → Gained hive claims false at long after → after ≡ claims ++ claim_at hive false at long ∷ []
gained-now hive claims at long after free (again c e d) =
    let k : true ≡ false = ap (λ o. clashes o false) (sym e) ∙ free in absurd cc
gained-now hive claims at long after free (fresh n o d) = d

module _ {F : Type 0} (form : List ℕ → Result F HiveFaultKind) (long : F → ℕ) (security : Bool) (hive : Ground) (claims : List Claim)
    (at : ℕ) (f : F) (after : List Claim) where
  pub made-reads : Made form long security hive claims at f after → reading form hive.cells at ≡ Ok f
  made-reads m = rw (m.there, m.has) refl

-- ---- values

-- what a part of several cells left: what it is with its uses, or its fault
abbrev pub LeftOf : {X : Type 0} → (X → List Claim → Type 0) → (HiveFault → Type 0) → Result (X × List Claim) HiveFault → Type 0
LeftOf Means Lost (Ok r) = Means r.0 r.1
LeftOf Means Lost (Err fault) = Lost fault

then-left : {X Y : Type 0} (M : X → List Claim → Type 0) (N : Y → List Claim → Type 0) (L K : HiveFault → Type 0)
    (r : Result (X × List Claim) HiveFault) (f : X × List Claim → Result (Y × List Claim) HiveFault) → LeftOf M L r
    → ((fault : HiveFault) → L fault → K fault) → ((x : X × List Claim) → M x.0 x.1 → LeftOf N K (f x)) → LeftOf N K (r >>= f)
then-left M N L K (Ok x) f m k h = h x m
then-left M N L K (Err e) f m k h = k e m

left-map : {X : Type 0} (M N : X → List Claim → Type 0) (L K : HiveFault → Type 0) (r : Result (X × List Claim) HiveFault)
    → ((x : X) (cs : List Claim) → M x cs → N x cs) → ((fault : HiveFault) → L fault → K fault) → LeftOf M L r → LeftOf N K r
left-map M N L K (Ok x) h k m = h x.0 x.1 m
left-map M N L K (Err e) h k m = k e m

module _ (hive : Ground) where
  -- a cell that was used for its form
  abbrev pub Used : {F : Type 0} → (List ℕ → Result F HiveFaultKind) → (F → ℕ) → List Claim → ℕ → F → List Claim → Type 0
  Used form long claims at f after = (reading form hive.cells at ≡ Ok f) × (after ≡ claims ++ claim_at hive false at (long f) ∷ [])

  abbrev pub Lost : {F : Type 0} → (List ℕ → Result F HiveFaultKind) → (F → ℕ) → List Claim → ℕ → HiveFault → Type 0
  Lost form long claims at fault = (used : List Claim) → Wider claims used → FailsAt form long hive used at fault

  place-left : {F : Type 0} (form : List ℕ → Result F HiveFaultKind) (long : F → ℕ) (claims : List Claim) (at : ℕ)
      → LeftOf (Used form long claims at) (Lost form long claims at) (with_place at (part form long false hive claims at))
  place-left {F} form long claims at = by (part form long false hive claims at) (part-view form long false hive claims at)
    where
      by : (r : Result (F × List Claim) HiveFaultKind) → PartView form long false hive claims at r
          → LeftOf (Used form long claims at) (Lost form long claims at) (with_place at r)
      by (Ok r) v = (made-reads form long false hive claims at r.0 r.1 v, gained-now hive claims at (long r.0) r.1 v.free v.gains)
      by (Err k) v = λ used w. (k, refl, fails-wider form long hive claims used at k w v)

  abbrev pub BytesUsed : ℕ → List Claim → ℕ → List ℕ → List Claim → Type 0
  BytesUsed n claims at b after = (reading (bytes_in n) hive.cells at ≡ Ok b) × (after ≡ claims ++ claim_at hive false at (4 + n) ∷ [])

  pub bytes-left : (n : ℕ) (claims : List Claim) (at : ℕ)
      → LeftOf (BytesUsed n claims at) (Lost (bytes_in n) bytes_long claims at) (bytes_part n hive claims at)
  unfolding bytes_part
  bytes-left n claims at =
      left-map (Used (bytes_in n) bytes_long claims at) (BytesUsed n claims at) (Lost (bytes_in n) bytes_long claims at)
      (Lost (bytes_in n) bytes_long claims at) (with_place at (part (bytes_in n) bytes_long false hive claims at))
      (λ b after u. (u.0, u.1 ∙ ap (λ k. claims ++ claim_at hive false at (4 + k) ∷ []) (bytes-long hive.cells n at b u.0)))
      (λ fault l. l) (place-left (bytes_in n) bytes_long claims at)

  abbrev pub SegmentsUsed : List ℕ → ℕ → List ℕ → List Claim → List ℕ → List Claim → Type 0
  SegmentsUsed bytes n offsets claims all after =
      (part : List ℕ) × (all ≡ bytes ++ part) × (joined_segments hive.cells n offsets ≡ Ok part)
      × (after ≡ claims ++ segments_uses hive n offsets)

  abbrev pub SegmentsLost : ℕ → List ℕ → List Claim → HiveFault → Type 0
  SegmentsLost n offsets claims fault = (used : List Claim) → Wider claims used → SegmentFails hive used n offsets fault

  segments-left : (bytes : List ℕ) (n : ℕ) (offsets : List ℕ) (claims : List Claim)
      → LeftOf (SegmentsUsed bytes n offsets claims) (SegmentsLost n offsets claims) (segments_part hive bytes n offsets claims)
  unfolding segments_part
  segments-left bytes n [] claims = ([], sym (append-nil bytes), refl, sym (append-nil claims))
  segments-left bytes n (at ∷ more) claims =
      let c = claim_at hive false at (4 + segment_part n) in
      then-left (BytesUsed (segment_part n) claims at) (SegmentsUsed bytes n (at ∷ more) claims)
      (Lost (bytes_in (segment_part n)) bytes_long claims at) (SegmentsLost n (at ∷ more) claims)
      (bytes_part (segment_part n) hive claims at) (λ s. segments_part hive (bytes ++ s.0) (n - segment_bytes) more s.1)
      (bytes-left (segment_part n) claims at) (λ fault l used w. inl (l used w))
      (λ x u. left-map (SegmentsUsed (bytes ++ x.0) (n - segment_bytes) more x.1) (SegmentsUsed bytes n (at ∷ more) claims)
      (SegmentsLost (n - segment_bytes) more x.1) (SegmentsLost n (at ∷ more) claims)
      (segments_part hive (bytes ++ x.0) (n - segment_bytes) more x.1)
      (λ all after j. (
        x.0 ++ j.0,
        j.1 ∙ append_assoc bytes x.0 j.0,
        both x.0 j.0 u.0 j.2,
        j.3 ∙ ap (λ cs. cs ++ segments_uses hive (n - segment_bytes) more) u.1
            ∙ append_assoc claims (c ∷ []) (segments_uses hive (n - segment_bytes) more),
      ))
      (λ fault l used w. inr (l (used ++ c ∷ [])
      (subst (λ (cs : List Claim). Wider cs (used ++ c ∷ [])) (sym u.1) (wider-push claims used c w))))
      (segments-left (bytes ++ x.0) (n - segment_bytes) more x.1))
    where
      both : (part others : List ℕ) → reading (bytes_in (segment_part n)) hive.cells at ≡ Ok part
          → joined_segments hive.cells (n - segment_bytes) more ≡ Ok others
          → joined_segments hive.cells n (at ∷ more) ≡ Ok (part ++ others)
      both part others r s = rw (r, s) refl

  abbrev pub BigUsed : ℕ → List Claim → ℕ → List ℕ → List Claim → Type 0
  BigUsed n claims at b after = (big_bytes_at hive.cells n at ≡ Ok b) × (after ≡ claims ++ big_uses hive n at)

  abbrev pub BigLost : ℕ → List Claim → ℕ → HiveFault → Type 0
  BigLost n claims at fault = (used : List Claim) → Wider claims used → BigFails hive used n at fault

  big-is : (n at : ℕ) (big : BigData) (offsets part all : List ℕ) → reading (big_data_of n) hive.cells at ≡ Ok big
      → reading (offsets_in big.segments) hive.cells big.list ≡ Ok offsets → all ≡ [] ++ part
      → joined_segments hive.cells n offsets ≡ Ok part → big_bytes_at hive.cells n at ≡ Ok all
  unfolding big_bytes_at
  big-is n at big offsets part all m o e j = rw (m, o, j) (ap done (sym e))

  pub uses-are : (n at : ℕ) (big : BigData) (offsets : List ℕ) → reading (big_data_of n) hive.cells at ≡ Ok big
      → reading (offsets_in big.segments) hive.cells big.list ≡ Ok offsets
      → big_uses hive n at ≡ claim_at hive false at (big_long big) ∷ claim_at hive false big.list (offsets_long offsets) ∷ segments_uses hive n offsets
  uses-are n at big offsets m o = rw (m, o) refl

  big-left : (n : ℕ) (claims : List Claim) (at : ℕ) → LeftOf (BigUsed n claims at) (BigLost n claims at) (big_part n hive claims at)
  unfolding big_part
  big-left n claims at =
      then-left (Used (big_data_of n) big_long claims at) (BigUsed n claims at) (Lost (big_data_of n) big_long claims at) (BigLost n claims at)
      (with_place at (part (big_data_of n) big_long false hive claims at))
      (λ big. with_place big.0.list (part (offsets_in big.0.segments) offsets_long false hive big.1 big.0.list) >>= λ list.
      segments_part hive [] n list.0 list.1)
      (place-left (big_data_of n) big_long claims at) (λ fault l used w. cell_fails (l used w))
      (λ big u. then-left (Used (offsets_in big.0.segments) offsets_long big.1 big.0.list) (BigUsed n claims at)
      (Lost (offsets_in big.0.segments) offsets_long big.1 big.0.list) (BigLost n claims at)
      (with_place big.0.list (part (offsets_in big.0.segments) offsets_long false hive big.1 big.0.list))
      (λ list. segments_part hive [] n list.0 list.1)
      (place-left (offsets_in big.0.segments) offsets_long big.1 big.0.list)
      (λ fault l used w. segments_unlisted big.0 u.0 (l (used ++ first big.0 ∷ []) (one big u.1 used w)))
      (λ list v. left-map (SegmentsUsed [] n list.0 list.1) (BigUsed n claims at) (SegmentsLost n list.0 list.1) (BigLost n claims at)
      (segments_part hive [] n list.0 list.1)
      (λ all after j. (
        big-is n at big.0 list.0 j.0 all u.0 v.0 j.1 j.2,
        j.3 ∙ ap (λ cs. cs ++ segments_uses hive n list.0) v.1
            ∙ ap (λ cs. (cs ++ second big.0 list.0 ∷ []) ++ segments_uses hive n list.0) u.1
            ∙ append_assoc (claims ++ first big.0 ∷ []) (second big.0 list.0 ∷ []) (segments_uses hive n list.0)
            ∙ append_assoc claims (first big.0 ∷ []) (second big.0 list.0 ∷ segments_uses hive n list.0)
            ∙ ap (λ us. claims ++ us) (sym (uses-are n at big.0 list.0 u.0 v.0)),
      ))
      (λ fault l used w. segment_fails big.0 list.0 u.0 v.0
      (l ((used ++ first big.0 ∷ []) ++ second big.0 list.0 ∷ [])
      (subst (λ (cs : List Claim). Wider cs ((used ++ first big.0 ∷ []) ++ second big.0 list.0 ∷ [])) (sym v.1)
      (wider-push big.1 (used ++ first big.0 ∷ []) (second big.0 list.0) (one big u.1 used w)))))
      (segments-left [] n list.0 list.1)))
    where
      first : BigData → Claim
      first big = claim_at hive false at (big_long big)

      second : BigData → List ℕ → Claim
      second big offsets = claim_at hive false big.list (offsets_long offsets)

      one : (big : BigData × List Claim) → big.1 ≡ claims ++ claim_at hive false at (big_long big.0) ∷ [] → (used : List Claim)
          → Wider claims used → Wider big.1 (used ++ claim_at hive false at (big_long big.0) ∷ [])
      one big e used w =
          subst (λ (cs : List Claim). Wider cs (used ++ claim_at hive false at (big_long big.0) ∷ [])) (sym e)
          (wider-push claims used (claim_at hive false at (big_long big.0)) w)

  -- ---- a value

  abbrev pub ItemUsed : List (List ℕ) → List Claim → ℕ → Item → List Claim → Type 0
  ItemUsed names claims at item after =
      (item_at hive.cells at ≡ Ok item) × (after ≡ claims ++ item_uses hive at) × (list_any (folds_same item.name) names ≡ false)

  abbrev pub ItemLost : List (List ℕ) → List Claim → ℕ → HiveFault → Type 0
  ItemLost names claims at fault = (used : List Claim) → Wider claims used → ItemFails hive used names at fault

  abbrev pub DataUsed : KeyValue → List Claim → List ℕ → List Claim → Type 0
  DataUsed v claims b after = (data_of hive.cells v ≡ Ok b) × (after ≡ claims ++ data_uses hive v)

  -- the data of a value whose cell was used last
  data-left : (names : List (List ℕ)) (claims : List Claim) (at : ℕ) (v : KeyValue) (mine : List Claim)
      → reading (value_form names) hive.cells at ≡ Ok v → mine ≡ claims ++ claim_at hive false at (value_long v) ∷ []
      → LeftOf (DataUsed v mine) (ItemLost names claims at) (data_part v hive mine)
  unfolding data_part data_of celled_part
  data-left names claims at v mine e m = go (data_inside v) refl
    where
      c : Claim
      c = claim_at hive false at (value_long v)

      wide : (used : List Claim) → Wider claims used → Wider mine (used ++ claim_at hive false at (value_long v) ∷ [])
      wide used w =
          subst (λ (cs : List Claim). Wider cs (used ++ claim_at hive false at (value_long v) ∷ [])) (sym m)
          (wider-push claims used (claim_at hive false at (value_long v)) w)

      big : (b : Bool) → is_big hive.cells.version v.size ≡ b → data_inside v ≡ None
          → LeftOf (λ bytes after. (cond b (big_bytes_at hive.cells v.size v.offset) (reading (bytes_in v.size) hive.cells v.offset) ≡ Ok bytes)
          × (after ≡ mine ++ cond b (big_uses hive v.size v.offset) (claim_at hive false v.offset (4 + v.size) ∷ [])))
          (ItemLost names claims at)
          (cond b (big_part v.size hive mine v.offset) (bytes_part v.size hive mine v.offset))
      big true t n =
          left-map (BigUsed v.size mine v.offset) (BigUsed v.size mine v.offset) (BigLost v.size mine v.offset) (ItemLost names claims at)
          (big_part v.size hive mine v.offset) (λ b after u. u)
          (λ fault l used w. big_fails v e n t (l (used ++ claim_at hive false at (value_long v) ∷ []) (wide used w)))
          (big-left v.size mine v.offset)
      big false t n =
          left-map (BytesUsed v.size mine v.offset) (BytesUsed v.size mine v.offset) (Lost (bytes_in v.size) bytes_long mine v.offset)
          (ItemLost names claims at) (bytes_part v.size hive mine v.offset) (λ b after u. u)
          (λ fault l used w. data_fails v e n t (l (used ++ claim_at hive false at (value_long v) ∷ []) (wide used w)))
          (bytes-left v.size mine v.offset)

      go : (o : Option (List ℕ)) → data_inside v ≡ o
          → LeftOf (λ bytes after. (data_or o (cond (is_big hive.cells.version v.size) (big_bytes_at hive.cells v.size v.offset)
          (reading (bytes_in v.size) hive.cells v.offset)) ≡ Ok bytes)
          × (after ≡ mine ++ cond (is_some o) [] (cond (is_big hive.cells.version v.size) (big_uses hive v.size v.offset)
          (claim_at hive false v.offset (4 + v.size) ∷ []))))
          (ItemLost names claims at)
          (data_where o mine (cond (is_big hive.cells.version v.size) (big_part v.size hive mine v.offset)
          (bytes_part v.size hive mine v.offset)))
      go (Some d) n = (refl, sym (append-nil mine))
      go None n = big (is_big hive.cells.version v.size) refl n

  pub item-uses-are : (at : ℕ) (v : KeyValue) → reading key_value_at hive.cells at ≡ Ok v
      → item_uses hive at ≡ claim_at hive false at (value_long v) ∷ data_uses hive v
  item-uses-are at v e = rw e refl

  -- a value of this form is one of a name of its own
  value-plain : (names : List (List ℕ)) (at : ℕ) (v : KeyValue) → reading (value_form names) hive.cells at ≡ Ok v
      → (reading key_value_at hive.cells at ≡ Ok v) × (list_any (folds_same v.name) names ≡ false)
  unfolding value_form
  value-plain names at v e = payload (hive.cells.payload at) e
    where
      payload : (p : Result (List ℕ) HiveFaultKind)
          → (p >>= λ b. key_value_at b >>= λ (value : KeyValue). unless_named names value.name value) ≡ done v
          → ((p >>= key_value_at) ≡ done v) × (list_any (folds_same v.name) names ≡ false)
      payload (Ok b) e =
          let a = then-so (key_value_at b) (λ (value : KeyValue). unless_named names value.name value) v e in
          let n = named-so names a.0.name a.0 v a.2 in
          (a.1 ∙ ap done n.1, ap (λ (x : KeyValue). list_any (folds_same x.name) names) (sym n.1) ∙ n.0)
      payload (Err k) e = absurd cc

  pub value-left : (names : List (List ℕ)) (claims : List Claim) (at : ℕ)
      → LeftOf (ItemUsed names claims at) (ItemLost names claims at) (value_part names hive claims at)
  unfolding value_part
  value-left names claims at =
      then-left (Used (value_form names) value_long claims at) (ItemUsed names claims at) (Lost (value_form names) value_long claims at)
      (ItemLost names claims at) (with_place at (part (value_form names) value_long false hive claims at))
      (λ value. data_part value.0 hive value.1 >>= λ bytes. Ok (item_of value.0 bytes.0, bytes.1))
      (place-left (value_form names) value_long claims at) (λ fault l used w. value_fails (l used w))
      (λ v u. then-left (DataUsed v.0 v.1) (ItemUsed names claims at) (ItemLost names claims at) (ItemLost names claims at)
      (data_part v.0 hive v.1) (λ bytes. Ok (item_of v.0 bytes.0, bytes.1)) (data-left names claims at v.0 v.1 u.0 u.1) (λ fault l. l)
      (λ b d.
      let plain = value-plain names at v.0 u.0 in (
        item-stands hive.cells at v.0 b.0 plain.0 d.0,
        d.1 ∙ ap (λ cs. cs ++ data_uses hive v.0) u.1
            ∙ append_assoc claims (claim_at hive false at (value_long v.0) ∷ []) (data_uses hive v.0)
            ∙ ap (λ us. claims ++ us) (sym (item-uses-are at v.0 plain.0)),
        plain.1,
      )))
