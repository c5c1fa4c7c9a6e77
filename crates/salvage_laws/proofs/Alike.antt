-- Where no cell is loose, the walk of salvage and the checks of a load go alike up to the first fault.
use Rattle.std.proofs.Common.{◌≡◌, ℕ, ◌+◌, ◌-◌, ◌*◌, ◌/◌, min, Bool, true, false, cond, eqb, List, [], ◌∷◌, ◌++◌, length, drop, Option, Some, None, Result, Ok, Err, refl, sym, ap, subst, ◌∙◌, arith, eq-eqb}
use Rattle.std.specs.Prelude.{◌==◌, ◌&&◌, not, nat_lt, MatchBool}
use Rattle.std.specs.Option.{option_or}
use Rattle.std.specs.List.{list_any}
use Rattle.std.specs.Ordering.{nat_cmp}
use Rattle.std.specs.Cmp.{nat_cmp_total, unsigned_ties}
use Rattle.std.specs.FinMap as map
use Rattle.std.proofs.lemmas.Bool.{eqb-true}
use Rattle.std.proofs.lemmas.Bool.Decides.{nat_tests}
use Rattle.std.proofs.lemmas.List.Folds.{find-append}
use Rattle.nt_bytes.specs.Fields.{u16_in}
use Rattle.nt_bytes.specs.Folding.{folds_same}
use Rattle.nt_bytes.specs.declared.fault.HiveFaultKind.{HiveFaultKind}
use Rattle.nt_bytes.specs.declared.fault.HiveFaultKind.TheVariants.{Shared, FormShort, FormKind, DoubleName}
use Rattle.nt_bytes.specs.Reading.{◌>>=◌}
use Rattle.hive_model.specs.Base.{fault_at}
use Rattle.hive_model.specs.Bins.{Cells}
use Rattle.hive_model.specs.Lists.{ListKind, Li, Lf, Lh, Ri, SubkeyList, numbers_in, list_of, list_at, offsets_in}
use Rattle.hive_model.specs.Walk.{Check, reading, below_of, use_as, name_check, is_list_of_lists, leaf_at}
use Rattle.hive_read.specs.Walked.{Seen, clashes as meets, walk}
use Rattle.hive_read.proofs.FormFacts.{then-so}
use Rattle.salvage_bins.specs.Ground.{Ground}
use Rattle.salvage_walk.specs.declared.claims.Claim.{Claim}
use Rattle.salvage_walk.specs.Uses.{claim_of, clashes, overlaps, claim_at}
use Rattle.salvage_walk.specs.Parts.{part, unless_named}
use Rattle.salvage_walk.specs.Fronts.{Front, front_of, values_front, kind_front, list_front, leaf_front, kind_or_short, front_part}
use Rattle.salvage_laws.proofs.PartViews.{done, failed, Gained, again, fresh, Covered, Made, Refused, absent, taken, unformed, covered, PartView, part-view, Unread, none_there, list_taken, no_list, list_covered, FrontView, front-view}

-- no cell is loose
abbrev pub NoneLoose : Ground → Type 0
NoneLoose hive = (at : ℕ) → hive.loose at ≡ false

-- ---- the used cells

-- the uses clash with the same uses as the cells seen so far
abbrev pub Same : List Claim → Seen → Type 0
Same claims seen = (at : ℕ) (security : Bool) → clashes (claim_of at claims) security ≡ meets (map.get seen at) security

pub same-none : Same [] map.empty
same-none at security = ap (λ o. meets o security) (sym (map.get-empty nat_cmp at))

and-turned : (a b : Bool) → not (a && b) ≡ not (b && a)
and-turned true true = refl
and-turned true false = refl
and-turned false true = refl
and-turned false false = refl

both-true : (a b : Bool) → not (a && b) ≡ false → (a ≡ true) × (b ≡ true)
both-true true true e = (refl, refl)
both-true true false e = absurd cc
both-true false b e = absurd cc

other-way : (a b : ℕ) → (a == b) ≡ false → (b == a) ≡ false
other-way a b e = grind (arith, nat_tests)

-- the use of a cell is found by its place
found-here : (claims : List Claim) (c : Claim) → claim_of c.at claims ≡ None → claim_of c.at (claims ++ c ∷ []) ≡ Some c
found-here claims c n =
    find-append (λ (d : Claim). d.at == c.at) claims (c ∷ [])
    ∙ ap (λ o. option_or o (cond (c.at == c.at) (Some c) None)) n
    ∙ ap (λ b. cond b (Some c) None) (eq-eqb c.at c.at refl)

pub found-before : (claims : List Claim) (c : Claim) (at : ℕ) → (c.at == at) ≡ false → claim_of at (claims ++ c ∷ []) ≡ claim_of at claims
found-before claims c at e =
    find-append (λ (d : Claim). d.at == at) claims (c ∷ [])
    ∙ ap (λ b. option_or (claim_of at claims) (cond b (Some c) None)) e ∙ or-none (claim_of at claims)
  where
    or-none : (o : Option Claim) → option_or o None ≡ o
    or-none (Some d) = refl
    or-none None = refl

same-more : (hive : Ground) (claims : List Claim) (security : Bool) (at long : ℕ) (after : List Claim) (seen : Seen)
    → clashes (claim_of at claims) security ≡ false → Gained hive claims security at long after → Same claims seen
    → Same after (map.insert seen at security)
same-more hive claims security at long after seen free g same q t =
    split (eqb q at) refl
    ∙ sym (ap (λ o. meets o t) (map.get-insert nat_cmp_total seen at security q
    ∙ ap (λ b. cond b (Some security) (map.get seen q)) (sym (unsigned_ties q at))))
  where
    here : Gained hive claims security at long after → clashes (claim_of at after) t ≡ meets (Some security) t
    here (again c e d) =
        let both = both-true security c.security (ap (λ o. clashes o security) (sym e) ∙ free) in
        ap (λ cs. clashes (claim_of at cs) t) d ∙ ap (λ o. clashes o t) e
        ∙ ap (λ b. not (t && b)) (both.1 ∙ sym both.0) ∙ and-turned t security
    here (fresh n o d) =
        ap (λ cs. clashes (claim_of at cs) t) d ∙ ap (λ o. clashes o t) (found-here claims (claim_at hive security at long) n)
        ∙ and-turned t security

    there : Gained hive claims security at long after → eqb q at ≡ false → clashes (claim_of q after) t ≡ clashes (claim_of q claims) t
    there (again c e d) f = ap (λ cs. clashes (claim_of q cs) t) d
    there (fresh n o d) f =
        ap (λ cs. clashes (claim_of q cs) t) d
        ∙ ap (λ o. clashes o t) (found-before claims (claim_at hive security at long) q (other-way q at f))

    split : (b : Bool) → eqb q at ≡ b → clashes (claim_of q after) t ≡ meets (cond b (Some security) (map.get seen q)) t
    split true e =
        let is : q ≡ at = eqb-true q at e in
        ap (λ (x : ℕ). clashes (claim_of x after) t) is ∙ here g
    split false e = there g e ∙ same q t

-- ---- a cell that is used for its form

module _ {F : Type 0} (form : List ℕ → Result F HiveFaultKind) (security : Bool) (cells : Cells) (seen : Seen) (at : ℕ) where
  pub use-on : (p : List ℕ) (f : F) → cells.payload at ≡ Ok p → meets (map.get seen at) security ≡ false → form p ≡ Ok f
      → walk cells seen (use_as security form cells at) ≡ Ok (map.insert seen at security)
  use-on p f there free has = rw (there, free, has) refl

  pub use-absent : (k : HiveFaultKind) → cells.payload at ≡ Err k → walk cells seen (use_as security form cells at) ≡ Err (fault_at k at)
  use-absent k there = rw there refl

  pub use-taken : (p : List ℕ) → cells.payload at ≡ Ok p → meets (map.get seen at) security ≡ true
      → walk cells seen (use_as security form cells at) ≡ Err (fault_at Shared at)
  use-taken p there used = rw (there, used) refl

  pub use-unformed : (p : List ℕ) (k : HiveFaultKind) → cells.payload at ≡ Ok p → meets (map.get seen at) security ≡ false → form p ≡ Err k
      → walk cells seen (use_as security form cells at) ≡ Err (fault_at k at)
  use-unformed p k there free has = rw (there, free, has) refl

  pub reads-so : (p : List ℕ) (f : F) → cells.payload at ≡ Ok p → form p ≡ Ok f → reading form cells at ≡ Ok f
  reads-so p f there has = rw (there, has) refl

-- bytes of a cell that isn't loose are covered by none
not-covered : (hive : Ground) (claims : List Claim) (at long : ℕ) (kind : HiveFaultKind) → hive.loose at ≡ false
    → Covered hive claims at long kind → ⊥
not-covered hive claims at long kind n c =
    let e : false ≡ true = ap (λ b. b && overlaps at (at + long) claims) (sym n) ∙ c.over in absurd cc

-- what a walk did that a part did too
abbrev pub Alike : {F : Type 0} → Bool → (List ℕ → Result F HiveFaultKind) → Cells → Seen → ℕ → Result (F × List Claim) HiveFaultKind
    → Type 0
Alike security form cells seen at (Ok r) =
    (after : Seen) × (walk cells seen (use_as security form cells at) ≡ Ok after) × Same r.1 after × (reading form cells at ≡ Ok r.0)
Alike security form cells seen at (Err kind) = walk cells seen (use_as security form cells at) ≡ Err (fault_at kind at)

pub part-alike : {F : Type 0} (form : List ℕ → Result F HiveFaultKind) (long : F → ℕ) (security : Bool) (hive : Ground) (claims : List Claim)
    (at : ℕ) (seen : Seen) → NoneLoose hive → Same claims seen
    → Alike security form hive.cells seen at (part form long security hive claims at)
part-alike {F} form long security hive claims at seen none same =
    by (part form long security hive claims at) (part-view form long security hive claims at)
  where
    refused : (k : HiveFaultKind) → Refused form long security hive claims at k
        → walk hive.cells seen (use_as security form hive.cells at) ≡ Err (fault_at k at)
    refused k (absent e) = use-absent form security hive.cells seen at k e
    refused k (taken p e c d) =
        use-taken form security hive.cells seen at p e (sym (same at security) ∙ c) ∙ ap (λ k. Err (fault_at k at)) (sym d)
    refused k (unformed p e c d) = use-unformed form security hive.cells seen at p k e (sym (same at security) ∙ c) d
    refused k (covered p f e c d v) = absurd (not-covered hive claims at (long f) k (none at) v)

    by : (r : Result (F × List Claim) HiveFaultKind) → PartView form long security hive claims at r
        → Alike security form hive.cells seen at r
    by (Ok r) v = (
      map.insert seen at security,
      use-on form security hive.cells seen at v.payload r.0 v.there (sym (same at security) ∙ v.free) v.has,
      same-more hive claims security at (long r.0) r.1 seen v.free v.gains same,
      reads-so form security hive.cells seen at v.payload r.0 v.there v.has,
    )
    by (Err k) v = refused k v

-- ---- a form with a name of its own

-- the checks of a form and of its name
abbrev pub named_checks : {F : Type 0} → (List ℕ → Result F HiveFaultKind) → (F → List ℕ) → Cells → List (List ℕ) → ℕ → (F → List Check)
    → List Check
named_checks form name cells names at more =
    use_as false form cells at ++ below_of (reading form cells at) (λ x. name_check names at (name x) ∷ more x)

abbrev pub with_name : {F : Type 0} → (List ℕ → Result F HiveFaultKind) → (F → List ℕ) → List (List ℕ) → List ℕ → Result F HiveFaultKind
with_name form name names p = form p >>= λ x. unless_named names (name x) x

abbrev pub NamedAlike : {F : Type 0} → (List ℕ → Result F HiveFaultKind) → (F → List ℕ) → Cells → Seen → List (List ℕ) → ℕ
    → (F → List Check) → Result (F × List Claim) HiveFaultKind → Type 0
NamedAlike form name cells seen names at more (Ok r) =
    (after : Seen) × (walk cells seen (named_checks form name cells names at more) ≡ walk cells after (more r.0)) × Same r.1 after
    × (reading form cells at ≡ Ok r.0)
NamedAlike form name cells seen names at more (Err kind) =
    walk cells seen (named_checks form name cells names at more) ≡ Err (fault_at kind at)

pub named-so : {F : Type 0} (names : List (List ℕ)) (name : List ℕ) (f g : F) → unless_named names name f ≡ done g
    → (list_any (folds_same name) names ≡ false) × (f ≡ g)
named-so {F} names name f g e = go (list_any (folds_same name) names) refl e
  where
    same : (x y : F) → done x ≡ done y → x ≡ y
    same x y e = cc

    go : (b : Bool) → list_any (folds_same name) names ≡ b → cond b (Err DoubleName) (Ok f) ≡ done g
        → (list_any (folds_same name) names ≡ false) × (f ≡ g)
    go true t e = absurd cc
    go false t e = (t, same f g e)

module _ {F : Type 0} (form : List ℕ → Result F HiveFaultKind) (name : F → List ℕ) (cells : Cells) (seen : Seen) (names : List (List ℕ))
    (at : ℕ) (more : F → List Check) where
  named-on : (p : List ℕ) (f : F) → cells.payload at ≡ Ok p → meets (map.get seen at) false ≡ false → form p ≡ Ok f
      → list_any (folds_same (name f)) names ≡ false
      → walk cells seen (named_checks form name cells names at more) ≡ walk cells (map.insert seen at false) (more f)
  named-on p f there free has new = rw (there, free, has, new) refl

  named-double : (p : List ℕ) (f : F) → cells.payload at ≡ Ok p → meets (map.get seen at) false ≡ false → form p ≡ Ok f
      → list_any (folds_same (name f)) names ≡ true
      → walk cells seen (named_checks form name cells names at more) ≡ Err (fault_at DoubleName at)
  named-double p f there free has new = rw (there, free, has, new) refl

  named-absent : (k : HiveFaultKind) → cells.payload at ≡ Err k
      → walk cells seen (named_checks form name cells names at more) ≡ Err (fault_at k at)
  named-absent k there = rw there refl

  named-taken : (p : List ℕ) → cells.payload at ≡ Ok p → meets (map.get seen at) false ≡ true
      → walk cells seen (named_checks form name cells names at more) ≡ Err (fault_at Shared at)
  named-taken p there used = rw (there, used) refl

  named-unformed : (p : List ℕ) (k : HiveFaultKind) → cells.payload at ≡ Ok p → meets (map.get seen at) false ≡ false → form p ≡ Err k
      → walk cells seen (named_checks form name cells names at more) ≡ Err (fault_at k at)
  named-unformed p k there free has = rw (there, free, has) refl

pub named-alike : {F : Type 0} (form : List ℕ → Result F HiveFaultKind) (name : F → List ℕ) (long : F → ℕ) (names : List (List ℕ))
    (hive : Ground) (claims : List Claim) (at : ℕ) (seen : Seen) (more : F → List Check) → NoneLoose hive → Same claims seen
    → NamedAlike form name hive.cells seen names at more (part (with_name form name names) long false hive claims at)
named-alike {F} form name long names hive claims at seen more none same =
    by (part (with_name form name names) long false hive claims at)
    (part-view (with_name form name names) long false hive claims at)
  where
    double : (p : List ℕ) (f : F) (k : HiveFaultKind) → hive.cells.payload at ≡ Ok p → clashes (claim_of at claims) false ≡ false
        → form p ≡ done f → (b : Bool) → list_any (folds_same (name f)) names ≡ b → cond b (Err DoubleName) (Ok f) ≡ failed k
        → walk hive.cells seen (named_checks form name hive.cells names at more) ≡ Err (fault_at k at)
    double p f k e c d true t h =
        named-double form name hive.cells seen names at more p f e (sym (same at false) ∙ c) d t
        ∙ ap (λ k. Err (fault_at k at)) (let is : DoubleName ≡ k = cc in is)
    double p f k e c d false t h = absurd cc

    wrong : (p : List ℕ) (k : HiveFaultKind) → hive.cells.payload at ≡ Ok p → clashes (claim_of at claims) false ≡ false
        → (r : Result F HiveFaultKind) → form p ≡ r → (r >>= λ x. unless_named names (name x) x) ≡ failed k
        → walk hive.cells seen (named_checks form name hive.cells names at more) ≡ Err (fault_at k at)
    wrong p k e c (Ok f) d h = double p f k e c d (list_any (folds_same (name f)) names) refl h
    wrong p k e c (Err j) d h =
        named-unformed form name hive.cells seen names at more p j e (sym (same at false) ∙ c) d
        ∙ ap (λ k. Err (fault_at k at)) (let is : j ≡ k = cc in is)

    refused : (k : HiveFaultKind) → Refused (with_name form name names) long false hive claims at k
        → walk hive.cells seen (named_checks form name hive.cells names at more) ≡ Err (fault_at k at)
    refused k (absent e) = named-absent form name hive.cells seen names at more k e
    refused k (taken p e c d) =
        named-taken form name hive.cells seen names at more p e (sym (same at false) ∙ c) ∙ ap (λ k. Err (fault_at k at)) (sym d)
    refused k (unformed p e c d) = wrong p k e c (form p) refl d
    refused k (covered p f e c d v) = absurd (not-covered hive claims at (long f) k (none at) v)

    by : (r : Result (F × List Claim) HiveFaultKind) → PartView (with_name form name names) long false hive claims at r
        → NamedAlike form name hive.cells seen names at more r
    by (Ok r) v =
        let a = then-so (form v.payload) (λ x. unless_named names (name x) x) r.0 v.has in
        let n = named-so names (name a.0) a.0 r.0 a.2 in
        let has : form v.payload ≡ done r.0 = a.1 ∙ ap done n.1 in
        let new = ap (λ x. list_any (folds_same (name x)) names) (sym n.1) ∙ n.0 in (
          map.insert seen at false,
          named-on form name hive.cells seen names at more v.payload r.0 v.there (sym (same at false) ∙ v.free) has new,
          same-more hive claims false at (long r.0) r.1 seen v.free v.gains same,
          reads-so form false hive.cells seen at v.payload r.0 v.there has,
        )
    by (Err k) v = refused k v

-- ---- a list

-- what a form of a whole list says of one of which a beginning is read
abbrev pub Whole : {G : Type 0} → (Front → G) → Result Front HiveFaultKind → Result G HiveFaultKind → Type 0
Whole view (Ok f) whole = MatchBool f.short (whole ≡ Err FormShort) (whole ≡ Ok (view f))
Whole view (Err k) whole = whole ≡ Err k

fits-four : (count long : ℕ) → nat_lt long (4 * count) ≡ false → min count (long / 4) ≡ count
fits-four count long e = grind (arith, nat_tests)

fits-eight : (count long : ℕ) → nat_lt long (8 * count) ≡ false → min count (long / 8) ≡ count
fits-eight count long e = grind (arith, nat_tests)

whole-either : {G : Type 0} (view : Front → G) (b : Bool) (x y : Result Front HiveFaultKind) (m n : Result G HiveFaultKind)
    → Whole view x m → Whole view y n → Whole view (cond b x y) (cond b m n)
whole-either view true x y m n v w = v
whole-either view false x y m n v w = w

pub values-whole : (count : ℕ) (p : List ℕ) → Whole (λ (f : Front). f.offsets) (values_front count p) (offsets_in count p)
unfolding values_front offsets_in
values-whole count p = go (nat_lt (length p) (0 + 4 * count)) refl
  where
    plain : (b : Bool) → nat_lt (length p) (0 + 4 * count) ≡ b → nat_lt (length p) (4 * count) ≡ b
    plain b e = let z : 4 * count ≡ 0 + 4 * count = omega arith in ap (nat_lt (length p)) z ∙ e

    go : (b : Bool) → nat_lt (length p) (0 + 4 * count) ≡ b
        → MatchBool b (cond (nat_lt (length p) (4 * count)) (failed FormShort) (done (numbers_in 4 count p)) ≡ failed FormShort)
        (cond (nat_lt (length p) (4 * count)) (failed FormShort) (done (numbers_in 4 count p)) ≡ done (front_of Li 4 count 0 p).offsets)
    go true e = ap (λ b. cond b (failed FormShort) (done (numbers_in 4 count p))) (plain true e)
    go false e =
        let z : length p - 0 ≡ length p = omega arith in
        let fits = ap (λ n. min count (n / 4)) z ∙ fits-four count (length p) (plain false e) in
        ap (λ b. cond b (failed FormShort) (done (numbers_in 4 count p))) (plain false e)
        ∙ ap (λ n. done (numbers_in 4 n p)) (sym fits)

-- the kind and the offsets
abbrev pub list_seen : Front → SubkeyList
list_seen f = record { kind = f.kind; offsets = f.offsets }

kind-whole : (kind : ListKind) (step : ℕ) (p : List ℕ) → ((count long : ℕ) → nat_lt long (step * count) ≡ false → min count (long / step) ≡ count)
    → ((count long : ℕ) → nat_lt long (4 + step * count) ≡ false → nat_lt (long - 4) (step * count) ≡ false)
    → Whole list_seen (kind_front kind step p) (list_of kind step p)
unfolding kind_front list_of
kind-whole kind step p fits less =
    whole-either list_seen (nat_lt (length p) 4) (failed FormShort) (done (front_of kind step count 4 p)) (failed FormShort)
    (cond (nat_lt (length p) (4 + step * count)) (failed FormShort) (done whole)) refl
    (go (nat_lt (length p) (4 + step * count)) refl)
  where
    count : ℕ
    count = u16_in p 2

    whole : SubkeyList
    whole = record { kind = kind; offsets = numbers_in step count (drop 4 p) }

    go : (b : Bool) → nat_lt (length p) (4 + step * count) ≡ b
        → MatchBool b (cond b (failed FormShort) (done whole) ≡ failed FormShort)
        (cond b (failed FormShort) (done whole) ≡ done (list_seen (front_of kind step count 4 p)))
    go true e = refl
    go false e =
        ap (λ n. done (record { kind = kind; offsets = numbers_in step n (drop 4 p) }))
        (sym (fits count (length p - 4) (less count (length p) e)))

less-four : (count long : ℕ) → nat_lt long (4 + 4 * count) ≡ false → nat_lt (long - 4) (4 * count) ≡ false
less-four count long e = grind (arith, nat_tests)

less-eight : (count long : ℕ) → nat_lt long (4 + 8 * count) ≡ false → nat_lt (long - 4) (8 * count) ≡ false
less-eight count long e = grind (arith, nat_tests)

pub list-whole : (p : List ℕ) → Whole list_seen (list_front p) (list_at p)
unfolding list_front list_at
list-whole p =
    whole-either list_seen (nat_lt (length p) 2) _ _ _ _ refl
    (whole-either list_seen (u16_in p 0 == 0x696c) _ _ _ _ (kind-whole Li 4 p fits-four less-four)
    (whole-either list_seen (u16_in p 0 == 0x666c) _ _ _ _ (kind-whole Lf 8 p fits-eight less-eight)
    (whole-either list_seen (u16_in p 0 == 0x686c) _ _ _ _ (kind-whole Lh 8 p fits-eight less-eight)
    (whole-either list_seen (u16_in p 0 == 0x6972) _ _ _ _ (kind-whole Ri 4 p fits-four less-four) refl))))

pub leaf-whole : (p : List ℕ) → Whole (λ (f : Front). f.offsets) (leaf_front p) (leaf_at p)
unfolding leaf_front leaf_at
leaf-whole p = by (list_front p) (list_at p) (list-whole p)
  where
    leaf : SubkeyList → Result (List ℕ) HiveFaultKind
    leaf list = cond (is_list_of_lists list.kind) (Err FormKind) (Ok list.offsets)

    front : Front → Result Front HiveFaultKind
    front f = cond (is_list_of_lists f.kind) (Err (kind_or_short f.short FormKind)) (Ok f)

    short : (f : Front) (m : Result SubkeyList HiveFaultKind) → m ≡ Err FormShort → f.short ≡ true → (b : Bool)
        → Whole (λ (f : Front). f.offsets) (cond b (Err (kind_or_short f.short FormKind)) (Ok f)) (m >>= leaf)
    short f m e s true = ap (λ r. r >>= leaf) e ∙ ap (λ b. failed (kind_or_short b FormKind)) (sym s)
    short f m e s false =
        subst (λ (b : Bool). MatchBool b ((m >>= leaf) ≡ failed FormShort) ((m >>= leaf) ≡ done f.offsets)) (sym s) (ap (λ r. r >>= leaf) e)

    long : (f : Front) (m : Result SubkeyList HiveFaultKind) → m ≡ Ok (list_seen f) → f.short ≡ false → (b : Bool)
        → is_list_of_lists f.kind ≡ b
        → Whole (λ (f : Front). f.offsets) (cond b (Err (kind_or_short f.short FormKind)) (Ok f)) (m >>= leaf)
    long f m e s true k =
        ap (λ r. r >>= leaf) e ∙ ap (λ b. cond b (failed FormKind) (done f.offsets)) k
        ∙ ap (λ b. failed (kind_or_short b FormKind)) (sym s)
    long f m e s false k =
        subst (λ (b : Bool). MatchBool b ((m >>= leaf) ≡ failed FormShort) ((m >>= leaf) ≡ done f.offsets)) (sym s)
        (ap (λ r. r >>= leaf) e ∙ ap (λ b. cond b (failed FormKind) (done f.offsets)) k)

    either : (f : Front) (m : Result SubkeyList HiveFaultKind) (b : Bool) → f.short ≡ b
        → MatchBool b (m ≡ Err FormShort) (m ≡ Ok (list_seen f)) → Whole (λ (f : Front). f.offsets) (front f) (m >>= leaf)
    either f m true s e = short f m e s (is_list_of_lists f.kind)
    either f m false s e = long f m e s (is_list_of_lists f.kind) refl

    by : (x : Result Front HiveFaultKind) (m : Result SubkeyList HiveFaultKind) → Whole list_seen x m
        → Whole (λ (f : Front). f.offsets) (x >>= front) (m >>= leaf)
    by (Ok f) m w = either f m f.short refl w
    by (Err k) m w = ap (λ r. r >>= leaf) w

-- what a walk did that the reading of a list did too, which says that a list is too short where it read its beginning
abbrev pub FrontAlike : {G : Type 0} → (Front → G) → (List ℕ → Result G HiveFaultKind) → Cells → Seen → ℕ
    → Result (Front × List Claim) HiveFaultKind → Type 0
FrontAlike view form cells seen at (Ok r) =
    MatchBool r.0.short (walk cells seen (use_as false form cells at) ≡ Err (fault_at FormShort at))
    ((after : Seen) × (walk cells seen (use_as false form cells at) ≡ Ok after) × Same r.1 after × (reading form cells at ≡ Ok (view r.0)))
FrontAlike view form cells seen at (Err kind) = walk cells seen (use_as false form cells at) ≡ Err (fault_at kind at)

pub front-alike : {G : Type 0} (front : List ℕ → Result Front HiveFaultKind) (form : List ℕ → Result G HiveFaultKind) (view : Front → G)
    (hive : Ground) (claims : List Claim) (at : ℕ) (seen : Seen) → ((p : List ℕ) → Whole view (front p) (form p)) → NoneLoose hive
    → Same claims seen → FrontAlike view form hive.cells seen at (front_part front hive claims at)
front-alike {G} front form view hive claims at seen whole none same = by (front_part front hive claims at) (front-view front hive claims at)
  where
    unread : (k : HiveFaultKind) → Unread front hive claims at k → walk hive.cells seen (use_as false form hive.cells at) ≡ Err (fault_at k at)
    unread k (none_there e) = use-absent form false hive.cells seen at k e
    unread k (list_taken p e c d) =
        use-taken form false hive.cells seen at p e (sym (same at false) ∙ c) ∙ ap (λ k. Err (fault_at k at)) (sym d)
    unread k (no_list p e c d) =
        use-unformed form false hive.cells seen at p k e (sym (same at false) ∙ c)
        (subst (λ (r : Result Front HiveFaultKind). Whole view r (form p)) d (whole p))
    unread k (list_covered p f e c d v g) = absurd (not-covered hive claims at f.long Shared (none at) v)

    read : (r : Front × List Claim) → (v : Made front (λ (f : Front). f.long) false hive claims at r.0 r.1) → (b : Bool)
        → MatchBool b (form v.payload ≡ Err FormShort) (form v.payload ≡ Ok (view r.0))
        → MatchBool b (walk hive.cells seen (use_as false form hive.cells at) ≡ Err (fault_at FormShort at))
        ((after : Seen) × (walk hive.cells seen (use_as false form hive.cells at) ≡ Ok after) × Same r.1 after
        × (reading form hive.cells at ≡ Ok (view r.0)))
    read r v true e =
        use-unformed form false hive.cells seen at v.payload FormShort v.there (sym (same at false) ∙ v.free) e
    read r v false e = (
      map.insert seen at false,
      use-on form false hive.cells seen at v.payload (view r.0) v.there (sym (same at false) ∙ v.free) e,
      same-more hive claims false at r.0.long r.1 seen v.free v.gains same,
      reads-so form false hive.cells seen at v.payload (view r.0) v.there e,
    )

    by : (r : Result (Front × List Claim) HiveFaultKind) → FrontView front hive claims at r → FrontAlike view form hive.cells seen at r
    by (Ok r) v =
        read r v r.0.short (subst (λ (x : Result Front HiveFaultKind). Whole view x (form v.payload)) v.has (whole v.payload))
    by (Err k) v = unread k v
