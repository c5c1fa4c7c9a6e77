-- No more keys are noted as incomplete than there are places.
use Rattle.std.proofs.Common.{◌≡◌, ◌≢◌, inl, inr, ℕ, zero, suc, ◌+◌, ◌*◌, ◌/◌, ◌%◌, ◌<◌, ◌≤◌, Bool, true, false, cond, List, [], ◌∷◌, ◌++◌, length, get_or, Option, Some, None, Result, Ok, Err, refl, sym, ap, ◌∙◌, arith}
use Rattle.std.specs.Prelude.{◌==◌, ◌&&◌, ◌||◌, not, is_some, nat_le, slice_index_or}
use Rattle.std.specs.List.{AllPairs}
use Rattle.std.proofs.lemmas.Bool.{cases_lt, eq-eqb, eqb-true, eqb-false, leb-true, and_parts}
use Rattle.nt_bytes.specs.declared.version.HiveVersion.{HiveVersion}
use Rattle.nt_bytes.specs.declared.fault.HiveFaultKind.{HiveFaultKind}
use Rattle.hive_model.specs.Base.{fault_at}
use Rattle.hive_model.specs.KeyNode.{KeyNode, key_node_at}
use Rattle.hive_model.specs.Tree.{Tree}
use Rattle.hive_model.specs.Walk.{reading}
use Rattle.hive_read.proofs.FormFacts.{then-so}
use Rattle.reg_tree.proofs.Unlike.{Each}
use Rattle.salvage_bins.specs.declared.layout.Mark.{Mark}
use Rattle.salvage_bins.specs.declared.layout.Mark.TheVariants.{Nothing}
use Rattle.salvage_bins.specs.Ground.{Ground, payload_by}
use Rattle.salvage_walk.specs.declared.claims.Claim.{Claim}
use Rattle.salvage_walk.specs.declared.lines.Incomplete.{Incomplete}
use Rattle.salvage_walk.specs.declared.lines.WalkLine.TheVariants as lines
use Rattle.salvage_walk.specs.Uses.{claim_at}
use Rattle.salvage_walk.specs.Parts.{part, node_form, node_long}
use Rattle.salvage_walk.specs.Walked.{Walked, say, using}
use Rattle.salvage_walk.specs.Steps.{class_step, security_step, values_step, entries_step}
use Rattle.salvage_walk.specs.Keys.{judged_key, key_names, with_child, keys_next, key_below, key_done, least_root, root_below, root_done, root_part, other_root, other_done, salvaged}
use Rattle.salvage_walk.specs.Incomplete.{noted, notes_next, says_more, incomplete_at, notes_below, notes_done, notes_key, notes_root, notes_there, notes_other, notes_by, incomplete}
use Rattle.salvage_walk.specs.Found.{unsaid, found_next, found_notes}
use Rattle.salvage_file.specs.Salvage.{ground_in}
use Rattle.salvage_laws.specs.Apart.{AreApart}
use Rattle.salvage_laws.proofs.PartViews.{Made, PartView, part-view}
use Rattle.salvage_laws.proofs.Grows.{Adds, class-follows, security-follows, items-follow, entries-follow}
use Rattle.salvage_laws.proofs.Wider.{gained-now}
use Rattle.found_laws.proofs.Nodes.{UsesNothing, left-unused}
use Rattle.found_laws.proofs.Noting.{IsIn}

-- ---- how many have a number

abbrev one_if : Bool → ℕ
one_if true = 1
one_if false = 0

abbrev hits : {X : Type 0} → (X → ℕ) → ℕ → List X → ℕ
hits f v [] = 0
hits f v (x ∷ xs) = one_if (f x == v) + hits f v xs

hits-both : {X : Type 0} (f : X → ℕ) (v : ℕ) (xs ys : List X) → hits f v (xs ++ ys) ≡ hits f v xs + hits f v ys
hits-both f v [] ys = omega arith
hits-both f v (x ∷ xs) ys = omega (arith, hits-both f v xs ys)

no-hits : {X : Type 0} (f : X → ℕ) (v : ℕ) (xs : List X) → ((k : ℕ) (d : X) → k < length xs → (f (get_or xs k d) == v) ≡ false)
    → hits f v xs ≡ 0
no-hits f v [] h = refl
no-hits f v (x ∷ xs) h =
    let first : one_if (f x == v) ≡ 0 = ap one_if (h 0 x (omega arith)) in
    let rest = no-hits f v xs (λ k d lt. h (suc k) d (omega (arith, lt))) in omega (arith, first, rest)

-- of uses that are apart at most one is of one cell
one-use : (v : ℕ) (claims : List Claim) → AreApart claims → hits (λ (c : Claim). c.at) v claims ≤ 1
one-use v [] a = omega arith
one-use v (c ∷ claims) a =
    go (c.at == v) refl (one-use v claims (λ i j d lt within. a (suc i) (suc j) d (omega (arith, lt)) (omega (arith, within))))
  where
    go : (b : Bool) → (c.at == v) ≡ b → hits (λ (c : Claim). c.at) v claims ≤ 1
        → one_if b + hits (λ (c : Claim). c.at) v claims ≤ 1
    go true e rest =
        let none = no-hits (λ (c : Claim). c.at) v claims (λ k d lt.
        ap (λ (n : ℕ). (get_or claims k d).at == n) (sym (eqb-true c.at v e)) ∙ other k d lt) in omega (arith, none)
      where
        swap : (m n : ℕ) → (m == n) ≡ false → (b : Bool) → (n == m) ≡ b → b ≡ false
        swap m n e true f = absurd (eqb-false m n e (sym (eqb-true n m f)))
        swap m n e false f = refl

        other : (k : ℕ) (d : Claim) → k < length claims → ((get_or claims k d).at == c.at) ≡ false
        other k d lt =
            swap c.at (get_or claims k d).at (a 0 (suc k) d (omega arith) (omega (arith, lt))).places ((get_or claims k d).at == c.at) refl
    go false e rest = omega (arith, rest)

-- ---- a key is noted at most once, for a use of its own

module _ (hive : Ground) (v : ℕ) where
  abbrev pub Noted : List Incomplete → ℕ
  Noted notes = hits (λ (own : Incomplete). own.at) v notes

  abbrev pub Used : Walked → ℕ
  Used w = hits (λ (c : Claim). c.at) v w.claims

  used-adds : (w u : Walked) → Adds w.claims u.claims → Used w ≤ Used u
  used-adds w u a =
      omega (arith, ap (hits (λ (c : Claim). c.at) v) a.is, hits-both (λ (c : Claim). c.at) v w.claims a.more)

  -- from a state on no more is noted than is used
  abbrev Within : List Incomplete → List Incomplete → Walked → Walked → Type 0
  Within old new w u = Noted new + Used w ≤ Noted old + Used u

  abbrev JudgesWithin : ℕ → Type 0
  JudgesWithin left =
      (above : List ℕ) (path names : List (List ℕ)) (i at : ℕ) (w : Walked) (notes : List Incomplete)
      → Within notes (notes_key left hive above path names i at w notes) w (judged_key left hive above path names i at w).1

  noted-once : (b : Bool) (at : ℕ) (path : List (List ℕ)) (notes : List Incomplete)
      → Noted (noted b (incomplete_at at path) notes) ≡ Noted notes + (cond b (one_if (at == v)) 0)
  noted-once true at path notes =
      omega (arith, hits-both (λ (own : Incomplete). own.at) v notes (incomplete_at at path ∷ []))
  noted-once false at path notes = omega arith

  next-within : (left own : ℕ) (above : List ℕ) (path : List (List ℕ)) (i : ℕ) (offsets : List ℕ) (us : List Tree) (w : Walked) (told : Bool)
      (notes : List Incomplete) → JudgesWithin left
      → Noted (notes_next (judged_key left hive) (notes_key left hive) (incomplete_at own path) above path i offsets us w told notes) + Used w
      ≤ Noted notes + (cond told 0 (one_if (own == v))) + Used (keys_next (judged_key left hive) above path i offsets us w).1
  unfolding notes_next keys_next
  next-within left own above path i [] us w told notes each = omega arith
  next-within left own above path i (at ∷ rest) us w told notes each =
      by told (judged_key left hive above path (key_names us) i at w) (each above path (key_names us) i at w notes)
      (λ told next notes. next-within left own above path (i + 1) rest next.0 next.1 told notes each)
    where
      mine : ℕ
      mine = one_if (own == v)

      one : List Incomplete
      one = notes_key left hive above path (key_names us) i at w notes

      after : List Tree × Walked → Bool → List Incomplete → ℕ
      after next told notes =
          Noted (notes_next (judged_key left hive) (notes_key left hive) (incomplete_at own path) above path (i + 1) rest next.0 next.1 told notes)

      last : List Tree × Walked → ℕ
      last next = Used (keys_next (judged_key left hive) above path (i + 1) rest next.0 next.1).1

      Rest : Type 0
      Rest =
          (told : Bool) (next : List Tree × Walked) (notes : List Incomplete)
          → after next told notes + Used next.1 ≤ Noted notes + (cond told 0 mine) + last next

      by : (told : Bool) (r : Option Tree × Walked) → Within notes one w r.1 → Rest
          → after (with_child us r) (told || not (is_some r.0)) (noted (not told && not (is_some r.0)) (incomplete_at own path) one) + Used w
          ≤ Noted notes + (cond told 0 mine) + last (with_child us r)
      by true (Some t, u) c h = omega (arith, c, h true (us ++ t ∷ [], u) one)
      by false (Some t, u) c h = omega (arith, c, h false (us ++ t ∷ [], u) one)
      by true (None, u) c h = omega (arith, c, h true (us, u) one)
      by false (None, u) c h =
          omega (arith, c, noted-once true own path one, h true (us, u) (noted true (incomplete_at own path) one))

  below-within : (left : ℕ) (above : List ℕ) (path : List (List ℕ)) (node : KeyNode) (at : ℕ) (w : Walked) (notes : List Incomplete)
      → JudgesWithin left
      → Noted (notes_below (judged_key left hive) (notes_key left hive) hive above path node at w notes) + Used w
      ≤ Noted notes + one_if (at == v) + Used (key_below (judged_key left hive) hive above path node at w).1
  unfolding notes_below key_below
  below-within left above path node at w notes each =
      let class = class_step hive path node w in
      let security = security_step hive above path node class.1 in
      let values = values_step hive path node security.1 in
      let entries = entries_step hive path node at values.1 in
      let told = says_more values.1 entries.1 in
      let one = noted told (incomplete_at at path) notes in
      let a = used-adds w class.1 (class-follows hive path node w).used in
      let b = used-adds class.1 security.1 (security-follows hive above path node class.1).used in
      let c = used-adds security.1 values.1 (items-follow hive path node security.1).used in
      let d = used-adds values.1 entries.1 (entries-follow hive path node at values.1).used in
      let e = next-within left at security.0 path 1 entries.0 [] entries.1 told one each in
      omega (arith, a, b, c, d, e, noted-once told at path notes, both told)
    where
      both : (b : Bool) → (cond b (one_if (at == v)) 0) + (cond b 0 (one_if (at == v))) ≡ one_if (at == v)
      both true = omega arith
      both false = omega arith

  -- a node that is used, and its key
  node-within : (left : ℕ) (root : Bool) (names : List (List ℕ)) (above : List ℕ) (path : List (List ℕ)) (at : ℕ) (claims : List Claim)
      (w : Walked) (r : KeyNode × List Claim) (notes : List Incomplete) → JudgesWithin left → w.claims ≡ claims
      → Made (node_form root names) node_long false hive claims at r.0 r.1
      → Within notes (notes_below (judged_key left hive) (notes_key left hive) hive above path r.0 at (using w r.1) notes) w
      (key_below (judged_key left hive) hive above path r.0 at (using w r.1)).1
  node-within left root names above path at claims w r notes each same m =
      let gained = ap (hits (λ (c : Claim). c.at) v) (gained-now hive claims at (node_long r.0) r.1 m.free m.gains) in
      let more = hits-both (λ (c : Claim). c.at) v claims (claim_at hive false at (node_long r.0) ∷ []) in
      let before = ap (hits (λ (c : Claim). c.at) v) same in
      omega (arith, gained, more, before, below-within left above path r.0 at (using w r.1) notes each)

  key-within : (left : ℕ) → JudgesWithin left
  unfolding judged_key notes_key
  key-within zero above path names i at w notes = omega arith
  key-within (suc left) above path names i at w notes =
      by (key-within left) (part (node_form false names) node_long false hive w.claims at)
      (part-view (node_form false names) node_long false hive w.claims at)
    where
      by : JudgesWithin left → (r : Result (KeyNode × List Claim) HiveFaultKind)
          → PartView (node_form false names) node_long false hive w.claims at r
          → Within notes (notes_done (judged_key left hive) (notes_key left hive) hive above path at w notes r) w
          (key_done (judged_key left hive) hive above path i at w r).1
      by each (Ok r) m =
          node-within left false names above (path ++ r.0.name ∷ []) at w.claims w r notes each refl m
      by each (Err kind) m = omega arith

  -- ---- children that are found

  pub found-within : (left : ℕ) (above : List ℕ) (path : List (List ℕ)) (places : List ℕ) (us : List Tree) (w : Walked)
      (notes : List Incomplete)
      → Within notes (found_notes (judged_key left hive) (notes_key left hive) above path places us w notes) w
      (found_next (judged_key left hive) above path places us w).1
  unfolding found_notes found_next
  found-within left above path [] us w notes = omega arith
  found-within left above path (at ∷ places) us w notes =
      by (judged_key left hive above path (key_names us) 0 at w) (key-within left above path (key_names us) 0 at w notes)
      (left-unused hive left above path (key_names us) 0 at w) (λ next notes. found-within left above path places next.0 next.1 notes)
    where
      one : List Incomplete
      one = notes_key left hive above path (key_names us) 0 at w notes

      After : Walked → List Tree × Walked → List Incomplete → Type 0
      After w next old =
          Within old (found_notes (judged_key left hive) (notes_key left hive) above path places next.0 next.1 one) w
          (found_next (judged_key left hive) above path places next.0 next.1).1

      by : (r : Option Tree × Walked) → Within notes one w r.1 → UsesNothing w r
          → ((next : List Tree × Walked) (notes : List Incomplete)
          → Within notes (found_notes (judged_key left hive) (notes_key left hive) above path places next.0 next.1 notes) next.1
          (found_next (judged_key left hive) above path places next.0 next.1).1)
          → After w (with_child us (unsaid w r)) notes
      by (Some t, u) c n h = omega (arith, c, h (us ++ t ∷ [], u) one)
      by (None, u) c n h = omega (arith, c, ap (hits (λ (c : Claim). c.at) v) n, h (us, w) one)

  -- ---- from the root on

  abbrev pub RootWithin : List Incomplete → Option Tree × Walked → Type 0
  RootWithin notes (Some t, w) = Noted notes ≤ Used w
  RootWithin notes (None, w) = Unit {0}

  pub incomplete-within : (root : ℕ) → RootWithin (incomplete hive root) (salvaged hive root)
  unfolding incomplete salvaged
  incomplete-within root = by (root_part hive [] root) (part-view (node_form true []) node_long false hive [] root)
    where
      begun : Walked
      begun = record { claims = []; lines = [] }

      from : (at : ℕ) (w : Walked) (r : KeyNode × List Claim) → PartView (node_form true []) node_long false hive w.claims at (Ok r)
          → RootWithin (notes_root hive at w [] r) (root_below hive at w r)
      from at w r m = omega (arith, node-within 511 true [] [] [] at w.claims w r [] (key-within 511) refl m)

      there : (at : ℕ) (u : Walked) (r : Result (KeyNode × List Claim) HiveFaultKind)
          → PartView (node_form true []) node_long false hive u.claims at r
          → RootWithin (notes_there hive at u [] r) (other_done hive at u r)
      there at u (Ok r) m = from at (say u (lines.RootAt at)) r m
      there at u (Err k) m = tt

      other : (o : Option ℕ) (u : Walked) → RootWithin (notes_other hive u [] o) (other_root hive u o)
      other (Some at) u =
          there at u (root_part hive u.claims at) (part-view (node_form true []) node_long false hive u.claims at)
      other None u = tt

      by : (r : Result (KeyNode × List Claim) HiveFaultKind) → PartView (node_form true []) node_long false hive [] root r
          → RootWithin (notes_by hive root begun [] r) (root_done hive root begun r)
      by (Ok r) m = from root begun r m
      by (Err k) m = other (least_root hive hive.slots 0) (say begun (lines.Root (fault_at k root)))

-- ---- places

-- each is one of the first n multiples of eight
abbrev AtPlace : ℕ → ℕ → Type 0
AtPlace n at = (k : ℕ) × (k < n) × (at ≡ 8 * k)

-- how many are at these places
abbrev total : {X : Type 0} → (X → ℕ) → ℕ → List X → ℕ
total f zero xs = 0
total f (suc n) xs = hits f (8 * n) xs + total f n xs

total-more : {X : Type 0} (f : X → ℕ) (n : ℕ) (x : X) (xs : List X) → total f n xs ≤ total f n (x ∷ xs)
total-more f zero x xs = omega arith
total-more f (suc n) x xs = omega (arith, total-more f n x xs)

total-one : {X : Type 0} (f : X → ℕ) (n : ℕ) (x : X) (xs : List X) → AtPlace n (f x) → 1 + total f n xs ≤ total f n (x ∷ xs)
total-one f zero x xs p = absurd (omega (arith, p.1))
total-one f (suc n) x xs p = go (f x == 8 * n) refl (λ q. total-one f n x xs q)
  where
    go : (b : Bool) → (f x == 8 * n) ≡ b → (AtPlace n (f x) → 1 + total f n xs ≤ total f n (x ∷ xs))
        → 1 + (hits f (8 * n) xs + total f n xs) ≤ (one_if b + hits f (8 * n) xs) + total f n (x ∷ xs)
    go true e more = omega (arith, total-more f n x xs)
    go false e more = omega (arith, more (p.0, below, p.2))
      where
        below : p.0 < n
        below = elim (cases_lt p.0 n) [ inl lt ↦ lt | inr le ↦ absurd (eqb-false (f x) (8 * n) e (omega (arith, le, p.1, p.2))) ]

total-all : {X : Type 0} (f : X → ℕ) (n : ℕ) (xs : List X) → Each (λ x. AtPlace n (f x)) xs → length xs ≤ total f n xs
total-all f n [] a = omega arith
total-all f n (x ∷ xs) a = omega (arith, total-all f n xs a.1, total-one f n x xs a.0)

total-few : {X : Type 0} (f : X → ℕ) (n : ℕ) (xs : List X) → ((v : ℕ) → hits f v xs ≤ 1) → total f n xs ≤ n
total-few f zero xs h = omega arith
total-few f (suc n) xs h = omega (arith, h (8 * n), total-few f n xs h)

-- a cell of bytes is at such a place
node-place : (version : HiveVersion) (bytes : List ℕ) (marks : List Mark) (at : ℕ) (node : KeyNode)
    → reading key_node_at (ground_in version bytes marks).cells at ≡ Ok node → AtPlace (length bytes / 8) at
node-place version bytes marks at node e =
    let p = then-so ((ground_in version bytes marks).cells.payload at) key_node_at node e in
    by p.0 ((at % 8 == 0) && nat_le (at + 8) (length bytes)) refl p.1
  where
    by : (p : List ℕ) (b : Bool) → ((at % 8 == 0) && nat_le (at + 8) (length bytes)) ≡ b
        → payload_by (cond b (slice_index_or marks (at / 8) Nothing) Nothing) bytes at ≡ Ok p → AtPlace (length bytes / 8) at
    by p true t e =
        let both = and_parts (at % 8 == 0) (nat_le (at + 8) (length bytes)) t in
        let eight = eqb-true (at % 8) 0 both.0 in
        let within = leb-true (at + 8) (length bytes) both.1 in (at / 8, omega (arith, eight, within), omega (arith, eight))
    by p false t e = absurd cc

-- ---- none is twice

hit-at : {X : Type 0} (f : X → ℕ) (v : ℕ) (xs : List X) (k : ℕ) (d : X) → k < length xs → f (get_or xs k d) ≡ v → 1 ≤ hits f v xs
hit-at f v [] k d lt e = absurd (omega (arith, lt))
hit-at f v (x ∷ xs) zero d lt e = omega (arith, ap one_if (eq-eqb (f x) v e))
hit-at f v (x ∷ xs) (suc k) d lt e = omega (arith, hit-at f v xs k d (omega (arith, lt)) e)

none-twice : {X : Type 0} (f : X → ℕ) (xs : List X) → ((v : ℕ) → hits f v xs ≤ 1) → AllPairs (λ a b. f a ≢ f b) xs
none-twice f [] h i j d lt within = absurd (omega (arith, within))
none-twice f (x ∷ xs) h zero zero d lt within = absurd (omega (arith, lt))
none-twice f (x ∷ xs) h zero (suc j) d lt within =
    λ e. absurd (omega (
      arith,
      h (f x),
      ap one_if (eq-eqb (f x) (f x) refl),
      hit-at f (f x) xs j d (omega (arith, within)) (sym e),
    ))
none-twice f (x ∷ xs) h (suc i) zero d lt within = absurd (omega (arith, lt))
none-twice f (x ∷ xs) h (suc i) (suc j) d lt within =
    none-twice f xs (λ v. omega (arith, h v)) i j d (omega (arith, lt)) (omega (arith, within))

pub noted-apart : (notes : List Incomplete) (claims : List Claim) → AreApart claims
    → ((v : ℕ) → hits (λ (own : Incomplete). own.at) v notes ≤ hits (λ (c : Claim). c.at) v claims)
    → AllPairs (λ (a b : Incomplete). a.at ≢ b.at) notes
noted-apart notes claims apart few =
    none-twice (λ (own : Incomplete). own.at) notes (λ v. omega (arith, few v, one-use v claims apart))

-- keys that are where they are noted, each for a use of its own
pub no-more : (version : HiveVersion) (bytes : List ℕ) (marks : List Mark) (t : Tree) (notes : List Incomplete) (claims : List Claim)
    → Each (IsIn (ground_in version bytes marks) t) notes → AreApart claims
    → ((v : ℕ) → hits (λ (own : Incomplete). own.at) v notes ≤ hits (λ (c : Claim). c.at) v claims)
    → length notes ≤ length bytes / 8
no-more version bytes marks t notes claims each apart few =
    let n = length bytes / 8 in
    omega (
      arith,
      total-all (λ (own : Incomplete). own.at) n notes (placed notes each),
      total-few (λ (own : Incomplete). own.at) n notes (λ v. omega (arith, few v, one-use v claims apart)),
    )
  where
    placed : (notes : List Incomplete) → Each (IsIn (ground_in version bytes marks) t) notes
        → Each (λ (own : Incomplete). AtPlace (length bytes / 8) own.at) notes
    placed [] a = tt
    placed (own ∷ more) a = (node-place version bytes marks own.at a.0.place.node a.0.place.read, placed more a.1)
