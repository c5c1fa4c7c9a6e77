-- Each security cell counts the keys whose nodes name it.
use Rattle.std.proofs.Common.{◌≡◌, ◌≤◌, ◌<◌, ◌⊎◌, inl, inr, ℕ, ◌+◌, Bool, true, false, eqb, eq-eqb, List, [], ◌∷◌, ◌++◌, length, refl, sym, ap, ◌∙◌, arith}
use Rattle.std.specs.Prelude.{nat_eq, if◌then◌else◌}
use lib.Pointwise.{pointwise}
use Rattle.std.proofs.lemmas.Bool.{ne_eqb}
use Rattle.std.proofs.lemmas.Slice.Eq.{bytes_eq-Decides}
use Rattle.nt_bytes.specs.declared.version.HiveVersion.{HiveVersion}
use Rattle.hive_model.specs.Tree.{Tree, Trees, key, none, more}
use Rattle.hive_model.specs.Size.{cell, has_own, security_size, count, size, size_of_all}
use Rattle.hive_model.specs.Walk.{nowhere}
use Rattle.hive_model.specs.Packed.{sharers, sharers_of_all, ring, Above, top, below, security_place_of, descriptor_place, children_place}
use Rattle.hive_pack.specs.Uses.{named, named_of_all, times, AreCounted, AllAreCounted, PackedCountsUses}
use Rattle.hive_pack.proofs.Singly.{IsAbove, above_below, later_above}

-- ---- how often

times-append : (p : ℕ) (a b : List ℕ) → times p (a ++ b) ≡ times p a + times p b
times-append p [] b = omega arith
times-append p (x ∷ a) b = omega (arith, times-append p a b)

other : (p x : ℕ) (xs : List ℕ) → (x ≡ p → ⊥) → times p (x ∷ xs) ≡ times p xs
other p x xs n = let differ : eqb x p ≡ false = ne_eqb x p n in rw differ (omega arith)

once_more : (p x : ℕ) (xs : List ℕ) → x ≡ p → times p (x ∷ xs) ≡ 1 + times p xs
once_more p x xs e = let yes : eqb x p ≡ true = eq-eqb x p e in rw yes refl

-- ---- what a node names

abbrev Outside : ℕ → ℕ → ℕ → Type 0
Outside p lo hi = (p < lo) ⊎ (hi ≤ p)

narrow : (p lo hi lower upper : ℕ) → Outside p lo hi → lo ≤ lower → upper ≤ hi → Outside p lower upper
narrow p lo hi lower upper (inl a) l r = inl (omega arith)
narrow p lo hi lower upper (inr b) l r = inr (omega arith)

-- a place outside is not named where the key above does not name it
not_here : (up : Above) (p lo hi d : ℕ) (s : List ℕ) → Outside p lo hi → lo ≤ d → d + security_size up.security s ≤ hi
    → (nowhere ≡ p → ⊥) → (up.security_place ≡ p → ⊥) → security_place_of up d s ≡ p → ⊥
not_here up p lo hi d [] out l r real above q = real q
not_here up p lo hi d (x ∷ s) out l r real above q = go (has_own up.security (x ∷ s)) r q
  where
    go : (own : Bool) → d + (if own then cell (20 + length (x ∷ s)) else 0) ≤ hi
        → (if own then d else up.security_place) ≡ p → ⊥
    go true r q = elim out [ inl a ↦ omega (arith, a, l, q) | inr b ↦ omega (arith, b, r, q) ]
    go false r q = above q

place_shared : (up : Above) (d : ℕ) (s : List ℕ) → 0 < length s → pointwise nat_eq up.security s ≡ true
    → security_place_of up d s ≡ up.security_place
place_shared up d [] l e = absurd (omega arith)
place_shared up d (x ∷ s) l e = rw e refl

place_apart : (up : Above) (d p : ℕ) (s : List ℕ) → p < d → (nowhere ≡ p → ⊥) → pointwise nat_eq up.security s ≡ false
    → security_place_of up d s ≡ p → ⊥
place_apart up d p [] l real e q = real q
place_apart up d p (x ∷ s) l real e q = let is : security_place_of up d (x ∷ s) ≡ d = rw e refl in
    omega (arith, l, is, q)

place_own : (up : Above) (d : ℕ) (s : List ℕ) → has_own up.security s ≡ true
    → (security_place_of up d s ≡ d) × (0 < length s) × (0 < security_size up.security s)
place_own up d [] m = absurd cc
place_own up d (x ∷ s) m = (rw m refl, omega arith, rw m (omega arith))

apart : (up : Above) (at p : ℕ) → IsAbove up at → at ≤ p → p < 16777216 → up.security_place ≡ p → ⊥
apart up at p (inl a) l r q = omega arith
apart up at p (inr b) l r q = omega arith

-- ---- trees that do not name a place

mutual
  unnamed : (version : HiveVersion) (p : ℕ) (up : Above) (at hi : ℕ) (t : Tree) → at + size version up.security t ≡ hi
      → Outside p at hi → (nowhere ≡ p → ⊥) → (up.security_place ≡ p → ⊥) → times p (named version up at t) ≡ 0
  unnamed version p up at hi (key h ts) e out real above =
      let own = descriptor_place at h in
      let first = children_place version up.security at h (count ts) in
      let d = security_place_of up own h.security in
      let differs : d ≡ p → ⊥ = not_here up p at hi own h.security out (omega arith) (omega arith) real above in
      other p d (named_of_all version (below up at h) first ts) differs
      ∙ all_unnamed version p (below up at h) first hi ts (omega arith)
      (narrow p at hi first hi out (omega arith) (omega arith)) real differs

  all_unnamed : (version : HiveVersion) (p : ℕ) (up : Above) (at hi : ℕ) (ts : Trees)
      → at + size_of_all version up.security ts ≡ hi → Outside p at hi → (nowhere ≡ p → ⊥) → (up.security_place ≡ p → ⊥)
      → times p (named_of_all version up at ts) ≡ 0
  all_unnamed version p up at hi none e out real above = refl
  all_unnamed version p up at hi (more t ts) e out real above =
      let next = at + size version up.security t in
      omega (
        arith,
        times-append p (named version up at t) (named_of_all version up next ts),
        unnamed version p up at next t refl (narrow p at hi at next out (omega arith) (omega arith)) real above,
        all_unnamed version p up next hi ts (omega arith) (narrow p at hi next hi out (omega arith) (omega arith))
            real above,
      )

-- ---- trees below a key that names a place

shared_here : (p : ℕ) (up : Above) (own : ℕ) (s : List ℕ) (ts : Trees) (rest : List ℕ) → p < own → (nowhere ≡ p → ⊥)
    → up.security_place ≡ p → 0 < length up.security
    → (security_place_of up own s ≡ p → 0 < length s → times p rest ≡ sharers_of_all s ts)
    → ((security_place_of up own s ≡ p → ⊥) → times p rest ≡ 0)
    → times p (security_place_of up own s ∷ rest)
    ≡ (if pointwise nat_eq up.security s then 1 + sharers_of_all up.security ts else 0)
shared_here p up own s ts rest low real above some sharing_below none_below = go (pointwise nat_eq up.security s) refl
  where
    go : (same : Bool) → pointwise nat_eq up.security s ≡ same
        → times p (security_place_of up own s ∷ rest) ≡ (if same then 1 + sharers_of_all up.security ts else 0)
    go true q =
        let alike : up.security ≡ s = (bytes_eq-Decides up.security s).0 q in
        let many : 0 < length s = omega (arith, some, ap (λ (x : List ℕ). length x) alike) in
        let place = place_shared up own s many q ∙ above in
        once_more p (security_place_of up own s) rest place
        ∙ ap (λ n. 1 + n) (sharing_below place many ∙ ap (λ (x : List ℕ). sharers_of_all x ts) (sym alike))
    go false q = let differs = place_apart up own p s low real q in
        other p (security_place_of up own s) rest differs ∙ none_below differs

mutual
  sharing : (version : HiveVersion) (p : ℕ) (up : Above) (at hi : ℕ) (t : Tree) → at + size version up.security t ≡ hi
      → p < at
      → (nowhere ≡ p → ⊥) → up.security_place ≡ p → 0 < length up.security
      → times p (named version up at t) ≡ sharers up.security t
  sharing version p up at hi (key h ts) e low real above some =
      let first = children_place version up.security at h (count ts) in
      let rest = named_of_all version (below up at h) first ts in
      shared_here p up (descriptor_place at h) h.security ts rest (omega arith) real above some
      (λ place many. all_sharing version p (below up at h) first hi ts (omega arith) (omega arith) real place many)
      (λ differs. all_unnamed version p (below up at h) first hi ts (omega arith) (inl (omega arith)) real differs)

  all_sharing : (version : HiveVersion) (p : ℕ) (up : Above) (at hi : ℕ) (ts : Trees)
      → at + size_of_all version up.security ts ≡ hi → p < at → (nowhere ≡ p → ⊥) → up.security_place ≡ p
      → 0 < length up.security
      → times p (named_of_all version up at ts) ≡ sharers_of_all up.security ts
  all_sharing version p up at hi none e low real above some = refl
  all_sharing version p up at hi (more t ts) e low real above some =
      let next = at + size version up.security t in
      omega (
        arith,
        times-append p (named version up at t) (named_of_all version up next ts),
        sharing version p up at next t refl low real above some,
        all_sharing version p up next hi ts (omega arith) (omega arith) real above some,
      )

-- ---- all security cells

-- between two places, each is as often among the one as among the other
abbrev Agrees : List ℕ → List ℕ → ℕ → ℕ → Type 0
Agrees names some lo hi = (p : ℕ) → lo ≤ p → p < hi → times p names ≡ times p some

mutual
  counted : (version : HiveVersion) (names : List ℕ) (up : Above) (at hi : ℕ) (t : Tree)
      → at + size version up.security t ≡ hi
      → hi ≤ 16777216 → IsAbove up at → Agrees names (named version up at t) at hi → AreCounted version names up at t
  counted version names up at hi (key h ts) e small i g =
      let own = descriptor_place at h in
      let first = children_place version up.security at h (count ts) in
      let d = security_place_of up own h.security in
      let rest = named_of_all version (below up at h) first ts in
      let d-above : IsAbove (below up at h) (own + security_size up.security h.security) =
      above_below up at own h.security i (omega arith) in
      let first-above = later_above (below up at h) (own + security_size up.security h.security) first (omega arith)
      d-above in (
        λ mine.
            let parts = place_own up own h.security mine in
            sym (
            g own (omega arith) (omega (arith, parts.2))
            ∙ once_more own d rest parts.0
            ∙ ap (λ n. 1 + n) (all_sharing version own (below up at h) first hi ts (omega arith)
            (omega (arith, parts.2)) (λ q. omega arith) parts.0 parts.1)
            ),
        all_counted version names (below up at h) first hi ts (omega arith) small first-above
            (λ p l r. g p (omega arith) r ∙ other p d rest (apart (below up at h) first p first-above l (omega arith))),
      )

  all_counted : (version : HiveVersion) (names : List ℕ) (up : Above) (at hi : ℕ) (ts : Trees)
      → at + size_of_all version up.security ts ≡ hi → hi ≤ 16777216 → IsAbove up at
      → Agrees names (named_of_all version up at ts) at hi → AllAreCounted version names up at ts
  all_counted version names up at hi none e small i g = tt
  all_counted version names up at hi (more t ts) e small i g =
      let next = at + size version up.security t in
      let front = named version up at t in
      let back = named_of_all version up next ts in (
        counted version names up at next t refl (omega arith) i (λ p l r.
            omega (
              arith,
              g p l (omega arith),
              times-append p front back,
              all_unnamed version p up next hi ts (omega arith) (inl r) (λ q. omega arith)
                  (apart up at p i l (omega arith)),
            )),
        all_counted version names up next hi ts (omega arith) small (later_above up at next (omega arith) i) (λ p l r.
            omega (
              arith,
              g p (omega arith) r,
              times-append p front back,
              unnamed version p up at next t refl (inr l) (λ q. omega arith)
                  (apart up at p i (omega arith) (omega arith)),
            )),
      )

pub uses_are_counted : PackedCountsUses
uses_are_counted version t room =
    counted version (named version (top (ring version [] 32 t)) 32 t) (top (ring version [] 32 t)) 32
    (32 + size version [] t) t refl (omega arith) (inr refl) (λ p l r. refl)
