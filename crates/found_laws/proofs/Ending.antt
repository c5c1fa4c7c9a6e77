-- What the search leaves of all incomplete keys, in turn.
use Rattle.std.proofs.Common.{◌≡◌, ℕ, zero, suc, ◌+◌, ◌/◌, ◌≤◌, List, [], ◌∷◌, ◌++◌, length, Option, Some, None, refl, sym, ap, subst, ◌∙◌, arith}
use Rattle.std.specs.Prelude.{◌≢◌, map, take, drop, slice_get}
use Rattle.std.specs.List.{AllPairs}
use Rattle.nt_bytes.specs.declared.version.HiveVersion.{HiveVersion}
use Rattle.hive_model.specs.Tree.{Tree}
use Rattle.reg_tree.proofs.Unlike.{Each}
use Rattle.salvage_bins.specs.declared.layout.Mark.{Mark}
use Rattle.salvage_bins.specs.Ground.{Ground}
use Rattle.salvage_walk.specs.declared.claims.Claim.{Claim}
use Rattle.salvage_walk.specs.declared.lines.Incomplete.{Incomplete}
use Rattle.salvage_walk.specs.Walked.{Walked}
use Rattle.salvage_walk.specs.Keys.{salvaged}
use Rattle.salvage_walk.specs.Incomplete.{incomplete}
use Rattle.salvage_parents.specs.declared.search.ParentLine.{ParentLine}
use Rattle.salvage_parents.specs.Search.{Search, search_step, searched_on, searched, search_from, without_lines, searched_by, salvaged_by_parents}
use Rattle.salvage_file.specs.Salvage.{ground_in}
use Rattle.salvage_laws.specs.Apart.{AreApart}
use Rattle.salvage_laws.proofs.Grows.{adds-none, adds-both}
use Rattle.salvage_laws.proofs.Wider.{Upto, upto-adds}
use Rattle.salvage_laws.proofs.Leaving.{join, nothing-more}
use Rattle.salvage_laws.proofs.LeavingKeys.{salvage-apart}
use Rattle.salvage_laws.proofs.UsesLie.{Lie}
use Rattle.found_laws.proofs.Apart.{salvaged-apart}
use Rattle.found_laws.specs.found_laws.Lines.{lacking, AreNoted, AreIncomplete}
use Rattle.found_laws.specs.found_laws.Searched.{SearchLeft, search_end, end_uses, uses_by_parents, end_notes, notes_by_parents, IsFoundSalvage, with_found, with_nothing}
use Rattle.found_laws.proofs.Lying.{found-lies}
use Rattle.found_laws.proofs.Noting.{Within, RootNoted, incomplete-noted, each-so, IsIn, in-below}
use Rattle.found_laws.proofs.Stepping.{IsSearch, Goes, IsTold, IsCounted, StepLeft, step-goes, step-left, step-tells, step-counts}
use Rattle.found_laws.proofs.Counting.{RootWithin, incomplete-within, noted-apart, no-more}
use Rattle.found_laws.proofs.Telling.{RootTold, incomplete-told}

-- ---- a list from a place on

from-place : {A : Type 0} (xs more : List A) (place : ℕ) (x : A) → slice_get xs place ≡ Some x
    → drop place (xs ++ more) ≡ x ∷ drop (suc place) (xs ++ more)
from-place [] more place x e = absurd cc
from-place (y ∷ xs) more zero x e = ap (λ z. z ∷ (xs ++ more)) (same y e)
  where
    same : (z : _) → Some z ≡ Some x → z ≡ x
    same z e = cc
from-place (y ∷ xs) more (suc place) x e = from-place xs more place x e

past-all : {A : Type 0} (xs : List A) (place : ℕ) → slice_get xs place ≡ None → drop place xs ≡ []
past-all [] zero e = refl
past-all [] (suc place) e = refl
past-all (x ∷ xs) zero e = absurd cc
past-all (x ∷ xs) (suc place) e = past-all xs place e

at-place : (P : Incomplete → Type 0) (xs : List Incomplete) (place : ℕ) (x : Incomplete) → Each P xs → slice_get xs place ≡ Some x → P x
at-place P [] place x a e = absurd cc
at-place P (y ∷ xs) zero x a e = let same : y ≡ x = cc in subst P same a.0
at-place P (y ∷ xs) (suc place) x a e = at-place P xs place x a.1 e

-- ---- all incomplete keys

goes-self : (hive : Ground) (s : Search) → IsSearch hive s → Goes hive s s
goes-self hive s i = record { adds = adds-none s.used.claims; more = []; notes = nothing-more s.notes; is = i }

goes-on : (hive : Ground) (s r l : Search) → Goes hive s r → Goes hive r l → Goes hive s l
goes-on hive s r l a b = record {
  adds = adds-both s.used.claims r.used.claims l.used.claims a.adds b.adds;
  more = a.more ++ b.more;
  notes = join s.notes r.notes l.notes a.more b.more a.notes b.notes;
  is = b.is;
}

search-goes : (hive : Ground) (n place : ℕ) (s : Search) → IsSearch hive s → Goes hive s (searched hive n place s)
unfolding searched
search-goes hive zero place s i = goes-self hive s i
search-goes hive (suc n) place s i =
    go (slice_get s.notes place) refl (λ r i. search-goes hive n (place + 1) r i)
  where
    go : (o : Option Incomplete) → slice_get s.notes place ≡ o
        → ((r : Search) → IsSearch hive r → Goes hive r (searched hive n (place + 1) r))
        → Goes hive s (searched_on (searched hive n (place + 1)) hive s o)
    go (Some own) e more =
        let g = step-goes hive own s i (at-place (IsIn hive s.tree) s.notes place own i.there e) in
        goes-on hive s (search_step hive own s) (searched hive n (place + 1) (search_step hive own s)) g
        (more (search_step hive own s) g.is)
    go None e more = goes-self hive s i

module _ (hive : Ground) (used : List Claim) where
  record SearchedLeft (n place : ℕ) (s r : Search) : Type 0 where
    pub uses : List Claim
    pub said : List ParentLine
    pub uses_are : r.used.claims ≡ s.used.claims ++ uses
    pub said_is : r.said ≡ s.said ++ said
    pub means : SearchLeft hive used (take n (drop place r.notes)) s.tree r.tree uses said

  left-none : (n place : ℕ) (s : Search) → take n (drop place s.notes) ≡ [] → SearchedLeft n place s s
  left-none n place s e = record {
    uses = [];
    said = [];
    uses_are = nothing-more s.used.claims;
    said_is = nothing-more s.said;
    means = subst (λ (keys : List Incomplete). SearchLeft hive used keys s.tree s.tree [] []) (sym e) (refl, refl, refl);
  }

  left-next : (n place : ℕ) (own : Incomplete) (s r l : Search) → slice_get s.notes place ≡ Some own → Goes hive s l
      → StepLeft hive used own s r → SearchedLeft n (place + 1) r l → SearchedLeft (suc n) place s l
  left-next n place own s r l e g a b =
      let next : suc place ≡ place + 1 = omega arith in
      let keys : drop place l.notes ≡ own ∷ drop (place + 1) l.notes =
      ap (drop place) g.notes ∙ from-place s.notes g.more place own e
      ∙ ap (λ (k : ℕ). own ∷ drop k (s.notes ++ g.more)) next
      ∙ ap (λ (ns : List Incomplete). own ∷ drop (place + 1) ns) (sym g.notes) in
      record {
        uses = a.uses ++ b.uses;
        said = a.said ++ b.said;
        uses_are = join s.used.claims r.used.claims l.used.claims a.uses b.uses a.uses_are b.uses_are;
        said_is = join s.said r.said l.said a.said b.said a.said_is b.said_is;
        means = subst (λ (ns : List Incomplete). SearchLeft hive used (take (suc n) ns) s.tree l.tree (a.uses ++ b.uses) (a.said ++ b.said))
            (sym keys) (record {
              between = r.tree;
              own_uses = a.uses;
              own_said = a.said;
              rest_uses = b.uses;
              rest_said = b.said;
              uses_are = refl;
              said_is = refl;
              first = a.means;
              rest = b.means;
            });
      }

  search-left : (n place : ℕ) (s : Search) → IsSearch hive s → Upto (searched hive n place s).used.claims used
      → SearchedLeft n place s (searched hive n place s)
  unfolding searched
  search-left zero place s i u = left-none zero place s refl
  search-left (suc n) place s i u =
      go (slice_get s.notes place) refl u (λ r i u. search-left n (place + 1) r i u)
    where
      go : (o : Option Incomplete) → slice_get s.notes place ≡ o
          → Upto (searched_on (searched hive n (place + 1)) hive s o).used.claims used
          → ((r : Search) → IsSearch hive r → Upto (searched hive n (place + 1) r).used.claims used
          → SearchedLeft n (place + 1) r (searched hive n (place + 1) r))
          → SearchedLeft (suc n) place s (searched_on (searched hive n (place + 1)) hive s o)
      go (Some own) e u more =
          let r = search_step hive own s in
          let l = searched hive n (place + 1) r in
          let there = at-place (IsIn hive s.tree) s.notes place own i.there e in
          let g = step-goes hive own s i there in
          let on = search-goes hive n (place + 1) r g.is in
          left-next n place own s r l e (goes-on hive s r l g on)
          (step-left hive used own s i there (upto-adds r.used.claims l.used.claims used on.adds u)) (more r g.is u)
      go None e u more = left-none (suc n) place s (ap (take (suc n)) (past-all s.notes place e))

-- ---- from the root on

begun-so : (hive : Ground) (root : ℕ) (t : Tree) (w : Walked) → salvaged hive root ≡ (Some t, w)
    → IsSearch hive (search_from t (without_lines w) (incomplete hive root))
begun-so hive root t w e = record {
  silent = refl;
  apart = salvaged-apart hive root t (ap (λ (r : Option Tree × Walked). r.0) e);
  there = each-so (Within hive [] t) (IsIn hive t) (λ o. in-below hive [] t t o refl) (incomplete hive root)
      (subst (RootNoted hive (incomplete hive root)) e (incomplete-noted hive root));
}

pub found-is : (hive : Ground) (root : ℕ)
    → IsFoundSalvage hive root (uses_by_parents hive root) (notes_by_parents hive root) (salvaged_by_parents hive root)
unfolding salvaged_by_parents
found-is hive root = by (salvaged hive root) refl
  where
    by : (r : Option Tree × Walked) → salvaged hive root ≡ r
        → IsFoundSalvage hive root (end_uses hive root r) (end_notes hive root r) (searched_by hive (incomplete hive root) r)
    by (Some t, w) e =
        let last = search_end hive root t w in
        let i = begun-so hive root t w e in
        let begun = search_from t (without_lines w) (incomplete hive root) in
        let g = search-goes hive hive.slots 0 begun i in
        let l = search-left hive last.used.claims hive.slots 0 begun i ([], nothing-more last.used.claims) in
        subst (λ (said : List ParentLine). IsFoundSalvage hive root last.used.claims last.notes
        (record { tree = Some last.tree; lines = w.lines; said = said })) (sym l.said_is)
        (with_found t last.tree w g.more l.uses l.said e l.uses_are g.notes l.means)
    by (None, w) e = with_nothing w e refl refl

pub all-lie : (hive : Ground) (root : ℕ) → Lie hive (uses_by_parents hive root)
all-lie hive root =
    found-lies hive root (uses_by_parents hive root) (notes_by_parents hive root) (salvaged_by_parents hive root) (found-is hive root)

pub all-apart : (hive : Ground) (root : ℕ) → AreApart (uses_by_parents hive root)
all-apart hive root = by (salvaged hive root) refl (salvage-apart hive root)
  where
    by : (r : Option Tree × Walked) → salvaged hive root ≡ r → AreApart r.1.claims → AreApart (end_uses hive root r)
    by (Some t, w) e a =
        (search-goes hive hive.slots 0 (search_from t (without_lines w) (incomplete hive root)) (begun-so hive root t w e)).adds.apart a
    by (None, w) e a = a

-- what each step keeps the search keeps
search-keeps : (hive : Ground) (P : Search → Type 0)
    → ((own : Incomplete) (s : Search) → IsSearch hive s → IsIn hive s.tree own → P s → P (search_step hive own s))
    → (n place : ℕ) (s : Search) → IsSearch hive s → P s → P (searched hive n place s)
unfolding searched
search-keeps hive P step zero place s i p = p
search-keeps hive P step (suc n) place s i p =
    go (slice_get s.notes place) refl (λ r i p. search-keeps hive P step n (place + 1) r i p)
  where
    go : (o : Option Incomplete) → slice_get s.notes place ≡ o
        → ((r : Search) → IsSearch hive r → P r → P (searched hive n (place + 1) r))
        → P (searched_on (searched hive n (place + 1)) hive s o)
    go (Some own) e more =
        let there = at-place (IsIn hive s.tree) s.notes place own i.there e in
        more (search_step hive own s) (step-goes hive own s i there).is (step own s i there p)
    go None e more = p

pub all-told : (hive : Ground) (root : ℕ) → AreIncomplete (notes_by_parents hive root) (salvaged_by_parents hive root)
unfolding salvaged_by_parents
all-told hive root = by (salvaged hive root) refl (incomplete-told hive root)
  where
    by : (r : Option Tree × Walked) → salvaged hive root ≡ r → RootTold hive (incomplete hive root) r
        → AreIncomplete (end_notes hive root r) (searched_by hive (incomplete hive root) r)
    by (Some t, w) e a =
        let walk = map lacking w.lines in
        search-keeps hive (IsTold walk) (λ own s i o k. step-tells hive own s walk i o k) hive.slots 0
        (search_from t (without_lines w) (incomplete hive root)) (begun-so hive root t w e)
        (subst (AreNoted (incomplete hive root)) (nothing-more walk) a)
    by (None, w) e a = subst (AreNoted []) (nothing-more (map lacking w.lines)) a

-- of each place no more incomplete keys are noted than cells are used
end-counts : (hive : Ground) (root : ℕ) (t : Tree) (w : Walked) → salvaged hive root ≡ (Some t, w) → (v : ℕ)
    → IsCounted hive v (search_end hive root t w)
end-counts hive root t w e v =
    search-keeps hive (IsCounted hive v) (λ own s i o c. step-counts hive own s v i o c) hive.slots 0
    (search_from t (without_lines w) (incomplete hive root)) (begun-so hive root t w e)
    (subst (RootWithin hive v (incomplete hive root)) e (incomplete-within hive v root))

pub all-once : (hive : Ground) (root : ℕ) → AllPairs (λ (a b : Incomplete). a.at ≢ b.at) (notes_by_parents hive root)
all-once hive root = by (salvaged hive root) refl (salvage-apart hive root)
  where
    by : (r : Option Tree × Walked) → salvaged hive root ≡ r → AreApart r.1.claims
        → AllPairs (λ (a b : Incomplete). a.at ≢ b.at) (end_notes hive root r)
    by (Some t, w) e a =
        let begun = search_from t (without_lines w) (incomplete hive root) in
        let last = search_end hive root t w in
        noted-apart last.notes last.used.claims ((search-goes hive hive.slots 0 begun (begun-so hive root t w e)).adds.apart a)
        (end-counts hive root t w e)
    by (None, w) e a = λ i j d lt within. absurd (omega (arith, within))

-- each incomplete key of bytes has its turn
pub all-turns : (version : HiveVersion) (bytes : List ℕ) (marks : List Mark) (root : ℕ)
    → length (notes_by_parents (ground_in version bytes marks) root) ≤ length bytes / 8
all-turns version bytes marks root =
    by (salvaged hive root) refl (salvage-apart hive root)
  where
    hive : Ground
    hive = ground_in version bytes marks

    by : (r : Option Tree × Walked) → salvaged hive root ≡ r → AreApart r.1.claims → length (end_notes hive root r) ≤ length bytes / 8
    by (Some t, w) e a =
        let begun = search_from t (without_lines w) (incomplete hive root) in
        let g = search-goes hive hive.slots 0 begun (begun-so hive root t w e) in
        let last = search_end hive root t w in
        no-more version bytes marks last.tree last.notes last.used.claims g.is.there (g.adds.apart a) (end-counts hive root t w e)
    by (None, w) e a = omega arith
