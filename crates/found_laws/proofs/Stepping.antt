-- What the search leaves of one incomplete key.
use Rattle.std.proofs.Common.{◌≡◌, ℕ, ◌-◌, ◌≤◌, Bool, true, false, cond, List, [], ◌∷◌, ◌++◌, length, refl, sym, ap, subst, ◌∙◌, arith, length-append}
use Rattle.std.specs.Prelude.{◌==◌, map, find}
use Rattle.hive_model.specs.Tree.{Head, Tree, Trees, key, listed, head, is_named, find_key}
use Rattle.reg_tree.proofs.Unlike.{Each}
use Rattle.salvage_bins.specs.Ground.{Ground}
use Rattle.salvage_walk.specs.declared.claims.Claim.{Claim}
use Rattle.salvage_walk.specs.declared.lines.Incomplete.{Incomplete}
use Rattle.salvage_walk.specs.declared.lines.WalkLine.{WalkLine}
use Rattle.salvage_walk.specs.Walked.{Walked}
use Rattle.salvage_walk.specs.Keys.{judged_key}
use Rattle.salvage_walk.specs.Incomplete.{notes_key}
use Rattle.salvage_walk.specs.Found.{found_next, found_notes}
use Rattle.salvage_parents.specs.declared.search.ParentLine.{ParentLine}
use Rattle.salvage_parents.specs.declared.search.ParentLine.TheVariants as printed
use Rattle.salvage_parents.specs.Arranged.{arranged}
use Rattle.salvage_parents.specs.Naming.{naming}
use Rattle.salvage_parents.specs.Search.{Search, adopted, adopted_none, arranged_if, found_line, search_done, search_step}
use Rattle.salvage_laws.proofs.Grows.{Adds, judged-follows}
use Rattle.salvage_laws.proofs.Wider.{Upto}
use Rattle.salvage_laws.proofs.Leaving.{nothing-more}
use Rattle.found_laws.proofs.Apart.{Apart, Siblings, siblings-of, judged-apart, some, some_same}
use Rattle.found_laws.proofs.Arranging.{Holds, arranged-holds}
use Rattle.found_laws.proofs.Reaching.{Reaches, then-found}
use Rattle.found_laws.proofs.Searching.{found-apart, step-apart, step-reaches}
use Rattle.found_laws.specs.found_laws.Found.{IsNodeOf, KeyFound, levels_below, with_keys_at}
use Rattle.found_laws.specs.found_laws.Lines.{lacking, lacking_later, AreNoted}
use Rattle.found_laws.proofs.Nodes.{found-follow, nodes-left}
use Rattle.found_laws.proofs.Noting.{each-both, each-so, Among, found-noted, IsIn, in-held, in-reached}
use Rattle.found_laws.proofs.Saying.{Said}
use Rattle.found_laws.proofs.Telling.{found-told, step-told}
use Rattle.found_laws.proofs.Counting.{Noted, Used, found-within}
use Rattle.found_laws.proofs.Changing.{changed-found, found-changed}

-- ---- a state of the search

-- no line is left to print, the children of each key have names of their own, and each incomplete key is where it is noted
pub record IsSearch (hive : Ground) (s : Search) : Type 0 where
  pub silent : s.used.lines ≡ []
  pub apart : Apart s.tree
  pub there : Each (IsIn hive s.tree) s.notes

-- uses and incomplete keys come after those that there were
pub record Goes (hive : Ground) (s r : Search) : Type 0 where
  pub adds : Adds s.used.claims r.used.claims
  pub more : List Incomplete
  pub notes : r.notes ≡ s.notes ++ more
  pub is : IsSearch hive r

-- the incomplete keys are noted in the order of the lines of the walk, of which these say so, and of those after it
abbrev pub IsTold : Said → Search → Type 0
IsTold walk s = AreNoted s.notes (walk ++ map lacking_later s.said)

-- of each place no more incomplete keys are noted than cells are used
abbrev pub IsCounted : Ground → ℕ → Search → Type 0
IsCounted hive v s = Noted hive v s.notes ≤ Used hive v s.used

-- what was used and printed for one incomplete key
pub record StepLeft (hive : Ground) (used : List Claim) (own : Incomplete) (s r : Search) : Type 0 where
  pub uses : List Claim
  pub said : List ParentLine
  pub uses_are : r.used.claims ≡ s.used.claims ++ uses
  pub said_is : r.said ≡ s.said ++ said
  pub means : KeyFound hive used own s.tree r.tree uses said

-- ---- below a key whose children are apart

each-at : (name : List ℕ) (us : List Tree) (c : Tree) → Each Apart us → find (is_named name) us ≡ some c → Apart c
each-at name [] c a e = absurd cc
each-at name (u ∷ us) c a e = go (is_named name u) e (each-at name us c a.1)
  where
    go : (b : Bool) → cond b (some u) (find (is_named name) us) ≡ some c → (find (is_named name) us ≡ some c → Apart c) → Apart c
    go true e more = subst Apart (some_same u c e) a.0
    go false e more = more e

apart-at : (path : List (List ℕ)) (t k : Tree) → Apart t → find_key path t ≡ some k → Apart k
apart-at [] t k a e = subst Apart (some_same t k e) a
apart-at (name ∷ path) (key h ts) k a e =
    let f = then-found (find_key path) (find (is_named name) (listed ts)) k e in
    apart-at path f.0 k (each-at name (listed ts) f.0 (siblings-of h ts a).below f.1) f.2

-- ---- the step

module _ (hive : Ground) (own : Incomplete) (s : Search) (h : Head) (ts : Trees) (e : find_key own.path s.tree ≡ some (key h ts)) where
  abbrev found : List Tree × Walked
  found = found_next (judged_key (levels_below own) hive) h.security own.path (naming hive own.at hive.slots) (listed ts) s.used

  abbrev notes : List Incomplete
  notes =
      found_notes (judged_key (levels_below own) hive) (notes_key (levels_below own) hive) h.security own.path
      (naming hive own.at hive.slots) (listed ts) s.used s.notes

  abbrev count : ℕ
  count = length found.0 - length (listed ts)

  abbrev all : List Tree
  all = arranged_if count found.0

  abbrev made : Search
  made = search_done s own (with_keys_at own.path all s.tree, record { walked = found.1; notes = notes; count = count })

  stepped : search_step hive own s ≡ made
  unfolding search_step adopted
  stepped =
      ap (search_done s own)
      (changed-found (λ (h : Head). adopted hive own s.used s.notes h.security) (adopted_none s.used s.notes) h ts own.path s.tree e)

  made-adds : Adds s.used.claims made.used.claims
  made-adds =
      (found-follow (judged_key (levels_below own) hive) h.security own.path (naming hive own.at hive.slots) (listed ts) s.used
      (judged-follows (levels_below own) hive)).used

  made-left : (used : List Claim) → s.used.lines ≡ [] → IsNodeOf hive own.at h → Upto made.used.claims used
      → StepLeft hive used own s made
  made-left used silent place u =
      let l = nodes-left hive used (levels_below own) h.security own.path (naming hive own.at hive.slots) (listed ts) s.used u in
      let new : count ≡ length l.means.0 = omega (arith, ap length l.means.1, length-append (listed ts) l.means.0) in
      let below : found.1.lines ≡ l.said = l.said_is ∙ ap (λ (ls : List WalkLine). ls ++ l.said) silent in
      record {
        uses = l.uses;
        said = map printed.Walked found.1.lines ++ found_line count own.path;
        uses_are = l.uses_are;
        said_is = refl;
        means = record {
          h = h;
          ts = ts;
          all = all;
          there = e;
          place = place;
          children = record {
            found = l.means.0;
            below = l.said;
            nodes = l.means.2;
            all_are = ap (λ (n : ℕ). arranged_if n found.0) new ∙ ap (arranged_if (length l.means.0)) l.means.1;
            said_is = ap (λ (ls : List WalkLine). map printed.Walked ls ++ found_line count own.path) below
                ∙ ap (λ (n : ℕ). map printed.Walked l.said ++ found_line n own.path) new;
          };
          tree = refl;
        };
      }

  found-siblings : Apart s.tree → Siblings found.0
  found-siblings a =
      found-apart (judged_key (levels_below own) hive) h.security own.path (naming hive own.at hive.slots) (listed ts) s.used
      (judged-apart (levels_below own) hive) (siblings-of h ts (apart-at own.path s.tree (key h ts) a e))

  all-hold : Apart s.tree → Holds found.0 all
  all-hold a = go (count == 0)
    where
      go : (b : Bool) → Holds found.0 (cond b found.0 (arranged found.0))
      go true name c f = f
      go false name c f = arranged-holds found.0 (found-siblings a).differ name c f

  made-goes : IsSearch hive s → Goes hive s made
  made-goes i =
      let g = found-noted hive (levels_below own) h.security own.path (naming hive own.at hive.slots) (listed ts) s.used s.notes in
      let reaches : Reaches s.tree made.tree =
      subst (λ (r : Search). Reaches s.tree r.tree) stepped (step-reaches hive own s i.apart) in
      record {
        adds = made-adds;
        more = g.more;
        notes = g.is;
        is = record {
          silent = refl;
          apart = subst (λ (r : Search). Apart r.tree) stepped (step-apart hive own s i.apart);
          there = subst (Each (IsIn hive made.tree)) (sym g.is)
              (each-both (IsIn hive made.tree) s.notes g.more
              (each-so (IsIn hive s.tree) (IsIn hive made.tree) (λ o. in-reached hive s.tree made.tree o reaches) s.notes i.there)
              (each-so (Among hive own.path found.0) (IsIn hive made.tree)
              (λ o. in-held hive own.path found.0 all made.tree h o (all-hold i.apart)
              (found-changed own.path all s.tree h ts e)) g.more g.each));
        };
      }

  made-told : (walk : Said) → s.used.lines ≡ [] → IsTold walk s → IsTold walk made
  made-told walk silent t =
      let before = walk ++ map lacking_later s.said in
      step-told notes walk s.said found.1.lines count own.path
      (found-told hive before (levels_below own) h.security own.path (naming hive own.at hive.slots) (listed ts) s.used s.notes
      (subst (AreNoted s.notes) (nothing-more before ∙ ap (λ (ls : List WalkLine). before ++ map lacking ls) (sym silent)) t))

  made-counted : (v : ℕ) → IsCounted hive v s → IsCounted hive v made
  made-counted v c =
      omega (arith, c, found-within hive v (levels_below own) h.security own.path (naming hive own.at hive.slots) (listed ts) s.used s.notes)

by-head : (hive : Ground) (own : Incomplete) (s : Search) (P : Search → Type 0) → IsIn hive s.tree own
    → ((h : Head) (ts : Trees) (e : find_key own.path s.tree ≡ some (key h ts)) → IsNodeOf hive own.at h → P (made hive own s h ts e))
    → P (search_step hive own s)
by-head hive own s P i f = by i.k i.there i.place
  where
    by : (k : Tree) → find_key own.path s.tree ≡ some k → IsNodeOf hive own.at (head k) → P (search_step hive own s)
    by (key h ts) e place = subst P (sym (stepped hive own s h ts e)) (f h ts e place)

pub step-goes : (hive : Ground) (own : Incomplete) (s : Search) → IsSearch hive s → IsIn hive s.tree own
    → Goes hive s (search_step hive own s)
step-goes hive own s i o =
    by-head hive own s (Goes hive s) o (λ h ts e place. made-goes hive own s h ts e i)

pub step-left : (hive : Ground) (used : List Claim) (own : Incomplete) (s : Search) → IsSearch hive s → IsIn hive s.tree own
    → Upto (search_step hive own s).used.claims used → StepLeft hive used own s (search_step hive own s)
step-left hive used own s i o u =
    by-head hive own s (λ (r : Search). Upto r.used.claims used → StepLeft hive used own s r) o
    (λ h ts e place u. made-left hive own s h ts e used i.silent place u) u

pub step-tells : (hive : Ground) (own : Incomplete) (s : Search) (walk : Said) → IsSearch hive s → IsIn hive s.tree own → IsTold walk s
    → IsTold walk (search_step hive own s)
step-tells hive own s walk i o t =
    by-head hive own s (IsTold walk) o (λ h ts e place. made-told hive own s h ts e walk i.silent t)

pub step-counts : (hive : Ground) (own : Incomplete) (s : Search) (v : ℕ) → IsSearch hive s → IsIn hive s.tree own
    → IsCounted hive v s → IsCounted hive v (search_step hive own s)
step-counts hive own s v i o c =
    by-head hive own s (IsCounted hive v) o (λ h ts e place. made-counted hive own s h ts e v c)
