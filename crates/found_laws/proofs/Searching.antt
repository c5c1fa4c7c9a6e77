-- The search keeps each key where it is.
use Rattle.std.proofs.Common.{◌≡◌, ℕ, zero, suc, ◌+◌, ◌-◌, Bool, true, false, cond, List, [], ◌∷◌, length, Option, Some, None, ap, ◌∙◌}
use Rattle.std.specs.Prelude.{◌==◌, find, slice_get}
use Rattle.std.specs.Option.{option_or}
use Rattle.std.proofs.lemmas.List.Folds.{find-append}
use Rattle.hive_model.specs.Tree.{Head, Tree, is_named}
use Rattle.salvage_bins.specs.Ground.{Ground}
use Rattle.salvage_walk.specs.declared.lines.Incomplete.{Incomplete}
use Rattle.salvage_walk.specs.Walked.{Walked}
use Rattle.salvage_walk.specs.Keys.{Judge, judged_key, key_names, with_child}
use Rattle.salvage_walk.specs.Found.{unsaid, found_next}
use Rattle.salvage_parents.specs.Naming.{naming}
use Rattle.salvage_parents.specs.Arranged.{arranged}
use Rattle.salvage_parents.specs.Search.{adopted, adopted_none, Search, search_step, searched_on, searched}
use Rattle.found_laws.proofs.Apart.{Apart, Siblings, Judged, JudgesApart, child-apart, judged-apart, some}
use Rattle.found_laws.proofs.Reaching.{Reaches, reach-self, reach-on, Keeps, changed-apart, changed-reaches}
use Rattle.found_laws.proofs.Arranging.{Holds, arranged-apart, arranged-holds}

-- ---- children that are found

pub unsaid-judged : (names : List (List ℕ)) (w : Walked) (r : Option Tree × Walked) → Judged names r → Judged names (unsaid w r)
unsaid-judged names w (Some t, after) j = j
unsaid-judged names w (None, after) j = λ t e. absurd cc

pub found-apart : (judge : Judge) (above : List ℕ) (path : List (List ℕ)) (places : List ℕ) (us : List Tree) (w : Walked)
    → JudgesApart judge → Siblings us → Siblings (found_next judge above path places us w).0
unfolding found_next
found-apart judge above path [] us w well s = s
found-apart judge above path (at ∷ places) us w well s =
    let r = judge above path (key_names us) 0 at w in
    let next = with_child us (unsaid w r) in
    found-apart judge above path places next.0 next.1 well
    (child-apart us (unsaid w r) (unsaid-judged (key_names us) w r (well above path (key_names us) 0 at w)) s)

pub child-holds : (us : List Tree) (r : Option Tree × Walked) → Holds us (with_child us r).0
child-holds us (Some t, w) name c e =
    find-append (is_named name) us (t ∷ []) ∙ ap (λ (o : Option Tree). option_or o (find (is_named name) (t ∷ []))) e
child-holds us (None, w) name c e = e

pub found-holds : (judge : Judge) (above : List ℕ) (path : List (List ℕ)) (places : List ℕ) (us : List Tree) (w : Walked)
    → Holds us (found_next judge above path places us w).0
unfolding found_next
found-holds judge above path [] us w name c e = e
found-holds judge above path (at ∷ places) us w name c e =
    let r = unsaid w (judge above path (key_names us) 0 at w) in
    let next = with_child us r in
    found-holds judge above path places next.0 next.1 name c (child-holds us r name c e)

module _ (hive : Ground) (own : Incomplete) (w : Walked) (notes : List Incomplete) (h : Head) (us : List Tree) (s : Siblings us) where
  abbrev found : List Tree × Walked
  found = found_next (judged_key (511 - length own.path) hive) h.security own.path (naming hive own.at hive.slots) us w

  all : Siblings found.0
  all =
      found-apart (judged_key (511 - length own.path) hive) h.security own.path (naming hive own.at hive.slots) us w
      (judged-apart (511 - length own.path) hive) s

  adopted-apart : Siblings (adopted hive own w notes h.security us).0
  unfolding adopted
  adopted-apart = go (length found.0 - length us == 0)
    where
      go : (b : Bool) → Siblings (cond b found.0 (arranged found.0))
      go true = all
      go false = arranged-apart found.0 all

  adopted-holds : Holds us (adopted hive own w notes h.security us).0
  unfolding adopted
  adopted-holds name c e = go (length found.0 - length us == 0)
    where
      there : find (is_named name) found.0 ≡ some c
      there =
          found-holds (judged_key (511 - length own.path) hive) h.security own.path (naming hive own.at hive.slots) us w name c e

      go : (b : Bool) → find (is_named name) (cond b found.0 (arranged found.0)) ≡ some c
      go true = there
      go false = arranged-holds found.0 all.differ name c there

  adopted-keeps : Keeps us (adopted hive own w notes h.security us).0
  adopted-keeps name c e = (c, adopted-holds name c e, reach-self c)

-- ---- the steps

pub step-apart : (hive : Ground) (own : Incomplete) (s : Search) → Apart s.tree → Apart (search_step hive own s).tree
unfolding search_step
step-apart hive own s a =
    changed-apart own.path (λ (h : Head). adopted hive own s.used s.notes h.security) (adopted_none s.used s.notes)
    (λ h us p. adopted-apart hive own s.used s.notes h us p) s.tree a

pub step-reaches : (hive : Ground) (own : Incomplete) (s : Search) → Apart s.tree → Reaches s.tree (search_step hive own s).tree
unfolding search_step
step-reaches hive own s a =
    changed-reaches own.path (λ (h : Head). adopted hive own s.used s.notes h.security) (adopted_none s.used s.notes)
    (λ h us p. adopted-keeps hive own s.used s.notes h us p) s.tree a

pub searched-reaches : (hive : Ground) (n place : ℕ) (s : Search) → Apart s.tree → Reaches s.tree (searched hive n place s).tree
unfolding searched
searched-reaches hive zero place s a = reach-self s.tree
searched-reaches hive (suc n) place s a =
    go (slice_get s.notes place)
    (λ own. searched-reaches hive n (place + 1) (search_step hive own s) (step-apart hive own s a))
  where
    go : (o : Option Incomplete)
        → ((own : Incomplete) → Reaches (search_step hive own s).tree (searched hive n (place + 1) (search_step hive own s)).tree)
        → Reaches s.tree (searched_on (searched hive n (place + 1)) hive s o).tree
    go (Some own) more =
        reach-on s.tree (search_step hive own s).tree (searched hive n (place + 1) (search_step hive own s)).tree
        (step-reaches hive own s a) (more own)
    go None more = reach-self s.tree
