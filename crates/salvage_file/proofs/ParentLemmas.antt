-- The tree in which keys are found by their parents can be held by a hive, where payloads are bytes and its bulk is not too great.
use Rattle.std.proofs.Common.{◌≡◌, ℕ, zero, suc, ◌+◌, ◌-◌, ◌<◌, ◌≤◌, Bool, true, false, cond, List, [], ◌∷◌, length, Option, Some, None, refl, sym, ap, subst, ◌∙◌, arith}
use Rattle.std.specs.Prelude.{◌==◌, slice_get}
use Rattle.std.proofs.lemmas.Bool.{or_parts}
use Rattle.std.specs.List.{list_any}
use Rattle.std.specs.Ordering.{match_ordering}
use Rattle.std.specs.declared.cmp.Ordering.{Ordering}
use Rattle.std.specs.declared.cmp.Ordering.TheVariants.{Less, Equal, Greater}
use Rattle.nt_bytes.specs.Folding.{folds_same, folded_order}
use Rattle.nt_bytes.specs.declared.version.HiveVersion.{HiveVersion}
use Rattle.hive_model.specs.Size.{bulk_of}
use Rattle.hive_model.specs.Tree.{Head, Tree, key, listed, head, is_named}
use Rattle.hive_model.specs.Valid.{IsValid, levels}
use Rattle.hive_read.proofs.ValidTrees.{AreBytes}
use Rattle.reg_tree.proofs.Unlike.{Each, Unlike, Lacks, each_push, unlike_push, lacks_from}
use Rattle.reg_tree.proofs.Sound.{key_name, IsNamed, Sound, Parts, parts, whole, sound_from, valid_back}
use Rattle.salvage_bins.specs.Ground.{Ground}
use Rattle.salvage_walk.specs.declared.lines.Incomplete.{Incomplete}
use Rattle.salvage_walk.specs.Walked.{Walked}
use Rattle.salvage_walk.specs.Keys.{judged_key, key_names, with_child, salvaged}
use Rattle.salvage_walk.specs.Incomplete.{incomplete}
use Rattle.salvage_walk.specs.Found.{unsaid, found_next}
use Rattle.salvage_parents.specs.Naming.{naming}
use Rattle.salvage_parents.specs.Arranged.{put_by_name, arranged_onto, arranged}
use Rattle.salvage_parents.specs.Change.{changed_among, changed_at}
use Rattle.salvage_parents.specs.Search.{adopted, adopted_none, Search, search_step, searched_on, searched, search_from, without_lines, searched_by, salvaged_by_parents}
use Rattle.salvage_parents.proofs.ChangeLemmas.{name-kept}
use Rattle.salvage_file.proofs.KeyLemmas.{GoodKey, judged-good, salvaged-valid}

-- ---- keys in the order of their names

each-put : (P : Tree → Type 0) (t : Tree) (us : List Tree) → P t → Each P us → Each P (put_by_name t us)
each-put P t [] k h = (k, tt)
each-put P t (u ∷ us) k h = go (folded_order (head t).name (head u).name) (each-put P t us k h.1)
  where
    go : (r : Ordering) → Each P (put_by_name t us) → Each P (match_ordering r (t ∷ u ∷ us) (t ∷ us) (u ∷ put_by_name t us))
    go Less more = (k, h)
    go Equal more = (k, h.1)
    go Greater more = (h.0, more)

unlike-put : (t : Tree) (us : List Tree) → Each (λ u. folds_same (key_name t) (key_name u) ≡ false) us → Unlike key_name us
    → Unlike key_name (put_by_name t us)
unlike-put t [] n h = (tt, tt)
unlike-put t (u ∷ us) n h = go (folded_order (head t).name (head u).name) (unlike-put t us n.1 h.1)
  where
    go : (r : Ordering) → Unlike key_name (put_by_name t us)
        → Unlike key_name (match_ordering r (t ∷ u ∷ us) (t ∷ us) (u ∷ put_by_name t us))
    go Less more = (lacks_from key_name (key_name t) (u ∷ us) n, h)
    go Equal more = (lacks_from key_name (key_name t) us n.1, h.1)
    go Greater more = (each-put (λ v. folds_same (key_name v) (key_name u) ≡ false) t us n.0 h.0, more)

-- keys of which each has a name unlike those of all the others
abbrev Cross : List Tree → List Tree → Type 0
Cross keys ts = Each (λ t. Each (λ u. folds_same (key_name t) (key_name u) ≡ false) keys) ts

cross-nil : (ts : List Tree) → Cross [] ts
cross-nil [] = tt
cross-nil (t ∷ ts) = (tt, cross-nil ts)

cross-put : (keys : List Tree) (t : Tree) (ts : List Tree) → Lacks key_name (key_name t) ts → Cross keys ts → Cross (put_by_name t keys) ts
cross-put keys t [] l c = tt
cross-put keys t (x ∷ xs) l c =
    (each-put (λ u. folds_same (key_name x) (key_name u) ≡ false) t keys l.0 c.0, cross-put keys t xs l.1 c.1)

each-onto : (P : Tree → Type 0) (keys ts : List Tree) → Each P keys → Each P ts → Each P (arranged_onto keys ts)
unfolding arranged_onto
each-onto P keys [] h k = h
each-onto P keys (t ∷ ts) h k = each-onto P (put_by_name t keys) ts (each-put P t keys k.0 h) k.1

unlike-onto : (keys ts : List Tree) → Unlike key_name keys → Unlike key_name ts → Cross keys ts → Unlike key_name (arranged_onto keys ts)
unfolding arranged_onto
unlike-onto keys [] u v c = u
unlike-onto keys (t ∷ ts) u v c =
    unlike-onto (put_by_name t keys) ts (unlike-put t keys c.0 u) v.1 (cross-put keys t ts v.0 c.1)

parts-arranged : (d : ℕ) (h : Head) (us : List Tree) → Parts d h us → Parts d h (arranged us)
parts-arranged d h us p = record {
  own = p.own;
  level = p.level;
  differ = unlike-onto [] us tt p.differ (cross-nil us);
  named = each-onto IsNamed [] us tt p.named;
  below = each-onto (Sound (suc d)) [] us tt p.below;
}

-- ---- children that are found

none-named : (name : List ℕ) (us : List Tree) → list_any (folds_same name) (key_names us) ≡ false
    → Each (λ u. folds_same name (key_name u) ≡ false) us
none-named name [] e = tt
none-named name (u ∷ us) e =
    let p = or_parts (folds_same name (key_name u)) (list_any (folds_same name) (key_names us)) e in (p.0, none-named name us p.1)

one-found : (left d : ℕ) (h : Head) (us : List Tree) (w : Walked) (r : Option Tree × Walked) → left + d ≤ 512
    → ((t : Tree) → r.0 ≡ Some t → GoodKey left (key_names us) t) → Parts d h us → Parts d h (with_child us (unsaid w r)).0
one-found left d h us w (Some t, v) l good p =
    let g = good t refl in
    record {
      own = p.own;
      level = p.level;
      differ = unlike_push key_name us t p.differ (none-named (key_name t) us g.apart);
      named = each_push IsNamed us t p.named g.named;
      below = each_push (Sound (suc d)) us t p.below (sound_from (suc d) t g.holds (omega (arith, g.levels, l)));
    }
one-found left d h us w (None, v) l good p = p

found-parts : (hive : Ground) (left d : ℕ) (h : Head) (path : List (List ℕ)) (places : List ℕ) (us : List Tree) (w : Walked)
    → AreBytes hive.cells → left + d ≤ 512 → Parts d h us
    → Parts d h (found_next (judged_key left hive) h.security path places us w).0
unfolding found_next
found-parts hive left d h path [] us w b l p = p
found-parts hive left d h path (at ∷ places) us w b l p =
    let r = judged_key left hive h.security path (key_names us) 0 at w in
    let next = with_child us (unsaid w r) in
    found-parts hive left d h path places next.0 next.1 b l
    (one-found left d h us w r l
    (λ t e. judged-good left hive b h.security path (key_names us) 0 at w t (omega (arith, p.own.security)) e) p)

adopted-parts : (hive : Ground) (own : Incomplete) (w : Walked) (notes : List Incomplete) (d : ℕ) (h : Head) (us : List Tree)
    → AreBytes hive.cells → d ≡ length own.path + 1 → Parts d h us → Parts d h (adopted hive own w notes h.security us).0
unfolding adopted
adopted-parts hive own w notes d h us b e p =
    go (length found.0 - length us == 0)
  where
    found : List Tree × Walked
    found = found_next (judged_key (511 - length own.path) hive) h.security own.path (naming hive own.at hive.slots) us w

    all : Parts d h found.0
    all = found-parts hive (511 - length own.path) d h own.path (naming hive own.at hive.slots) us w b
        (omega (arith, e, p.level)) p

    go : (c : Bool) → Parts d h (cond c found.0 (arranged found.0))
    go true = all
    go false = parts-arranged d h found.0 all

-- ---- the key at a path

abbrev depth : List (List ℕ) → ℕ → ℕ
depth [] d = d
depth (name ∷ path) d = depth path (suc d)

depth-is : (path : List (List ℕ)) (d : ℕ) → depth path d ≡ length path + d
depth-is [] d = omega arith
depth-is (name ∷ path) d = omega (arith, depth-is path (suc d))

each-among : {A : Type 0} (P : Tree → Type 0) (name : List ℕ) (f : Tree → Tree × A) (other : A) → ((u : Tree) → P u → P (f u).0)
    → (us : List Tree) → Each P us → Each P (changed_among name f other us).0
each-among {A} P name f other keeps [] h = tt
each-among {A} P name f other keeps (u ∷ us) h = go (is_named name u) (each-among P name f other keeps us h.1)
  where
    rest : List Tree × A
    rest = changed_among name f other us

    go : (b : Bool) → Each P rest.0 → Each P (cond {A = List Tree × A} b ((f u).0 ∷ us, (f u).1) (u ∷ rest.0, rest.1)).0
    go true more = (keeps u h.0, h.1)
    go false more = (h.0, more)

unlike-among : {A : Type 0} (name : List ℕ) (f : Tree → Tree × A) (other : A) → ((u : Tree) → key_name (f u).0 ≡ key_name u)
    → (us : List Tree) → Unlike key_name us → Unlike key_name (changed_among name f other us).0
unlike-among {A} name f other same [] h = tt
unlike-among {A} name f other same (u ∷ us) h = go (is_named name u) (unlike-among name f other same us h.1)
  where
    rest : List Tree × A
    rest = changed_among name f other us

    lacks : Lacks key_name (key_name u) rest.0
    lacks = each-among (λ x. folds_same (key_name x) (key_name u) ≡ false) name f other
        (λ x l. ap (λ (m : List ℕ). folds_same m (key_name u)) (same x) ∙ l) us h.0

    go : (b : Bool) → Unlike key_name rest.0
        → Unlike key_name (cond {A = List Tree × A} b ((f u).0 ∷ us, (f u).1) (u ∷ rest.0, rest.1)).0
    go true more = (subst (λ (n : List ℕ). Lacks key_name n us) (sym (same u)) h.0, h.1)
    go false more = (lacks, more)

changed-sound : {A : Type 0} (path : List (List ℕ)) (change : Head → List Tree → List Tree × A) (other : A) (d : ℕ)
    → ((h : Head) (us : List Tree) → Parts (depth path d) h us → Parts (depth path d) h (change h us).0)
    → (t : Tree) → Sound d t → Sound d (changed_at path change other t).0
changed-sound [] change other d keeps (key h ts) s = whole d h (change h (listed ts)).0 (keeps h (listed ts) (parts d h ts s))
changed-sound (name ∷ path) change other d keeps (key h ts) s =
    let q = parts d h ts s in
    let below = λ (u : Tree). changed_at path change other u in
    whole d h (changed_among name below other (listed ts)).0 (record {
      own = q.own;
      level = q.level;
      differ = unlike-among name below other (name-kept path change other) (listed ts) q.differ;
      named = each-among IsNamed name below other
          (λ u k. subst (λ (n : List ℕ). 0 < length n) (sym (name-kept path change other u)) k) (listed ts) q.named;
      below = each-among (Sound (suc d)) name below other (changed-sound path change other (suc d) keeps) (listed ts) q.below;
    })

-- ---- the search

step-sound : (hive : Ground) (own : Incomplete) (s : Search) → AreBytes hive.cells → Sound 1 s.tree → Sound 1 (search_step hive own s).tree
unfolding search_step
step-sound hive own s b t =
    changed-sound own.path (λ (h : Head). adopted hive own s.used s.notes h.security) (adopted_none s.used s.notes) 1
    (λ h us p. adopted-parts hive own s.used s.notes (depth own.path 1) h us b (depth-is own.path 1) p) s.tree t

searched-sound : (hive : Ground) (n place : ℕ) (s : Search) → AreBytes hive.cells → Sound 1 s.tree → Sound 1 (searched hive n place s).tree
unfolding searched
searched-sound hive zero place s b t = t
searched-sound hive (suc n) place s b t =
    go (slice_get s.notes place)
    (λ own. searched-sound hive n (place + 1) (search_step hive own s) b (step-sound hive own s b t))
  where
    go : (o : Option Incomplete) → ((own : Incomplete) → Sound 1 (searched hive n (place + 1) (search_step hive own s)).tree)
        → Sound 1 (searched_on (searched hive n (place + 1)) hive s o).tree
    go (Some own) more = more own
    go None more = t

abbrev some : Tree → Option Tree
some t = Some t

some-same : (t u : Tree) → some t ≡ some u → t ≡ u
some-same t u e = cc

-- the tree is one that a hive can hold, where its bulk is small enough
pub found-by-parents : (hive : Ground) (root : ℕ) (version : HiveVersion) (t : Tree) → AreBytes hive.cells
    → (salvaged_by_parents hive root).tree ≡ Some t → bulk_of version t ≤ 16773120 → IsValid t
unfolding salvaged_by_parents
found-by-parents hive root version t b e small = valid_back version t (by (salvaged hive root) refl e) small
  where
    by : (r : Option Tree × Walked) → salvaged hive root ≡ r → (searched_by hive (incomplete hive root) r).tree ≡ Some t → Sound 1 t
    by (Some u, w) s e =
        let v = salvaged-valid hive root u b (ap (λ (x : Option Tree × Walked). x.0) s) in
        let begun = search_from u (without_lines w) (incomplete hive root) in
        subst (Sound 1) (some-same (searched hive hive.slots 0 begun).tree t e)
        (searched-sound hive hive.slots 0 begun b (sound_from 1 u v.keys (omega (arith, v.levels))))
    by (None, w) s e = absurd cc
