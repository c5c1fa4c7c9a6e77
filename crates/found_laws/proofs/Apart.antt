-- No two children of a key that is salvaged have names that fold to one.
use Rattle.std.proofs.Common.{◌≡◌, ℕ, zero, suc, ◌+◌, Bool, false, List, [], ◌∷◌, ◌++◌, Option, Some, None, Result, Ok, Err, refl, sym, ap, subst, ◌∙◌}
use Rattle.std.specs.List.{list_any}
use Rattle.std.proofs.lemmas.Bool.{or_parts}
use Rattle.nt_bytes.specs.Folding.{folds_same}
use Rattle.nt_bytes.specs.declared.fault.HiveFaultKind.{HiveFaultKind}
use Rattle.nt_bytes.specs.declared.fault.HiveFaultKind.TheVariants.{DoubleName}
use Rattle.nt_bytes.specs.Reading.{◌>>=◌}
use Rattle.hive_model.specs.Base.{fault_at}
use Rattle.hive_model.specs.KeyNode.{KeyNode}
use Rattle.hive_model.specs.Tree.{Head, Tree, Trees, key, none, more, trees, listed}
use Rattle.hive_model.specs.Walk.{node_at}
use Rattle.hive_read.proofs.FormFacts.{done, unless, then-so, ok_same}
use Rattle.reg_tree.proofs.Trees.{listed_trees}
use Rattle.reg_tree.proofs.Unlike.{Each, Unlike, each_push, unlike_push}
use Rattle.reg_tree.proofs.Sound.{key_name}
use Rattle.salvage_bins.specs.Ground.{Ground}
use Rattle.salvage_walk.specs.declared.claims.Claim.{Claim}
use Rattle.salvage_walk.specs.declared.lines.WalkLine.TheVariants as lines
use Rattle.salvage_walk.specs.Uses.{admitted, claimed}
use Rattle.salvage_walk.specs.Parts.{part, unless_named, node_form, node_long}
use Rattle.salvage_walk.specs.Walked.{Walked, say, using}
use Rattle.salvage_walk.specs.Steps.{class_step, security_step, values_step, entries_step}
use Rattle.salvage_walk.specs.Keys.{Judge, key_names, with_child, keys_next, head_of, key_below, key_done, judged_key, least_root, root_below, other_done, other_root, root_done, root_part, salvaged}

-- ---- trees

-- the children of each key have names of their own
abbrev mutual
  pub Apart : Tree → Type 0
  Apart (key h ts) = Unlike key_name (listed ts) × AllApart ts

  pub AllApart : Trees → Type 0
  AllApart none = Unit {0}
  AllApart (more t ts) = Apart t × AllApart ts

-- the children of a key
pub record Siblings (us : List Tree) : Type 0 where
  pub differ : Unlike key_name us
  pub below : Each Apart us

each-apart : (ts : Trees) → AllApart ts → Each Apart (listed ts)
each-apart none a = tt
each-apart (more t ts) a = (a.0, each-apart ts a.1)

all-apart : (us : List Tree) → Each Apart us → AllApart (trees us)
all-apart [] a = tt
all-apart (u ∷ us) a = (a.0, all-apart us a.1)

pub siblings-of : (h : Head) (ts : Trees) → Apart (key h ts) → Siblings (listed ts)
siblings-of h ts a = record { differ = a.0; below = each-apart ts a.1 }

pub key-apart : (h : Head) (us : List Tree) → Siblings us → Apart (key h (trees us))
key-apart h us s = (subst (Unlike key_name) (sym (listed_trees us)) s.differ, all-apart us s.below)

abbrev pub some : Tree → Option Tree
some t = Some t

pub some_same : (t u : Tree) → some t ≡ some u → t ≡ u
some_same t u e = cc

-- ---- children that are judged

-- a child that stands has a name unlike these, and its own children are apart
abbrev pub Judged : List (List ℕ) → Option Tree × Walked → Type 0
Judged names r = (t : Tree) → r.0 ≡ some t → (list_any (folds_same (key_name t)) names ≡ false) × Apart t

abbrev pub JudgesApart : Judge → Type 0
JudgesApart judge = (above : List ℕ) (path names : List (List ℕ)) (i at : ℕ) (w : Walked) → Judged names (judge above path names i at w)

none-named : (name : List ℕ) (us : List Tree) → list_any (folds_same name) (key_names us) ≡ false
    → Each (λ u. folds_same name (key_name u) ≡ false) us
none-named name [] e = tt
none-named name (u ∷ us) e =
    let p = or_parts (folds_same name (key_name u)) (list_any (folds_same name) (key_names us)) e in (p.0, none-named name us p.1)

pub child-apart : (us : List Tree) (r : Option Tree × Walked) → Judged (key_names us) r → Siblings us → Siblings (with_child us r).0
child-apart us (Some t, w) judged s =
    let one = judged t refl in
    record { differ = unlike_push key_name us t s.differ (none-named (key_name t) us one.0); below = each_push Apart us t s.below one.1 }
child-apart us (None, w) judged s = s

keys-apart : (judge : Judge) (above : List ℕ) (path : List (List ℕ)) (i : ℕ) (offsets : List ℕ) (us : List Tree) (w : Walked)
    → JudgesApart judge → Siblings us → Siblings (keys_next judge above path i offsets us w).0
unfolding keys_next
keys-apart judge above path i [] us w well s = s
keys-apart judge above path i (at ∷ rest) us w well s =
    let r = judge above path (key_names us) i at w in
    let next = with_child us r in
    keys-apart judge above path (i + 1) rest next.0 next.1 well (child-apart us r (well above path (key_names us) i at w) s)

below-apart : (judge : Judge) (hive : Ground) (above : List ℕ) (path : List (List ℕ)) (node : KeyNode) (at : ℕ) (w : Walked)
    → JudgesApart judge → Apart (key_below judge hive above path node at w).0
unfolding key_below
below-apart judge hive above path node at w well =
    let class = class_step hive path node w in
    let security = security_step hive above path node class.1 in
    let values = values_step hive path node security.1 in
    let entries = entries_step hive path node at values.1 in
    let children = keys_next judge security.0 path 1 entries.0 [] entries.1 in
    key-apart (head_of node class.0 security.0 values.0) children.0
    (keys-apart judge security.0 path 1 entries.0 [] entries.1 well (record { differ = tt; below = tt }))

below-name : (judge : Judge) (hive : Ground) (above : List ℕ) (path : List (List ℕ)) (node : KeyNode) (at : ℕ) (w : Walked)
    → key_name (key_below judge hive above path node at w).0 ≡ node.name
unfolding key_below
below-name judge hive above path node at w = refl

first-done : {F : Type 0} (f : F) (claims : List Claim) (r : F × List Claim) → done (f, claims) ≡ done r → done f ≡ done r.0
first-done {F} f claims r e = ap (λ (x : F × List Claim). done x.0) (ok_same (f, claims) r e)

-- what is a part has its form
part-form : {F : Type 0} (form : List ℕ → Result F HiveFaultKind) (long : F → ℕ) (security : Bool) (hive : Ground) (claims : List Claim)
    (at : ℕ) (r : F × List Claim) → part form long security hive claims at ≡ done r → (p : List ℕ) × (form p ≡ done r.0)
unfolding part
part-form form long security hive claims at r e =
    let a = then-so (admitted hive claims security at)
    (λ p. form p >>= λ f. claimed hive claims security at (long f) >>= λ after. Ok (f, after)) r e in
    let b = then-so (form a.0) (λ f. claimed hive claims security at (long f) >>= λ after. Ok (f, after)) r a.2 in
    let c = then-so (claimed hive claims security at (long b.0)) (λ after. Ok (b.0, after)) r b.2 in
    (a.0, b.1 ∙ first-done b.0 c.0 r c.2)

node-apart : (root : Bool) (names : List (List ℕ)) (hive : Ground) (claims : List Claim) (at : ℕ) (r : KeyNode × List Claim)
    → part (node_form root names) node_long false hive claims at ≡ done r → list_any (folds_same r.0.name) names ≡ false
unfolding node_form
node-apart root names hive claims at r e =
    let p = part-form (node_form root names) node_long false hive claims at r e in
    let f = then-so (node_at root p.0) (λ (node : KeyNode). unless_named names node.name node) r.0 p.1 in
    let n = unless (list_any (folds_same f.0.name) names) DoubleName (Ok f.0) r.0 f.2 in
    subst (λ (x : KeyNode). list_any (folds_same x.name) names ≡ false) (ok_same f.0 r.0 n.1) n.0

pub judged-apart : (left : ℕ) (hive : Ground) → JudgesApart (judged_key left hive)
unfolding judged_key
judged-apart zero hive above path names i at w t e = absurd cc
judged-apart (suc left) hive above path names i at w t e =
    by (judged-apart left hive) (part (node_form false names) node_long false hive w.claims at) refl e
  where
    Fits : Tree → Type 0
    Fits x = (list_any (folds_same (key_name x)) names ≡ false) × Apart x

    by : JudgesApart (judged_key left hive) → (r : Result (KeyNode × List Claim) HiveFaultKind)
        → part (node_form false names) node_long false hive w.claims at ≡ r
        → (key_done (judged_key left hive) hive above path i at w r).0 ≡ some t → Fits t
    by well (Ok r) s e =
        let own = path ++ r.0.name ∷ [] in
        let below = key_below (judged_key left hive) hive above own r.0 at (using w r.1) in
        let made : Fits below.0 = (
          ap (λ (n : List ℕ). list_any (folds_same n) names) (below-name (judged_key left hive) hive above own r.0 at (using w r.1))
              ∙ node-apart false names hive w.claims at r s,
          below-apart (judged_key left hive) hive above own r.0 at (using w r.1) well,
        ) in
        subst Fits (some_same below.0 t e) made
    by well (Err kind) s e = absurd cc

-- ---- the root

root-apart : (hive : Ground) (at : ℕ) (w : Walked) (r : KeyNode × List Claim) (t : Tree) → (root_below hive at w r).0 ≡ some t → Apart t
root-apart hive at w r t e =
    subst Apart (some_same (key_below (judged_key 511 hive) hive [] [] r.0 at (using w r.1)).0 t e)
    (below-apart (judged_key 511 hive) hive [] [] r.0 at (using w r.1) (judged-apart 511 hive))

pub salvaged-apart : (hive : Ground) (root : ℕ) (t : Tree) → (salvaged hive root).0 ≡ some t → Apart t
unfolding salvaged
salvaged-apart hive root t e = by (root_part hive [] root) e
  where
    begun : Walked
    begun = record { claims = []; lines = [] }

    there : (at : ℕ) (v : Walked) (r : Result (KeyNode × List Claim) HiveFaultKind) → (other_done hive at v r).0 ≡ some t → Apart t
    there at v (Ok r) e = root-apart hive at (say v (lines.RootAt at)) r t e
    there at v (Err kind) e = absurd cc

    other : (o : Option ℕ) (v : Walked) → (other_root hive v o).0 ≡ some t → Apart t
    other (Some at) v e = there at v (root_part hive v.claims at) e
    other None v e = absurd cc

    by : (r : Result (KeyNode × List Claim) HiveFaultKind) → (root_done hive root begun r).0 ≡ some t → Apart t
    by (Ok r) e = root-apart hive root begun r t e
    by (Err kind) e = other (least_root hive hive.slots 0) (say begun (lines.Root (fault_at kind root))) e
