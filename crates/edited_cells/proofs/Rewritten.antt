-- A rewritten key, carried up its path: the cells are well-formed with the tree in which it changed, and the step leaves
-- all cells but its own.
use Rattle.std.proofs.Common.{◌≡◌, ℕ, ◌+◌, ◌<◌, ◌≤◌, Bool, true, List, [], ◌∷◌, ◌++◌, length, refl, sym, ◌∙◌, ap, subst, inl, inr, ⊎_elim, Ok, arith}
use Rattle.std.specs.Prelude.{◌⊎◌}
use Rattle.std.proofs.lemmas.Bool.{cases_eq}
use Rattle.nt_bytes.specs.Folding.{folds_same}
use Rattle.hive_model.specs.Bins.{Cells}
use Rattle.hive_model.specs.Tree.{Tree, key, head}
use Rattle.hive_model.specs.Edit.{Step, renamed, at_key}
use Rattle.hive_model.specs.Valid.{levels}
use Rattle.hive_model.specs.Walk.{all_checks, AreUsedOnce}
use Rattle.hive_model.specs.Footprint.{child_places}
use Rattle.hive_model.specs.Stands.{Stands, HasApartNames, IsWellFormed}
use Rattle.edited_cells.specs.Owned.{Role, node, security, In, node_name, HasRole, Reaches, Owns, Folds, Extends, IsSecurity, IsMatched}
use Rattle.edited_cells.specs.Framed.{IsUnheld}
use Rattle.edited_cells.specs.Sound.{AllSound}
use Rattle.edited_cells.specs.Uses.{Agree, Once, tree_uses}
use Rattle.edited_cells.specs.Done.{IsDone}
use Rattle.edited_cells.proofs.Wellformed.{sound_hive, tree_name}
use Rattle.edited_cells.proofs.Back.{sound_below}
use Rattle.edited_cells.proofs.Held.{are_held}
use Rattle.edited_cells.proofs.Untouched.{are_once}
use Rattle.edited_cells.proofs.Same.{same_name, same_role, owned_frame, kept_same}
use Rattle.edited_cells.proofs.SameTree.{IsSameKey, places_kept}
use Rattle.edited_cells.proofs.Around.{IsSwapped, above, above_is, around, once_two, hive_uses, hive_once, once_hive, used_held}
use Rattle.edited_cells.proofs.Replaced.{replaced_stands, replaced_names, replaced_levels}
use Rattle.edited_cells.proofs.Found.{changed_alike}
use Rattle.edited_cells.proofs.Revalued.{folds_length, reach_on}
use Rattle.edited_cells.proofs.ParentsKept.{named_through}
use Rattle.edited_cells.specs.Woven.{Woven}
use Rattle.edited_cells.specs.Rewrites.{is_secure, RewritesKey, ChangesTo, IsRewritten}
use Rattle.edited_cells.proofs.Weaving.{AreOnceBoth, kept_front, kept_back, woven_old, woven_kept, woven_parts, woven_once}
use Rattle.edited_cells.proofs.OwnedUses.{use_owned, secure_there}

-- ---- what is elsewhere

extends_on : (path p r : List (List ℕ)) → Folds path p → Extends path (p ++ r)
extends_on [] p r f = tt
extends_on (a ∷ path) [] r f = absurd f
extends_on (a ∷ path) (b ∷ p) r f = (f.0, extends_on path p r f.1)

-- a key neither at nor below a path is the same
pub elsewhere : (b c : Cells) (root : ℕ) (t k : Tree) (path p : List (List ℕ)) (x left : ℕ) (old new : List (ℕ × Bool)) (counted : List ℕ)
    → IsWellFormed b root t → Folds path p → Reaches b root p x → RewritesKey b c root x left k old new counted
    → (q : List (List ℕ)) (z : ℕ) → Reaches b root q z → (Extends path q → ⊥) → IsSameKey b c z
elsewhere b c root t k path p x left old new counted well f h w q z reached out = record {
  same = record { version = w.version; each = each };
  security = λ o i. w.security_same o (record { path = q; key = z; reached = reached; uses = i });
}
  where
    -- of one role with a cell of the key or of one below it: neither is there
    apart : (r s : Role) (o : ℕ) (m : List (List ℕ)) → Owns b root q r o → (IsSecurity r → ⊥) → Owns b x m s o → ⊥
    apart r s o m own plain other = ⊎_elim
        (λ (e : (q ≡ p ++ m) × (r ≡ s)). out (subst (Extends path) (sym e.0) (extends_on path p m f)))
        (λ (e : IsSecurity r × IsSecurity s). plain e.0)
        ((are_once b root t well).one q (p ++ m) r s o own
        (record { at = other.at; reached = reach_on b p m root x other.at h other.reached; has = other.has }))

    each : (r : Role) (o : ℕ) → (IsSecurity r → ⊥) → HasRole b z r o → c.payload o ≡ b.payload o
    each r o plain i =
        let own : Owns b root q r o = record { at = z; reached = reached; has = i } in
        let held = (are_held b root t well).held q r o own in
        w.others o held.0 held.1
        (λ e. apart r node o [] own plain (record { at = x; reached = refl; has = sym e }))
        (λ s j. let u = use_owned left b x (o, s) (woven_old (tree_uses left b x) old w.kept w.was (o, s) j) in
        apart r u.role o u.path own plain u.owns)
        (λ j. let s = w.counted_are o j in ⊎_elim
        (λ (e : (q ≡ s.path) × (r ≡ security)). plain (subst IsSecurity (sym e.1) tt))
        (λ (e : IsSecurity r × IsSecurity security). plain e.0)
        ((are_once b root t well).one q s.path r security o own
        (record { at = s.key; reached = s.reached; has = s.uses })))
        ∙ sym held.1

-- ---- the whole

-- under the name of another
abbrev under : Tree → Tree → Tree
under k w = renamed (head w).name k

under_name : (k w : Tree) → (head (under k w)).name ≡ (head w).name
under_name (key h ts) w = refl

under_levels : (k w : Tree) → levels (under k w) ≡ levels k
under_levels (key h ts) w = refl

under_apart : (k w : Tree) → HasApartNames k → HasApartNames (under k w)
under_apart (key h ts) w n = (n.0, n.1, n.2, n.3)

under_itself : (k w : Tree) → (head w).name ≡ (head k).name → under k w ≡ k
under_itself (key h ts) w e i = key (record h { name = e i }) ts

pub rewritten_well : (b c : Cells) (root : ℕ) (t u k : Tree) (path p : List (List ℕ)) (x left : ℕ) (old new : List (ℕ × Bool)) (counted : List ℕ)
    (change : Tree → Tree) → IsWellFormed b root t → Folds path p → Reaches b root p x → length p + left ≡ 512
    → RewritesKey b c root x left k old new counted → ChangesTo b x path t u k change → IsWellFormed c root u
rewritten_well b c root t u k path p x left old new counted change well f h deep w to =
    subst (IsWellFormed c root)
    (changed_alike (under k) change path t to.was to.found (here to.was to.stood ∙ sym to.becomes) ∙ to.result)
    (record { stands = stands; levels = low; names = names; once = once })
  where
    each : (q : List (List ℕ)) (z : ℕ) → Reaches b root q z → (Extends path q → ⊥) → IsSameKey b c z
    each = elsewhere b c root t k path p x left old new counted well f h w

    here : (v : Tree) → Stands b x v → under k v ≡ k
    here v s = under_itself k v (sym (tree_name b x v s) ∙ sym w.name ∙ tree_name c x k w.stands)

    stands : Stands c root (at_key path (under k) t)
    stands = replaced_stands b c (under k) path p root x t well.stands well.names f h each
        (λ v s n. subst (Stands c x) (sym (here v s)) w.stands)

    names : HasApartNames (at_key path (under k) t)
    names = replaced_names (under k) path t well.names (under_name k) (λ v n. under_apart k v w.names)

    low : levels (at_key path (under k) t) ≤ 512
    low = replaced_levels (under k) path t 512 well.levels
        (λ v e. let l = under_levels k v in let m = folds_length path p f in let d = w.low in omega (arith, l, m, d, deep))

    s : IsSwapped (hive_uses b root) (hive_uses c root) (tree_uses left b x) (tree_uses left c x)
    s = subst (λ (m : ℕ). IsSwapped (tree_uses m b root) (tree_uses m c root) (tree_uses left b x) (tree_uses left c x))
        (above_is p left ∙ deep) (around b c path p left root x t well.stands well.names f h each)

    rest : List (ℕ × Bool)
    rest = s.before ++ (w.kept ++ s.behind)

    whole : (us part : List (ℕ × Bool)) (vs : List (ℕ × Bool)) → us ≡ s.before ++ (vs ++ s.behind)
        → Woven vs part w.kept → Woven us part rest
    whole us part vs e v =
        subst (λ (l : List (ℕ × Bool)). Woven l part rest) (sym e)
        (kept_front s.before (vs ++ s.behind) part (w.kept ++ s.behind) (kept_back vs s.behind part w.kept v))

    was : Woven (hive_uses b root) old rest
    was = whole (hive_uses b root) old (tree_uses left b x) s.was w.was

    all_once : Once (hive_uses b root)
    all_once = hive_once b root t well.stands well.names well.once

    parts : AreOnceBoth old rest
    parts = woven_parts (hive_uses b root) old rest was all_once

    agrees : (u v : ℕ × Bool) → In old u ⊎ (IsUnheld b u.0 ⊎ ((u.1 ≡ true) × In counted u.0)) → In rest v → Agree u v
    agrees u v (inl i) j = parts.across u v i j
    agrees u v (inr (inl never)) j =
        λ e. absurd (let q = used_held b root t well v (woven_kept (hive_uses b root) old rest was v j) in
        never q.0 (subst (λ (o : ℕ). b.payload o ≡ Ok q.0) (sym e) q.1))
    agrees u v (inr (inr i)) j =
        λ e. ⊎_elim (λ (d : (u.0, true) ≡ v). (i.0, sym (ap (λ (z : ℕ × Bool). z.1) d)))
        (λ (d : (true ≡ true) × (v.1 ≡ true)). (i.0, d.1))
        (once_two (hive_uses b root) (u.0, true) v all_once
        (secure_there b root t u.0 well (w.counted_are u.0 i.1))
        (woven_kept (hive_uses b root) old rest was v j) e)

    once : AreUsedOnce (all_checks c root)
    once =
        once_hive c root (at_key path (under k) t) stands names
        (woven_once (hive_uses c root) new rest
        (whole (hive_uses c root) new (tree_uses left c x) s.is w.is)
        (record { first = w.once; second = parts.second; across = λ u v i j. agrees u v (w.used u i) j }))

-- ---- what is owned

-- below a key whose keys are all the same the same is owned
pub owned_same : (b c : Cells) (q : List (List ℕ)) (y : ℕ) (r : Role) (o : ℕ)
    → ((m : List (List ℕ)) (z : ℕ) → Reaches b y m z → IsSameKey b c z) → Owns c y q r o → Owns b y q r o
owned_same b c q y r o each own = ⊎_elim (λ w. w) (λ (n : ⊥). absurd n)
    (owned_frame b c (λ o. ⊥) q y own.at r o
    (λ m z h g. kept_same b c (λ o. ⊥) z (each m z h).same
    (λ v i. same_name b c v
    ((each (m ++ node_name b v ∷ []) v (reach_on b m (node_name b v ∷ []) y z v h (v, i, refl, refl))).same.each node v
    (λ z. z) refl)))
    own.reached own.has)

-- where the path leads through, names are kept
name_there : (b c : Cells) (path p : List (List ℕ)) (at x : ℕ) → Folds path p → Reaches b at p x
    → ((q : List (List ℕ)) (z : ℕ) → Reaches b at q z → (Extends path q → ⊥) → IsSameKey b c z)
    → node_name c x ≡ node_name b x → node_name c at ≡ node_name b at
name_there b c path [] at x f h each e = subst (λ (z : ℕ). node_name c z ≡ node_name b z) (sym h) e
name_there b c [] (m ∷ p) at x f h each e = absurd f
name_there b c (n ∷ path) (m ∷ p) at x f h each e =
    same_name b c at ((each [] at refl (λ z. z)).same.each node at (λ z. z) refl)

owned_through : (b c : Cells) (path p q : List (List ℕ)) (at x left : ℕ) (r : Role) (o : ℕ) (New : Role → ℕ → Type 0)
    → AllSound b at → Folds path p → Reaches b at p x
    → ((m : List (List ℕ)) (z : ℕ) → Reaches b at m z → (Extends path m → ⊥) → IsSameKey b c z)
    → node_name c x ≡ node_name b x
    → ((m : List (List ℕ)) (s : Role) (v : ℕ) → length m < left → Owns c x m s v → Owns b x m s v ⊎ New s v)
    → length q < above p left → Owns c at q r o → Owns b at q r o ⊎ New r o
owned_through b c [] [] q at x left r o New sound f h each e there lt own =
    subst (λ (z : ℕ). Owns b z q r o ⊎ New r o) (sym h)
    (there q r o lt (subst (λ (z : ℕ). Owns c z q r o) h own))
owned_through b c [] (m ∷ p) q at x left r o New sound f h each e there lt own = absurd f
owned_through b c (n ∷ path) [] q at x left r o New sound f h each e there lt own = absurd f
owned_through b c (n ∷ path) (m ∷ p) [] at x left r o New sound f h each e there lt own =
    inl (record {
      at = at;
      reached = refl;
      has = same_role b c at (each [] at refl (λ z. z)).same r o
          (subst (λ (z : ℕ). HasRole c z r o) (sym own.reached) own.has);
    })
owned_through b c (n ∷ path) (m ∷ p) (d ∷ q) at x left r o New sound f h each e there lt own =
    go (cases_eq own.reached.0 h.0)
    (λ w. owned_through b c path p q h.0 x left r o New (sound_below b at h.0 h.1 sound) f.1 h.3 each_below e there
    (omega (arith, lt)) w)
  where
    listed : In (child_places b at) own.reached.0
    listed = subst (λ (l : List ℕ). In l own.reached.0) (places_kept b c at (each [] at refl (λ z. z)).same)
        own.reached.1

    below : Owns c own.reached.0 q r o
    below = record { at = own.at; reached = own.reached.3; has = own.has }

    up : node_name c own.reached.0 ≡ node_name b own.reached.0 → Owns b own.reached.0 q r o → Owns b at (d ∷ q) r o
    up same w =
        record { at = w.at; reached = (own.reached.0, listed, sym same ∙ own.reached.2, w.reached); has = w.has }

    named : folds_same n (node_name b h.0) ≡ true
    named = ap (folds_same n) h.2 ∙ f.0

    each_below : (a : List (List ℕ)) (z : ℕ) → Reaches b h.0 a z → (Extends path a → ⊥) → IsSameKey b c z
    each_below a z g out = each (node_name b h.0 ∷ a) z (h.0, h.1, refl, g) (λ v. out v.1)

    there_same : (y : ℕ) → h.0 ≡ y → node_name c y ≡ node_name b y
    there_same y s =
        subst (λ (z : ℕ). node_name c z ≡ node_name b z) s (name_there b c path p h.0 x f.1 h.3 each_below e)

    go : (own.reached.0 ≡ h.0) ⊎ (own.reached.0 ≡ h.0 → ⊥) → (Owns c h.0 q r o → Owns b h.0 q r o ⊎ New r o)
        → Owns b at (d ∷ q) r o ⊎ New r o
    go (inl s) deeper =
        ⊎_elim (λ i. inl (up (there_same own.reached.0 (sym s)) (subst (λ (z : ℕ). Owns b z q r o) (sym s) i)))
        (λ n. inr n) (deeper (subst (λ (z : ℕ). Owns c z q r o) s below))
    go (inr differs) deeper =
        let same : (a : List (List ℕ)) (z : ℕ) → Reaches b own.reached.0 a z → IsSameKey b c z =
        λ a z g. each (node_name b own.reached.0 ∷ a) z (own.reached.0, listed, refl, g)
        (λ v. differs ((sound.each [] at refl).one_child n own.reached.0 h.0 listed h.1 v.0 named)) in
        inl (up (same_name b c own.reached.0 ((same [] own.reached.0 refl).same.each node own.reached.0 (λ z. z) refl))
        (owned_same b c q own.reached.0 r o same below))

-- ---- the step

-- the cells are well-formed with the tree that it becomes
pub still_well : (b c : Cells) (root : ℕ) (t u : Tree) (path p : List (List ℕ)) (x left : ℕ)
    (old : List (ℕ × Bool)) (counted : List ℕ) → IsWellFormed b root t → Folds path p → Reaches b root p x
    → length p + left ≡ 512 → IsRewritten b c root t u path x left old counted → IsWellFormed c root u
still_well b c root t u path p x left old counted well f h deep r =
    rewritten_well b c root t u r.key path p x left old r.new counted r.change well f h deep r.rewrites r.changes

-- A step rewrites a key of well-formed cells, and names what it changes: it is done.
pub rewritten : (b c : Cells) (root : ℕ) (t u : Tree) (step : Step) (path p : List (List ℕ)) (x left : ℕ)
    (old : List (ℕ × Bool)) (counted : List ℕ) → IsWellFormed b root t → Folds path p
    → Reaches b root p x → length p + left ≡ 512 → IsRewritten b c root t u path x left old counted
    → IsMatched b root t step x → ((v : ℕ × Bool) → In old v → IsMatched b root t step v.0)
    → ((o : ℕ) → In counted o → IsMatched b root t step o) → IsDone b c root t u step
rewritten b c root t u step path p x left old counted well f h deep r key_named old_named count_named =
    record {
      version = w.version;
      stands = stands;
      framed = record {
        owned = λ q s o own. owned_through b c path p q root x left s o
            (λ s v. IsUnheld b v ⊎ IsMatched b root t step v) (sound_hive b root t well).all f h
            (elsewhere b c root t r.key path p x left old r.new counted well f h w) w.name there
            (let s = (sound_hive c root u stands).shallow q own.at own.reached in let e = above_is p left in
            omega (arith, s, e, deep)) own;
        rest = rest;
      };
      parents = named_through b c path p root x (sound_hive b root t well).all f h
          (elsewhere b c root t r.key path p x left old r.new counted well f h w) w.parent w.parents;
    }
  where
    w : RewritesKey b c root x left r.key old r.new counted
    w = r.rewrites

    stands : IsWellFormed c root u
    stands = still_well b c root t u path p x left old counted well f h deep r

    rest : (o : ℕ) (q : List ℕ) → b.payload o ≡ Ok q → (IsMatched b root t step o → ⊥) → c.payload o ≡ Ok q
    rest o q held out = w.others o q held (λ e. out (subst (IsMatched b root t step) (sym e) key_named))
        (λ s i. out (old_named (o, s) i)) (λ i. out (count_named o i))

    there : (m : List (List ℕ)) (s : Role) (v : ℕ) → length m < left → Owns c x m s v
        → Owns b x m s v ⊎ (IsUnheld b v ⊎ IsMatched b root t step v)
    there m s v lt own = ⊎_elim (λ i. inl i)
        (λ i. ⊎_elim (λ j. inr (inr (old_named (v, is_secure s) j)))
        (λ j. ⊎_elim (λ n. inr (inl n)) (λ n. inr (inr (count_named v n.1))) j)
        (w.used (v, is_secure s) i))
        (w.owned m s v lt own)
