-- The keys that are noted as incomplete are those of which a line says so, in the order of the first such lines.
use Rattle.std.proofs.Common.{◌≡◌, ℕ, zero, suc, ◌+◌, ◌-◌, Bool, true, false, cond, List, [], ◌∷◌, ◌++◌, length, take, Option, Some, None, Result, Ok, Err, refl, sym, ap, subst, ◌∙◌, append_assoc, arith, length-append, take_at}
use Rattle.std.specs.Prelude.{◌==◌, ◌&&◌, ◌||◌, not, is_some, map}
use Rattle.std.proofs.lemmas.List.{map-append}
use Rattle.nt_bytes.specs.declared.fault.HiveFault.{HiveFault}
use Rattle.nt_bytes.specs.declared.fault.HiveFaultKind.{HiveFaultKind}
use Rattle.nt_bytes.specs.declared.fault.HiveFaultKind.TheVariants.{TooDeep}
use Rattle.hive_model.specs.Base.{fault_at}
use Rattle.hive_model.specs.KeyNode.{KeyNode, key_node_at}
use Rattle.hive_model.specs.Tree.{Tree}
use Rattle.hive_model.specs.Walk.{reading}
use Rattle.salvage_bins.specs.Ground.{Ground}
use Rattle.salvage_parents.specs.declared.search.ParentLine.{ParentLine}
use Rattle.salvage_parents.specs.declared.search.ParentLine.TheVariants as printed
use Rattle.salvage_parents.specs.Search.{found_line}
use Rattle.salvage_walk.specs.declared.claims.Claim.{Claim}
use Rattle.salvage_walk.specs.declared.lines.Incomplete.{Incomplete}
use Rattle.salvage_walk.specs.declared.lines.WalkLine.{WalkLine}
use Rattle.salvage_walk.specs.declared.lines.WalkLine.TheVariants as lines
use Rattle.salvage_walk.specs.Parts.{part, node_form, node_long}
use Rattle.salvage_walk.specs.Walked.{Walked, say, using}
use Rattle.salvage_walk.specs.Steps.{class_step, security_step, values_step, entries_step}
use Rattle.salvage_walk.specs.Keys.{judged_key, key_line, key_names, with_child, keys_next, key_below, key_done, least_root, root_below, root_done, root_part, other_root, other_done, salvaged}
use Rattle.salvage_walk.specs.Incomplete.{noted, notes_next, says_more, incomplete_at, notes_below, notes_done, notes_key, notes_root, notes_there, notes_other, notes_by, incomplete}
use Rattle.salvage_walk.specs.Found.{unsaid, found_next, found_notes}
use Rattle.salvage_laws.proofs.Leaving.{nothing-more, class-left, security-left, values-left, entries-left}
use Rattle.found_laws.specs.found_laws.Lines.{lacking, lacking_later, AreNoted, none_yet, by_none}
use Rattle.found_laws.proofs.Noting.{NotesOf, key-noted}
use Rattle.found_laws.proofs.Saying.{Said, some_path, IsNoted, noted-more, again-so, first-so, AllQuiet, quiet-lines, own-noted, of-lines, class-quiet, security-quiet, values-quiet, entries-of, more-said}

-- ---- children

above-own : (path : List (List ℕ)) (name : List ℕ) → take (length (path ++ name ∷ []) - 1) (path ++ name ∷ []) ≡ path
above-own path name =
    take_at path (name ∷ []) (length (path ++ name ∷ []) - 1) (omega (arith, length-append path (name ∷ [])))

line-lacks : (path : List (List ℕ)) (i : ℕ) (fault : HiveFault) (r : Result KeyNode HiveFaultKind)
    → lacking (key_line path i fault r) ≡ Some path
line-lacks path i fault (Ok node) = ap some_path (above-own path node.name)
line-lacks path i fault (Err kind) = refl

module _ (hive : Ground) (before : Said) where
  -- after other lines, the keys that lines say so of are noted
  abbrev pub Keeps : List Incomplete → Walked → Type 0
  Keeps notes w = AreNoted notes (before ++ map lacking w.lines)

  kept-on : (notes : List Incomplete) (w v : Walked) (said : List WalkLine) → v.lines ≡ w.lines ++ said
      → AreNoted notes ((before ++ map lacking w.lines) ++ map lacking said) → Keeps notes v
  kept-on notes w v said e a =
      subst (AreNoted notes)
      (append_assoc before (map lacking w.lines) (map lacking said)
      ∙ ap (λ (l : Said). before ++ l) (sym (map-append lacking w.lines said) ∙ ap (map lacking) (sym e))) a

  quiet-on : (notes : List Incomplete) (w v : Walked) (said : List WalkLine) → v.lines ≡ w.lines ++ said → AllQuiet said → Keeps notes w
      → Keeps notes v
  quiet-on notes w v said e q a = kept-on notes w v said e (quiet-lines notes (before ++ map lacking w.lines) said q a)

  -- a child that stands has noted what its lines say; one that is left out has a line of its parent
  abbrev ChildTold : List (List ℕ) → List Incomplete → List Incomplete → Walked → Option Tree × Walked → Type 0
  ChildTold path old new w (Some t, v) = Keeps old w → Keeps new v
  ChildTold path old new w (None, v) =
      (new ≡ old) × ((line : WalkLine) × (v.lines ≡ w.lines ++ line ∷ []) × (lacking line ≡ Some path))

  abbrev JudgesTold : ℕ → Type 0
  JudgesTold left =
      (above : List ℕ) (path names : List (List ℕ)) (i at : ℕ) (w : Walked) (notes : List Incomplete)
      → ChildTold path notes (notes_key left hive above path names i at w notes) w (judged_key left hive above path names i at w)

  next-told : (left : ℕ) (own : ℕ) (above : List ℕ) (path : List (List ℕ)) (i : ℕ) (offsets : List ℕ) (us : List Tree) (w : Walked)
      (told : Bool) (notes : List Incomplete) → JudgesTold left → Keeps notes w → (told ≡ true → IsNoted path notes)
      → Keeps (notes_next (judged_key left hive) (notes_key left hive) (incomplete_at own path) above path i offsets us w told notes)
      (keys_next (judged_key left hive) above path i offsets us w).1
  unfolding notes_next keys_next
  next-told left own above path i [] us w told notes each e k = e
  next-told left own above path i (at ∷ rest) us w told notes each e k =
      by told (judged_key left hive above path (key_names us) i at w) (key-noted hive left above path (key_names us) i at w notes)
      (each above path (key_names us) i at w notes) k
      (λ told next notes e k. next-told left own above path (i + 1) rest next.0 next.1 told notes each e k)
    where
      one : List Incomplete
      one = notes_key left hive above path (key_names us) i at w notes

      after : List Tree × Walked → Bool → List Incomplete → Type 0
      after next told notes =
          Keeps
          (notes_next (judged_key left hive) (notes_key left hive) (incomplete_at own path) above path (i + 1) rest next.0 next.1 told notes)
          (keys_next (judged_key left hive) above path (i + 1) rest next.0 next.1).1

      Rest : Type 0
      Rest =
          (told : Bool) (next : List Tree × Walked) (notes : List Incomplete) → Keeps notes next.1
          → (told ≡ true → IsNoted path notes) → after next told notes

      by : (told : Bool) (r : Option Tree × Walked) → NotesOf hive path notes one r → ChildTold path notes one w r
          → (told ≡ true → IsNoted path notes) → Rest
          → after (with_child us r) (told || not (is_some r.0)) (noted (not told && not (is_some r.0)) (incomplete_at own path) one)
      by true (Some t, v) n c k h = h true (us ++ t ∷ [], v) one (c e) (λ f. noted-more path notes n.more one n.is (k refl))
      by false (Some t, v) n c k h = h false (us ++ t ∷ [], v) one (c e) (λ f. absurd cc)
      by true (None, v) n c k h =
          let old = subst (IsNoted path) (sym c.0) (k refl) in
          h true (us, v) one
          (kept-on one w v (c.1.0 ∷ []) c.1.1
          (again-so path one (before ++ map lacking w.lines) (lacking c.1.0) c.1.2 old
          (subst (λ (ns : List Incomplete). Keeps ns w) (sym c.0) e))) (λ f. old)
      by false (None, v) n c k h =
          h true (us, v) (noted true (incomplete_at own path) one)
          (kept-on (noted true (incomplete_at own path) one) w v (c.1.0 ∷ []) c.1.1
          (first-so own path one (before ++ map lacking w.lines) (lacking c.1.0) c.1.2
          (subst (λ (ns : List Incomplete). Keeps ns w) (sym c.0) e)))
          (λ f. own-noted true own path one refl)

  -- ---- a key

  below-told : (left : ℕ) (above : List ℕ) (path : List (List ℕ)) (node : KeyNode) (at : ℕ) (w : Walked) (notes : List Incomplete)
      → JudgesTold left → Keeps notes w
      → Keeps (notes_below (judged_key left hive) (notes_key left hive) hive above path node at w notes)
      (key_below (judged_key left hive) hive above path node at w).1
  unfolding notes_below key_below
  below-told left above path node at w notes each e =
      let class = class_step hive path node w in
      let security = security_step hive above path node class.1 in
      let values = values_step hive path node security.1 in
      let entries = entries_step hive path node at values.1 in
      let a = class-left hive class.1.claims path node w ([], nothing-more class.1.claims) in
      let b = security-left hive security.1.claims above path node class.1 ([], nothing-more security.1.claims) in
      let c = values-left hive values.1.claims path node security.1 ([], nothing-more values.1.claims) in
      let d = entries-left hive entries.1.claims path node at values.1 ([], nothing-more entries.1.claims) in
      let kept : Keeps notes values.1 =
      quiet-on notes security.1 values.1 c.said c.said_is
      (values-quiet hive values.1.claims path node values.0 c.uses c.said c.means)
      (quiet-on notes class.1 security.1 b.said b.said_is
      (security-quiet hive security.1.claims above path node security.0 b.uses b.said b.means)
      (quiet-on notes w class.1 a.said a.said_is (class-quiet hive class.1.claims path node class.0 a.uses a.said a.means) e)) in
      let told = says_more values.1 entries.1 in
      let one = noted told (incomplete_at at path) notes in
      let now : Keeps one entries.1 =
      kept-on one values.1 entries.1 d.said d.said_is
      (subst (λ (b : Bool). AreNoted (noted b (incomplete_at at path) notes)
      ((before ++ map lacking values.1.lines) ++ map lacking d.said)) (sym (more-said hive values.1 entries.1 d.said d.said_is))
      (of-lines at path notes (before ++ map lacking values.1.lines) d.said
      (entries-of hive entries.1.claims path node at entries.0 d.uses d.said d.means) kept)) in
      next-told left at security.0 path 1 entries.0 [] entries.1 told one each now (own-noted told at path notes)

  key-told : (left : ℕ) → JudgesTold left
  unfolding judged_key notes_key
  key-told zero above path names i at w notes =
      let r = reading key_node_at hive.cells at in
      (refl, (key_line path i (fault_at TooDeep at) r, refl, line-lacks path i (fault_at TooDeep at) r))
  key-told (suc left) above path names i at w notes =
      by (key-told left) (part (node_form false names) node_long false hive w.claims at)
    where
      by : JudgesTold left → (r : Result (KeyNode × List Claim) HiveFaultKind)
          → ChildTold path notes (notes_done (judged_key left hive) (notes_key left hive) hive above path at w notes r) w
          (key_done (judged_key left hive) hive above path i at w r)
      by each (Ok r) = λ e. below-told left above (path ++ r.0.name ∷ []) r.0 at (using w r.1) notes each e
      by each (Err kind) =
          let r = reading key_node_at hive.cells at in
          (refl, (key_line path i (fault_at kind at) r, refl, line-lacks path i (fault_at kind at) r))

  -- ---- children that are found

  pub found-told : (left : ℕ) (above : List ℕ) (path : List (List ℕ)) (places : List ℕ) (us : List Tree) (w : Walked)
      (notes : List Incomplete) → Keeps notes w
      → Keeps (found_notes (judged_key left hive) (notes_key left hive) above path places us w notes)
      (found_next (judged_key left hive) above path places us w).1
  unfolding found_notes found_next
  found-told left above path [] us w notes e = e
  found-told left above path (at ∷ places) us w notes e =
      by (judged_key left hive above path (key_names us) 0 at w) (key-told left above path (key_names us) 0 at w notes)
      (λ next notes e. found-told left above path places next.0 next.1 notes e)
    where
      one : List Incomplete
      one = notes_key left hive above path (key_names us) 0 at w notes

      after : List Tree × Walked → List Incomplete → Type 0
      after next notes =
          Keeps (found_notes (judged_key left hive) (notes_key left hive) above path places next.0 next.1 notes)
          (found_next (judged_key left hive) above path places next.0 next.1).1

      by : (r : Option Tree × Walked) → ChildTold path notes one w r
          → ((next : List Tree × Walked) (notes : List Incomplete) → Keeps notes next.1 → after next notes)
          → after (with_child us (unsaid w r)) one
      by (Some t, v) c h = h (us ++ t ∷ [], v) one (c e)
      by (None, v) c h = h (us, w) one (subst (λ (ns : List Incomplete). Keeps ns w) (sym c.0) e)

-- ---- from the root on

module _ (hive : Ground) where
  abbrev pub RootTold : List Incomplete → Option Tree × Walked → Type 0
  RootTold notes (Some t, w) = AreNoted notes (map lacking w.lines)
  RootTold notes (None, w) = AreNoted [] (map lacking w.lines)

  pub incomplete-told : (root : ℕ) → RootTold (incomplete hive root) (salvaged hive root)
  unfolding incomplete salvaged
  incomplete-told root = by (root_part hive [] root)
    where
      begun : Walked
      begun = record { claims = []; lines = [] }

      from : (at : ℕ) (w : Walked) (r : KeyNode × List Claim) → AreNoted [] (map lacking w.lines)
          → RootTold (notes_root hive at w [] r) (root_below hive at w r)
      from at w r q = below-told hive [] 511 [] [] r.0 at (using w r.1) [] (key-told hive [] 511) q

      there : (at : ℕ) (v : Walked) (r : Result (KeyNode × List Claim) HiveFaultKind) → AreNoted [] (map lacking v.lines)
          → RootTold (notes_there hive at v [] r) (other_done hive at v r)
      there at v (Ok r) q =
          from at (say v (lines.RootAt at)) r (quiet-on hive [] [] v (say v (lines.RootAt at)) (lines.RootAt at ∷ []) refl (refl, tt) q)
      there at v (Err k) q = quiet-on hive [] [] v (say v lines.NoRoot) (lines.NoRoot ∷ []) refl (refl, tt) q

      other : (o : Option ℕ) (v : Walked) → AreNoted [] (map lacking v.lines) → RootTold (notes_other hive v [] o) (other_root hive v o)
      other (Some at) v q = there at v (root_part hive v.claims at) q
      other None v q = quiet-on hive [] [] v (say v lines.NoRoot) (lines.NoRoot ∷ []) refl (refl, tt) q

      by : (r : Result (KeyNode × List Claim) HiveFaultKind) → RootTold (notes_by hive root begun [] r) (root_done hive root begun r)
      by (Ok r) = from root begun r none_yet
      by (Err k) = other (least_root hive hive.slots 0) (say begun (lines.Root (fault_at k root))) (by_none [] [] none_yet)

-- ---- lines after the walk

later-walked : (said : List WalkLine) → map lacking_later (map printed.Walked said) ≡ map lacking said
later-walked [] = refl
later-walked (line ∷ more) = ap (λ (l : Said). lacking line ∷ l) (later-walked more)

later-found : (notes : List Incomplete) (before : Said) (count : ℕ) (path : List (List ℕ)) → AreNoted notes before
    → AreNoted notes (before ++ map lacking_later (found_line count path))
later-found notes before count path a = go (count == 0)
  where
    go : (b : Bool) → AreNoted notes (before ++ map lacking_later (cond b [] (printed.Found count path ∷ [])))
    go true = subst (AreNoted notes) (nothing-more before) a
    go false = by_none notes before a

-- what is noted so far is printed in the walk or after it; and so it is after one more key
pub step-told : (notes : List Incomplete) (walk : Said) (said : List ParentLine) (below : List WalkLine) (count : ℕ)
    (path : List (List ℕ)) → AreNoted notes ((walk ++ map lacking_later said) ++ map lacking below)
    → AreNoted notes (walk ++ map lacking_later (said ++ (map printed.Walked below ++ found_line count path)))
step-told notes walk said below count path a =
    let end = map lacking_later (found_line count path) in
    let later = map-append lacking_later (map printed.Walked below) (found_line count path)
    ∙ ap (λ (l : Said). l ++ end) (later-walked below) in
    subst (AreNoted notes)
    (append_assoc (walk ++ map lacking_later said) (map lacking below) end
    ∙ append_assoc walk (map lacking_later said) (map lacking below ++ end)
    ∙ ap (λ (l : Said). walk ++ l)
    (ap (λ (l : Said). map lacking_later said ++ l) (sym later)
    ∙ sym (map-append lacking_later said (map printed.Walked below ++ found_line count path))))
    (later-found notes ((walk ++ map lacking_later said) ++ map lacking below) count path a)
