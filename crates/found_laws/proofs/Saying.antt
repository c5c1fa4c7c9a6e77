-- What the lines of a key's own parts say of missing children.
use Rattle.std.proofs.Common.{◌≡◌, inl, inr, ℕ, ◌+◌, Bool, true, false, cond, List, [], ◌∷◌, ◌++◌, length, Option, Some, None, Result, Ok, Err, refl, sym, ap, subst, ◌∙◌, append_assoc, arith, length-append}
use Rattle.std.specs.Prelude.{◌==◌, ◌&&◌, not, map}
use Rattle.std.specs.List.{Contains}
use Rattle.std.proofs.lemmas.Bool.{eq-eqb, eqb-true}
use Rattle.std.proofs.lemmas.List.Elements.{Contains-append_left, Contains-push}
use Rattle.nt_bytes.specs.declared.fault.HiveFaultKind.{HiveFaultKind}
use Rattle.hive_model.specs.KeyNode.{KeyNode}
use Rattle.hive_model.specs.KeyValue.{KeyValue, key_value_at}
use Rattle.hive_model.specs.Tree.{Item}
use Rattle.hive_model.specs.Walk.{reading}
use Rattle.reg_tree.proofs.Unlike.{Each}
use Rattle.salvage_bins.specs.Ground.{Ground}
use Rattle.salvage_walk.specs.declared.claims.Claim.{Claim}
use Rattle.salvage_walk.specs.declared.lines.Incomplete.{Incomplete}
use Rattle.salvage_walk.specs.declared.lines.KeyPart.TheVariants as parts
use Rattle.salvage_walk.specs.declared.lines.WalkLine.{WalkLine}
use Rattle.salvage_walk.specs.declared.lines.WalkLine.TheVariants as lines
use Rattle.salvage_walk.specs.Fronts.{Front}
use Rattle.salvage_walk.specs.Walked.{Walked}
use Rattle.salvage_walk.specs.Steps.{value_line}
use Rattle.salvage_walk.specs.Incomplete.{noted, says_more, incomplete_at}
use Rattle.salvage_laws.specs.Left.{ClassLeft, class_stands, class_lost, SecurityLeft, security_none, security_first, security_again, security_lost, short_lines, ItemsLeft, ValuesLeft, values_none, values_listed, values_lost}
use Rattle.salvage_laws.specs.LeftLists.{ListLeft, list_read, list_lost, LeavesLeft, ListsLeft, own_entries, entries_of_lists, lists_lost, is_silent, count_lines, EntriesLeft, entries_none, entries_named}
use Rattle.salvage_laws.proofs.Leaving.{nothing-more}
use Rattle.found_laws.specs.found_laws.Lines.{lacking, AreNoted, by_none, by_another, by_first}

-- ---- notes by lines

abbrev pub Said : Type 0
Said = List (Option (List (List ℕ)))

abbrev pub some_path : List (List ℕ) → Option (List (List ℕ))
some_path path = Some path

-- a key of this path was noted
abbrev pub IsNoted : List (List ℕ) → List Incomplete → Type 0
IsNoted path notes = (own : Incomplete) × (own.path ≡ path) × Contains notes own

pub noted-more : (path : List (List ℕ)) (old more new : List Incomplete) → new ≡ old ++ more → IsNoted path old → IsNoted path new
noted-more path old more new e n =
    (n.0, n.1, subst (λ (l : List Incomplete). Contains l n.0) (sym e) (Contains-append_left old more n.0 n.2))

pub again-so : (path : List (List ℕ)) (notes : List Incomplete) (said : Said) (o : Option (List (List ℕ))) → o ≡ Some path
    → IsNoted path notes → AreNoted notes said → AreNoted notes (said ++ o ∷ [])
again-so path notes said o e n a =
    subst (λ (x : Option (List (List ℕ))). AreNoted notes (said ++ x ∷ [])) (ap some_path n.1 ∙ sym e) (by_another notes said n.0 a n.2)

pub first-so : (at : ℕ) (path : List (List ℕ)) (notes : List Incomplete) (said : Said) (o : Option (List (List ℕ))) → o ≡ Some path
    → AreNoted notes said → AreNoted (notes ++ incomplete_at at path ∷ []) (said ++ o ∷ [])
first-so at path notes said o e a =
    subst (λ (x : Option (List (List ℕ))). AreNoted (notes ++ incomplete_at at path ∷ []) (said ++ x ∷ [])) (sym e)
    (by_first notes said (incomplete_at at path) a)

next-said : {A : Type 0} (said : List A) (o : A) (more : List A) → (said ++ o ∷ []) ++ more ≡ said ++ o ∷ more
next-said said o more = append_assoc said (o ∷ []) more

both-so : (P : WalkLine → Type 0) (xs ys : List WalkLine) → Each P xs → Each P ys → Each P (xs ++ ys)
both-so P [] ys a b = b
both-so P (x ∷ xs) ys a b = (a.0, both-so P xs ys a.1 b)

abbrev pub AllQuiet : List WalkLine → Type 0
AllQuiet said = Each (λ line. lacking line ≡ None) said

abbrev pub AllOf : List (List ℕ) → List WalkLine → Type 0
AllOf path said = Each (λ line. lacking line ≡ Some path) said

pub quiet-lines : (notes : List Incomplete) (before : Said) (said : List WalkLine) → AllQuiet said → AreNoted notes before
    → AreNoted notes (before ++ map lacking said)
quiet-lines notes before [] q a = subst (AreNoted notes) (nothing-more before) a
quiet-lines notes before (line ∷ more) q a =
    subst (AreNoted notes) (next-said before (lacking line) (map lacking more))
    (quiet-lines notes (before ++ lacking line ∷ []) more q.1
    (subst (λ (o : Option (List (List ℕ))). AreNoted notes (before ++ o ∷ [])) (sym q.0) (by_none notes before a)))

again-lines : (path : List (List ℕ)) (notes : List Incomplete) (before : Said) (said : List WalkLine) → AllOf path said
    → IsNoted path notes → AreNoted notes before → AreNoted notes (before ++ map lacking said)
again-lines path notes before [] q n a = subst (AreNoted notes) (nothing-more before) a
again-lines path notes before (line ∷ more) q n a =
    subst (AreNoted notes) (next-said before (lacking line) (map lacking more))
    (again-lines path notes (before ++ lacking line ∷ []) more q.1 n (again-so path notes before (lacking line) q.0 n a))

pub own-noted : (b : Bool) (at : ℕ) (path : List (List ℕ)) (notes : List Incomplete) → b ≡ true
    → IsNoted path (noted b (incomplete_at at path) notes)
own-noted true at path notes e = (incomplete_at at path, refl, Contains-push notes (incomplete_at at path))
own-noted false at path notes e = absurd cc

pub of-lines : (at : ℕ) (path : List (List ℕ)) (notes : List Incomplete) (before : Said) (said : List WalkLine) → AllOf path said
    → AreNoted notes before → AreNoted (noted (not (is_silent said)) (incomplete_at at path) notes) (before ++ map lacking said)
of-lines at path notes before [] q a = subst (AreNoted notes) (nothing-more before) a
of-lines at path notes before (line ∷ more) q a =
    let new = notes ++ incomplete_at at path ∷ [] in
    subst (AreNoted new) (next-said before (lacking line) (map lacking more))
    (again-lines path new (before ++ lacking line ∷ []) more q.1 (own-noted true at path notes refl)
    (first-so at path notes before (lacking line) q.0 a))

-- ---- lines of a key

module _ (hive : Ground) where
  pub class-quiet : (used : List Claim) (path : List (List ℕ)) (node : KeyNode) (class : List ℕ) (uses : List Claim) (said : List WalkLine)
      → ClassLeft hive used path node class uses said → AllQuiet said
  class-quiet used path node class uses said (class_stands a b e) = subst AllQuiet (sym e) tt
  class-quiet used path node class uses said (class_lost fault a b c d e) = subst AllQuiet (sym e) (refl, tt)

  pub security-quiet : (used : List Claim) (above : List ℕ) (path : List (List ℕ)) (node : KeyNode) (own : List ℕ) (uses : List Claim)
      (said : List WalkLine) → SecurityLeft hive used above path node own uses said → AllQuiet said
  security-quiet used above path node own uses said (security_none a b c e) = subst AllQuiet (sym e) tt
  security-quiet used above path node own uses said (security_first cell a b c d e) = subst AllQuiet (sym e) tt
  security-quiet used above path node own uses said (security_again cell c a b d f g h e) = subst AllQuiet (sym e) tt
  security-quiet used above path node own uses said (security_lost kind a b c d e) = subst AllQuiet (sym e) (refl, tt)

  items-quiet : (used : List Claim) (path : List (List ℕ)) (i : ℕ) (names : List (List ℕ)) (offsets : List ℕ) (items : List Item)
      (uses : List Claim) (said : List WalkLine) → ItemsLeft hive used path i names offsets items uses said → AllQuiet said
  items-quiet used path i names [] items uses said l = subst AllQuiet (sym l.2) tt
  items-quiet used path i names (at ∷ more) items uses said (inl l) =
      items-quiet used path (i + 1) (names ++ l.0.name ∷ []) more l.1 l.2 said l.7
  items-quiet used path i names (at ∷ more) items uses said (inr l) =
      subst AllQuiet (sym l.2)
      (line (reading key_value_at hive.cells at), items-quiet used path (i + 1) names more items uses l.1 l.4)
    where
      line : (r : Result KeyValue HiveFaultKind) → lacking (value_line path i l.0 r) ≡ None
      line (Ok value) = refl
      line (Err kind) = refl

  pub values-quiet : (used : List Claim) (path : List (List ℕ)) (node : KeyNode) (items : List Item) (uses : List Claim) (said : List WalkLine)
      → ValuesLeft hive used path node items uses said → AllQuiet said
  values-quiet used path node items uses said (values_none a b c e) = subst AllQuiet (sym e) tt
  values-quiet used path node items uses said (values_listed list later rest a b c e l) =
      subst AllQuiet (sym e)
      (both-so (λ line. lacking line ≡ None) (short_lines list.short parts.Values path node.value_list) rest (short list.short)
      (items-quiet used path 1 [] list.offsets items later rest l))
    where
      short : (b : Bool) → AllQuiet (short_lines b parts.Values path node.value_list)
      short true = (refl, tt)
      short false = tt
  values-quiet used path node items uses said (values_lost kind a b c d e) = subst AllQuiet (sym e) (refl, tt)

  -- ---- lines of a key's lists

  short-of : (b : Bool) (path : List (List ℕ)) (at : ℕ) → AllOf path (short_lines b parts.Keys path at)
  short-of true path at = (refl, tt)
  short-of false path at = tt

  list-of : (form : List ℕ → Result Front HiveFaultKind) (used : List Claim) (path : List (List ℕ)) (at : ℕ) (offsets : List ℕ)
      (uses : List Claim) (said : List WalkLine) → ListLeft form hive used path at offsets uses said → AllOf path said
  list-of form used path at offsets uses said (list_read list a b c e) = subst (AllOf path) (sym e) (short-of list.short path at)
  list-of form used path at offsets uses said (list_lost kind a b c e) = subst (AllOf path) (sym e) (refl, tt)

  leaves-of : (used : List Claim) (path : List (List ℕ)) (lists offsets : List ℕ) (uses : List Claim) (said : List WalkLine)
      → LeavesLeft hive used path lists offsets uses said → AllOf path said
  leaves-of used path [] offsets uses said l = subst (AllOf path) (sym l.2) tt
  leaves-of used path (at ∷ more) offsets uses said l =
      subst (AllOf path) (sym l.said_is)
      (both-so (λ line. lacking line ≡ Some path) l.first_said l.rest_said
      (list-of _ used path at l.first_offsets l.first_uses l.first_said l.first)
      (leaves-of used path more l.rest_offsets l.rest_uses l.rest_said l.rest))

  lists-of : (used : List Claim) (path : List (List ℕ)) (at : ℕ) (offsets : List ℕ) (uses : List Claim) (said : List WalkLine)
      → ListsLeft hive used path at offsets uses said → AllOf path said
  lists-of used path at offsets uses said (own_entries list a b c d e) = subst (AllOf path) (sym e) (short-of list.short path at)
  lists-of used path at offsets uses said (entries_of_lists list later rest a b c e l) =
      subst (AllOf path) (sym e)
      (both-so (λ line. lacking line ≡ Some path) (short_lines list.short parts.Keys path at) rest (short-of list.short path at)
      (leaves-of used path list.offsets offsets later rest l))
  lists-of used path at offsets uses said (lists_lost kind a b c e) = subst (AllOf path) (sym e) (refl, tt)

  pub entries-of : (used : List Claim) (path : List (List ℕ)) (node : KeyNode) (at : ℕ) (offsets : List ℕ) (uses : List Claim)
      (said : List WalkLine) → EntriesLeft hive used path node at offsets uses said → AllOf path said
  entries-of used path node at offsets uses said (entries_none a b c e) = subst (AllOf path) (sym e) tt
  entries-of used path node at offsets uses said (entries_named first a l e) =
      subst (AllOf path) (sym e)
      (both-so (λ line. lacking line ≡ Some path) first (count_lines node path at offsets first)
      (lists-of used path node.child_list offsets uses first l)
      (count (is_silent first && not (length offsets == node.child_count))))
    where
      count : (b : Bool) → AllOf path (cond b (lines.Nothing at path ∷ []) [])
      count true = (refl, tt)
      count false = tt

  pub more-said : (w v : Walked) (said : List WalkLine) → v.lines ≡ w.lines ++ said → says_more w v ≡ not (is_silent said)
  more-said w v [] e =
      ap not (eq-eqb (length w.lines) (length v.lines) (ap length (nothing-more w.lines) ∙ sym (ap length e)))
  more-said w v (line ∷ more) e =
      go (length w.lines == length v.lines) refl
    where
      long : length v.lines ≡ length w.lines + length (line ∷ more)
      long = ap length e ∙ length-append w.lines (line ∷ more)

      go : (b : Bool) → (length w.lines == length v.lines) ≡ b → not b ≡ true
      go true f = absurd (omega (arith, long, eqb-true (length w.lines) (length v.lines) f))
      go false f = refl
