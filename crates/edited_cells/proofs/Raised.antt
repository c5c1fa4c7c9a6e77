-- A node records greater lengths: the tree stands as it stood, and what was owned is owned.
use Rattle.std.proofs.Common.{◌≡◌, ℕ, suc, ◌-◌, Bool, true, false, cond, List, [], ◌∷◌, ◌++◌, length, refl, sym, ◌∙◌, ap, subst, inl, inr, ⊎_elim, Some, Result, Ok}
use Rattle.std.specs.Prelude.{◌⊎◌, MatchBool, ◌==◌}
use Rattle.std.proofs.lemmas.Bool.{cases_eq}
use Rattle.nt_bytes.specs.declared.fault.HiveFaultKind.{HiveFaultKind}
use Rattle.nt_bytes.specs.Reading.{◌>>=◌}
use Rattle.hive_model.specs.Bins.{Cells}
use Rattle.hive_model.specs.KeyNode.{KeyNode, key_node_at}
use Rattle.hive_model.specs.Lists.{offsets_in}
use Rattle.hive_model.specs.Tree.{Tree, Head, Item, key, head}
use Rattle.hive_model.specs.Edit.{Step, of_items, at_key}
use Rattle.hive_model.specs.Walk.{reading}
use Rattle.hive_model.specs.Footprint.{of_read, child_places, key_place, parent_of}
use Rattle.hive_model.specs.Stands.{items_at, values_of, Stands, KeyStands, IsWellFormed}
use Rattle.edited_cells.specs.Owned.{Role, node, class, security, value_list, value, lists, In, node_name, value_name, value_places, value_list_at, HasRole, Reaches, Owns, Folds, Extends, IsSecurity, IsMatched}
use Rattle.edited_cells.specs.Framed.{IsUnheld}
use Rattle.edited_cells.specs.Parents.{NamesParents}
use Rattle.edited_cells.specs.Pairs.{Pairwise}
use Rattle.edited_cells.specs.Revalues.{SaysTheSame, ListsValues, cells_of_values, ChangesValues}
use Rattle.edited_cells.specs.Uses.{plain}
use Rattle.edited_cells.specs.Done.{IsDone}
use Rattle.edited_cells.specs.Greatest.{RaisesLengths, IsNamedPath}
use Rattle.edited_cells.specs.Rewrites.{IsRewritten}
use Rattle.edited_cells.proofs.Ins.{in_left, in_cases}
use Rattle.edited_cells.proofs.Out.{IsPlaced, of_node_is, placed_at}
use Rattle.edited_cells.proofs.Wellformed.{first_part, ok_items, sound_hive}
use Rattle.edited_cells.proofs.Held.{are_held}
use Rattle.edited_cells.proofs.Revalued.{reach_on}
use Rattle.edited_cells.proofs.Untouched.{are_once}
use Rattle.edited_cells.proofs.Same.{IsSame, IsValueSame, IsKept, same_name, same_reading, same_value_name, value_used_same, first_used, kept_same, owned_frame}
use Rattle.edited_cells.proofs.SameTree.{IsSameKey}
use Rattle.edited_cells.proofs.Relisted.{IsNodeKept, AreChildrenKept, AreValuesKept, class_kept, security_kept, value_list_kept, value_places_kept, lists_kept, children_kept}
use Rattle.edited_cells.proofs.Found.{IsThere, found_there}
use Rattle.edited_cells.proofs.ChangedValues.{path_itself}
use Rattle.edited_cells.proofs.Column.{name_kept}
use Rattle.edited_cells.proofs.InOrder.{at_key_itself}
use Rattle.edited_cells.proofs.ParentsKept.{named_through}
use Rattle.edited_cells.proofs.Rewritten.{elsewhere, still_well}
use Rattle.edited_cells.proofs.ValueSteps.{WereValues, levels_left, value_rewritten}

-- a node's list of values, or none
abbrev listed_by : Cells → KeyNode → Bool → List ℕ
listed_by b n t = cond t [] (of_read (reading (offsets_in n.value_count) b n.value_list) (λ os. os))

-- the values of a key that stands are listed, also where its node and its list are read as they were
listed_there : (b c : Cells) (x : ℕ) (hd : Head) (offsets : List ℕ) (k : KeyStands b x hd offsets) (new : KeyNode)
    → new.value_count ≡ k.node.value_count → new.value_list ≡ k.node.value_list
    → ((o : ℕ) → In (value_list_at b x) o → c.payload o ≡ b.payload o) → ListsValues c new (value_places b x)
unfolding value_places value_list_at values_of
listed_there b c x hd offsets k new count list there =
    subst (λ (l : List ℕ). ListsValues c new l) (sym places)
    (subst (λ (n : ℕ). MatchBool (n == 0) (listed_by b k.node (k.node.value_count == 0) ≡ [])
    (reading (offsets_in n) c new.value_list ≡ Ok (listed_by b k.node (k.node.value_count == 0)))) (sym count)
    (subst (λ (o : ℕ). MatchBool (k.node.value_count == 0) (listed_by b k.node (k.node.value_count == 0) ≡ [])
    (reading (offsets_in k.node.value_count) c o ≡ Ok (listed_by b k.node (k.node.value_count == 0)))) (sym list)
    (go (k.node.value_count == 0) k.values
    (λ o i. there o (subst (λ (l : List ℕ). In l o)
    (sym (of_node_is b x k.node (λ n. cond (n.value_count == 0) [] (n.value_list ∷ [])) k.read)) i)))))
  where
    places : value_places b x ≡ listed_by b k.node (k.node.value_count == 0)
    places = of_node_is b x k.node (λ n. cond (n.value_count == 0) []
        (of_read (reading (offsets_in n.value_count) b n.value_list) (λ os. os))) k.read

    go : (t : Bool)
        → cond t (Ok []) (reading (offsets_in k.node.value_count) b k.node.value_list >>= items_at b) ≡ Ok hd.values
        → ((o : ℕ) → In (cond t [] (k.node.value_list ∷ [])) o → c.payload o ≡ b.payload o)
        → MatchBool t (listed_by b k.node t ≡ []) (reading (offsets_in k.node.value_count) c k.node.value_list ≡ Ok (listed_by b k.node t))
    go true e h = refl
    go false e h =
        let p = first_part (reading (offsets_in k.node.value_count) b k.node.value_list) (items_at b) hd.values e in
        same_reading (offsets_in k.node.value_count) b c k.node.value_list (h k.node.value_list (inl refl)) ∙ p.1
        ∙ ap (λ (l : List ℕ). Ok l) (sym (ap (λ (r : Result (List ℕ) HiveFaultKind). of_read r (λ os. os)) p.1))

one_list : (cells : Cells) (at : ℕ) (n : KeyNode) → reading key_node_at cells at ≡ Ok n
    → Pairwise (λ p q. p ≡ q → ⊥) (value_list_at cells at ++ [])
unfolding value_list_at
one_list cells at n read =
    subst (λ (l : List ℕ). Pairwise (λ p q. p ≡ q → ⊥) (l ++ []))
    (sym (of_node_is cells at n (λ k. cond (k.value_count == 0) [] (k.value_list ∷ [])) read)) (go (n.value_count == 0))
  where
    go : (t : Bool) → Pairwise (λ p q. p ≡ q → ⊥) (cond t [] (n.value_list ∷ []) ++ [])
    go true = tt
    go false = (λ y i. absurd i, tt)

module _ (b c : Cells) (root : ℕ) (t : Tree) (p : List (List ℕ)) (x : ℕ) (well : IsWellFormed b root t)
    (h : Reaches b root p x) (g : RaisesLengths b c x)
  where
    -- ---- the key itself

    -- a cell in another role than a node is another
    apart : (q : List (List ℕ)) (r : Role) (o : ℕ) → Owns b root q r o → (r ≡ node → ⊥) → o ≡ x → ⊥
    apart q r o own other e = ⊎_elim (λ (s : (q ≡ p) × (r ≡ node)). other s.1)
        (λ (s : IsSecurity r × IsSecurity node). s.1)
        ((are_once b root t well).one q p r node o own (record { at = x; reached = h; has = sym e }))

    -- an owned cell but the node is the same
    there_same : (q : List (List ℕ)) (r : Role) (o : ℕ) → Owns b root q r o → (o ≡ x → ⊥) → c.payload o ≡ b.payload o
    there_same q r o own differs =
        let held = (are_held b root t well).held q r o own in g.others o held.0 held.1 differs ∙ sym held.1

    here : (r : Role) (o : ℕ) → HasRole b x r o → (r ≡ node → ⊥) → c.payload o ≡ b.payload o
    here r o has other =
        let own : Owns b root p r o = record { at = x; reached = h; has = has } in
        there_same p r o own (apart p r o own other)

    abbrev kept : IsNodeKept b c x
    kept = record {
      version = g.version;
      old = g.old;
      new = g.new;
      read = g.read;
      read_new = g.read_new;
      class_length = ap (λ (n : KeyNode). n.class_length) g.same;
      class = ap (λ (n : KeyNode). n.class) g.same;
      security = ap (λ (n : KeyNode). n.security) g.same;
    }

    says : SaysTheSame g.old g.new
    says = record {
      name = ap (λ (n : KeyNode). n.name) g.same;
      flags = ap (λ (n : KeyNode). n.flags) g.same;
      stamp = ap (λ (n : KeyNode). n.stamp) g.same;
      parent = ap (λ (n : KeyNode). n.parent) g.same;
      child_count = ap (λ (n : KeyNode). n.child_count) g.same;
      volatile_count = ap (λ (n : KeyNode). n.volatile_count) g.same;
      child_list = ap (λ (n : KeyNode). n.child_list) g.same;
      volatile_list = ap (λ (n : KeyNode). n.volatile_list) g.same;
      security = ap (λ (n : KeyNode). n.security) g.same;
      class = ap (λ (n : KeyNode). n.class) g.same;
      class_length = ap (λ (n : KeyNode). n.class_length) g.same;
    }

    values_there : AreValuesKept b c x g.old g.new
    values_there = record {
      count = ap (λ (n : KeyNode). n.value_count) g.same;
      list = ap (λ (n : KeyNode). n.value_list) g.same;
      list_cell = λ o i. here value_list o i (λ z. cc);
      cells = λ v i o used. here (value (value_name b v)) o
          (record { place = v; listed = i; named = refl; used = used }) (λ z. cc);
    }

    children_there : AreChildrenKept b c x g.old g.new
    children_there = record {
      count = ap (λ (n : KeyNode). n.child_count) g.same;
      list = ap (λ (n : KeyNode). n.child_list) g.same;
      list_cells = λ o i. here lists o i (λ z. cc);
    }

    -- ---- what is owned

    name_same : (q : List (List ℕ)) (z : ℕ) → Reaches b root q z → node_name c z ≡ node_name b z
    name_same q z reached = ⊎_elim
        (λ (e : z ≡ x). subst (λ (o : ℕ). node_name c o ≡ node_name b o) (sym e)
        (name_kept b c x kept (ap (λ (n : KeyNode). n.name) g.same)))
        (λ (e : z ≡ x → ⊥). same_name b c z
        (there_same q node z (record { at = z; reached = reached; has = refl }) e)) (cases_eq z x)

    child_name_same : (q : List (List ℕ)) (y z : ℕ) → Reaches b root q y → In (child_places b y) z
        → node_name c z ≡ node_name b z
    child_name_same q y z reached i =
        name_same (q ++ node_name b z ∷ []) z (reach_on b q (node_name b z ∷ []) root y z reached (z, i, refl, refl))

    role_here : (r : Role) (o : ℕ) → HasRole c x r o → HasRole b x r o
    role_here node o i = i
    role_here class o i = subst (λ (l : List ℕ). In l o) (class_kept b c x kept) i
    role_here security o i = subst (λ (l : List ℕ). In l o) (security_kept b c x kept) i
    role_here value_list o i = subst (λ (l : List ℕ). In l o) (value_list_kept b c x kept values_there) i
    role_here (value name) o i =
        let listed = subst (λ (l : List ℕ). In l i.place) (value_places_kept b c x kept values_there) i.listed in
        let there : IsValueSame b c i.place = values_there.cells i.place listed in
        record {
          place = i.place;
          listed = listed;
          named = sym (same_value_name b c i.place (there i.place (first_used b i.place))) ∙ i.named;
          used = subst (λ (l : List ℕ). In l o) (value_used_same b c i.place g.version there) i.used;
        }
    role_here lists o i = subst (λ (l : List ℕ). In l o) (lists_kept b c x kept children_there) i

    kept_here : IsKept b c (λ o. ⊥) x
    kept_here = record {
      child = λ y i. let j = subst (λ (l : List ℕ). In l y) (children_kept b c x kept children_there) i in
          inl (j, child_name_same p x y h j);
      role = λ r o i. inl (role_here r o i);
    }

    -- each other key is the same
    pub other_same : (q : List (List ℕ)) (y : ℕ) → Reaches b root q y → (y ≡ x → ⊥) → IsSame b c y
    other_same q y reached differs = record {
      version = g.version;
      each = λ r o plain_role has. let own : Owns b root q r o = record { at = y; reached = reached; has = has } in
          there_same q r o own (λ e. ⊎_elim
          (λ (s : (q ≡ p) × (r ≡ node)). differs (subst (λ (k : Role). HasRole b y k o) s.1 has ∙ e))
          (λ (s : IsSecurity r × IsSecurity node). s.1)
          ((are_once b root t well).one q p r node o own (record { at = x; reached = h; has = sym e })));
    }

    kept_each : (q : List (List ℕ)) (y : ℕ) → Reaches b root q y → IsKept b c (λ o. ⊥) y
    kept_each q y reached = ⊎_elim
        (λ (e : y ≡ x). subst (IsKept b c (λ o. ⊥)) (sym e) kept_here)
        (λ (e : y ≡ x → ⊥). kept_same b c (λ o. ⊥) y (other_same q y reached e) (λ z i. child_name_same q y z reached i))
        (cases_eq y x)

    pub owned_still : (q : List (List ℕ)) (r : Role) (o : ℕ) → Owns c root q r o → Owns b root q r o
    owned_still q r o own = ⊎_elim (λ w. w) (λ (n : ⊥). absurd n)
        (owned_frame b c (λ o. ⊥) q root own.at r o (λ m y w z. kept_each m y w) own.reached own.has)

    -- ---- the tree

    there : IsThere b p x t
    there = found_there b p p root x t well.stands well.names (path_itself p) h

    changes : (k : Tree) → Stands b x k → ChangesValues b c x [] [] [] (value_places b x) []
    changes (key hd ts) s = record {
      version = g.version;
      old = g.old;
      new = g.new;
      read = g.read;
      read_new = g.read_new;
      same = says;
      listed = refl;
      listed_new = listed_there b c x hd s.0 s.1 g.new
          (values_there.count ∙ ap (λ (n : KeyNode). n.value_count) (same_node s.1))
          (values_there.list ∙ ap (λ (n : KeyNode). n.value_list) (same_node s.1)) values_there.list_cell;
      items = refl;
      others = λ o q held no_node no_list no_value. g.others o q held no_node;
      used = λ o i. inl (in_left (value_list_at b x) [] o
          (subst (λ (l : List ℕ). In l o) (value_list_kept b c x kept values_there) (only (value_list_at c x) o i)));
      once = one_list c x g.new g.read_new;
    }
      where
        same_node : (k : KeyStands b x hd s.0) → g.old ≡ k.node
        same_node k = (let a = g.read in let d = k.read in let e = sym a ∙ d in cc)

        only : (l : List ℕ) (o : ℕ) → In (l ++ []) o → In l o
        only l o i = ⊎_elim (λ j. j) (λ (n : ⊥). absurd n) (in_cases l [] o i)

    abbrev old : List (ℕ × Bool)
    old = plain (value_list_at b x ++ cells_of_values b [])

    rewritten_itself : IsRewritten b c root t (at_key p (of_items (λ vs. vs)) t) p x (suc (511 - length p)) old []
    rewritten_itself =
        value_rewritten b c root t there.tree p p x [] [] [] (value_places b x) [] (λ vs. vs) well h there.found
        there.stands there.names (changes there.tree there.stands) (λ vs d. d) becomes
      where
        becomes : (before went behind : List Item)
            → WereValues b [] [] (value_places b x) (head there.tree).values before went behind
            → (head there.tree).values ≡ before ++ ([] ++ behind)
        becomes before went behind w =
            w.whole ∙ ap (λ (l : List Item). before ++ (l ++ behind)) (sym (ok_items [] went w.read_gone))

    itself : (k : Tree) → of_items (λ vs. vs) k ≡ k
    itself (key hd ts) = refl

    rewritten_there : IsRewritten b c root t t p x (suc (511 - length p)) old []
    rewritten_there =
        subst (λ (u : Tree). IsRewritten b c root t u p x (suc (511 - length p)) old [])
        (at_key_itself (of_items (λ vs. vs)) p t there.tree there.found (itself there.tree)) rewritten_itself

    pub raised_well : IsWellFormed c root t
    raised_well = still_well b c root t t p p x (suc (511 - length p)) old [] well (path_itself p) h
        (levels_left b root t p x well h) rewritten_there

    pub raised_elsewhere : (q : List (List ℕ)) (z : ℕ) → Reaches b root q z → (Extends p q → ⊥) → IsSameKey b c z
    raised_elsewhere =
        elsewhere b c root t rewritten_there.key p p x (suc (511 - length p)) old rewritten_there.new [] well
        (path_itself p) h rewritten_there.rewrites

    pub raised_parents : NamesParents b root → NamesParents c root
    raised_parents =
        named_through b c p p root x (sound_hive b root t well).all (path_itself p) h raised_elsewhere
        rewritten_there.rewrites.parent rewritten_there.rewrites.parents

-- where a step is done, and then a node that it names records greater lengths, the step is done
pub raised_done : (b m c : Cells) (root : ℕ) (t u : Tree) (step : Step) (path : List (List ℕ)) (x : ℕ)
    → IsDone b m root t u step → key_place m path root ≡ Some x → IsNamedPath step path → RaisesLengths m c x
    → IsDone b c root t u step
raised_done b m c root t u step path x done at n g = record {
  version = g.version ∙ done.version;
  stands = raised_well m c root u w.stored x done.stands w.reached g;
  framed = record {
    owned = λ q r o own. done.framed.owned q r o (owned_still m c root u w.stored x done.stands w.reached g q r o own);
    rest = rest;
  };
  parents = λ names. raised_parents m c root u w.stored x done.stands w.reached g (done.parents names);
}
  where
    w : IsPlaced m root path x
    w = placed_at m path root x at

    folds : Folds n.key w.stored ⊎ Folds (parent_of n.key) w.stored
    folds = ⊎_elim (λ (e : path ≡ n.key). inl (subst (λ (l : List (List ℕ)). Folds l w.stored) e w.folds))
        (λ (e : path ≡ parent_of n.key). inr (subst (λ (l : List (List ℕ)). Folds l w.stored) e w.folds)) n.is

    -- the node is the step's, or was none
    the_node : (q : List ℕ) → b.payload x ≡ Ok q → IsMatched b root t step x
    the_node q held = ⊎_elim
        (λ (own : Owns b root w.stored node x). record {
          path = w.stored;
          role = node;
          owns = own;
          matches = inl (record { key = n.key; named = n.named; folds = folds; is = refl });
        })
        (λ (i : IsUnheld b x ⊎ IsMatched b root t step x). ⊎_elim (λ (none : IsUnheld b x). absurd (none q held))
        (λ j. j) i)
        (done.framed.owned w.stored node x (record { at = x; reached = w.reached; has = refl }))

    rest : (o : ℕ) (q : List ℕ) → b.payload o ≡ Ok q → (IsMatched b root t step o → ⊥) → c.payload o ≡ Ok q
    rest o q held out = ⊎_elim
        (λ (e : o ≡ x). absurd (out (subst (IsMatched b root t step) (sym e)
        (the_node q (subst (λ (z : ℕ). b.payload z ≡ Ok q) e held)))))
        (λ (e : o ≡ x → ⊥). g.others o q (done.framed.rest o q held out) e) (cases_eq o x)
