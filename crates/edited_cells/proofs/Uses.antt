-- Which cells does the walk use, in order, key by key? Names told and tests apart, it uses what each key owns.
use Rattle.std.proofs.Common.{◌≡◌, ℕ, zero, suc, ◌&&◌, Bool, true, false, not, cond, eqb, List, [], ◌∷◌, ◌++◌, length, refl, sym, ◌∙◌, ap, subst, inl, inr, Result, Ok, Err}
use Rattle.std.specs.Prelude.{◌==◌, if◌then◌else◌, flat_map}
use Rattle.std.proofs.lemmas.Bool.{eqb-true, eq-eqb}
use Rattle.nt_bytes.specs.declared.fault.HiveFaultKind.{HiveFaultKind}
use Rattle.nt_bytes.specs.declared.fault.HiveFaultKind.TheVariants.{Count}
use Rattle.hive_model.specs.Bins.{Cells}
use Rattle.hive_model.specs.KeyNode.{KeyNode, key_node_at}
use Rattle.hive_model.specs.KeyValue.{KeyValue, key_value_at}
use Rattle.hive_model.specs.Security.{security_at}
use Rattle.hive_model.specs.Lists.{offsets_in}
use Rattle.hive_model.specs.Walk.{Check, uses, tests, reading, nowhere, node_at, entries_at, below_of, use_as, failing, name_check, names_of, class_checks, security_checks, data_checks, value_checks, values_in_turn, values_checks, entries_checks, keys_in_turn, children_checks, below_node, key_checks, clash, clashes, AreUsedOnce}
use Rattle.hive_model.specs.Footprint.{of_read, used_in, child_places, security_cell_at, list_cells_at}
use Rattle.edited_cells.specs.Owned.{In, value_places, value_list_at, class_cell_at}
use Rattle.edited_cells.specs.Sound.{AllSound}
use Rattle.edited_cells.specs.Pairs.{Pairwise}
use Rattle.edited_cells.specs.Revalues.{all_value_cells}
use Rattle.edited_cells.specs.Uses.{Agree, Once, plain, secure, tree_uses}
use Rattle.edited_cells.proofs.Pairs.{pairwise_from, pairwise_to}
use Rattle.edited_cells.proofs.Out.{IsPlain, plain_node, of_node_is, class_plain, value_plain, entries_plain, plain_use, plain_append, plain_read}
use Rattle.edited_cells.proofs.Back.{sound_below}
use Rattle.edited_cells.proofs.Ins.{no_test}

-- ---- uses without tests

-- the offsets that are used, each with whether it is used as security
abbrev pub marks : List Check → List (ℕ × Bool)
marks [] = []
marks (uses at s ∷ cs) = (at, s) ∷ marks cs
marks (tests at k ∷ cs) = marks cs

pub marks_append : (xs ys : List Check) → marks (xs ++ ys) ≡ marks xs ++ marks ys
marks_append [] ys = refl
marks_append (uses at s ∷ xs) ys = ap (λ (l : List (ℕ × Bool)). (at, s) ∷ l) (marks_append xs ys)
marks_append (tests at k ∷ xs) ys = marks_append xs ys

pub mark_to : (cs : List Check) (u : ℕ × Bool) → In (marks cs) u → In cs (uses u.0 u.1)
mark_to [] u h = absurd h
mark_to (uses at s ∷ cs) u (inl e) = inl (ap (λ (v : ℕ × Bool). uses v.0 v.1) e)
mark_to (uses at s ∷ cs) u (inr h) = inr (mark_to cs u h)
mark_to (tests at k ∷ cs) u h = inr (mark_to cs u h)

abbrev pair : ℕ → Bool → ℕ × Bool
pair a b = (a, b)

one_use : (a o : ℕ) (b s : Bool) → uses a b ≡ uses o s → pair a b ≡ pair o s
one_use a o b s e = let at : a ≡ o = cc in let way : b ≡ s = cc in λ i. (at i, way i)

pub mark_from : (cs : List Check) (o : ℕ) (s : Bool) → In cs (uses o s) → In (marks cs) (o, s)
mark_from [] o s h = absurd h
mark_from (uses at b ∷ cs) o s (inl e) = inl (one_use at o b s e)
mark_from (uses at b ∷ cs) o s (inr h) = inr (mark_from cs o s h)
mark_from (tests at k ∷ cs) o s (inl e) = absurd (no_test at o k s e)
mark_from (tests at k ∷ cs) o s (inr h) = mark_from cs o s h

-- two uses that do not clash agree
agree_from : (a b : ℕ) (s k : Bool) → clash b k (uses a s) ≡ false → Agree (a, s) (b, k)
agree_from a b s k e same = go s k (subst (λ (t : Bool). (t && not (k && s)) ≡ false) (eq-eqb b a (sym same)) e)
  where
    go : (s k : Bool) → (true && not (k && s)) ≡ false → (s ≡ true) × (k ≡ true)
    go true true e = (refl, refl)
    go true false e = absurd cc
    go false true e = absurd cc
    go false false e = absurd cc

agree_to : (a b : ℕ) (s k : Bool) → Agree (a, s) (b, k) → clash b k (uses a s) ≡ false
agree_to a b s k agree = go (eqb b a) refl
  where
    go : (t : Bool) → eqb b a ≡ t → (t && not (k && s)) ≡ false
    go false e = refl
    go true e =
        let both = agree (sym (eqb-true b a e)) in
        ap (λ (x : Bool). not (x && s)) both.1 ∙ ap (λ (x : Bool). not (true && x)) both.0

once_marks : (cs : List Check) → Pairwise (λ c d. clashes c d ≡ false) cs → Once (marks cs)
once_marks [] h = tt
once_marks (uses at s ∷ cs) h =
    (λ v i. agree_from at v.0 s v.1 (h.0 (uses v.0 v.1) (mark_to cs v i)), once_marks cs h.1)
once_marks (tests at k ∷ cs) h = once_marks cs h.1

pub once_from : (cs : List Check) → AreUsedOnce cs → Once (marks cs)
once_from cs h = once_marks cs (pairwise_from (λ c d. clashes c d ≡ false) cs h)

marks_once : (cs : List Check) → Once (marks cs) → Pairwise (λ c d. clashes c d ≡ false) cs
marks_once [] h = tt
marks_once (uses at s ∷ cs) h = (λ d i. go d i, marks_once cs h.1)
  where
    go : (d : Check) → In cs d → clashes (uses at s) d ≡ false
    go (uses b k) i = agree_to at b s k (h.0 (b, k) (mark_from cs b k i))
    go (tests b k) i = refl
marks_once (tests at k ∷ cs) h = (λ d i. go d, marks_once cs h)
  where
    go : (d : Check) → clashes (tests at k) d ≡ false
    go (uses b s) = refl
    go (tests b s) = refl

pub once_to : (cs : List Check) → Once (marks cs) → AreUsedOnce cs
once_to cs h = pairwise_to (λ c d. clashes c d ≡ false) cs (marks_once cs h)

-- ---- the walk

marks_plain : (cs : List Check) → IsPlain cs → marks cs ≡ plain (used_in cs)
marks_plain [] p = refl
marks_plain (uses at true ∷ cs) p = absurd (p at (inl refl))
marks_plain (uses at false ∷ cs) p =
    ap (λ (l : List (ℕ × Bool)). (at, false) ∷ l) (marks_plain cs (λ o h. p o (inr h)))
marks_plain (tests at k ∷ cs) p = marks_plain cs (λ o h. p o (inr h))

marks_class : (cells : Cells) (n : KeyNode) (at : ℕ) → reading key_node_at cells at ≡ Ok n
    → marks (class_checks cells n) ≡ plain (class_cell_at cells at)
unfolding class_cell_at
marks_class cells n at read =
    marks_plain (class_checks cells n) (class_plain cells n)
    ∙ ap plain (sym (of_node_is cells at n (λ m. used_in (class_checks cells m)) read))

marks_security : (cells : Cells) (n : KeyNode) (at : ℕ) → reading key_node_at cells at ≡ Ok n
    → marks (security_checks cells n) ≡ secure (security_cell_at cells at)
unfolding security_cell_at security_checks
marks_security cells n at read =
    go (n.security == nowhere) ∙ ap secure (sym (of_node_is cells at n (λ m. used_in (security_checks cells m)) read))
  where
    go : (b : Bool)
        → marks (cond b [] (use_as true security_at cells n.security))
        ≡ secure (used_in (cond b [] (use_as true security_at cells n.security)))
    go true = refl
    go false = refl

used_append : (xs ys : List Check) → used_in (xs ++ ys) ≡ used_in xs ++ used_in ys
used_append [] ys = refl
used_append (uses at s ∷ xs) ys = ap (λ (l : List ℕ). at ∷ l) (used_append xs ys)
used_append (tests at k ∷ xs) ys = used_append xs ys

-- the names told do not matter
told_none : (cells : Cells) (names : List (List ℕ)) (at : ℕ)
    → used_in (value_checks cells names at) ≡ used_in (value_checks cells [] at)
unfolding value_checks
told_none cells names at = ap (λ (l : List ℕ). at ∷ l) (go (reading key_value_at cells at))
  where
    go : (r : Result KeyValue HiveFaultKind)
        → used_in (below_of r (λ value. name_check names at value.name ∷ data_checks cells value))
        ≡ used_in (below_of r (λ value. name_check [] at value.name ∷ data_checks cells value))
    go (Ok v) = refl
    go (Err k) = refl

used_values : (cells : Cells) (names : List (List ℕ)) (offsets : List ℕ)
    → used_in (values_in_turn cells names offsets) ≡ flat_map (λ v. used_in (value_checks cells [] v)) offsets
used_values cells names [] = refl
used_values cells names (at ∷ rest) =
    let more = names ++ names_of (λ (v : KeyValue). v.name) (reading key_value_at cells at) in
    used_append (value_checks cells names at) (values_in_turn cells more rest)
    ∙ ap (λ (l : List ℕ). l ++ used_in (values_in_turn cells more rest)) (told_none cells names at)
    ∙ ap (λ (l : List ℕ). used_in (value_checks cells [] at) ++ l) (used_values cells more rest)

in_turn_plain : (cells : Cells) (names : List (List ℕ)) (offsets : List ℕ)
    → IsPlain (values_in_turn cells names offsets)
in_turn_plain cells names [] o h = h
in_turn_plain cells names (at ∷ rest) o h =
    plain_append (value_checks cells names at)
    (values_in_turn cells (names ++ names_of (λ (v : KeyValue). v.name) (reading key_value_at cells at)) rest)
    (value_plain cells names at)
    (in_turn_plain cells (names ++ names_of (λ (v : KeyValue). v.name) (reading key_value_at cells at)) rest) o h

values_plain : (cells : Cells) (n : KeyNode) → IsPlain (values_checks cells n)
unfolding values_checks
values_plain cells n = go (n.value_count == 0)
  where
    go : (b : Bool)
        → IsPlain (cond b [] (use_as false (offsets_in n.value_count) cells n.value_list
        ++ below_of (reading (offsets_in n.value_count) cells n.value_list) (values_in_turn cells [])))
    go true o h = h
    go false o h =
        plain_append (use_as false (offsets_in n.value_count) cells n.value_list)
        (below_of (reading (offsets_in n.value_count) cells n.value_list) (values_in_turn cells []))
        (plain_use (offsets_in n.value_count) cells n.value_list)
        (plain_read (reading (offsets_in n.value_count) cells n.value_list) (values_in_turn cells [])
        (in_turn_plain cells [])) o h

marks_values : (cells : Cells) (n : KeyNode) (at : ℕ) → reading key_node_at cells at ≡ Ok n
    → marks (values_checks cells n) ≡ plain (all_value_cells cells at)
unfolding values_checks value_list_at value_places
marks_values cells n at read =
    marks_plain (values_checks cells n) (values_plain cells n)
    ∙ ap plain (go (n.value_count == 0)
    ∙ ap (λ (l : List ℕ). l ++ flat_map (λ v. used_in (value_checks cells [] v))
    (cond (n.value_count == 0) [] (of_read (reading (offsets_in n.value_count) cells n.value_list) (λ os. os))))
    (sym (of_node_is cells at n (λ k. if k.value_count == 0 then [] else k.value_list ∷ []) read))
    ∙ ap (λ (l : List ℕ). value_list_at cells at ++ flat_map (λ v. used_in (value_checks cells [] v)) l)
    (sym (of_node_is cells at n
    (λ k. if k.value_count == 0 then [] else of_read (reading (offsets_in k.value_count) cells k.value_list)
    (λ os. os)) read)))
  where
    some : (r : Result (List ℕ) HiveFaultKind)
        → used_in (below_of r (values_in_turn cells []))
        ≡ flat_map (λ v. used_in (value_checks cells [] v)) (of_read r (λ os. os))
    some (Ok offsets) = used_values cells [] offsets
    some (Err k) = refl

    go : (b : Bool)
        → used_in (cond b [] (use_as false (offsets_in n.value_count) cells n.value_list
        ++ below_of (reading (offsets_in n.value_count) cells n.value_list) (values_in_turn cells [])))
        ≡ cond b [] (n.value_list ∷ [])
        ++ flat_map (λ v. used_in (value_checks cells [] v))
        (cond b [] (of_read (reading (offsets_in n.value_count) cells n.value_list) (λ os. os)))
    go true = refl
    go false = ap (λ (l : List ℕ). n.value_list ∷ l) (some (reading (offsets_in n.value_count) cells n.value_list))

marks_keys : (left : ℕ) (checks : List (List ℕ) → ℕ → List Check) (cells : Cells) (names : List (List ℕ))
    (offsets : List ℕ)
    → ((told : List (List ℕ)) (y : ℕ) → In offsets y → marks (checks told y) ≡ tree_uses left cells y)
    → marks (keys_in_turn checks cells names offsets) ≡ flat_map (tree_uses left cells) offsets
marks_keys left checks cells names [] each = refl
marks_keys left checks cells names (at ∷ rest) each =
    let more = names ++ names_of (λ (n : KeyNode). n.name) (reading (node_at false) cells at) in
    marks_append (checks names at) (keys_in_turn checks cells more rest)
    ∙ ap (λ (l : List (ℕ × Bool)). l ++ marks (keys_in_turn checks cells more rest)) (each names at (inl refl))
    ∙ ap (λ (l : List (ℕ × Bool)). tree_uses left cells at ++ l)
    (marks_keys left checks cells more rest (λ told y i. each told y (inr i)))

marks_children : (left : ℕ) (checks : List (List ℕ) → ℕ → List Check) (cells : Cells) (n : KeyNode) (at : ℕ)
    → reading key_node_at cells at ≡ Ok n
    → ((told : List (List ℕ)) (y : ℕ) → In (child_places cells at) y → marks (checks told y) ≡ tree_uses left cells y)
    → marks (children_checks checks cells n at) ≡ plain (list_cells_at cells at)
    ++ flat_map (tree_uses left cells) (child_places cells at)
unfolding children_checks list_cells_at child_places
marks_children left checks cells n at read each =
    go (n.child_count == 0) (λ told y i. each told y (subst (λ (xs : List ℕ). In xs y) (sym places) i))
    ∙ ap (λ (l : List ℕ). plain l
    ++ flat_map (tree_uses left cells)
    (cond (n.child_count == 0) [] (of_read (entries_at cells n.child_list) (λ os. os))))
    (sym (of_node_is cells at n (λ m. if m.child_count == 0 then [] else used_in (entries_checks cells m.child_list))
    read))
    ∙ ap (λ (l : List ℕ). plain (list_cells_at cells at) ++ flat_map (tree_uses left cells) l) (sym places)
  where
    places : child_places cells at ≡ cond (n.child_count == 0) [] (of_read (entries_at cells n.child_list) (λ os. os))
    places =
        of_node_is cells at n (λ m. if m.child_count == 0 then [] else of_read (entries_at cells m.child_list)
        (λ os. os)) read

    some : (r : Result (List ℕ) HiveFaultKind)
        → ((told : List (List ℕ)) (y : ℕ) → In (of_read r (λ os. os)) y
        → marks (checks told y) ≡ tree_uses left cells y)
        → marks (below_of r (λ offsets. tests at (failing (not (length offsets == n.child_count)) Count)
        ∷ keys_in_turn checks cells [] offsets)) ≡ flat_map (tree_uses left cells) (of_read r (λ os. os))
    some (Ok offsets) each = marks_keys left checks cells [] offsets each
    some (Err k) each = refl

    go : (b : Bool)
        → ((told : List (List ℕ)) (y : ℕ) → In (cond b [] (of_read (entries_at cells n.child_list) (λ os. os))) y
        → marks (checks told y) ≡ tree_uses left cells y)
        → marks (cond b [] (entries_checks cells n.child_list
        ++ below_of (entries_at cells n.child_list)
        (λ offsets. tests at (failing (not (length offsets == n.child_count)) Count)
        ∷ keys_in_turn checks cells [] offsets)))
        ≡ plain (cond b [] (used_in (entries_checks cells n.child_list)))
        ++ flat_map (tree_uses left cells) (cond b [] (of_read (entries_at cells n.child_list) (λ os. os)))
    go true each = refl
    go false each =
        marks_append (entries_checks cells n.child_list)
        (below_of (entries_at cells n.child_list)
        (λ offsets. tests at (failing (not (length offsets == n.child_count)) Count)
        ∷ keys_in_turn checks cells [] offsets))
        ∙ ap (λ (l : List (ℕ × Bool)). l
        ++ marks (below_of (entries_at cells n.child_list)
        (λ offsets. tests at (failing (not (length offsets == n.child_count)) Count)
        ∷ keys_in_turn checks cells [] offsets)))
        (marks_plain (entries_checks cells n.child_list) (entries_plain cells n.child_list))
        ∙ ap (λ (l : List (ℕ × Bool)). plain (used_in (entries_checks cells n.child_list)) ++ l)
        (some (entries_at cells n.child_list) each)

append_three : (a b c d e : List (ℕ × Bool)) → a ++ (b ++ (c ++ (d ++ e))) ≡ (a ++ (b ++ (c ++ d))) ++ e
append_three [] [] [] d e = refl
append_three [] [] (x ∷ c) d e = ap (λ (l : List (ℕ × Bool)). x ∷ l) (append_three [] [] c d e)
append_three [] (x ∷ b) c d e = ap (λ (l : List (ℕ × Bool)). x ∷ l) (append_three [] b c d e)
append_three (x ∷ a) b c d e = ap (λ (l : List (ℕ × Bool)). x ∷ l) (append_three a b c d e)

-- the walk from a key uses what it and the keys below it own
pub walk_uses : (fuel : ℕ) (cells : Cells) (root : Bool) (names : List (List ℕ)) (at : ℕ) (n : KeyNode)
    → AllSound cells at → reading (node_at root) cells at ≡ Ok n
    → marks (key_checks fuel cells root names at) ≡ tree_uses fuel cells at
unfolding key_checks
walk_uses zero cells root names at n all read = refl
walk_uses (suc left) cells root names at n all read =
    ap (λ (l : List (ℕ × Bool)). (at, false) ∷ l)
    (ap (λ (r : Result KeyNode HiveFaultKind). marks (below_of r inside)) read
    ∙ marks_append (class_checks cells n)
    (security_checks cells n ++ (values_checks cells n ++ children_checks (key_checks left cells false) cells n at))
    ∙ ap (λ (l : List (ℕ × Bool)). l
    ++ marks (security_checks cells n
    ++ (values_checks cells n ++ children_checks (key_checks left cells false) cells n at)))
    (marks_class cells n at plain_read_here)
    ∙ ap (λ (l : List (ℕ × Bool)). plain (class_cell_at cells at) ++ l)
    (marks_append (security_checks cells n)
    (values_checks cells n ++ children_checks (key_checks left cells false) cells n at)
    ∙ ap (λ (l : List (ℕ × Bool)). l
    ++ marks (values_checks cells n ++ children_checks (key_checks left cells false) cells n at))
    (marks_security cells n at plain_read_here)
    ∙ ap (λ (l : List (ℕ × Bool)). secure (security_cell_at cells at) ++ l)
    (marks_append (values_checks cells n) (children_checks (key_checks left cells false) cells n at)
    ∙ ap (λ (l : List (ℕ × Bool)). l ++ marks (children_checks (key_checks left cells false) cells n at))
    (marks_values cells n at plain_read_here)
    ∙ ap (λ (l : List (ℕ × Bool)). plain (all_value_cells cells at) ++ l)
    (marks_children left (key_checks left cells false) cells n at plain_read_here
    (λ told y i. let c = (all.each [] at refl).child y i in
    walk_uses left cells false told y c.node (sound_below cells at y i all) c.read))))
    ∙ append_three (plain (class_cell_at cells at)) (secure (security_cell_at cells at))
    (plain (all_value_cells cells at)) (plain (list_cells_at cells at))
    (flat_map (tree_uses left cells) (child_places cells at)))
  where
    plain_read_here : reading key_node_at cells at ≡ Ok n
    plain_read_here = plain_node root cells at n read

    inside : KeyNode → List Check
    inside m = name_check names at m.name ∷ below_node (key_checks left cells false) cells m at
