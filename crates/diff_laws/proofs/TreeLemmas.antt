-- With two sets exchanged, the lines on keys and values about the one are those about the other, but for their order.
use Rattle.std.proofs.Common.{◌≡◌, ℕ, Bool, true, false, not, cond, nat_eq, List, [], ◌∷◌, ◌++◌, map, refl, sym, ap, subst, ◌∙◌}
use Rattle.std.specs.Prelude.{Option, Some, None, IsPermutation, bytes_eq, count_by}
use Rattle.std.specs.List.{flat_map}
use Rattle.std.specs.Option.{option_map_or}
use Rattle.std.proofs.lemmas.List.{map-append}
use Rattle.std.proofs.lemmas.List.Sorted.{IsPermutation-append, IsPermutation-append_comm, IsPermutation-refl, IsPermutation-trans}
use Rattle.nt_bytes.specs.Counts.{capped}
use Rattle.nt_bytes.specs.Folding.{folded, folds_same}
use Rattle.hive_model.specs.Tree.{key_count, Head, Item, Tree, Trees, key, none, more, head, children, listed}
use Rattle.hive_model.specs.Valid.{HoldsKeys, AllHoldKeys}
use Rattle.hive_model.proofs.HeldLemmas.{held_key}
use Rattle.start_model.specs.Sets.{set_name, set_of, is_usable}
use Rattle.select_keys.specs.Sets.{usable_set}
use Rattle.reg_tree.proofs.Unlike.{Each, Unlike, unlike_from}
use Rattle.answer_lines.specs.declared.diff_lines.lines.DiffLine.{DiffLine}
use Rattle.answer_lines.specs.declared.diff_lines.lines.DiffLine.TheVariants.{KeyDiffers, KeyOnly, ValueDiffers, ValueOnly, Stamps, Flags}
use Rattle.answer_lines.specs.declared.diff_lines.lines.KeyField.{KeyField}
use Rattle.answer_lines.specs.declared.diff_lines.lines.KeyField.TheVariants.{Name, Class, Security, Values, Keys}
use Rattle.answer_lines.specs.declared.diff_lines.lines.Side.{Side}
use Rattle.answer_lines.specs.declared.diff_lines.lines.Side.TheVariants.{First, Second}
use Rattle.set_diff.specs.Listed.{lacks, shared}
use Rattle.set_diff.specs.Sets.{sets_lines, closed}
use Rattle.set_diff.specs.Shown.{names_same}
use Rattle.tree_diff.specs.declared.whole.Marks.{Marks}
use Rattle.tree_diff.specs.Heads.{item_names, key_names, item_named, tree_named, field_lines, name_lines, order_lines, heads_lines, same_item, data_line, item_lines, paired_items, lone_item, lone_items, items_lines, lone_key, lone_keys, both_lone_keys, orders_lines, content_lines, own_lines}
use Rattle.tree_diff.specs.Trees.{key_lines, keys_lines, key_marks, stamps_lines, flags_lines, marks_lines, trees_lines}
use Rattle.set_commands.specs.diff_command.Compared.{both_trees, found_lines}
use Rattle.diff_laws.proofs.FoldLemmas.{one_folded}
use Rattle.diff_laws.specs.turned_laws.Turned.{data_lines, lines_about, other, turned, above_folded, plain, AllSidesTurn}
use Rattle.diff_laws.proofs.AboutLemmas.{Silent, about_append, next_both, silent_both, silent_none, silent_each, silent_pair}
use Rattle.diff_laws.proofs.SetLemmas.{sets_turn, closed_about}
use Rattle.diff_laws.proofs.TurnedLawsPairLemmas.{found_by, named_find, OnFound, found_is, pairs_in, pairs_none, pairs_more}

-- the lines about a set as they are compared, and those about the other one turned
abbrev here : Side → List DiffLine → List (List DiffLine)
here side lines = map (map plain) (lines_about side lines)

abbrev there : Side → List DiffLine → List (List DiffLine)
there side lines = map (map (λ line. plain (turned line))) (lines_about (other side) lines)

-- the lines about one set among the first are those about the other one among the second, in some order
record Moves (side : Side) (xs ys : List DiffLine) : Type 0 where
  next : data_lines xs ≡ []
  next_other : data_lines ys ≡ []
  moved : IsPermutation (here side xs) (there side ys)

here_append : (side : Side) (xs ys : List DiffLine) → data_lines ys ≡ [] → here side (xs ++ ys) ≡ here side xs ++ here side ys
here_append side xs ys e =
    ap (map (map plain)) (about_append side xs ys e) ∙ map-append (map plain) (lines_about side xs) (lines_about side ys)

there_append : (side : Side) (xs ys : List DiffLine) → data_lines ys ≡ [] → there side (xs ++ ys) ≡ there side xs ++ there side ys
there_append side xs ys e =
    ap (map (map (λ line. plain (turned line)))) (about_append (other side) xs ys e)
    ∙ map-append (map (λ line. plain (turned line))) (lines_about (other side) xs) (lines_about (other side) ys)

moves_same : (side : Side) (xs ys : List DiffLine) → data_lines xs ≡ [] → data_lines ys ≡ [] → here side xs ≡ there side ys → Moves side xs ys
moves_same side xs ys e f same =
    record { next = e; next_other = f; moved = subst (IsPermutation (here side xs)) same (IsPermutation-refl (here side xs)) }

moves_silent : (side : Side) (xs ys : List DiffLine) → Silent side xs → Silent (other side) ys → Moves side xs ys
moves_silent side xs ys p q =
    moves_same side xs ys p.next q.next
    (ap (map (map plain)) p.about ∙ ap (map (map (λ line. plain (turned line)))) (sym q.about))

moves_both : (side : Side) (xs ys us vs : List DiffLine) → Moves side xs ys → Moves side us vs → Moves side (xs ++ us) (ys ++ vs)
moves_both side xs ys us vs p q = record {
  next = next_both xs us p.next q.next;
  next_other = next_both ys vs p.next_other q.next_other;
  moved =
      subst (λ (l : List (List DiffLine)). IsPermutation l (there side (ys ++ vs))) (sym (here_append side xs us q.next))
      (subst (IsPermutation (here side xs ++ here side us)) (sym (there_append side ys vs q.next_other))
      (IsPermutation-append (here side xs) (there side ys) (here side us) (there side vs) p.moved q.moved));
}

-- the first half is in the other's second one
moves_cross : (side : Side) (xs ys us vs : List DiffLine) → Moves side xs vs → Moves side us ys → Moves side (xs ++ us) (ys ++ vs)
moves_cross side xs ys us vs p q = record {
  next = next_both xs us p.next q.next;
  next_other = next_both ys vs q.next_other p.next_other;
  moved =
      subst (λ (l : List (List DiffLine)). IsPermutation l (there side (ys ++ vs))) (sym (here_append side xs us q.next))
      (subst (IsPermutation (here side xs ++ here side us)) (sym (there_append side ys vs p.next_other))
      (IsPermutation-trans (here side xs ++ here side us) (there side vs ++ there side ys) (there side ys ++ there side vs)
      (IsPermutation-append (here side xs) (there side vs) (here side us) (there side ys) p.moved q.moved)
      (IsPermutation-append_comm (there side vs) (there side ys))));
}

moves_each : {X : Type 0} (side : Side) (f g : X → List DiffLine) (xs : List X) → ((x : X) → Moves side (f x) (g x))
    → Moves side (flat_map f xs) (flat_map g xs)
moves_each side f g [] each = moves_same side [] [] refl refl refl
moves_each side f g (x ∷ xs) each = moves_both side (f x) (g x) (flat_map f xs) (flat_map g xs) (each x) (moves_each side f g xs each)

-- ---- a value, or a child, of one key alone

item_moves : (side s : Side) (path route others : List (List ℕ)) (v : Item) → map folded path ≡ map folded route
    → Moves side (lone_item s path others v) (lone_item (other s) route others v)
item_moves side s path route others v e = by (lacks others v.name) side s
  where
    by : (b : Bool) (side s : Side)
        → Moves side (cond b (ValueOnly s v.name path ∷ data_line s v ∷ []) [])
        (cond b (ValueOnly (other s) v.name route ∷ data_line (other s) v ∷ []) [])
    by false side s = moves_same side [] [] refl refl refl
    by true First First =
        moves_same First (ValueOnly First v.name path ∷ data_line First v ∷ []) (ValueOnly Second v.name route ∷ data_line Second v ∷ []) refl refl
        (λ i. (ValueOnly First v.name (e i) ∷ data_line First v ∷ []) ∷ [])
    by true Second Second =
        moves_same Second (ValueOnly Second v.name path ∷ data_line Second v ∷ []) (ValueOnly First v.name route ∷ data_line First v ∷ []) refl refl
        (λ i. (ValueOnly Second v.name (e i) ∷ data_line Second v ∷ []) ∷ [])
    by true First Second =
        moves_same First (ValueOnly Second v.name path ∷ data_line Second v ∷ []) (ValueOnly First v.name route ∷ data_line First v ∷ []) refl refl
        refl
    by true Second First =
        moves_same Second (ValueOnly First v.name path ∷ data_line First v ∷ []) (ValueOnly Second v.name route ∷ data_line Second v ∷ []) refl refl
        refl

last_kept : (path : List (List ℕ)) (name : List ℕ) → above_folded (path ++ name ∷ []) ≡ map folded path ++ name ∷ []
last_kept [] name = refl
last_kept (n ∷ []) name = refl
last_kept (n ∷ m ∷ ns) name = ap (λ (path : List (List ℕ)). folded n ∷ path) (last_kept (m ∷ ns) name)

lone_key_moves : (side s : Side) (path route others : List (List ℕ)) (t : Tree) → map folded path ≡ map folded route
    → Moves side (lone_key s path others t) (lone_key (other s) route others t)
lone_key_moves side s path route others t e = by (lacks others (head t).name) side s
  where
    keys : ℕ
    keys = capped (key_count t)

    at : List (List ℕ)
    at = path ++ (head t).name ∷ []

    ends : List (List ℕ)
    ends = route ++ (head t).name ∷ []

    same : above_folded at ≡ above_folded ends
    same =
        last_kept path (head t).name ∙ ap (λ (p : List (List ℕ)). p ++ (head t).name ∷ []) e ∙ sym (last_kept route (head t).name)

    by : (b : Bool) (side s : Side) → Moves side (cond b (KeyOnly s keys at ∷ []) []) (cond b (KeyOnly (other s) keys ends ∷ []) [])
    by false side s = moves_same side [] [] refl refl refl
    by true First First =
        moves_same First (KeyOnly First keys at ∷ []) (KeyOnly Second keys ends ∷ []) refl refl (λ i. (KeyOnly First keys (same i) ∷ []) ∷ [])
    by true Second Second =
        moves_same Second (KeyOnly Second keys at ∷ []) (KeyOnly First keys ends ∷ []) refl refl (λ i. (KeyOnly Second keys (same i) ∷ []) ∷ [])
    by true First Second = moves_same First (KeyOnly Second keys at ∷ []) (KeyOnly First keys ends ∷ []) refl refl refl
    by true Second First = moves_same Second (KeyOnly First keys at ∷ []) (KeyOnly Second keys ends ∷ []) refl refl refl

-- ---- lines about both keys

one_silent : (side : Side) (field : KeyField) (path : List (List ℕ)) (b : Bool) → Silent side (cond b (KeyDiffers field path ∷ []) [])
one_silent side field path true = record { next = refl; about = refl }
one_silent side field path false = silent_none side

name_silent : (side : Side) (top : Bool) (path : List (List ℕ)) (a b : List ℕ) → Silent side (name_lines top path a b)
name_silent side true path a b = silent_none side
name_silent side false path a b = one_silent side Name path (not (bytes_eq a b))

heads_silent : (side : Side) (top : Bool) (path : List (List ℕ)) (h k : Head) → Silent side (heads_lines top path h k)
heads_silent side top path h k =
    silent_both side (name_lines top path h.name k.name ++ field_lines Class path h.class k.class)
    (field_lines Security path h.security k.security)
    (silent_both side (name_lines top path h.name k.name) (field_lines Class path h.class k.class) (name_silent side top path h.name k.name)
    (one_silent side Class path (not (bytes_eq h.class k.class)))) (one_silent side Security path (not (bytes_eq h.security k.security)))

orders_silent : (side : Side) (path ns ms ks ls : List (List ℕ)) → Silent side (orders_lines path ns ms ks ls)
orders_silent side path ns ms ks ls =
    silent_both side (order_lines Values path ns ms) (order_lines Keys path ks ls)
    (one_silent side Values path (not (names_same (shared ns ms) (shared ms ns))))
    (one_silent side Keys path (not (names_same (shared ks ls) (shared ls ks))))

items_silent : (side : Side) (path : List (List ℕ)) (us vs : List Item) → Silent side (flat_map (paired_items path us) vs)
items_silent side path us vs =
    silent_each side (paired_items path us) vs (λ v. silent_pair side (item_lines path v) (item_named us v.name) (λ u. by v u (same_item v u)))
  where
    by : (v u : Item) (b : Bool) → Silent side (cond b [] (ValueDiffers v.name path ∷ data_line First v ∷ data_line Second u ∷ []))
    by v u true = silent_none side
    by v u false = record { next = refl; about = refl }

-- ---- two keys

items_move : (side : Side) (path route : List (List ℕ)) (vs us : List Item) → map folded path ≡ map folded route
    → Moves side (items_lines path vs us) (items_lines route us vs)
items_move side path route vs us e =
    let ns : List (List ℕ) = item_names vs in
    let ms : List (List ℕ) = item_names us in
    let both : List DiffLine = flat_map (paired_items path us) vs in
    let back : List DiffLine = flat_map (paired_items route vs) us in
    let first : Moves side (lone_items First path vs ms) (lone_items Second route vs ms) =
    moves_each side (lone_item First path ms) (lone_item Second route ms) vs (λ v. item_moves side First path route ms v e) in
    let second : Moves side (lone_items Second path us ns) (lone_items First route us ns) =
    moves_each side (lone_item Second path ns) (lone_item First route ns) us (λ v. item_moves side Second path route ns v e) in
    moves_cross side (both ++ lone_items First path vs ms) (back ++ lone_items First route us ns) (lone_items Second path us ns)
    (lone_items Second route vs ms)
    (moves_both side both [] (lone_items First path vs ms) (lone_items Second route vs ms)
    (moves_silent side both [] (items_silent side path us vs) (silent_none (other side))) first)
    (moves_both side [] back (lone_items Second path us ns) (lone_items First route us ns)
    (moves_silent side [] back (silent_none side) (items_silent (other side) route vs us)) second)

own_moves : (side : Side) (top : Bool) (path route : List (List ℕ)) (h k : Head) (ts us : List Tree) → map folded path ≡ map folded route
    → Moves side (own_lines top path h ts k us) (own_lines top route k us h ts)
own_moves side top path route h k ts us e =
    let ns : List (List ℕ) = item_names h.values in
    let ms : List (List ℕ) = item_names k.values in
    let orders : List DiffLine = orders_lines path ns ms (key_names ts) (key_names us) in
    let turns : List DiffLine = orders_lines route ms ns (key_names us) (key_names ts) in
    moves_both side (heads_lines top path h k) (heads_lines top route k h) (content_lines path h.values k.values ts us)
    (content_lines route k.values h.values us ts)
    (moves_silent side (heads_lines top path h k) (heads_lines top route k h) (heads_silent side top path h k)
    (heads_silent (other side) top route k h))
    (moves_both side orders turns (items_lines path h.values k.values) (items_lines route k.values h.values)
    (moves_silent side orders turns (orders_silent side path ns ms (key_names ts) (key_names us))
    (orders_silent (other side) route ms ns (key_names us) (key_names ts)))
    (items_move side path route h.values k.values e))

lone_keys_move : (side : Side) (path route : List (List ℕ)) (ts us : List Tree) → map folded path ≡ map folded route
    → Moves side (both_lone_keys path ts us) (both_lone_keys route us ts)
lone_keys_move side path route ts us e =
    let ns : List (List ℕ) = key_names ts in
    let ms : List (List ℕ) = key_names us in
    moves_cross side (lone_keys First path ts ms) (lone_keys First route us ns) (lone_keys Second path us ns) (lone_keys Second route ts ms)
    (moves_each side (lone_key First path ms) (lone_key Second route ms) ts (λ t. lone_key_moves side First path route ms t e))
    (moves_each side (lone_key Second path ns) (lone_key First route ns) us (λ t. lone_key_moves side Second path route ns t e))

-- ---- the walk

abbrev key_name : Tree → List ℕ
key_name t = (head t).name

pair_next : (f : Tree → List DiffLine) (o : Option Tree) → ((u : Tree) → data_lines (f u) ≡ []) → data_lines (option_map_or f o []) ≡ []
pair_next f None each = refl
pair_next f (Some u) each = each u

mutual
  key_next : (top : Bool) (path : List (List ℕ)) (t u : Tree) → data_lines (key_lines top path t u) ≡ []
  key_next top path (key h ts) u =
      let own : List DiffLine = own_lines top path h (listed ts) (head u) (children u) in
      let below : List DiffLine = keys_lines path (children u) ts in
      next_both (own ++ below) (both_lone_keys path (listed ts) (children u))
      (next_both own below (own_moves First top path path h (head u) (listed ts) (children u) refl).next (keys_next path (children u) ts))
      (lone_keys_move First path path (listed ts) (children u) refl).next

  keys_next : (path : List (List ℕ)) (others : List Tree) (ts : Trees) → data_lines (keys_lines path others ts) ≡ []
  keys_next path others none = refl
  keys_next path others (more t ts) =
      let at : List (List ℕ) = path ++ key_name t ∷ [] in
      next_both (option_map_or (key_lines false at t) (tree_named others (key_name t)) []) (keys_lines path others ts)
      (pair_next (key_lines false at t) (tree_named others (key_name t)) (key_next false at t)) (keys_next path others ts)

-- what there is of a pair of children
abbrev pair_here : Side → List (List ℕ) → Tree → Tree → List (List DiffLine)
pair_here side path t u = here side (key_lines false (path ++ key_name t ∷ []) t u)

abbrev pair_there : Side → List (List ℕ) → Tree → Tree → List (List DiffLine)
pair_there side path t u = there side (key_lines false (path ++ key_name t ∷ []) t u)

here_pair : (side : Side) (f : Tree → List DiffLine) (o : Option Tree)
    → here side (option_map_or f o []) ≡ option_map_or (λ u. here side (f u)) o []
here_pair side f None = refl
here_pair side f (Some u) = refl

there_pair : (side : Side) (f : Tree → List DiffLine) (o : Option Tree)
    → there side (option_map_or f o []) ≡ option_map_or (λ u. there side (f u)) o []
there_pair side f None = refl
there_pair side f (Some u) = refl

here_keys : (side : Side) (path : List (List ℕ)) (others : List Tree) (ts : Trees)
    → here side (keys_lines path others ts) ≡ pairs_in key_name (pair_here side path) others (listed ts)
here_keys side path others none = refl
here_keys side path others (more t ts) =
    let f : Tree → List DiffLine = key_lines false (path ++ key_name t ∷ []) t in
    here_append side (option_map_or f (tree_named others (key_name t)) []) (keys_lines path others ts) (keys_next path others ts)
    ∙ (λ i. here_pair side f (named_find key_name others (key_name t) i) i ++ here_keys side path others ts i)

there_keys : (side : Side) (path : List (List ℕ)) (others : List Tree) (ts : Trees)
    → there side (keys_lines path others ts) ≡ pairs_in key_name (pair_there side path) others (listed ts)
there_keys side path others none = refl
there_keys side path others (more t ts) =
    let f : Tree → List DiffLine = key_lines false (path ++ key_name t ∷ []) t in
    there_append side (option_map_or f (tree_named others (key_name t)) []) (keys_lines path others ts) (keys_next path others ts)
    ∙ (λ i. there_pair side f (named_find key_name others (key_name t) i) i ++ there_keys side path others ts i)

one_moves : (f g : Tree → List (List DiffLine)) (p : Tree → Bool) (o : Option Tree) → OnFound HoldsKeys p o
    → ((u : Tree) → HoldsKeys u → p u ≡ true → IsPermutation (f u) (g u)) → IsPermutation (option_map_or f o []) (option_map_or g o [])
one_moves f g p None found each = IsPermutation-refl []
one_moves f g p (Some u) found each = each u found.0 found.1

paths_alike : (path route : List (List ℕ)) (n m : List ℕ) → map folded path ≡ map folded route → folds_same n m ≡ true
    → map folded (path ++ n ∷ []) ≡ map folded (route ++ m ∷ [])
paths_alike path route n m e same =
    map-append folded path (n ∷ []) ∙ (λ i. e i ++ one_folded n m same i ∷ []) ∙ sym (map-append folded route (m ∷ []))

each_held : (ts : Trees) → AllHoldKeys ts → Each HoldsKeys (listed ts)
each_held none holds = tt
each_held (more t ts) holds = (holds.0, each_held ts holds.1)

mutual
  key_moves : (side : Side) (top : Bool) (path route : List (List ℕ)) → map folded path ≡ map folded route → (t u : Tree) → HoldsKeys t → HoldsKeys u
      → Moves side (key_lines top path t u) (key_lines top route u t)
  key_moves side top path route e (key h ts) (key k us) holds held =
      let own : List DiffLine = own_lines top path h (listed ts) k (listed us) in
      let its : List DiffLine = own_lines top route k (listed us) h (listed ts) in
      let below : List DiffLine = keys_lines path (listed us) ts in
      let under : List DiffLine = keys_lines route (listed ts) us in
      let walked = keys_move side path route e ts (listed us) (unlike_from key_name (listed ts) holds.0.keys_differ)
      (unlike_from key_name (listed us) held.0.keys_differ) holds.1 (each_held us held.1) in
      moves_both side (own ++ below) (its ++ under) (both_lone_keys path (listed ts) (listed us)) (both_lone_keys route (listed us) (listed ts))
      (moves_both side own its below under (own_moves side top path route h k (listed ts) (listed us) e)
      (record {
        next = keys_next path (listed us) ts;
        next_other = keys_next route (listed ts) us;
        moved =
            subst (λ (l : List (List DiffLine)). IsPermutation l (there side under)) (sym (here_keys side path (listed us) ts))
            (subst (IsPermutation (pairs_in key_name (pair_here side path) (listed us) (listed ts))) (sym (there_keys side route (listed ts) us)) walked);
      }))
      (lone_keys_move side path route (listed ts) (listed us) e)

  keys_move : (side : Side) (path route : List (List ℕ)) → map folded path ≡ map folded route → (ts : Trees) (us : List Tree)
      → Unlike key_name (listed ts) → Unlike key_name us → AllHoldKeys ts → Each HoldsKeys us
      → IsPermutation (pairs_in key_name (pair_here side path) us (listed ts)) (pairs_in key_name (pair_there side route) (listed ts) us)
  keys_move side path route e none us apart parted holds held =
      subst (IsPermutation []) (sym (pairs_none key_name (pair_there side route) us)) (IsPermutation-refl [])
  keys_move side path route e (more t ts) us apart parted holds held =
      pairs_more key_name (pair_here side path) (pair_there side route) t (listed ts) us apart.0 parted
      (one_moves (pair_here side path t) (λ u. pair_there side route u t) (λ u. folds_same (key_name t) (key_name u))
      (found_by key_name us (key_name t)) (found_is HoldsKeys (λ u. folds_same (key_name t) (key_name u)) us held)
      (λ u is same. (key_moves side false (path ++ key_name t ∷ []) (route ++ key_name u ∷ [])
      (paths_alike path route (key_name t) (key_name u) e same) t u holds.0 is).moved))
      (keys_move side path route e ts us apart.1 parted holds.1 held)

-- ---- two trees

marks_silent : (side : Side) (marks : List Marks) → Silent side (marks_lines marks)
marks_silent side marks =
    let stamps : ℕ = count_by (λ m. m.stamp) marks in
    let flags : ℕ = count_by (λ m. m.flags) marks in
    silent_both side (stamps_lines stamps) (flags_lines flags) (on_stamps stamps (nat_eq stamps 0)) (on_flags flags (nat_eq flags 0))
  where
    on_stamps : (count : ℕ) (b : Bool) → Silent side (cond b [] (Stamps count ∷ []))
    on_stamps count true = silent_none side
    on_stamps count false = record { next = refl; about = refl }

    on_flags : (count : ℕ) (b : Bool) → Silent side (cond b [] (Flags count ∷ []))
    on_flags count true = silent_none side
    on_flags count false = record { next = refl; about = refl }

trees_move : (side : Side) (a b : Tree) → HoldsKeys a → HoldsKeys b → Moves side (trees_lines a b) (trees_lines b a)
unfolding trees_lines
trees_move side a b holds held =
    moves_both side (key_lines true [] a b) (key_lines true [] b a) (marks_lines (key_marks a b)) (marks_lines (key_marks b a))
    (key_moves side true [] [] refl a b holds held)
    (moves_silent side (marks_lines (key_marks a b)) (marks_lines (key_marks b a)) (marks_silent side (key_marks a b))
    (marks_silent (other side) (key_marks b a)))

-- a set that is there is one that a hive can hold
abbrev pub Held : Option Tree → Type 0
Held None = Unit {0}
Held (Some t) = HoldsKeys t

pub held_set : (t : Tree) (n : ℕ) → HoldsKeys t → Held (usable_set t n)
held_set t n holds = by (is_usable t n) (set_of t n) refl
  where
    by : (b : Bool) (o : Option Tree) → set_of t n ≡ o → Held (cond b o None)
    by true None is = tt
    by true (Some k) is = held_key (set_name n ∷ []) t k holds is
    by false o is = tt

both_move : (side : Side) (o p : Option Tree) → Held o → Held p → Moves side (both_trees o p) (both_trees p o)
both_move side None None holds held = moves_same side [] [] refl refl refl
both_move side None (Some b) holds held = moves_same side [] [] refl refl refl
both_move side (Some a) None holds held = moves_same side [] [] refl refl refl
both_move side (Some a) (Some b) holds held = trees_move side a b holds held

-- ---- the whole

turned_line : (lines : List DiffLine) → map plain (map turned lines) ≡ map (λ line. plain (turned line)) lines
turned_line [] = refl
turned_line (line ∷ lines) = ap (λ (rest : List DiffLine). plain (turned line) ∷ rest) (turned_line lines)

turned_blocks : (blocks : List (List DiffLine)) → map (map plain) (map (map turned) blocks) ≡ map (map (λ line. plain (turned line))) blocks
turned_blocks [] = refl
turned_blocks (block ∷ blocks) = λ i. turned_line block i ∷ turned_blocks blocks i

pub all_sides_turn : AllSidesTurn
all_sides_turn a n b m holds held side =
    let o : Option Tree = usable_set a n in
    let p : Option Tree = usable_set b m in
    let sets = sets_turn side n m o p in
    let all = moves_both side (sets_lines n o m p) (sets_lines m p n o) (both_trees o p) (both_trees p o)
    (moves_same side (sets_lines n o m p) (sets_lines m p n o) sets.next sets.next_other
    (ap (map (map plain)) sets.same ∙ turned_blocks (lines_about (other side) (sets_lines m p n o))))
    (both_move side o p (held_set a n holds) (held_set b m held)) in
    subst (λ (l : List (List DiffLine)). IsPermutation (map (map plain) l)
    (map (map (λ line. plain (turned line))) (lines_about (other side) (closed (found_lines true b m a n)))))
    (sym (closed_about side (found_lines true a n b m)))
    (subst (λ (l : List (List DiffLine)). IsPermutation (here side (found_lines true a n b m)) (map (map (λ line. plain (turned line))) l))
    (sym (closed_about (other side) (found_lines true b m a n))) all.moved)
