-- The trees of two sets have no line exactly where they are equal but for the names of the sets' own keys.
use Rattle.std.proofs.Common.{◌≡◌, ℕ, Bool, true, false, not, ◌&&◌, cond, nat_eq, List, [], ◌∷◌, ◌++◌, map, refl, sym, ap, ◌∙◌}
use Rattle.std.specs.Prelude.{Option, bytes_eq, count_by}
use Rattle.std.specs.List.{list_all, flat_map}
use Rattle.std.specs.Option.{option_map_or}
use Rattle.std.proofs.lemmas.Bool.{false≢true, and_parts, eqb-true}
use Rattle.std.proofs.lemmas.Slice.Eq.{bytes_eq-Decides}
use Rattle.nt_bytes.specs.Counts.{capped}
use Rattle.hive_model.specs.Tree.{key_count, Head, Item, Tree, Trees, key, none, more, head, listed}
use Rattle.hive_model.specs.Edit.{renamed}
use Rattle.hive_model.specs.Valid.{HoldsKeys, AllHoldKeys}
use Rattle.reg_tree.proofs.Unlike.{Unlike, unlike_from}
use Rattle.answer_lines.specs.declared.diff_lines.lines.DiffLine.{DiffLine}
use Rattle.answer_lines.specs.declared.diff_lines.lines.DiffLine.TheVariants.{KeyDiffers, KeyOnly, ValueDiffers, ValueOnly, Stamps, Flags}
use Rattle.answer_lines.specs.declared.diff_lines.lines.KeyField.{KeyField}
use Rattle.answer_lines.specs.declared.diff_lines.lines.KeyField.TheVariants.{Name, Class, Security, Values, Keys}
use Rattle.answer_lines.specs.declared.diff_lines.lines.Side.{Side}
use Rattle.answer_lines.specs.declared.diff_lines.lines.Side.TheVariants.{First, Second}
use Rattle.set_diff.specs.Listed.{has, shared}
use Rattle.set_diff.specs.Shown.{line_when, names_same}
use Rattle.tree_diff.specs.declared.whole.Marks.{Marks}
use Rattle.tree_diff.specs.Heads.{item_names, key_names, item_named, tree_named, field_lines, name_lines, order_lines, heads_lines, same_item, data_line, item_lines, paired_items, lone_item, lone_items, items_lines, lone_key, lone_keys, both_lone_keys, orders_lines, content_lines, own_lines}
use Rattle.tree_diff.specs.Trees.{key_lines, keys_lines, marks_of, key_marks, keys_marks, stamps_lines, flags_lines, marks_lines, trees_lines}
use Rattle.diff_laws.specs.diff_laws.Laws.{is_none, has_all}
use Rattle.diff_laws.proofs.AgreeLemmas.{and_of}
use Rattle.diff_laws.proofs.NoneLemmas.{none_append, none_when, none_flat, all_map, not_not}
use Rattle.diff_laws.proofs.OwnTrees.{own_tree}
use Rattle.diff_laws.specs.tree_laws.Laws.{AreEqualButForName, NoLineWhereEqual}
use Rattle.diff_laws.proofs.CountLemmas.{uncounted, all_parts}
use Rattle.diff_laws.proofs.TreeLawsPairLemmas.{Paired, all_paired, same_by_shared}

-- ---- the parts of no line

two_none : (xs ys : List DiffLine) → is_none (xs ++ ys) ≡ true → (is_none xs ≡ true) × (is_none ys ≡ true)
two_none xs ys quiet = and_parts (is_none xs) (is_none ys) (sym (none_append xs ys) ∙ quiet)

three_none : (xs ys zs : List DiffLine) → is_none (xs ++ ys ++ zs) ≡ true
    → (is_none xs ≡ true) × (is_none ys ≡ true) × (is_none zs ≡ true)
three_none xs ys zs quiet =
    let last = two_none (xs ++ ys) zs quiet in
    let both = two_none xs ys last.0 in
    (both.0, both.1, last.1)

when_none : (b : Bool) (line : DiffLine) → is_none (line_when (not b) line) ≡ true → b ≡ true
when_none b line quiet = sym (not_not b) ∙ sym (none_when (not b) line) ∙ quiet

unless_none : (b : Bool) (line : DiffLine) (lines : List DiffLine) → is_none (cond b [] (line ∷ lines)) ≡ true → b ≡ true
unless_none true line lines quiet = refl
unless_none false line lines quiet = absurd (false≢true quiet)

lone_is : (b : Bool) (line : DiffLine) (lines : List DiffLine) → is_none (cond (not b) (line ∷ lines) []) ≡ b
lone_is true line lines = refl
lone_is false line lines = refl

field_equal : (field : KeyField) (path : List (List ℕ)) (a b : List ℕ) → is_none (field_lines field path a b) ≡ true → a ≡ b
field_equal field path a b quiet = (bytes_eq-Decides a b).0 (when_none (bytes_eq a b) (KeyDiffers field path) quiet)

order_same : (field : KeyField) (path ns ms : List (List ℕ)) → is_none (order_lines field path ns ms) ≡ true
    → names_same (shared ns ms) (shared ms ns) ≡ true
order_same field path ns ms quiet = when_none (names_same (shared ns ms) (shared ms ns)) (KeyDiffers field path) quiet

-- where no item has a line of its own, the others have all of their names
all_had : {X : Type 0} (name : X → List ℕ) (f : X → List DiffLine) (others : List (List ℕ)) (xs : List X)
    → ((x : X) → is_none (f x) ≡ has others (name x)) → is_none (flat_map f xs) ≡ true → has_all (map name xs) others ≡ true
all_had name f others xs each quiet =
    sym (all_map name (has others) xs) ∙ sym (none_flat f (λ x. has others (name x)) xs each) ∙ quiet

-- ---- values

values_had : (side : Side) (path : List (List ℕ)) (vs : List Item) (others : List (List ℕ)) → is_none (lone_items side path vs others) ≡ true
    → has_all (item_names vs) others ≡ true
values_had side path vs others quiet =
    all_had (λ (v : Item). v.name) (lone_item side path others) others vs
    (λ v. lone_is (has others v.name) (ValueOnly side v.name path) (data_line side v ∷ [])) quiet

item_equal : (path : List (List ℕ)) (v u : Item) → is_none (item_lines path v u) ≡ true → v ≡ u
item_equal path v u quiet =
    let same = unless_none (same_item v u) (ValueDiffers v.name path) (data_line First v ∷ data_line Second u ∷ []) quiet in
    let all = and_parts (nat_eq v.kind u.kind && bytes_eq v.name u.name) (bytes_eq v.bytes u.bytes) same in
    let both = and_parts (nat_eq v.kind u.kind) (bytes_eq v.name u.name) all.0 in
    let name : v.name ≡ u.name = (bytes_eq-Decides v.name u.name).0 both.1 in
    let kind : v.kind ≡ u.kind = eqb-true v.kind u.kind both.0 in
    let bytes : v.bytes ≡ u.bytes = (bytes_eq-Decides v.bytes u.bytes).0 all.1 in
    λ i. record { name = name i; kind = kind i; bytes = bytes i }

pairs_equal : (path : List (List ℕ)) (others vs us : List Item) → Paired (item_named others) (λ (v : Item). v.name) vs us
    → is_none (flat_map (paired_items path others) vs) ≡ true → vs ≡ us
pairs_equal path others [] [] paired quiet = refl
pairs_equal path others [] (u ∷ us) paired quiet = absurd paired
pairs_equal path others (v ∷ vs) [] paired quiet = absurd paired
pairs_equal path others (v ∷ vs) (u ∷ us) paired quiet =
    let lines = two_none (paired_items path others v) (flat_map (paired_items path others) vs) quiet in
    let first : v ≡ u = item_equal path v u
    (sym (ap (λ (o : Option Item). is_none (option_map_or (item_lines path v) o [])) paired.0) ∙ lines.0) in
    let rest : vs ≡ us = pairs_equal path others vs us paired.1 lines.1 in
    λ i. first i ∷ rest i

values_equal : (path : List (List ℕ)) (vs us : List Item) → Unlike (λ (v : Item). v.name) vs
    → is_none (order_lines Values path (item_names vs) (item_names us)) ≡ true → is_none (items_lines path vs us) ≡ true → vs ≡ us
values_equal path vs us apart order quiet =
    let ns : List (List ℕ) = item_names vs in
    let ms : List (List ℕ) = item_names us in
    let lines = three_none (flat_map (paired_items path us) vs) (lone_items First path vs ms) (lone_items Second path us ns) quiet in
    let same = same_by_shared ns ms (values_had First path vs ms lines.1) (values_had Second path us ns lines.2)
    (order_same Values path ns ms order) in
    pairs_equal path us vs us (all_paired (λ (v : Item). v.name) vs us apart same) lines.0

-- ---- children

keys_had : (side : Side) (path : List (List ℕ)) (ts : List Tree) (others : List (List ℕ)) → is_none (lone_keys side path ts others) ≡ true
    → has_all (key_names ts) others ≡ true
keys_had side path ts others quiet =
    all_had (λ t. (head t).name) (lone_key side path others) others ts
    (λ t. lone_is (has others (head t).name) (KeyOnly side (capped (key_count t)) (path ++ (head t).name ∷ [])) []) quiet

keys_paired : (path : List (List ℕ)) (ts us : List Tree) → Unlike (λ t. (head t).name) ts
    → is_none (order_lines Keys path (key_names ts) (key_names us)) ≡ true → is_none (both_lone_keys path ts us) ≡ true
    → Paired (tree_named us) (λ t. (head t).name) ts us
keys_paired path ts us apart order quiet =
    let ns : List (List ℕ) = key_names ts in
    let ms : List (List ℕ) = key_names us in
    let lines = two_none (lone_keys First path ts ms) (lone_keys Second path us ns) quiet in
    all_paired (λ t. (head t).name) ts us apart
    (same_by_shared ns ms (keys_had First path ts ms lines.0) (keys_had Second path us ns lines.1) (order_same Keys path ns ms order))

-- ---- what is counted

-- neither stamps nor flags differ
abbrev is_off : Marks → Bool
is_off m = not m.stamp && not m.flags

both_off : (ms : List Marks) → list_all (λ m. not m.stamp) ms ≡ true → list_all (λ m. not m.flags) ms ≡ true → list_all is_off ms ≡ true
both_off [] stamps flags = refl
both_off (m ∷ ms) stamps flags =
    let s = and_parts (not m.stamp) (list_all (λ m. not m.stamp) ms) stamps in
    let f = and_parts (not m.flags) (list_all (λ m. not m.flags) ms) flags in
    and_of (is_off m) (list_all is_off ms) (and_of (not m.stamp) (not m.flags) s.0 f.0) (both_off ms s.1 f.1)

marks_off : (ms : List Marks) → is_none (marks_lines ms) ≡ true → list_all is_off ms ≡ true
marks_off ms quiet =
    let stamps : ℕ = count_by (λ m. m.stamp) ms in
    let flags : ℕ = count_by (λ m. m.flags) ms in
    let lines = two_none (stamps_lines stamps) (flags_lines flags) quiet in
    both_off ms
    (uncounted (λ m. m.stamp) 0 ms (eqb-true stamps 0 (unless_none (nat_eq stamps 0) (Stamps stamps) [] lines.0))).1
    (uncounted (λ m. m.flags) 0 ms (eqb-true flags 0 (unless_none (nat_eq flags 0) (Flags flags) [] lines.1))).1

-- ---- two keys, but for their names and children

-- the keys have the same of all else
record AreAlike (h k : Head) : Type 0 where
  flags : h.flags ≡ k.flags
  stamp : h.stamp ≡ k.stamp
  class : h.class ≡ k.class
  security : h.security ≡ k.security
  values : h.values ≡ k.values

number_equal : (a b : ℕ) → not (not (nat_eq a b)) ≡ true → a ≡ b
number_equal a b e = eqb-true a b (sym (not_not (nat_eq a b)) ∙ e)

heads_alike : (top : Bool) (path : List (List ℕ)) (h k : Head) (ts us : List Tree) → Unlike (λ (v : Item). v.name) h.values
    → is_none (own_lines top path h ts k us) ≡ true → is_off (marks_of h k) ≡ true → AreAlike h k
heads_alike top path h k ts us apart quiet off =
    let vs : List (List ℕ) = item_names h.values in
    let ws : List (List ℕ) = item_names k.values in
    let own = two_none (heads_lines top path h k) (content_lines path h.values k.values ts us) quiet in
    let fields = three_none (name_lines top path h.name k.name) (field_lines Class path h.class k.class)
    (field_lines Security path h.security k.security) own.0 in
    let content = two_none (orders_lines path vs ws (key_names ts) (key_names us)) (items_lines path h.values k.values) own.1 in
    let orders = two_none (order_lines Values path vs ws) (order_lines Keys path (key_names ts) (key_names us)) content.0 in
    let marks = and_parts (not (not (nat_eq h.stamp k.stamp))) (not (not (nat_eq h.flags k.flags))) off in
    record {
      flags = number_equal h.flags k.flags marks.1;
      stamp = number_equal h.stamp k.stamp marks.0;
      class = field_equal Class path h.class k.class fields.1;
      security = field_equal Security path h.security k.security fields.2;
      values = values_equal path h.values k.values apart orders.0 content.1;
    }

joined : (h k : Head) (ts us : Trees) → AreAlike h k → ts ≡ us → renamed k.name (key h ts) ≡ key k us
joined h k ts us alike below = λ i. key (record {
  name = k.name;
  flags = alike.flags i;
  stamp = alike.stamp i;
  class = alike.class i;
  security = alike.security i;
  values = alike.values i;
}) (below i)

-- the order of the children is the same
keys_order : (top : Bool) (path : List (List ℕ)) (h k : Head) (ts us : List Tree) → is_none (own_lines top path h ts k us) ≡ true
    → is_none (order_lines Keys path (key_names ts) (key_names us)) ≡ true
keys_order top path h k ts us quiet =
    let vs : List (List ℕ) = item_names h.values in
    let ws : List (List ℕ) = item_names k.values in
    let own = two_none (heads_lines top path h k) (content_lines path h.values k.values ts us) quiet in
    let content = two_none (orders_lines path vs ws (key_names ts) (key_names us)) (items_lines path h.values k.values) own.1 in
    (two_none (order_lines Values path vs ws) (order_lines Keys path (key_names ts) (key_names us)) content.0).1

-- below the topmost keys the names are equal too
name_equal : (path : List (List ℕ)) (t u : Tree) → is_none (key_lines false path t u) ≡ true → (head t).name ≡ (head u).name
name_equal path (key h ts) (key k us) quiet =
    let lines = three_none (own_lines false path h (listed ts) k (listed us)) (keys_lines path (listed us) ts)
    (both_lone_keys path (listed ts) (listed us)) quiet in
    let own = two_none (heads_lines false path h k) (content_lines path h.values k.values (listed ts) (listed us)) lines.0 in
    let fields = three_none (name_lines false path h.name k.name) (field_lines Class path h.class k.class)
    (field_lines Security path h.security k.security) own.0 in
    field_equal Name path h.name k.name fields.0

own_name : (t : Tree) → t ≡ renamed (head t).name t
own_name (key h ts) = refl

-- ---- the walk

mutual
  key_equal : (top : Bool) (path : List (List ℕ)) (t u : Tree) → HoldsKeys t → is_none (key_lines top path t u) ≡ true
      → list_all is_off (key_marks t u) ≡ true → AreEqualButForName t u
  key_equal top path (key h ts) (key k us) holds quiet off =
      let lines = three_none (own_lines top path h (listed ts) k (listed us)) (keys_lines path (listed us) ts)
      (both_lone_keys path (listed ts) (listed us)) quiet in
      let marks = and_parts (is_off (marks_of h k)) (list_all is_off (keys_marks (listed us) ts)) off in
      joined h k ts us
      (heads_alike top path h k (listed ts) (listed us) (unlike_from (λ (v : Item). v.name) h.values holds.0.items_differ) lines.0 marks.0)
      (keys_equal path (listed us) ts us
      (keys_paired path (listed ts) (listed us) (unlike_from (λ t. (head t).name) (listed ts) holds.0.keys_differ)
      (keys_order top path h k (listed ts) (listed us) lines.0) lines.2)
      holds.1 lines.1 marks.1)

  keys_equal : (path : List (List ℕ)) (others : List Tree) (ts us : Trees) → Paired (tree_named others) (λ t. (head t).name) (listed ts) (listed us)
      → AllHoldKeys ts → is_none (keys_lines path others ts) ≡ true → list_all is_off (keys_marks others ts) ≡ true → ts ≡ us
  keys_equal path others none none paired holds quiet off = refl
  keys_equal path others none (more u us) paired holds quiet off = absurd paired
  keys_equal path others (more t ts) none paired holds quiet off = absurd paired
  keys_equal path others (more t ts) (more u us) paired holds quiet off =
      let at : List (List ℕ) = path ++ (head t).name ∷ [] in
      let lines = two_none (option_map_or (key_lines false at t) (tree_named others (head t).name) []) (keys_lines path others ts) quiet in
      let marks = all_parts is_off (option_map_or (key_marks t) (tree_named others (head t).name) []) (keys_marks others ts) off in
      let here : is_none (key_lines false at t u) ≡ true =
      sym (ap (λ (o : Option Tree). is_none (option_map_or (key_lines false at t) o [])) paired.0) ∙ lines.0 in
      let counted : list_all is_off (key_marks t u) ≡ true =
      sym (ap (λ (o : Option Tree). list_all is_off (option_map_or (key_marks t) o [])) paired.0) ∙ marks.0 in
      let first : t ≡ u = own_name t ∙ ap (λ (n : List ℕ). renamed n t) (name_equal at t u here) ∙ key_equal false at t u holds.0 here counted in
      let rest : ts ≡ us = keys_equal path others ts us paired.1 holds.1 lines.1 marks.1 in
      λ i. more (first i) (rest i)

-- ---- the whole

quiet_equal : (a b : Tree) → HoldsKeys a → trees_lines a b ≡ [] → AreEqualButForName a b
unfolding trees_lines
quiet_equal a b holds e =
    let lines = two_none (key_lines true [] a b) (marks_lines (key_marks a b)) (ap is_none e) in
    key_equal true [] a b holds lines.0 (marks_off (key_marks a b) lines.1)

-- the name of the second set's key makes no line
other_name : (name : List ℕ) (t : Tree) → trees_lines t (renamed name t) ≡ trees_lines t t
unfolding trees_lines
other_name name (key h ts) = refl

equal_quiet : (a b : Tree) → HoldsKeys a → AreEqualButForName a b → trees_lines a b ≡ []
equal_quiet a b holds e = sym (ap (trees_lines a) e) ∙ other_name (head b).name a ∙ own_tree a holds

pub no_line_where_equal : NoLineWhereEqual
no_line_where_equal a b holds = (quiet_equal a b holds, equal_quiet a b holds)
