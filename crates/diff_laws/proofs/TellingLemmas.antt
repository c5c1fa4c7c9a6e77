-- Where no line of the trees of two sets reports a difference, there is none.
use Rattle.std.proofs.Common.{◌≡◌, ℕ, Bool, true, false, not, ◌&&◌, cond, nat_eq, List, [], ◌∷◌, ◌++◌, refl, sym, ap, ◌∙◌}
use Rattle.std.specs.Prelude.{Option, Some, None, bytes_eq, count_by}
use Rattle.std.specs.List.{list_all, flat_map}
use Rattle.std.specs.Option.{option_map_or}
use Rattle.std.proofs.lemmas.Bool.{false≢true}
use Rattle.nt_bytes.specs.Counts.{capped}
use Rattle.hive_model.specs.Tree.{key_count, Head, Item, Tree, Trees, key, none, more, head, children, listed}
use Rattle.answer_lines.specs.declared.diff_lines.lines.DiffLine.{DiffLine}
use Rattle.answer_lines.specs.declared.diff_lines.lines.DiffLine.TheVariants.{KeyDiffers, KeyOnly, ValueDiffers, ValueOnly, Stamps, Flags}
use Rattle.answer_lines.specs.declared.diff_lines.lines.KeyField.{KeyField}
use Rattle.answer_lines.specs.declared.diff_lines.lines.KeyField.TheVariants.{Name, Class, Security, Values, Keys}
use Rattle.answer_lines.specs.declared.diff_lines.lines.Side.{Side}
use Rattle.answer_lines.specs.declared.diff_lines.lines.Side.TheVariants.{First, Second}
use Rattle.set_diff.specs.Listed.{lacks, shared}
use Rattle.set_diff.specs.Sets.{is_difference}
use Rattle.set_diff.specs.Shown.{names_same}
use Rattle.tree_diff.specs.declared.whole.Marks.{Marks}
use Rattle.tree_diff.specs.Heads.{item_names, key_names, item_named, tree_named, field_lines, name_lines, order_lines, heads_lines, same_item, data_line, item_lines, paired_items, lone_item, lone_items, items_lines, lone_key, lone_keys, both_lone_keys, orders_lines, content_lines, own_lines}
use Rattle.tree_diff.specs.Trees.{key_lines, keys_lines, key_marks, stamps_lines, flags_lines, marks_lines, trees_lines}
use Rattle.diff_laws.specs.diff_laws.Laws.{is_none}
use Rattle.diff_laws.proofs.AgreeLemmas.{and_of}
use Rattle.diff_laws.proofs.NoneLemmas.{none_append}
use Rattle.diff_laws.proofs.CountLemmas.{all_parts}

-- none of the lines reports a difference
abbrev pub is_quiet : List DiffLine → Bool
is_quiet lines = list_all (λ line. not (is_difference line)) lines

-- where there are lines, one of them reports a difference
abbrev pub Tells : List DiffLine → Type 0
Tells lines = is_quiet lines ≡ true → is_none lines ≡ true

pub tells_both : (xs ys : List DiffLine) → Tells xs → Tells ys → Tells (xs ++ ys)
tells_both xs ys f g quiet =
    let parts = all_parts (λ line. not (is_difference line)) xs ys quiet in
    none_append xs ys ∙ and_of (is_none xs) (is_none ys) (f parts.0) (g parts.1)

pub tells_three : (xs ys zs : List DiffLine) → Tells xs → Tells ys → Tells zs → Tells (xs ++ ys ++ zs)
tells_three xs ys zs f g h = tells_both (xs ++ ys) zs (tells_both xs ys f g) h

pub tells_each : {X : Type 0} (f : X → List DiffLine) (xs : List X) → ((x : X) → Tells (f x)) → Tells (flat_map f xs)
tells_each f [] each quiet = refl
tells_each f (x ∷ xs) each quiet = tells_both (f x) (flat_map f xs) (each x) (tells_each f xs each) quiet

pub tells_pair : {X : Type 0} (f : X → List DiffLine) (o : Option X) → ((x : X) → Tells (f x)) → Tells (option_map_or f o [])
tells_pair f None each quiet = refl
tells_pair f (Some x) each quiet = each x quiet

pub tells_where : (b : Bool) (line : DiffLine) (lines : List DiffLine) → is_difference line ≡ true → Tells (cond b (line ∷ lines) [])
tells_where true line lines differs quiet =
    absurd (false≢true (sym (ap (λ (b : Bool). not b && is_quiet lines) differs) ∙ quiet))
tells_where false line lines differs quiet = refl

pub tells_unless : (b : Bool) (line : DiffLine) (lines : List DiffLine) → is_difference line ≡ true → Tells (cond b [] (line ∷ lines))
tells_unless true line lines differs quiet = refl
tells_unless false line lines differs quiet =
    absurd (false≢true (sym (ap (λ (b : Bool). not b && is_quiet lines) differs) ∙ quiet))

-- ---- of two keys

field_tells : (field : KeyField) (path : List (List ℕ)) (a b : List ℕ) → Tells (field_lines field path a b)
unfolding is_difference
field_tells field path a b = tells_where (not (bytes_eq a b)) (KeyDiffers field path) [] refl

name_tells : (top : Bool) (path : List (List ℕ)) (a b : List ℕ) → Tells (name_lines top path a b)
name_tells true path a b quiet = refl
name_tells false path a b quiet = field_tells Name path a b quiet

order_tells : (field : KeyField) (path ns ms : List (List ℕ)) → Tells (order_lines field path ns ms)
unfolding is_difference
order_tells field path ns ms = tells_where (not (names_same (shared ns ms) (shared ms ns))) (KeyDiffers field path) [] refl

item_tells : (path : List (List ℕ)) (v u : Item) → Tells (item_lines path v u)
unfolding is_difference
item_tells path v u = tells_unless (same_item v u) (ValueDiffers v.name path) (data_line First v ∷ data_line Second u ∷ []) refl

lone_item_tells : (side : Side) (path others : List (List ℕ)) (v : Item) → Tells (lone_item side path others v)
unfolding is_difference
lone_item_tells side path others v = tells_where (lacks others v.name) (ValueOnly side v.name path) (data_line side v ∷ []) refl

lone_key_tells : (side : Side) (path others : List (List ℕ)) (t : Tree) → Tells (lone_key side path others t)
unfolding is_difference
lone_key_tells side path others t =
    tells_where (lacks others (head t).name) (KeyOnly side (capped (key_count t)) (path ++ (head t).name ∷ [])) [] refl

heads_tell : (top : Bool) (path : List (List ℕ)) (h k : Head) → Tells (heads_lines top path h k)
heads_tell top path h k =
    tells_three (name_lines top path h.name k.name) (field_lines Class path h.class k.class) (field_lines Security path h.security k.security)
    (name_tells top path h.name k.name) (field_tells Class path h.class k.class) (field_tells Security path h.security k.security)

items_tell : (path : List (List ℕ)) (vs us : List Item) → Tells (items_lines path vs us)
items_tell path vs us =
    let ns : List (List ℕ) = item_names vs in
    let ms : List (List ℕ) = item_names us in
    tells_three (flat_map (paired_items path us) vs) (lone_items First path vs ms) (lone_items Second path us ns)
    (tells_each (paired_items path us) vs (λ v. tells_pair (item_lines path v) (item_named us v.name) (item_tells path v)))
    (tells_each (lone_item First path ms) vs (lone_item_tells First path ms))
    (tells_each (lone_item Second path ns) us (lone_item_tells Second path ns))

own_tell : (top : Bool) (path : List (List ℕ)) (h k : Head) (ts us : List Tree) → Tells (own_lines top path h ts k us)
own_tell top path h k ts us =
    let vs : List (List ℕ) = item_names h.values in
    let ws : List (List ℕ) = item_names k.values in
    tells_both (heads_lines top path h k) (content_lines path h.values k.values ts us) (heads_tell top path h k)
    (tells_both (orders_lines path vs ws (key_names ts) (key_names us)) (items_lines path h.values k.values)
    (tells_both (order_lines Values path vs ws) (order_lines Keys path (key_names ts) (key_names us)) (order_tells Values path vs ws)
    (order_tells Keys path (key_names ts) (key_names us))) (items_tell path h.values k.values))

lone_keys_tell : (path : List (List ℕ)) (ts us : List Tree) → Tells (both_lone_keys path ts us)
lone_keys_tell path ts us =
    tells_both (lone_keys First path ts (key_names us)) (lone_keys Second path us (key_names ts))
    (tells_each (lone_key First path (key_names us)) ts (lone_key_tells First path (key_names us)))
    (tells_each (lone_key Second path (key_names ts)) us (lone_key_tells Second path (key_names ts)))

-- ---- the walk

mutual
  key_tells : (top : Bool) (path : List (List ℕ)) (t u : Tree) → Tells (key_lines top path t u)
  key_tells top path (key h ts) u =
      tells_three (own_lines top path h (listed ts) (head u) (children u)) (keys_lines path (children u) ts)
      (both_lone_keys path (listed ts) (children u)) (own_tell top path h (head u) (listed ts) (children u)) (keys_tell path (children u) ts)
      (lone_keys_tell path (listed ts) (children u))

  keys_tell : (path : List (List ℕ)) (others : List Tree) (ts : Trees) → Tells (keys_lines path others ts)
  keys_tell path others none = λ quiet. refl
  keys_tell path others (more t ts) =
      let at : List (List ℕ) = path ++ (head t).name ∷ [] in
      tells_both (option_map_or (key_lines false at t) (tree_named others (head t).name) []) (keys_lines path others ts)
      (tells_pair (key_lines false at t) (tree_named others (head t).name) (key_tells false at t)) (keys_tell path others ts)

-- ---- the whole

stamps_tell : (count : ℕ) → Tells (stamps_lines count)
unfolding is_difference
stamps_tell count = tells_unless (nat_eq count 0) (Stamps count) [] refl

flags_tell : (count : ℕ) → Tells (flags_lines count)
unfolding is_difference
flags_tell count = tells_unless (nat_eq count 0) (Flags count) [] refl

pub trees_tell : (a b : Tree) → Tells (trees_lines a b)
unfolding trees_lines
trees_tell a b =
    let ms : List Marks = key_marks a b in
    let stamps : ℕ = count_by (λ m. m.stamp) ms in
    let flags : ℕ = count_by (λ m. m.flags) ms in
    tells_both (key_lines true [] a b) (marks_lines ms) (key_tells true [] a b)
    (tells_both (stamps_lines stamps) (flags_lines flags) (stamps_tell stamps) (flags_tell flags))
