-- What the options of `import` make of a text.
use Rattle.std.proofs.Common.{◌≡◌, ℕ, ◌+◌, ◌==◌, Bool, true, false, cond, inl, inr, List, [], ◌∷◌, ◌++◌, length, Option, Some, None, Result, Ok, Err, refl, sym, ap, subst, ◌∙◌, arith, append_assoc}
use Rattle.std.specs.Prelude.{codes, option_map, ◌↔◌, ◌&&◌, ◌||◌, map, not, nat_lt}
use Rattle.std.specs.Result.{result_ok}
use Rattle.std.specs.List.{All}
use Rattle.std.specs.Option.{is_none, option_map_or}
use Rattle.std.specs.Str.{is_utf8}
use Rattle.nt_bytes.specs.Folding.{folds_same}
use Rattle.nt_bytes.specs.declared.version.HiveVersion.{HiveVersion}
use Rattle.nt_bytes.specs.Reading.{◌>>=◌}
use Rattle.nt_edge.specs.Disk.{DiskState}
use Rattle.hive_model.specs.Edit.{Step, Refusal, no_key, no_value, bad_name, name_too_long, too_deep, data_too_long, full, set_value, delete_value, make_key, delete_key, copy_child, add_child, unless, at_key, of_items, with_item, without_first, with_key, is_bad_name, has_item, key_deleted, without_key, after_step, after_steps, most_bulk, edited}
use Rattle.hive_model.specs.Size.{bulk_of}
use Rattle.hive_model.specs.State.{HiveState}
use Rattle.hive_model.specs.Tree.{Tree, find_key, is_item}
use Rattle.hive_model.specs.Valid.{longest_key_name, longest_value_name, longest_data, deepest_level}
use Rattle.start_model.specs.Sets.{is_usable, set_name}
use Rattle.reg_text.specs.declared.stop.RegFault.{RegFault}
use Rattle.reg_text.specs.declared.stop.RegFaultKind.TheVariants.{Mark}
use Rattle.reg_text.specs.declared.item.LineItem.{LineItem}
use Rattle.reg_text.specs.declared.item.LineItem.TheVariants.{Nothing, InKey, NoKey, Named, NoValue, GoesOn}
use Rattle.reg_text.specs.Reading.{making, edits_of, key_after, reg_steps_of}
use Rattle.reg_tree.proofs.Unlike.{Each, each_from, each_all}
use Rattle.command_words.specs.declared.asked.AskedEncoding.{AskedEncoding}
use Rattle.command_words.specs.declared.asked.AskedEncoding.TheVariants.{Utf16, Utf8}
use Rattle.command_words.specs.declared.asked.AskedSet.TheVariants.{Number}
use Rattle.command_parts.specs.declared.command_parts.inputs.HiveFiles.{HiveFiles}
use Rattle.command_parts.specs.declared.command_parts.refusal.Refusal.{Refusal as Why}
use Rattle.command_parts.specs.declared.command_parts.status.Status.{Status}
use Rattle.command_parts.specs.command_parts.Saves.{Saves}
use Rattle.import_steps.specs.Current.{SetSteps, current_name, named_in, path_in, step_in, deletes_current, with_step, steps_in as steps_of_set, set_steps}
use Rattle.import_steps.specs.Encoding.{unmarked, wide_text, utf16_of}
use Rattle.import_steps.specs.Left.{LeftSteps, is_void, tree_after, with_void, left_after, left_of}
use Rattle.text_commands.specs.declared.said.Done.{Done}
use Rattle.text_commands.specs.declared.said.Done.TheVariants as dones
use Rattle.text_commands.specs.declared.said.How.{How}
use Rattle.text_commands.specs.declared.said.ImportStop.{ImportStop}
use Rattle.text_commands.specs.declared.said.Said.{Said}
use Rattle.text_commands.specs.ImportLines.{number_line, option_line, done_line, said_text}
use Rattle.report_text.specs.declared.line_text.form.ReportForm.{ReportForm}
use Rattle.text_commands.specs.Changed.{steps_in, done_by, state_by, said_of, tree_by, change_by, change_made, change_for}
use Rattle.text_commands.specs.Imported.{EndsSteps, EndsText, EndsHive, EndsImport}
use Rattle.command_laws.specs.import_laws.Options.{encoded, announced, item_in, edits_in, names_current, IsOfText}

-- ---- encodings

pub read_alike : (text wide : List ℕ) → utf16_of text ≡ Some wide → steps_in Utf8 text ≡ steps_in Utf16 wide
read_alike text wide same =
    ap (λ (o : Option (List ℕ)). option_map_or reg_steps_of o (Err (record { kind = Mark; line = 0 }))) same

module _ (files : HiveFiles) (saves : Saves) (how : How) (disk : DiskState) (status : Status) (old new : List ℕ) where
  -- how a text is encoded makes no difference once it is read
  ends_alike : (a b : AskedEncoding) (s : HiveState) (r : Result (List Step) RegFault)
      → EndsSteps files saves (encoded a how) s r disk status old new
      → EndsSteps files saves (encoded b how) s r disk status old new
  ends_alike a b s (Ok steps) end = end
  ends_alike a b s (Err fault) end = end

  texts_alike : (a b : AskedEncoding) (s : HiveState) (text other : List ℕ) → steps_in a text ≡ steps_in b other
      → EndsText files saves (encoded a how) s (Ok text) disk status old new
      → EndsText files saves (encoded b how) s (Ok other) disk status old new
  texts_alike a b s text other same end =
      ends_alike a b s (steps_in b other)
      (subst (λ (r : Result (List Step) RegFault). EndsSteps files saves
      (encoded a how) s r disk status old new) same end)

  hives_alike : (a b : AskedEncoding) (text other : List ℕ) → steps_in a text ≡ steps_in b other
      → EndsHive files saves (encoded a how) (Ok text) disk status old new
      → EndsHive files saves (encoded b how) (Ok other) disk status old new
  hives_alike a b text other same (inl fault) = inl fault
  hives_alike a b text other same (inr (inl loads)) =
      inr (inl (loads.0, loads.1, texts_alike a b loads.0.state text other same loads.2))
  hives_alike a b text other same (inr (inr stopped)) = inr (inr stopped)

imports_alike : (found : Result HiveFiles Why) (saves : Saves) (how : How) (disk : DiskState) (status : Status)
    (old new : List ℕ) (a b : AskedEncoding) (text other : List ℕ) → steps_in a text ≡ steps_in b other
    → EndsImport found saves (encoded a how) (Ok text) disk status old new
    → EndsImport found saves (encoded b how) (Ok other) disk status old new
imports_alike (Ok files) saves how disk status old new a b text other same end =
    hives_alike files saves how disk status old new a b text other same end
imports_alike (Err why) saves how disk status old new a b text other same end = end

pub utf8_ends : (found : Result HiveFiles Why) (saves : Saves) (how : How) (text wide : List ℕ) (disk : DiskState)
    (status : Status) (old new : List ℕ) → utf16_of text ≡ Some wide
    → (EndsImport found saves (encoded Utf8 how) (Ok text) disk status old new
    ↔ EndsImport found saves (encoded Utf16 how) (Ok wide) disk status old new)
utf8_ends found saves how text wide disk status old new same =
    let read = read_alike text wide same in (
      λ end. imports_alike found saves how disk status old new Utf8 Utf16 text wide read end,
      λ end. imports_alike found saves how disk status old new Utf16 Utf8 wide text (sym read) end,
    )

pub mark_left_out : (text : List ℕ) → unmarked text ≡ text → utf16_of (0xEF ∷ 0xBB ∷ 0xBF ∷ text) ≡ utf16_of text
unfolding unmarked
mark_left_out text plain =
    sym (ap (λ (t : List ℕ). cond (is_utf8 t) (Some (wide_text t)) None) plain)

-- ---- the set

below_written : (set first : List ℕ) (above path : List (List ℕ))
    → map (step_in set) (making (first ∷ above) path) ≡ making (named_in set first ∷ above) path
below_written set first above [] = refl
below_written set first above (name ∷ path) =
    ap (λ (l : List Step). make_key (named_in set first ∷ above) name ∷ l)
    (below_written set first (above ++ name ∷ []) path)

making_written : (set : List ℕ) (path : List (List ℕ))
    → map (step_in set) (making [] path) ≡ making [] (path_in set path)
making_written set [] = refl
making_written set (name ∷ path) =
    ap (λ (l : List Step). make_key [] (named_in set name) ∷ l) (below_written set name [] path)

pub line_written : (set : List ℕ) (key : Option (List (List ℕ))) (item : LineItem)
    → edits_in set (edits_of key item) ≡ edits_of (option_map (path_in set) key) (item_in set item)
line_written set key Nothing = refl
line_written set key (InKey path) = ap (λ (l : List Step). Ok l) (making_written set path)
line_written set key (NoKey path) = refl
line_written set None (Named name kind bytes) = refl
line_written set (Some path) (Named name kind bytes) = refl
line_written set None (NoValue name) = refl
line_written set (Some path) (NoValue name) = refl
line_written set None (GoesOn begun) = refl
line_written set (Some path) (GoesOn begun) = refl

pub key_written : (set : List ℕ) (key : Option (List (List ℕ))) (item : LineItem)
    → option_map (path_in set) (key_after key item) ≡ key_after (option_map (path_in set) key) (item_in set item)
key_written set key Nothing = refl
key_written set key (InKey path) = refl
key_written set key (NoKey path) = refl
key_written set key (Named name kind bytes) = refl
key_written set key (NoValue name) = refl
key_written set key (GoesOn begun) = refl

written_out : (set : List ℕ) (steps : List Step) → Each (λ step. deletes_current step ≡ false) steps
    → steps_of_set set steps ≡ record { steps = map (step_in set) steps; protected = false }
written_out set [] whole = refl
written_out set (step ∷ steps) whole =
    rw (whole.0) (ap (with_step (step_in set step)) (written_out set steps whole.1))

said_first : (n : ℕ) (passed : Option ℕ) (done : Done)
    → said_of (Some n) passed done ≡ record (said_of None passed done) { current = Some n }
said_first n passed (dones.Refused stop) = refl
said_first n passed dones.Nothing = refl
said_first n passed (dones.Commit number) = refl

changed_first : (n : ℕ) (passed : Option ℕ) (s : HiveState) (steps : List Step) (edit : Result Tree ImportStop)
    → change_by (Some n) passed s steps edit ≡ announced n (change_by None passed s steps edit)
changed_first n passed s steps edit =
    ap (λ said. record { said = said; before = s; steps = steps; state = state_by s edit })
    (said_first n passed (done_by s edit))

made_first : (n : ℕ) (lenient : Bool) (s : HiveState) (made : SetSteps)
    → change_made (Some n) lenient s made ≡ announced n (change_made None lenient s made)
made_first n false s made =
    changed_first n None s made.steps (tree_by made.protected (edited s.version s.tree made.steps))
made_first n true s made =
    changed_first n (Some (left_of s.tree made.steps).passed) s (left_of s.tree made.steps).steps
    (tree_by made.protected (edited s.version s.tree (left_of s.tree made.steps).steps))

pub set_written : (n : ℕ) (lenient : Bool) (s : HiveState) (steps : List Step) → is_usable s.tree n ≡ true
    → All (λ step. deletes_current step ≡ false) steps
    → change_for (Some (Number n)) lenient s steps
    ≡ announced n (change_for None lenient s (map (step_in (set_name n)) steps))
set_written n lenient s steps usable whole =
    rw usable (ap (change_made (Some n) lenient s)
    (written_out (set_name n) steps (each_from (λ step. deletes_current step ≡ false) steps whole))
    ∙ made_first n lenient s (record { steps = map (step_in (set_name n)) steps; protected = false }))

-- the line of the number comes first
pub said_before : (form : ReportForm) (n : ℕ) (said : Said) → said.current ≡ None
    → said_text form (record said { current = Some n })
    ≡ number_line form (codes "current") (codes "number") n ++ said_text form said
said_before form n said none =
    let first : List ℕ = number_line form (codes "current") (codes "number") n in
    let second : List ℕ = option_line form (codes "passed") (codes "count") said.passed in
    let last : List ℕ = done_line form said.done in
    append_assoc first second last
    ∙ ap (λ (o : Option ℕ). first ++ (option_line form (codes "current") (codes "number") o ++ second ++ last))
    (sym none)

-- the name of a set isn't that name
not_current : (n : ℕ) (name : List ℕ) → folds_same current_name (named_in (set_name n) name) ≡ false
not_current n name = go (folds_same current_name name) refl
  where
    go : (b : Bool) → folds_same current_name name ≡ b
        → folds_same current_name (cond (folds_same current_name name) (set_name n) name) ≡ false
    go true is = rw is refl
    go false is = rw is is

unnamed : (n : ℕ) (step : Step) → names_current (step_in (set_name n) step) ≡ false
unnamed n (set_value [] name kind bytes) = refl
unnamed n (set_value (first ∷ path) name kind bytes) = not_current n first
unnamed n (delete_value [] name) = refl
unnamed n (delete_value (first ∷ path) name) = not_current n first
unnamed n (make_key [] name) = not_current n name
unnamed n (make_key (first ∷ path) name) = not_current n first
unnamed n (delete_key []) = refl
unnamed n (delete_key (first ∷ path)) = not_current n first
unnamed n (copy_child from to) = refl
unnamed n (add_child name tree) = refl

each_unnamed : (n : ℕ) (steps : List Step) → Each (λ step. names_current step ≡ false) (set_steps n steps).steps
each_unnamed n [] = tt
each_unnamed n (step ∷ steps) =
    elim (deletes_current step)
    as (λ b. Each (λ s. names_current s ≡ false) (cond b (record { steps = []; protected = true })
    (with_step (step_in (set_name n) step) (steps_of_set (set_name n) steps))).steps)
    [ true ↦ tt | false ↦ (unnamed n step, each_unnamed n steps) ]

pub none_named : (n : ℕ) (steps : List Step) → All (λ step. names_current step ≡ false) (set_steps n steps).steps
none_named n steps = each_all (λ step. names_current step ≡ false) (set_steps n steps).steps (each_unnamed n steps)

-- ---- what remains

left_done : (current passed : Option ℕ) (done : Done)
    → (said_of current passed done).done ≡ (said_of current None done).done
left_done current passed (dones.Refused stop) = refl
left_done current passed dones.Nothing = refl
left_done current passed (dones.Commit number) = refl

pub done_alike : (current : Option ℕ) (s : HiveState) (made : SetSteps)
    → (change_made current true s made).said.done
    ≡ (change_made current false s (record {
      steps =
          (left_of s.tree made.steps).steps;
      protected = made.protected;
    })).said.done
done_alike current s made =
    left_done current (Some (left_of s.tree made.steps).passed)
    (done_by s (tree_by made.protected (edited s.version s.tree (left_of s.tree made.steps).steps)))

-- a step that isn't void isn't refused for a value that isn't there
abbrev Other : Refusal → Type 0
Other why = why ≡ no_value → ⊥

each_other : (tests : List (Bool × Refusal)) (x : Tree) → Each (λ (test : Bool × Refusal). Other test.1) tests
    → unless tests x ≡ Err no_value → ⊥
each_other [] x other e = absurd cc
each_other (test ∷ tests) x other e = go test.0 e (each_other tests x other.1)
  where
    go : (b : Bool) → cond b (Err test.1) (unless tests x) ≡ Err no_value → (unless tests x ≡ Err no_value → ⊥) → ⊥
    go true e rest = (let same : test.1 ≡ no_value = cc in other.0 same)
    go false e rest = rest e

refused_other : (step : Step) (t : Tree) → IsOfText step → is_void step t ≡ false → after_step step t ≡ Err no_value → ⊥
refused_other (set_value path name kind bytes) t of_text some e =
    each_other ((is_none (find_key path t), no_key) ∷ (nat_lt longest_value_name (length name), name_too_long)
    ∷ (nat_lt longest_data (length bytes), data_too_long) ∷ [])
    (at_key path (of_items (with_item name kind bytes)) t)
    ((λ q. absurd cc), ((λ q. absurd cc), ((λ q. absurd cc), tt))) e
refused_other (delete_value path name) t of_text some e = go (has_item path name t) refl some (is_none
    (find_key path t)) e
  where
    x : Tree
    x = at_key path (of_items (without_first (is_item name))) t

    go : (h : Bool) → has_item path name t ≡ h → not (has_item path name t) ≡ false → (n : Bool)
        → cond n (Err no_key) (cond (not (has_item path name t)) (Err no_value) (Ok x)) ≡ Err no_value → ⊥
    go false is void n q = (let no : true ≡ false = rw is at void in absurd cc)
    go true is void true q = absurd cc
    go true is void false q = (let made : cond false (Err no_value) (Ok x) ≡ Err no_value = rw is at q in absurd cc)
refused_other (make_key parent name) t of_text some e =
    each_other ((is_none (find_key parent t), no_key) ∷ (is_bad_name name, bad_name)
    ∷ (nat_lt longest_key_name (length name), name_too_long)
    ∷ (nat_lt deepest_level (length parent + 2), too_deep) ∷ [])
    (at_key parent (with_key name) t)
    ((λ q. absurd cc), ((λ q. absurd cc), ((λ q. absurd cc), ((λ q. absurd cc), tt)))) e
refused_other (delete_key path) t of_text some e =
    each_other (((length path == 0) || is_none (find_key path t), no_key) ∷ []) (without_key path t)
    ((λ q. absurd cc), tt) e
refused_other (copy_child from to) t of_text some e = absurd of_text
refused_other (add_child name tree) t of_text some e = absurd of_text

pub result_is : (r : Result Tree Refusal) (u : Tree) → result_ok r ≡ Some u → r ≡ Ok u
result_is (Ok v) u e = (let same : v ≡ u = cc in ap (λ (w : Tree). Ok w) same)
result_is (Err why) u e = absurd cc

tree_is : (step : Step) (t u : Tree) → tree_after step t ≡ Some u → after_step step t ≡ Ok u
tree_is (set_value path name kind bytes) t u e = result_is (after_step (set_value path name kind bytes) t) u e
tree_is (delete_value path name) t u e = result_is (after_step (delete_value path name) t) u e
tree_is (make_key parent name) t u e = result_is (after_step (make_key parent name) t) u e
tree_is (delete_key path) t u e = result_is (after_step (delete_key path) t) u e
tree_is (copy_child from to) t u e = absurd cc
tree_is (add_child name tree) t u e = absurd cc

none_ok : (r : Result Tree Refusal) (u : Tree) → result_ok r ≡ None → r ≡ Ok u → ⊥
none_ok r u none ok = (let some : Some u ≡ None = ap result_ok (sym ok) ∙ none in absurd cc)

tree_none : (step : Step) (t u : Tree) → IsOfText step → tree_after step t ≡ None → after_step step t ≡ Ok u → ⊥
tree_none (set_value path name kind bytes) t u of_text e ok = none_ok (after_step
    (set_value path name kind bytes) t) u e ok
tree_none (delete_value path name) t u of_text e ok = none_ok (after_step (delete_value path name) t) u e ok
tree_none (make_key parent name) t u of_text e ok = none_ok (after_step (make_key parent name) t) u e ok
tree_none (delete_key path) t u of_text e ok = none_ok (after_step (delete_key path) t) u e ok
tree_none (copy_child from to) t u of_text e ok = absurd of_text
tree_none (add_child name tree) t u of_text e ok = absurd of_text

kept_other : (steps : List Step) (t : Tree) → Each IsOfText steps
    → after_steps t (left_of t steps).steps ≡ Err no_value → ⊥
kept_other [] t of_text e = absurd cc
kept_other (step ∷ steps) t of_text e =
    go (is_void step t) refl (λ u more. kept_other steps u of_text.1 more) e
  where
    After : LeftSteps → Type 0
    After left = after_steps t left.steps ≡ Err no_value

    first : (r : Result Tree Refusal) → after_step step t ≡ r → is_void step t ≡ false → tree_after step t ≡ None
        → (r >>= (λ u. after_steps u steps)) ≡ Err no_value → ⊥
    first (Ok u) is some none q = tree_none step t u of_text.0 none is
    first (Err why) is some none q =
        let same : why ≡ no_value = cc in
        refused_other step t of_text.0 some (is ∙ ap (λ (w : Refusal). Err w) same)

    then_left : (o : Option Tree) → tree_after step t ≡ o → is_void step t ≡ false
        → ((u : Tree) → after_steps u (left_of u steps).steps ≡ Err no_value → ⊥)
        → After (left_after step steps o (λ u. left_of u steps)) → ⊥
    then_left None is some inner q = first (after_step step t) refl some is q
    then_left (Some u) is some inner q =
        inner u (sym (ap (λ (r : Result Tree Refusal). r >>= (λ v. after_steps v (left_of u steps).steps))
        (tree_is step t u is)) ∙ q)

    go : (b : Bool) → is_void step t ≡ b → ((u : Tree) → after_steps u (left_of u steps).steps ≡ Err no_value → ⊥)
        → After (cond (is_void step t) (with_void (left_of t steps))
        (left_after step steps (tree_after step t) (λ u. left_of u steps))) → ⊥
    go true is inner q =
        inner t (subst (λ (b : Bool). After (cond b (with_void (left_of t steps))
        (left_after step steps (tree_after step t) (λ u. left_of u steps)))) is q)
    go false is inner q =
        then_left (tree_after step t) refl is inner
        (subst (λ (b : Bool). After (cond b (with_void (left_of t steps))
        (left_after step steps (tree_after step t) (λ u. left_of u steps)))) is q)

pub no_value_lacks : (version : HiveVersion) (t : Tree) (steps : List Step) → All IsOfText steps
    → edited version t (left_of t steps).steps ≡ Err no_value → ⊥
unfolding edited
no_value_lacks version t steps of_text e =
    go (after_steps t (left_of t steps).steps) e (kept_other steps t (each_from IsOfText steps of_text))
  where
    go : (r : Result Tree Refusal)
        → (r >>= (λ u. cond (nat_lt most_bulk (bulk_of version u)) (Err full) (Ok u))) ≡ Err no_value
        → (r ≡ Err no_value → ⊥) → ⊥
    go (Ok u) q never = large (nat_lt most_bulk (bulk_of version u)) q
      where
        large : (b : Bool) → cond b (Err full) (Ok u) ≡ Err no_value → ⊥
        large true q = absurd cc
        large false q = absurd cc
    go (Err why) q never = never q

pub only_the_root : (path : List (List ℕ)) (t : Tree) → is_void (delete_key path) t ≡ false
    → key_deleted path t ≡ Err no_key → path ≡ []
only_the_root [] t some e = refl
only_the_root (name ∷ path) t some e =
    absurd (go (length (name ∷ path) == 0) (is_none (find_key (name ∷ path) t)) (grind arith) some e)
  where
    go : (b n : Bool) → b ≡ false → (not b && n) ≡ false
        → cond (b || n) (Err no_key) (Ok (without_key (name ∷ path) t)) ≡ Err no_key → ⊥
    go true n root void q = absurd cc
    go false true root void q = absurd cc
    go false false root void q = absurd cc

pub all_left : (t : Tree) (steps : List Step) → (left_of t steps).passed ≡ 0 → (left_of t steps).steps ≡ steps
all_left t [] none = refl
all_left t (step ∷ steps) none = go (is_void step t) none (λ u more. all_left u steps more)
  where
    some : (n : ℕ) → n + 1 ≡ 0 → ⊥
    some n e = absurd (omega (arith, e))

    then_left : (o : Option Tree) → (left_after step steps o (λ u. left_of u steps)).passed ≡ 0
        → ((u : Tree) → (left_of u steps).passed ≡ 0 → (left_of u steps).steps ≡ steps)
        → (left_after step steps o (λ u. left_of u steps)).steps ≡ step ∷ steps
    then_left None e inner = refl
    then_left (Some u) e inner = ap (λ (l : List Step). step ∷ l) (inner u e)

    go : (b : Bool)
        → (cond b (with_void (left_of t steps)) (left_after step steps (tree_after step t)
        (λ u. left_of u steps))).passed ≡ 0
        → ((u : Tree) → (left_of u steps).passed ≡ 0 → (left_of u steps).steps ≡ steps)
        → (cond b (with_void (left_of t steps)) (left_after step steps (tree_after step t)
        (λ u. left_of u steps))).steps
        ≡ step ∷ steps
    go true e inner = absurd (some (left_of t steps).passed e)
    go false e inner = then_left (tree_after step t) e inner
