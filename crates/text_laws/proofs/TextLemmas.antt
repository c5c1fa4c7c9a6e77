-- The text of a key is read as its edits.
use Rattle.std.proofs.Common.{◌≡◌, ℕ, suc, ◌%◌, Bool, true, false, cond, ◌||◌, eqb, List, [], ◌∷◌, ◌++◌, length, Option, Some, None, Result, Ok, Err, refl, sym, ap, subst, ◌∙◌, append_assoc, arith}
use Rattle.std.specs.Prelude.{codes}
use Rattle.std.specs.List.{flat_map, list_any, slice_split, All}
use Rattle.std.specs.Str.Lines.{lines}
use Rattle.std.proofs.lemmas.Bool.{ne_eqb, or_parts, or_from}
use Rattle.std.proofs.lemmas.List.{append-nil}
use Rattle.std.proofs.lemmas.List.Elements.{All-nil, All-cons}
use Rattle.std.proofs.lemmas.List.Splits.{slice_split_at, slice_split_none}
use Rattle.nt_bytes.specs.Text.{trimmed, is_backslash}
use Rattle.nt_bytes.specs.Reading.{◌>>=◌}
use Rattle.hive_model.specs.Edit.{Step, set_value}
use Rattle.hive_model.specs.Tree.{Item, Tree, Trees, key, none, more, head}
use Rattle.reg_text.specs.declared.stop.RegFaultKind.{RegFaultKind}
use Rattle.reg_text.specs.declared.stop.RegFaultKind.TheVariants.{Line, NotText}
use Rattle.reg_text.specs.declared.stop.RegFault.{RegFault}
use Rattle.reg_text.specs.declared.item.LineItem.{LineItem}
use Rattle.reg_text.specs.declared.item.LineItem.TheVariants.{Nothing, InKey, Named}
use Rattle.reg_text.specs.declared.item.Begun.{Begun}
use Rattle.reg_text.specs.declared.state.State.{State}
use Rattle.reg_text.specs.Items.{ends_in, front, parts_behind, path_at, bracketed, key_item, named, name_at, data_item, value_item, fresh_item, item_at}
use Rattle.reg_text.specs.Quotes.{quoted_from}
use Rattle.reg_text.specs.Reading.{making, edits_of, state_after, line_said, with_edits, lines_said, first_state, body_of, closed, unended, lines_behind, units_said, behind_mark, reg_steps_of}
use Rattle.reg_text.specs.Writing.{header, system, quoted_unit, quoted, name_text, data_text, value_text, breaks, place_below, key_text, keys_text, place_of, text_of, has_broken_value, has_broken_name, have_broken_names, unit_bytes, mark, reg_text_of}
use Rattle.text_laws.specs.Back.{value_steps, key_steps, keys_steps, FitsFields, IsPart, IsTextual, AreTextual}
use Rattle.text_laws.proofs.LineLemmas.{whole_append, wide_back, not_odd, last_at, front_of, line_cut, Ends, ends_behind, tight}
use Rattle.text_laws.proofs.DataLemmas.{quoted_back, quoted_whole, data_back}
use Rattle.reg_text.proofs.ReadLemmas.{regroup, one_line}

-- ---- the line of a value

named_quoted : (u : ℕ) (name : List ℕ) → name_text (u ∷ name) ≡ quoted (u ∷ name)
named_quoted u name =
    ap (λ (b : Bool). cond b (codes "@") (quoted (u ∷ name)))
    (ne_eqb (length (u ∷ name)) 0 (λ e. absurd (omega (arith, e))))

name_back : (name rest : List ℕ) → name_at (name_text name ++ 61 ∷ rest) ≡ Ok (name, rest)
unfolding name_at named
name_back [] rest = refl
name_back (u ∷ name) rest =
    let back : quoted_from false ((flat_map quoted_unit (u ∷ name) ++ 34 ∷ []) ++ 61 ∷ rest)
    ≡ Ok (u ∷ name, 61 ∷ rest) =
    ap (quoted_from false) (append_assoc (flat_map quoted_unit (u ∷ name)) (34 ∷ []) (61 ∷ rest))
    ∙ quoted_back (u ∷ name) (61 ∷ rest) in
    ap (λ (t : List ℕ). name_at (t ++ 61 ∷ rest)) (named_quoted u name)
    ∙ ap (λ (r : Result (List ℕ × List ℕ) RegFaultKind). r >>= λ q. named q.0 q.1) back

name_whole : (name : List ℕ) → breaks name ≡ false → breaks (name_text name) ≡ false
name_whole [] e = refl
name_whole (u ∷ name) e =
    ap breaks (named_quoted u name)
    ∙ whole_append (flat_map quoted_unit (u ∷ name)) (34 ∷ []) (quoted_whole (u ∷ name) e) refl

-- the line of a value, without its end
abbrev line_of : Item → List ℕ
line_of v = name_text v.name ++ 61 ∷ data_text v.kind v.bytes

value_line : (v : Item) (rest : List ℕ) → value_text v ++ rest ≡ line_of v ++ 13 ∷ 10 ∷ rest
unfolding value_text
value_line v rest =
    append_assoc (name_text v.name ++ 61 ∷ [] ++ data_text v.kind v.bytes) (13 ∷ 10 ∷ []) rest
    ∙ ap (λ (t : List ℕ). t ++ 13 ∷ 10 ∷ rest) (append_assoc (name_text v.name) (61 ∷ []) (data_text v.kind v.bytes))

value_is : (v : Item) → FitsFields v → value_item (line_of v) ≡ Ok (Named v.name v.kind v.bytes)
unfolding value_item
value_is v fits =
    ap (λ (r : Result (List ℕ × List ℕ) RegFaultKind). r >>= λ n. data_item n.0 n.1)
    (name_back v.name (data_text v.kind v.bytes))
    ∙ (data_back v.kind v.bytes fits.kind fits.bytes).back v.name

fresh_is : (v : Item) (r : Result LineItem RegFaultKind) → value_item (line_of v) ≡ r → fresh_item (line_of v) ≡ r
unfolding fresh_item
fresh_is v r is = by v.name is
  where
    by : (name : List ℕ) → value_item (name_text name ++ 61 ∷ data_text v.kind v.bytes) ≡ r
        → fresh_item (name_text name ++ 61 ∷ data_text v.kind v.bytes) ≡ r
    by [] is = is
    by (u ∷ name) is =
        let T : List ℕ → Type 0 =
        λ t. value_item (t ++ 61 ∷ data_text v.kind v.bytes) ≡ r
        → fresh_item (t ++ 61 ∷ data_text v.kind v.bytes) ≡ r in
        subst T (sym (named_quoted u name)) (λ e. e) is

value_tight : (v : Item) → FitsFields v → trimmed (line_of v) ≡ line_of v
value_tight v fits = by v.name
  where
    ends : Ends (data_text v.kind v.bytes)
    ends = (data_back v.kind v.bytes fits.kind fits.bytes).ends

    by : (name : List ℕ) → trimmed (name_text name ++ 61 ∷ data_text v.kind v.bytes) ≡ name_text name ++ 61
        ∷ data_text v.kind v.bytes
    by [] = tight 64 (61 ∷ data_text v.kind v.bytes) refl (ends_behind (64 ∷ 61 ∷ []) (data_text v.kind v.bytes) ends)
    by (u ∷ name) =
        let T : List ℕ → Type 0 =
        λ t. trimmed (t ++ 61 ∷ data_text v.kind v.bytes) ≡ t ++ 61 ∷ data_text v.kind v.bytes in
        subst T (sym (named_quoted u name))
        (
        tight 34 ((flat_map quoted_unit (u ∷ name) ++ 34 ∷ []) ++ 61 ∷ data_text v.kind v.bytes) refl
        (ends_behind (quoted (u ∷ name)) (61 ∷ data_text v.kind v.bytes)
        (ends_behind (61 ∷ []) (data_text v.kind v.bytes) ends))
        )

value_whole : (v : Item) → FitsFields v → breaks v.name ≡ false → breaks (line_of v) ≡ false
value_whole v fits plain =
    whole_append (name_text v.name) (61 ∷ data_text v.kind v.bytes) (name_whole v.name plain)
    (data_back v.kind v.bytes fits.kind fits.bytes).whole

-- ---- the line of a key

abbrev part_text : List ℕ → List ℕ
part_text name = codes "\\" ++ name

no_slash : (name : List ℕ) → IsPart name → All (λ b. eqb b 92 ≡ false) name
no_slash [] e = All-nil (λ b. eqb b 92 ≡ false)
no_slash (u ∷ name) e =
    let two = or_parts (eqb u 92) (list_any is_backslash name) e in
    All-cons (λ b. eqb b 92 ≡ false) u name two.0 (no_slash name two.1)

parts_back : (name : List ℕ) (path : List (List ℕ)) → All IsPart (name ∷ path)
    → slice_split is_backslash (name ++ flat_map part_text path) ≡ name ∷ path
parts_back name [] parts =
    ap (slice_split is_backslash) (append-nil name)
    ∙ slice_split_none (λ b. eqb b 92) name (no_slash name (parts 0 name (omega arith)))
parts_back name (next ∷ path) parts =
    slice_split_at (λ b. eqb b 92) name 92 (next ++ flat_map part_text path)
    (no_slash name (parts 0 name (omega arith))) refl
    ∙ ap (λ (l : List (List ℕ)). name ∷ l) (parts_back next path (λ k d lt. parts (suc k) d (omega arith)))

path_back : (path : List (List ℕ)) → All IsPart path → path_at (place_of path) ≡ Ok path
unfolding path_at parts_behind
path_back [] parts = refl
path_back (name ∷ path) parts = ap (λ (l : List (List ℕ)). Ok l) (parts_back name path parts)

-- the line of a key, without its end
abbrev key_line : List (List ℕ) → List ℕ
key_line path = 91 ∷ (place_of path ++ 93 ∷ [])

ends_93 : (text : List ℕ) → ends_in 93 (text ++ 93 ∷ []) ≡ true
ends_93 text = ap (λ (c : ℕ). eqb c 93) (last_at text 93)

key_is : (path : List (List ℕ)) → All IsPart path → fresh_item (key_line path) ≡ Ok (InKey path)
unfolding fresh_item key_item bracketed
key_is path parts =
    ap (λ (b : Bool). cond b (bracketed (front (place_of path ++ 93 ∷ []))) (Err Line)) (ends_93 (place_of path))
    ∙ ap bracketed (front_of (place_of path) 93)
    ∙ ap (λ (r : Result (List (List ℕ)) RegFaultKind). r >>= λ p. Ok (InKey p)) (path_back path parts)

key_tight : (path : List (List ℕ)) → trimmed (key_line path) ≡ key_line path
key_tight path =
    tight 91 (place_of path ++ 93 ∷ []) refl
    (record { front = 91 ∷ place_of path; last = 93; is = refl; plain = refl; unslashed = refl })

parts_whole : (path : List (List ℕ)) → list_any breaks path ≡ false → breaks (flat_map part_text path) ≡ false
parts_whole [] e = refl
parts_whole (name ∷ path) e =
    let two = or_parts (breaks name) (list_any breaks path) e in
    whole_append name (flat_map part_text path) two.0 (parts_whole path two.1)

key_whole : (path : List (List ℕ)) → list_any breaks path ≡ false → breaks (key_line path) ≡ false
key_whole path e = whole_append (place_of path) (93 ∷ [])
    (whole_append system (flat_map part_text path) refl (parts_whole path e)) refl

-- ---- lines in order

abbrev Read : Type 0
Read = Result (List Step × State) RegFault

-- A text is read as these edits, and values then are in this key; what follows is read after it.
record Said (state : State) (text : List ℕ) (edits : List Step) (into : Option (List (List ℕ))) : Type 0 where
  after : State
  begun : after.begun ≡ None
  key_is : after.key ≡ into
  reads : (rest : List ℕ) → lines_said state (lines (text ++ rest)) ≡ with_edits edits (lines_said after (lines rest))

no_edits : (read : Read) → with_edits [] read ≡ read
no_edits (Ok r) = refl
no_edits (Err f) = refl

item_said : (state : State) (line : List ℕ) (item : LineItem) (edits : List Step) → state.begun ≡ None
    → trimmed line ≡ line
    → fresh_item line ≡ Ok item → edits_of state.key item ≡ Ok edits
    → line_said state line ≡ Ok (edits, state_after state item)
unfolding line_said item_at
item_said state line item edits begun same fresh gives =
    ap (λ (o : Option Begun). item_at o (trimmed line) >>= λ i. edits_of state.key i >>= λ es. Ok
    (es, state_after state i)) begun
    ∙ ap (λ (l : List ℕ). fresh_item l >>= λ i. edits_of state.key i >>= λ es. Ok (es, state_after state i)) same
    ∙ ap (λ (r : Result _ RegFaultKind). r >>= λ i. edits_of state.key i >>= λ es. Ok (es, state_after state i)) fresh
    ∙ ap (λ (r : Result (List Step) RegFaultKind). r >>= λ es. Ok (es, state_after state item)) gives

-- one line with its end
line_is : (state after : State) (line : List ℕ) (edits : List Step) (into : Option (List (List ℕ)))
    → breaks line ≡ false
    → line_said state line ≡ Ok (edits, after) → after.begun ≡ None → after.key ≡ into
    → Said state (line ++ 13 ∷ 10 ∷ []) edits into
line_is state after line edits into whole said begun is = record {
  after = after;
  begun = begun;
  key_is = is;
  reads = λ rest.
      ap (λ (t : List ℕ). lines_said state (lines t)) (append_assoc line (13 ∷ 10 ∷ []) rest)
      ∙ ap (lines_said state) (line_cut line rest whole)
      ∙ one_line state after line (lines rest) edits said;
}

then_said : (state : State) (first further : List ℕ) (edits steps : List Step) (into to : Option (List (List ℕ)))
    (s : Said state first edits into)
    → Said s.after further steps to → Said state (first ++ further) (edits ++ steps) to
then_said state first further edits steps into to s t = record {
  after = t.after;
  begun = t.begun;
  key_is = t.key_is;
  reads = λ rest.
      ap (λ (u : List ℕ). lines_said state (lines u)) (append_assoc first further rest)
      ∙ s.reads (further ++ rest)
      ∙ ap (with_edits edits) (t.reads rest)
      ∙ regroup edits steps (lines_said t.after (lines rest));
}

nothing_said : (state : State) (into : Option (List (List ℕ))) → state.begun ≡ None → state.key ≡ into
    → Said state [] [] into
nothing_said state into begun is =
    record { after = state; begun = begun; key_is = is; reads = λ rest. sym (no_edits (lines_said state (lines rest))) }

value_said : (v : Item) (path : List (List ℕ)) (state : State) → state.begun ≡ None → state.key ≡ Some path
    → FitsFields v → breaks v.name ≡ false
    → Said state (value_text v) (set_value path v.name v.kind v.bytes ∷ []) (Some path)
value_said v path state begun is fits plain =
    let item : LineItem = Named v.name v.kind v.bytes in
    let said = item_said state (line_of v) item (set_value path v.name v.kind v.bytes ∷ []) begun (value_tight v fits)
    (fresh_is v (Ok item) (value_is v fits)) (ap (λ (k : Option (List (List ℕ))). edits_of k item) is) in
    let text : line_of v ++ 13 ∷ 10 ∷ [] ≡ value_text v = sym (value_line v []) ∙ append-nil (value_text v) in
    subst (λ (t : List ℕ). Said state t (set_value path v.name v.kind v.bytes ∷ []) (Some path)) text
    (line_is state (state_after state item) (line_of v) (set_value path v.name v.kind v.bytes ∷ []) (Some path)
    (value_whole v fits plain) said refl is)

values_said : (values : List Item) (path : List (List ℕ)) (state : State) → state.begun ≡ None → state.key ≡ Some path
    → All FitsFields values
    → has_broken_value values ≡ false → Said state (flat_map value_text values) (value_steps path values) (Some path)
values_said [] path state begun is fits plain = nothing_said state (Some path) begun is
values_said (v ∷ values) path state begun is fits plain =
    let two = or_parts (breaks v.name) (has_broken_value values) plain in
    let first = value_said v path state begun is (fits 0 v (omega arith)) two.0 in
    let rest = values_said values path first.after first.begun first.key_is (λ k d lt. fits (suc k) d (omega arith))
    two.1 in
    then_said state (value_text v) (flat_map value_text values) (set_value path v.name v.kind v.bytes ∷ [])
    (value_steps path values) (Some path) (Some path) first rest

empty_said : (state : State) (into : Option (List (List ℕ))) → state.begun ≡ None → state.key ≡ into
    → Said state (codes "\r\n") [] into
unfolding fresh_item
empty_said state into begun is =
    line_is state (state_after state Nothing) [] [] into refl (item_said state [] Nothing [] begun refl refl refl)
    refl is

head_said : (path : List (List ℕ)) (state : State) → state.begun ≡ None → All IsPart path → list_any breaks path ≡ false
    → Said state (key_line path ++ 13 ∷ 10 ∷ []) (making [] path) (Some path)
head_said path state begun parts plain =
    line_is state (state_after state (InKey path)) (key_line path) (making [] path) (Some path) (key_whole path plain)
    (item_said state (key_line path) (InKey path) (making [] path) begun (key_tight path) (key_is path parts) refl)
    refl refl

-- ---- keys

flat_push : (path : List (List ℕ)) (name : List ℕ)
    → flat_map part_text (path ++ name ∷ []) ≡ flat_map part_text path ++ part_text name
flat_push [] name = append-nil (part_text name)
flat_push (first ∷ path) name =
    ap (λ (t : List ℕ). part_text first ++ t) (flat_push path name)
    ∙ sym (append_assoc (part_text first) (flat_map part_text path) (part_text name))

place_push : (path : List (List ℕ)) (name : List ℕ) → place_of (path ++ name ∷ []) ≡ place_below (place_of path) name
place_push path name =
    ap (λ (t : List ℕ). system ++ t) (flat_push path name)
    ∙ sym (append_assoc system (flat_map part_text path) (part_text name))
    ∙ sym (append_assoc (place_of path) (92 ∷ []) name)

parts_push : (path : List (List ℕ)) (name : List ℕ) → All IsPart path → IsPart name → All IsPart (path ++ name ∷ [])
parts_push [] name parts part = All-cons IsPart name [] part (All-nil IsPart)
parts_push (first ∷ path) name parts part =
    All-cons IsPart first (path ++ name ∷ []) (parts 0 first (omega arith))
    (parts_push path name (λ k d lt. parts (suc k) d (omega arith)) part)

plain_push : (path : List (List ℕ)) (name : List ℕ) → list_any breaks path ≡ false → breaks name ≡ false
    → list_any breaks (path ++ name ∷ []) ≡ false
plain_push [] name e f = or_from (breaks name) false f refl
plain_push (first ∷ path) name e f =
    let two = or_parts (breaks first) (list_any breaks path) e in
    or_from (breaks first) (list_any breaks (path ++ name ∷ [])) two.0 (plain_push path name two.1 f)

-- what is said by keys in a row: where values then stand is left open
record Told (state : State) (text : List ℕ) (edits : List Step) : Type 0 where
  into : Option (List (List ℕ))
  said : Said state text edits into

mutual
  key_said : (t : Tree) (path : List (List ℕ)) (state : State) → state.begun ≡ None → All IsPart path
      → list_any breaks path ≡ false → IsTextual t
      → has_broken_name t ≡ false → Told state (key_text (place_of path) t) (key_steps path t)
  key_said (key h ts) path state begun parts plain textual broken =
      let two = or_parts (has_broken_value h.values) (have_broken_names ts) broken in
      let first = head_said path state begun parts plain in
      let values = values_said h.values path first.after first.begun first.key_is textual.0 two.0 in
      let gap = empty_said values.after (Some path) values.begun values.key_is in
      let keys = keys_said ts path gap.after gap.begun parts plain textual.1 two.1 in
      let rest : Said values.after (codes "\r\n" ++ keys_text (place_of path) ts) (keys_steps path ts) keys.into =
      then_said values.after (codes "\r\n") (keys_text (place_of path) ts) [] (keys_steps path ts) (Some path)
      keys.into gap keys.said in
      let more = then_said first.after (flat_map value_text h.values) (codes "\r\n" ++ keys_text (place_of path) ts)
      (value_steps path h.values) (keys_steps path ts)
      (Some path) keys.into values rest in
      let whole = then_said state (key_line path ++ 13 ∷ 10 ∷ [])
      (flat_map value_text h.values ++ (codes "\r\n" ++ keys_text (place_of path) ts)) (making [] path)
      (value_steps path h.values ++ keys_steps path ts) (Some path) keys.into first more in
      let start : List ℕ = 91 ∷ (place_of path ++ 93 ∷ 13 ∷ 10 ∷ []) in
      let lines_are : List ℕ = flat_map value_text h.values in
      let rest_is : List ℕ = codes "\r\n" ++ keys_text (place_of path) ts in
      let text : (key_line path ++ 13 ∷ 10 ∷ []) ++ (lines_are ++ rest_is) ≡ key_text (place_of path) (key h ts) =
      ap (λ (t : List ℕ). (91 ∷ t) ++ (lines_are ++ rest_is)) (append_assoc (place_of path) (93 ∷ []) (13 ∷ 10 ∷ []))
      ∙ sym (append_assoc start lines_are rest_is)
      ∙ sym (append_assoc (start ++ lines_are) (13 ∷ 10 ∷ []) (keys_text (place_of path) ts)) in
      record {
        into = keys.into;
        said = subst (λ (t : List ℕ). Said state t (key_steps path (key h ts)) keys.into) text whole;
      }

  keys_said : (ts : Trees) (path : List (List ℕ)) (state : State) → state.begun ≡ None → All IsPart path
      → list_any breaks path ≡ false → AreTextual ts
      → have_broken_names ts ≡ false → Told state (keys_text (place_of path) ts) (keys_steps path ts)
  keys_said none path state begun parts plain textual broken =
      record { into = state.key; said = nothing_said state state.key begun refl }
  keys_said (more t ts) path state begun parts plain textual broken =
      let name : List ℕ = (head t).name in
      let below = or_parts (breaks name || has_broken_name t) (have_broken_names ts) broken in
      let two = or_parts (breaks name) (has_broken_name t) below.0 in
      let one = key_said t (path ++ name ∷ []) state begun (parts_push path name parts textual.0)
      (plain_push path name plain two.0) textual.1 two.1 in
      let first : Said state (key_text (place_below (place_of path) name) t) (key_steps (path ++ name ∷ []) t)
      one.into =
      subst (λ (p : List ℕ). Said state (key_text p t) (key_steps (path ++ name ∷ []) t) one.into)
      (place_push path name) one.said in
      let rest = keys_said ts path first.after first.begun parts plain textual.2 below.1 in
      record {
        into = rest.into;
        said = then_said state (key_text (place_below (place_of path) name) t) (keys_text (place_of path) ts)
            (key_steps (path ++ name ∷ []) t) (keys_steps path ts)
            one.into rest.into first rest.said;
      }

-- ---- the whole

closed_is : (units : List ℕ) (odd : Bool) (steps : List Step) (after : State) → after.begun ≡ None → odd ≡ false
    → closed units odd (Ok (steps, after)) ≡ Ok steps
unfolding unended
closed_is units odd steps after begun even = rw (begun, even) refl

said_whole : (units : List ℕ) (odd : Bool) (body text : List ℕ) (steps : List Step) (into : Option (List (List ℕ)))
    → units ≡ header ++ 13 ∷ 10 ∷ body
    → body ≡ codes "\r\n" ++ text → odd ≡ false → ((state : State) → state.begun ≡ None → Told state text steps)
    → units_said units odd ≡ Ok steps
unfolding units_said body_of lines_said
said_whole units odd body text steps into is from even tells =
    let gap = empty_said first_state None refl refl in
    let told = tells gap.after gap.begun in
    let body_is : body_of (lines units) ≡ Ok (lines body) =
    ap (λ (u : List ℕ). body_of (lines u)) is ∙ ap body_of (line_cut header body refl) in
    let read : lines_said first_state (lines body) ≡ Ok (steps, told.said.after) =
    ap (λ (b : List ℕ). lines_said first_state (lines b)) from
    ∙ gap.reads text
    ∙ no_edits (lines_said gap.after (lines text))
    ∙ ap (λ (t : List ℕ). lines_said gap.after (lines t)) (sym (append-nil text))
    ∙ told.said.reads []
    ∙ ap (λ (es : List Step). Ok (es, told.said.after)) (append-nil steps) in
    ap (λ (b : Result (List (List ℕ)) RegFaultKind). closed units odd (lines_behind b)) body_is
    ∙ ap (closed units odd) read
    ∙ closed_is units odd steps told.said.after told.said.begun even

text_said : (path : List (List ℕ)) (t : Tree) → All IsPart path → IsTextual t
    → (list_any breaks path || has_broken_name t) ≡ false
    → reg_steps_of (mark ++ flat_map unit_bytes (text_of path t)) ≡ Ok (key_steps path t)
unfolding reg_steps_of behind_mark
text_said path t parts textual plain =
    let two = or_parts (list_any breaks path) (has_broken_name t) plain in
    let units : List ℕ = text_of path t in
    let odd : Bool = eqb (length (flat_map unit_bytes units) % 2) 1 in
    ap (λ (u : List ℕ). units_said u odd) (wide_back units)
    ∙ said_whole units odd (codes "\r\n" ++ key_text (place_of path) t) (key_text (place_of path) t) (key_steps path t)
    None refl refl (not_odd units)
    (λ state begun. key_said t path state begun parts two.0 textual two.1)

-- the text of a key is read as its edits
pub read_back : (path : List (List ℕ)) (t : Tree) (text : List ℕ) → All IsPart path → IsTextual t
    → reg_text_of path t ≡ Ok text
    → reg_steps_of text ≡ Ok (key_steps path t)
unfolding reg_text_of
read_back path t text parts textual is = go (list_any breaks path || has_broken_name t) refl is
  where
    whole : List ℕ
    whole = mark ++ flat_map unit_bytes (text_of path t)

    fault : RegFault
    fault = record { kind = NotText; line = 0 }

    go : (b : Bool) → (list_any breaks path || has_broken_name t) ≡ b
        → cond {A = Result (List ℕ) RegFault} b (Err fault) (Ok whole) ≡ Ok text
        → reg_steps_of text ≡ Ok (key_steps path t)
    go true plain is = absurd cc
    go false plain is =
        let same : whole ≡ text = one whole text is in
        ap reg_steps_of (sym same) ∙ text_said path t parts textual plain
      where
        read : List ℕ → Result (List ℕ) RegFault
        read bytes = Ok bytes

        one : (a b : List ℕ) → read a ≡ read b → a ≡ b
        one a b e = cc
