-- The edits of a text, item by item.
use Rattle.std.proofs.Common.{◌≡◌, ℕ, ◌%◌, ◌==◌, Bool, true, List, [], ◌∷◌, ◌++◌, length, Option, Some, None, Result, Ok, Err, refl, sym, ap, subst, ◌∙◌}
use Rattle.std.specs.List.{list_any}
use Rattle.std.specs.Option.{option_map_or}
use Rattle.std.specs.Str.Lines.{lines}
use Rattle.nt_bytes.specs.Text.{wide_of, trimmed}
use Rattle.hive_model.specs.Edit.{Step, no_key, set_value, delete_value, delete_key, edited}
use Rattle.hive_model.specs.Tree.{Tree}
use Rattle.nt_bytes.specs.declared.version.HiveVersion.{HiveVersion}
use Rattle.nt_bytes.specs.Reading.{◌>>=◌}
use Rattle.reg_text.specs.declared.item.LineItem.{LineItem}
use Rattle.reg_text.specs.declared.item.LineItem.TheVariants.{Nothing, InKey, NoKey, Named, NoValue, GoesOn}
use Rattle.reg_text.specs.declared.state.State.{State}
use Rattle.reg_text.specs.declared.stop.RegFault.{RegFault}
use Rattle.reg_text.specs.declared.stop.RegFaultKind.{RegFaultKind}
use Rattle.reg_text.specs.declared.stop.RegFaultKind.TheVariants.{Mark, Line}
use Rattle.reg_text.specs.Gives.{at_line}
use Rattle.reg_text.specs.Items.{item_at}
use Rattle.reg_text.specs.Reading.{making, edits_of, key_after, state_after, number_of, line_said, with_edits, then_lines, lines_said, first_state, body_of, unended, closed, lines_behind, units_said, behind_mark, reg_steps_of}
use Rattle.command_words.specs.declared.asked.AskedEncoding.{AskedEncoding}
use Rattle.command_words.specs.declared.asked.AskedEncoding.TheVariants.{Utf16, Utf8}
use Rattle.import_steps.specs.Encoding.{utf16_of}
use Rattle.import_steps.specs.Left.{left_of}
use Rattle.text_commands.specs.Changed.{steps_in}
use Rattle.command_laws.specs.import_laws.Options.{deletes_root}
use Rattle.command_laws.proofs.KeyLemmas.{IsThere, ByRoot, set_by_root, unset_by_root, make_by_root, delete_by_root, edited_by_root}

-- the first item's edits, and those of the others after it
record SaysFirst (key : Option (List (List ℕ))) (item : LineItem) (rest : List Step
    → Type 0) (steps : List Step) : Type 0 where
  first : List Step
  more : List Step
  edits : edits_of key item ≡ Ok first
  whole : steps ≡ first ++ more
  later : rest more

-- the steps are those of these items
abbrev SaidBy : Option (List (List ℕ)) → List LineItem → List Step → Type 0
SaidBy key [] steps = steps ≡ []
SaidBy key (item ∷ items) steps = SaysFirst key item (SaidBy (key_after key item) items) steps

-- ---- from a text

record IsLine (state : State) (first : List Step) (next : State) : Type 0 where
  item : LineItem
  edits : edits_of state.key item ≡ Ok first
  after : next ≡ state_after state item

abbrev Said : Type 0
Said = Result (List Step × State) RegFaultKind

abbrev said : List Step → State → Said
said first next = Ok (first, next)

same_said : (p q : List Step × State) → said p.0 p.1 ≡ said q.0 q.1 → p ≡ q
same_said p q e = cc

one_pair : (a b : List Step) (s u : State) → said a s ≡ said b u → (a ≡ b) × (s ≡ u)
one_pair a b s u e =
    let both = same_said (a, s) (b, u) e in
    (ap (λ (p : List Step × State). p.0) both, ap (λ (p : List Step × State). p.1) both)

-- the same of what all lines say
abbrev read : List Step × State → Result (List Step × State) RegFault
read p = Ok p

same_read : (p q : List Step × State) → read p ≡ read q → p ≡ q
same_read p q e = cc

line_item : (state : State) (line : List ℕ) (first : List Step) (next : State) → line_said state line ≡ Ok (first, next)
    → IsLine state first next
unfolding line_said
line_item state line first next e = go (item_at state.begun (trimmed line)) e
  where
    by_edits : (item : LineItem) (r : Result (List Step) RegFaultKind) → edits_of state.key item ≡ r
        → (r >>= (λ es. said es (state_after state item))) ≡ said first next → IsLine state first next
    by_edits item (Err kind) is q = absurd cc
    by_edits item (Ok es) is q =
        let both = one_pair es first (state_after state item) next q in
        record { item = item; edits = is ∙ ap (λ (l : List Step). Ok l) both.0; after = sym both.1 }

    go : (r : Result LineItem RegFaultKind)
        → (r >>= (λ item. edits_of state.key item >>= λ es. said es (state_after state item))) ≡ said first next
        → IsLine state first next
    go (Err kind) q = absurd cc
    go (Ok item) q = by_edits item (edits_of state.key item) refl q

record AreItems (key : Option (List (List ℕ))) (steps : List Step) : Type 0 where
  items : List LineItem
  says : SaidBy key items steps

lines_items : (ls : List (List ℕ)) (state : State) (steps : List Step) (last : State)
    → lines_said state ls ≡ Ok (steps, last) → AreItems state.key steps
unfolding lines_said
lines_items [] state steps last e =
    record { items = []; says = sym (ap (λ (p : List Step × State). p.0) (same_read ([], state) (steps, last) e)) }
lines_items (line ∷ ls) state steps last e =
    go (line_said state line) refl e (λ next more after q. lines_items ls next more after q)
  where
    by_rest : (first : List Step) (next : State) → line_said state line ≡ Ok (first, next)
        → (r : Result (List Step × State) RegFault) → lines_said next ls ≡ r → with_edits first r ≡ Ok (steps, last)
        → ((s : State) (more : List Step) (after : State) → lines_said s ls ≡ Ok (more, after) → AreItems s.key more)
        → AreItems state.key steps
    by_rest first next is (Err fault) rest q inner = absurd cc
    by_rest first next is (Ok r) rest q inner =
        let both = same_read (first ++ r.0, r.1) (steps, last) q in
        let one = line_item state line first next is in
        let more = inner next r.0 r.1 rest in
        record {
          items = one.item ∷ more.items;
          says = record {
            first = first;
            more = r.0;
            edits = one.edits;
            whole = sym (ap (λ (p : List Step × State). p.0) both);
            later = subst (λ (s : State). SaidBy s.key more.items r.0) one.after more.says;
          };
        }

    go : (r : Result (List Step × State) RegFaultKind) → line_said state line ≡ r
        → then_lines (at_line (number_of state) r) (λ next. lines_said next ls) ≡ Ok (steps, last)
        → ((s : State) (more : List Step) (after : State) → lines_said s ls ≡ Ok (more, after) → AreItems s.key more)
        → AreItems state.key steps
    go (Err kind) is q inner = absurd cc
    go (Ok r) is q inner = by_rest r.0 r.1 is (lines_said r.1 ls) refl q inner

abbrev fault_at : ℕ → Result (List Step) RegFault
fault_at n = Err (record { kind = Line; line = n })

abbrev all_of : List Step → Result (List Step) RegFault
all_of steps = Ok steps

same_steps : (a b : List Step) → all_of a ≡ all_of b → a ≡ b
same_steps a b e = cc

closed_is : (units : List ℕ) (odd : Bool) (r : Result (List Step × State) RegFault) (steps : List Step)
    → closed units odd r ≡ Ok steps → (last : State) × (r ≡ Ok (steps, last))
closed_is units odd (Err fault) steps e = absurd cc
closed_is units odd (Ok r) steps e = go (unended r.1 units odd) e
  where
    go : (o : Option ℕ) → option_map_or fault_at o (Ok r.0) ≡ Ok steps
        → (last : State) × (read r ≡ read (steps, last))
    go (Some n) q = absurd cc
    go None q = (r.1, ap (λ (s : List Step). read (s, r.1)) (same_steps r.0 steps q))

units_items : (units : List ℕ) (odd : Bool) (steps : List Step) → units_said units odd ≡ Ok steps → AreItems None steps
unfolding units_said
units_items units odd steps e =
    let c = closed_is units odd (lines_behind (body_of (lines units))) steps e in
    go (body_of (lines units)) c.0 c.1
  where
    go : (b : Result (List (List ℕ)) RegFaultKind) (last : State) → lines_behind b ≡ Ok (steps, last)
        → AreItems None steps
    go (Err kind) last q = absurd cc
    go (Ok body) last q = lines_items body first_state steps last q

text_items : (text : List ℕ) (steps : List Step) → reg_steps_of text ≡ Ok steps → AreItems None steps
unfolding reg_steps_of
text_items text steps e = go (behind_mark text) e
  where
    go : (o : Option (List ℕ)) → option_map_or (λ bytes. units_said (wide_of bytes) (length bytes % 2 == 1)) o
        (Err (record { kind = Mark; line = 0 })) ≡ Ok steps → AreItems None steps
    go None q = absurd cc
    go (Some bytes) q = units_items (wide_of bytes) (length bytes % 2 == 1) steps q

-- ---- what is refused

abbrev Stands : Option (List (List ℕ)) → Tree → Type 0
Stands None t = Unit {0}
Stands (Some path) t = IsThere path t

abbrev fine : List Step → Result (List Step) RegFaultKind
fine steps = Ok steps

one_list : (a b : List Step) → fine a ≡ fine b → a ≡ b
one_list a b e = cc

by_whole : (t : Tree) (steps first more : List Step) → steps ≡ first ++ more → ByRoot t (first ++ more) → ByRoot t steps
by_whole t steps first more whole by = subst (ByRoot t) (sym whole) by

by_first : (t : Tree) (given first more : List Step) → fine given ≡ fine first → ByRoot t (given ++ more)
    → ByRoot t (first ++ more)
by_first t given first more is by = subst (λ (l : List Step). ByRoot t (l ++ more)) (one_list given first is) by

abbrev unkeyed : Result (List Step) RegFaultKind
unkeyed = Err Line

no_key_named : (first : List Step) → unkeyed ≡ fine first → ⊥
no_key_named first e = absurd cc

nothing_refused : (t : Tree) → Ok t ≡ Err no_key → ⊥
nothing_refused t e = absurd cc

by_root : (items : List LineItem) (key : Option (List (List ℕ))) (steps : List Step) (t : Tree) → SaidBy key items steps
    → Stands key t → ByRoot t steps
by_root [] key steps t says there = subst (ByRoot t) (sym says) (λ e. absurd (nothing_refused t e))
by_root (Nothing ∷ items) key steps t says there =
    by_whole t steps says.first says.more says.whole
    (by_first t [] says.first says.more says.edits (by_root items key says.more t says.later there))
by_root (InKey path ∷ items) key steps t says there =
    by_whole t steps says.first says.more says.whole
    (by_first t (making [] path) says.first says.more says.edits
    (make_by_root [] path says.more t (t, refl) (λ u deep. by_root items (Some path) says.more u says.later deep)))
by_root (NoKey path ∷ items) key steps t says there =
    by_whole t steps says.first says.more says.whole
    (by_first t (delete_key path ∷ []) says.first says.more says.edits
    (delete_by_root path says.more t (λ u. by_root items None says.more u says.later tt)))
by_root (Named name kind bytes ∷ items) None steps t says there = absurd (no_key_named says.first says.edits)
by_root (Named name kind bytes ∷ items) (Some path) steps t says there =
    by_whole t steps says.first says.more says.whole
    (by_first t (set_value path name kind bytes ∷ []) says.first says.more says.edits
    (set_by_root path name kind bytes says.more t there (λ u deep. by_root items
    (Some path) says.more u says.later deep)))
by_root (NoValue name ∷ items) None steps t says there = absurd (no_key_named says.first says.edits)
by_root (NoValue name ∷ items) (Some path) steps t says there =
    by_whole t steps says.first says.more says.whole
    (by_first t (delete_value path name ∷ []) says.first says.more says.edits
    (unset_by_root path name says.more t there (λ u deep. by_root items (Some path) says.more u says.later deep)))
by_root (GoesOn begun ∷ items) None steps t says there = absurd (no_key_named says.first says.edits)
by_root (GoesOn begun ∷ items) (Some path) steps t says there =
    by_whole t steps says.first says.more says.whole
    (by_first t [] says.first says.more says.edits (by_root items (Some path) says.more t says.later there))

-- ---- in either encoding

text_of : (encoding : AskedEncoding) (text : List ℕ) (steps : List Step) → steps_in encoding text ≡ Ok steps
    → AreItems None steps
text_of Utf16 text steps e = text_items text steps e
text_of Utf8 text steps e = go (utf16_of text) e
  where
    go : (o : Option (List ℕ)) → option_map_or reg_steps_of o (Err (record { kind = Mark; line = 0 })) ≡ Ok steps
        → AreItems None steps
    go None q = absurd cc
    go (Some wide) q = text_items wide steps q

pub root_only : (version : HiveVersion) (t : Tree) (encoding : AskedEncoding) (text : List ℕ) (steps : List Step)
    → steps_in encoding text ≡ Ok steps → edited version t (left_of t steps).steps ≡ Err no_key
    → list_any deletes_root steps ≡ true
root_only version t encoding text steps reads e =
    let a = text_of encoding text steps reads in
    edited_by_root version t steps (by_root a.items None steps t a.says tt) e
