-- A call is refused for the first of its reasons.
use Rattle.std.proofs.Common.{◌≡◌, ℕ, Bool, true, List, [], Option, Some, None, get_or, refl, sym, ap, subst, ◌∙◌}
use Rattle.std.specs.Prelude.{Result, position, slice_get, option_and_then, if◌then◌else◌}
use Rattle.std.specs.Option.{option_or, option_map_or}
use Rattle.std.proofs.lemmas.List.{get_or-map}
use Rattle.std.proofs.lemmas.List.Quantifiers.{position-Some}
use Rattle.std.proofs.lemmas.Option.{slice_get_within, get_or_from_slice_get}
use Rattle.nt_bytes.specs.Folding.{folds_same}
use Rattle.service_control.specs.declared.stop.ControlStop.{ControlStop}
use Rattle.service_control.specs.declared.stop.ControlStop.TheVariants.{NoService, Disabled, Running, NotStarted, Missing, NeedDisabled, InUse, Unmet, Memory}
use Rattle.start_model.specs.Demand.{Need}
use Rattle.start_model.specs.Ready.{Label, has_name}
use Rattle.dependencies.specs.Work.{names_of}
use Rattle.service_control.specs.State.{ControlState, labels_of, named}
use Rattle.service_control.specs.Needed.{members_of}
use Rattle.service_control.specs.Calls.{StopsBy, Answers, members_refusal, idle_refusal, off_refusal}
use Rattle.service_control.proofs.LeanLemmas.{name_alike}

pub stops_first : (e : ControlStop) (r x : Option ControlStop) → StopsBy r e → StopsBy (option_or r x) e
stops_first NoService r x s = ap (λ o. option_or o x) s
stops_first Disabled r x s = ap (λ o. option_or o x) s
stops_first Running r x s = ap (λ o. option_or o x) s
stops_first NotStarted r x s = ap (λ o. option_or o x) s
stops_first (Missing n) r x s = ap (λ o. option_or o x) s
stops_first (NeedDisabled n) r x s = ap (λ o. option_or o x) s
stops_first (InUse n) r x s = ap (λ o. option_or o x) s
stops_first Unmet r x s = ap (λ o. option_or o x) s
stops_first Memory r x s = tt

-- the first reason is none, so the next one counts
pub next_is : (r x : Option ControlStop) → r ≡ None → option_or r x ≡ x
next_is r x is = ap (λ o. option_or o x) is

-- the first reason is none, and the next one is judged
pub answers_next : {T : Type 0} (result : Result T ControlStop) (r x : Option ControlStop) → r ≡ None → Answers result x
    → Answers result (option_or r x)
answers_next result r x is s = let P : Option ControlStop → Type 0 = Answers result in subst P (sym (next_is r x is)) s

-- what is needed, by what the code keeps of it
pub needed_same : (c : ControlState) (n : Need) (t b r : List Need) (index : List (List ℕ)) (started : List Label)
    (name : List ℕ) (table needed slice : List Need)
    → record { table = t; by_group = b; running = r } ≡ c → index ≡ names_of t → started ≡ labels_of r → name ≡ n.name
    → table ≡ t → needed ≡ members_of table started name → slice ≡ needed
    → members_refusal index slice ≡ members_refusal (names_of c.table) (members_of c.table (labels_of c.running) n.name)
needed_same c n t b r index started name table needed slice view index_is started_is name_is table_is needed_is
    slice_is =
    let table_now : t ≡ c.table = ap (λ (v : ControlState). v.table) view in
    let running_now : r ≡ c.running = ap (λ (v : ControlState). v.running) view in
    let members : slice ≡ members_of c.table (labels_of c.running) n.name =
    slice_is ∙ needed_is ∙ (λ j. members_of ((table_is ∙ table_now) j) ((started_is ∙ ap labels_of running_now) j)
    (name_is j)) in
    (λ i. members_refusal ((index_is ∙ ap names_of table_now) i) (members i))

pub stops_same : (e : ControlStop) (r s x : Option ControlStop) → r ≡ s → StopsBy r e → StopsBy (option_or s x) e
stops_same e r s x same stops =
    stops_first e s x (let P : Option ControlStop → Type 0 = λ o. StopsBy o e in subst P same stops)

-- ---- the entry of a name

-- the entry that is found has this name, in some case of its letters
pub named_alike : (table : List Need) (name : List ℕ) (n : Need) → named table name ≡ Some n
    → folds_same name n.name ≡ true
named_alike table name n found = at (position (folds_same name) (names_of table)) refl where
  at : (o : Option ℕ) → position (folds_same name) (names_of table) ≡ o → folds_same name n.name ≡ true
  at None is = absurd (let none : None ≡ Some n = sym (ap (option_and_then (slice_get table)) is) ∙ found in cc)
  at (Some place) is =
      let here : slice_get table place ≡ Some n = sym (ap (option_and_then (slice_get table)) is) ∙ found in
      let spelled : get_or (names_of table) place [] ≡ n.name =
      get_or-map (λ (m : Need). m.name) table place n [] (slice_get_within table place n here)
      ∙ ap (λ (m : Need). m.name) (get_or_from_slice_get table place n n here) in
      ap (folds_same name) (sym spelled) ∙ (position-Some (folds_same name) (names_of table) place [] is).1

-- the labels that the code keeps are those of the state
pub labels_are : (c : ControlState) (t b r : List Need) (started : List Label)
    → record { table = t; by_group = b; running = r } ≡ c → started ≡ labels_of r → started ≡ labels_of c.running
labels_are c t b r started view kept = kept ∙ ap (λ (v : ControlState). labels_of v.running) view

-- whether it is started is asked of the entry
pub on_alike : (c : ControlState) (name : List ℕ) (n : Need) → named c.table name ≡ Some n
    → has_name (labels_of c.running) n.name ≡ has_name (labels_of c.running) name
on_alike c name n found = sym (name_alike (labels_of c.running) name n.name (named_alike c.table name n found))

pub off_at : (c : ControlState) (name : List ℕ) (n : Need) → named c.table name ≡ Some n
    → idle_refusal (labels_of c.running) n.name ≡ off_refusal c name
off_at c name n found =
    ap (λ (b : Bool). if b then None else Some NotStarted) (on_alike c name n found)
    ∙ ap (λ o. option_map_or (λ (m : Need). idle_refusal (labels_of c.running) name) o (Some NoService)) (sym found)
