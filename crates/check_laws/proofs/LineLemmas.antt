-- The lines about an entry are its wrong needs and its cycles.
use Rattle.std.proofs.Common.{◌≡◌, ℕ, ◌+◌, Bool, true, false, not, ◌&&◌, ◌||◌, nat_eq, cond, List, [], ◌∷◌, ◌++◌, length, map, Option, Some, None, refl, sym, ap, ◌∙◌, inl, inr, subst}
use Rattle.std.specs.Prelude.{Contains, slice_get, slice_index_or, filter, position, nat_le, nat_lt, codes, option_and_then}
use Rattle.std.specs.Option.{is_some, option_map_or}
use Rattle.std.specs.List.{list_all, flat_map, range_with_len, filter_map}
use Rattle.std.proofs.lemmas.Bool.{false≢true, and_from, or_left}
use Rattle.std.proofs.lemmas.List.{get_or_default}
use Rattle.std.proofs.lemmas.Option.{same_Some}
use Rattle.std.proofs.lemmas.List.Elements.{Contains-append_left, Contains-append_right, Contains-append_cases}
use Rattle.nt_bytes.specs.Folding.{folds_same}
use Rattle.hive_model.specs.Tree.{Tree, Item, head, children, find_key, find_item, find_dword, dword_in}
use Rattle.start_model.specs.Entries.{Entry, entry_of, entry_with, entries_of, is_driver, is_service}
use Rattle.start_model.specs.Order.{GroupOrder, first_names}
use Rattle.wait_cycles.specs.Waits.{cycles_of}
use Rattle.wait_cycles.proofs.InverseLemmas.{none_in}
use Rattle.wait_cycles.proofs.MetLemmas.{later_in, all_gives, in_range, range_in}
use Rattle.wait_cycles.proofs.CycleLemmas.{in_cons}
use Rattle.answer_lines.specs.declared.check_lines.lines.Fault.{Fault}
use Rattle.answer_lines.specs.declared.check_lines.lines.Fault.TheVariants as faults
use Rattle.answer_lines.specs.declared.check_lines.lines.CheckLine.{CheckLine}
use Rattle.answer_lines.specs.declared.check_lines.lines.CheckLine.TheVariants as lines
use Rattle.service_check.specs.declared.stage.Stage.TheVariants.{System, Automatic}
use Rattle.service_check.specs.declared.stage.Staged.{Staged}
use Rattle.service_check.specs.Stages.{is_taken, is_upto, rows_of}
use Rattle.service_check.specs.Needs.{names_of, named, groups_upto, need_faults, waits_of}
use Rattle.service_check.specs.Children.{Scope, when, has_value, missing_faults, malformed, has_malformed, malformed_faults, all_fields, number_faults, control_beyond, control_faults, has_image, image_faults, listed, tag_fault, tag_faults_of, order_faults, own_faults, bond_faults, entry_faults, service_faults, child_faults}
use Rattle.service_check.specs.Check.{line_when, scope_of, list_lines, about, child_lines, unlisted_in, group_line, group_lines, name_at, cycle_line, lines_of_cycle, numbered_lines, cycle_lines, services_lines, judged_lines, set_lines}
use Rattle.service_control.proofs.LeanLemmas.{folds_itself, mapped_from, mapped_to, alone_from}
use Rattle.service_control.proofs.LeastLemmas.{from}
use Rattle.check_laws.specs.Unmet.{is_wrong_need}
use Rattle.check_laws.proofs.QuietLemmas.{append_all, map_all}
use Rattle.check_laws.proofs.TakenLemmas.{item_here}
use Rattle.check_laws.proofs.ProperLaws.{flat_from}
use Rattle.check_laws.proofs.CycleLaws.{flat_in}
use Rattle.check_laws.proofs.RowLemmas.{RowsApart, named_is, named_row, place_named}

-- ---- faults of other kinds

abbrev is_other : Fault → Bool
is_other f = not (is_wrong_need f)

other_when : (b : Bool) (f : Fault) → is_other f ≡ true → list_all is_other (when b f) ≡ true
other_when true f h = and_from (is_other f) true h refl
other_when false f h = refl

other_missing : (t : Tree) → list_all is_other (missing_faults t) ≡ true
other_missing t =
    append_all is_other (when (has_value (codes "Type") t && not (has_value (codes "Start") t)) faults.NoStart)
    (when (has_value (codes "Start") t && not (has_value (codes "Type") t)) faults.NoType)
    (other_when (has_value (codes "Type") t && not (has_value (codes "Start") t)) faults.NoStart refl)
    (other_when (has_value (codes "Start") t && not (has_value (codes "Type") t)) faults.NoType refl)

other_malformed : (t : Tree) → list_all is_other (malformed_faults t) ≡ true
other_malformed t = map_all is_other malformed (filter (has_malformed t) all_fields) (λ field. refl)

other_beyond : (o : Option ℕ) → list_all is_other (control_beyond o) ≡ true
other_beyond None = refl
other_beyond (Some control) = other_when (nat_lt 3 control) (faults.ControlBeyond control) refl

other_numbers : (e : Entry) → list_all is_other (number_faults e) ≡ true
other_numbers e =
    let beyond : Bool = nat_lt 4 e.start in
    let odd : Bool = nat_le e.start 2 && not (is_driver e.kind || is_service e.kind) in
    let early : Bool = nat_le e.start 1 && is_service e.kind in
    append_all is_other (when beyond (faults.Beyond e.start) ++ when odd (faults.Kind e.kind))
    (when early (faults.TooEarly e.start))
    (append_all is_other (when beyond (faults.Beyond e.start)) (when odd (faults.Kind e.kind))
    (other_when beyond (faults.Beyond e.start) refl) (other_when odd (faults.Kind e.kind) refl))
    (other_when early (faults.TooEarly e.start) refl)

other_control : (t : Tree) (r : Staged) → list_all is_other (control_faults t r) ≡ true
other_control t r =
    append_all is_other (when (is_taken r.stage && not (has_value (codes "ErrorControl") t)) faults.NoControl)
    (control_beyond (find_dword (codes "ErrorControl") t))
    (other_when (is_taken r.stage && not (has_value (codes "ErrorControl") t)) faults.NoControl refl)
    (other_beyond (find_dword (codes "ErrorControl") t))

other_own : (has_images : Bool) (t : Tree) (r : Staged) → list_all is_other (own_faults has_images t r) ≡ true
other_own has_images t r =
    append_all is_other (number_faults r.entry ++ control_faults t r) (image_faults has_images t r.entry)
    (append_all is_other (number_faults r.entry) (control_faults t r) (other_numbers r.entry) (other_control t r))
    (other_when (has_images && (is_service r.entry.kind && ((nat_eq r.entry.start 2) || (nat_eq r.entry.start 3)))
    && not (has_image t)) faults.NoImage refl)

other_tag : (tag : ℕ) (group : List ℕ) (o : Option GroupOrder) → list_all is_other (tag_fault tag group o) ≡ true
other_tag tag group None = refl
other_tag tag group (Some o) =
    other_when (not (is_some (position (λ x. nat_eq x tag) o.tags))) (faults.TagUnlisted tag group) refl

other_tags : (orders : List GroupOrder) (tag : Option ℕ) (group : Option (List ℕ))
    → list_all is_other (tag_faults_of orders tag group) ≡ true
other_tags orders None group = refl
other_tags orders (Some tag) None = refl
other_tags orders (Some tag) (Some group) = other_tag tag group (listed orders group)

other_order : (in_order : Bool) (orders : List GroupOrder) (r : Staged) → list_all is_other (order_faults in_order orders r) ≡ true
other_order false orders r = refl
other_order true orders r = by (is_upto System r.stage)
  where
    by : (b : Bool) → list_all is_other (cond b (tag_faults_of orders r.entry.tag r.entry.group) []) ≡ true
    by true = other_tags orders r.entry.tag r.entry.group
    by false = refl

not_other : (l : List Fault) (f : Fault) → list_all is_other l ≡ true → Contains l f → is_wrong_need f ≡ true → ⊥
not_other l f all c h = false≢true (sym (ap not h) ∙ all_gives is_other l f all c)

-- ---- the wrong needs of a child

wrong_of_entry : (s : Scope) (t : Tree) (r : Staged) (f : Fault) → Contains (entry_faults s t r) f → is_wrong_need f ≡ true
    → Contains (need_faults s.rows r) f
wrong_of_entry s t r f c h = elim (Contains-append_cases (own_faults s.has_images t r) (bond_faults s r) f c) [
  | inl i ↦ absurd (not_other (own_faults s.has_images t r) f (other_own s.has_images t r) i h)
  | inr i ↦ elim (Contains-append_cases (need_faults s.rows r) (order_faults s.in_order s.orders r) f i) [
    | inl j ↦ j
    | inr j ↦ absurd (not_other (order_faults s.in_order s.orders r) f (other_order s.in_order s.orders r) j h)
  ]
]

-- the row of a name, and a wrong need of it
pub record HasWrong (rows : List Staged) (name : List ℕ) (f : Fault) : Type 0 where
  pub row : Staged
  pub there : Contains rows row
  pub same : folds_same name row.entry.name ≡ true
  pub fault : Contains (need_faults rows row) f

wrong_named : (s : Scope) (t : Tree) (f : Fault) (o : Option Staged) → named s.rows (head t).name ≡ o
    → Contains (option_map_or (entry_faults s t) o []) f → is_wrong_need f ≡ true → HasWrong s.rows (head t).name f
wrong_named s t f None e c h = absurd (none_in f c)
wrong_named s t f (Some r) e c h = by (position (folds_same (head t).name) (names_of s.rows)) refl e
  where
    by : (o : Option ℕ) → position (folds_same (head t).name) (names_of s.rows) ≡ o
        → option_and_then (slice_get s.rows) o ≡ Some r → HasWrong s.rows (head t).name f
    by None at is = absurd cc
    by (Some k) at is =
        let n = place_named s.rows (head t).name k at in
        let same : n.0 ≡ r = same_Some n.0 r (sym n.1 ∙ is) in
        record {
          row = r;
          there = item_here s.rows k r is;
          same = ap (λ (x : Staged). folds_same (head t).name x.entry.name) (sym same) ∙ n.2;
          fault = wrong_of_entry s t r f c h;
        }

wrong_of_service : (s : Scope) (t : Tree) (f : Fault) → Contains (service_faults s t) f → is_wrong_need f ≡ true
    → HasWrong s.rows (head t).name f
wrong_of_service s t f c h =
    elim (Contains-append_cases (missing_faults t ++ malformed_faults t) (option_map_or (entry_faults s t) (named s.rows (head t).name) []) f c) [
      | inl i ↦ absurd (not_other (missing_faults t ++ malformed_faults t) f
          (append_all is_other (missing_faults t) (malformed_faults t) (other_missing t) (other_malformed t)) i h)
      | inr i ↦ wrong_named s t f (named s.rows (head t).name) refl i h
    ]

wrong_of_child : (s : Scope) (t : Tree) (f : Fault) (b : Bool) → Contains (cond b (service_faults s t) []) f
    → is_wrong_need f ≡ true → HasWrong s.rows (head t).name f
wrong_of_child s t f true c h = wrong_of_service s t f c h
wrong_of_child s t f false c h = absurd (none_in f c)

-- ---- lines of each kind

abbrev pub fault_of : CheckLine → Fault → Fault
fault_of (lines.About fault name) other = fault
fault_of line other = other

abbrev pub name_of : CheckLine → List ℕ
name_of (lines.About fault name) = name
name_of (lines.Cycle number name) = name
name_of line = []

abbrev is_about_line : CheckLine → Bool
is_about_line (lines.About fault name) = true
is_about_line line = false

abbrev is_cycle_line : CheckLine → Bool
is_cycle_line (lines.Cycle number name) = true
is_cycle_line line = false

-- a line whose kind another one isn't
unlike : (p : CheckLine → Bool) (l k : CheckLine) → l ≡ k → p l ≡ false → p k ≡ true → ⊥
unlike p l k e off on = false≢true (sym off ∙ ap p e ∙ on)

when_line : (b : Bool) (l k : CheckLine) → Contains (line_when b l) k → l ≡ k
when_line true l k c = alone_from l k c
when_line false l k c = absurd (none_in k c)

group_kind : (p : CheckLine → Bool) → ((count : ℕ) (g : List ℕ) → p (lines.GroupUnlisted count g) ≡ false) → (s : Scope) (k : CheckLine)
    → Contains (group_lines s) k → p k ≡ true → ⊥
group_kind p off s k = by s.in_order
  where
    by : (b : Bool) → Contains (cond b (map (group_line (unlisted_in s)) (first_names (unlisted_in s))) []) k → p k ≡ true → ⊥
    by false c h = absurd (none_in k c)
    by true c h =
        let m = mapped_from (group_line (unlisted_in s)) (first_names (unlisted_in s)) k c in
        unlike p (group_line (unlisted_in s) m.item) k m.is (off _ _) h

-- the place of a cycle line
pub record IsCyclePlace (rows : List Staged) (number : ℕ) (name : List ℕ) : Type 0 where
  pub cycle : List ℕ
  pub there : Contains (cycles_of (waits_of rows)) cycle
  pub place : ℕ
  pub on : Contains cycle place
  pub named : name_at rows place ≡ name

cycle_member : (s : Scope) (k : CheckLine) → Contains (cycle_lines s) k
    → (number : ℕ) × (cycle : List ℕ) × Contains (cycles_of (waits_of s.rows)) cycle × (q : ℕ) × Contains cycle q
    × (cycle_line s.rows number q ≡ k)
cycle_member s k c =
    let cycles : List (List ℕ) = cycles_of (waits_of s.rows) in
    let i = flat_from (lines_of_cycle s.rows (cycles_of (waits_of s.rows))) (range_with_len 0 (length (cycles_of (waits_of s.rows)))) k c in
    let lt = range_in (length (cycles_of (waits_of s.rows))) i.0 i.1 in
    let m = mapped_from (cycle_line s.rows (i.0 + 1)) (slice_index_or (cycles_of (waits_of s.rows)) i.0 []) k i.2 in (
      i.0 + 1,
      slice_index_or (cycles_of (waits_of s.rows)) i.0 [],
      (i.0, lt, get_or_default (cycles_of (waits_of s.rows)) i.0 (slice_index_or (cycles_of (waits_of s.rows)) i.0 []) [] lt),
      m.item,
      m.there,
      m.is,
    )

services_about : (s : Scope) (keys : List Tree) (f : Fault) (name : List ℕ) → Contains (services_lines s keys) (lines.About f name)
    → is_wrong_need f ≡ true → HasWrong s.rows name f
services_about s keys f name c h =
    elim (Contains-append_cases ((list_lines s ++ flat_map (child_lines s) keys) ++ group_lines s) (cycle_lines s) (lines.About f name) c) [
      | inr i ↦ (let m = cycle_member s (lines.About f name) i in
          absurd (unlike is_about_line (cycle_line s.rows m.0 m.3) (lines.About f name) m.5 refl refl))
      | inl i ↦ elim (Contains-append_cases (list_lines s ++ flat_map (child_lines s) keys) (group_lines s) (lines.About f name) i) [
        | inr j ↦ absurd (group_kind is_about_line (λ count g. refl) s (lines.About f name) j refl)
        | inl j ↦ elim (Contains-append_cases (list_lines s) (flat_map (child_lines s) keys) (lines.About f name) j) [
          | inl k ↦ absurd (unlike is_about_line lines.NoList (lines.About f name)
              (when_line (not (nat_eq (length (groups_upto Automatic s.rows)) 0) && (nat_eq (length s.orders) 0)) lines.NoList (lines.About f name) k)
              refl refl)
          | inr k ↦ (let t = flat_from (child_lines s) keys (lines.About f name) k in
              let m = mapped_from (about t.0) (child_faults s t.0) (lines.About f name) t.2 in
              let fault : m.item ≡ f = ap (λ (l : CheckLine). fault_of l f) m.is in
              let same : (head t.0).name ≡ name = ap name_of m.is in
              subst (λ (n : List ℕ). HasWrong s.rows n f) same
              (wrong_of_child s t.0 f (has_value (codes "Start") t.0 || has_value (codes "Type") t.0)
              (subst (Contains (child_faults s t.0)) fault m.there) h))
        ]
      ]
    ]

-- a line about a name is a wrong need of its row
pub set_about : (in_order : Bool) (number : ℕ) (set : Tree) (f : Fault) (name : List ℕ)
    → Contains (set_lines in_order number set) (lines.About f name) → is_wrong_need f ≡ true → HasWrong (rows_of set) name f
set_about in_order number set f name c h = elim (in_cons (lines.Set number) (judged_lines in_order set (find_key (codes "Services" ∷ []) set)) (lines.About f name) c) [
  | inl e ↦ absurd (unlike is_about_line (lines.Set number) (lines.About f name) e refl refl)
  | inr i ↦ by (find_key (codes "Services" ∷ []) set) i
]
  where
    by : (o : Option Tree) → Contains (judged_lines in_order set o) (lines.About f name) → HasWrong (rows_of set) name f
    by None i = absurd (unlike is_about_line lines.NoServices (lines.About f name) (alone_from lines.NoServices (lines.About f name) i) refl refl)
    by (Some services) i = services_about (scope_of in_order set (children services)) (children services) f name i h

services_cycle : (s : Scope) (keys : List Tree) (number : ℕ) (name : List ℕ) → Contains (services_lines s keys) (lines.Cycle number name)
    → IsCyclePlace s.rows number name
services_cycle s keys number name c =
    elim (Contains-append_cases ((list_lines s ++ flat_map (child_lines s) keys) ++ group_lines s) (cycle_lines s) (lines.Cycle number name) c) [
      | inr i ↦ (let m = cycle_member s (lines.Cycle number name) i in
          record { cycle = m.1; there = m.2; place = m.3; on = m.4; named = ap name_of m.5 })
      | inl i ↦ elim (Contains-append_cases (list_lines s ++ flat_map (child_lines s) keys) (group_lines s) (lines.Cycle number name) i) [
        | inr j ↦ absurd (group_kind is_cycle_line (λ count g. refl) s (lines.Cycle number name) j refl)
        | inl j ↦ elim (Contains-append_cases (list_lines s) (flat_map (child_lines s) keys) (lines.Cycle number name) j) [
          | inl k ↦ absurd (unlike is_cycle_line lines.NoList (lines.Cycle number name)
              (when_line (not (nat_eq (length (groups_upto Automatic s.rows)) 0) && (nat_eq (length s.orders) 0)) lines.NoList (lines.Cycle number name) k)
              refl refl)
          | inr k ↦ (let t = flat_from (child_lines s) keys (lines.Cycle number name) k in
              let m = mapped_from (about t.0) (child_faults s t.0) (lines.Cycle number name) t.2 in
              absurd (unlike is_cycle_line (about t.0 m.item) (lines.Cycle number name) m.is refl refl))
        ]
      ]
    ]

-- a cycle line is that of a place in a cycle
pub set_cycle : (in_order : Bool) (number : ℕ) (set : Tree) (k : ℕ) (name : List ℕ)
    → Contains (set_lines in_order number set) (lines.Cycle k name) → IsCyclePlace (rows_of set) k name
set_cycle in_order number set k name c = elim (in_cons (lines.Set number) (judged_lines in_order set (find_key (codes "Services" ∷ []) set)) (lines.Cycle k name) c) [
  | inl e ↦ absurd (unlike is_cycle_line (lines.Set number) (lines.Cycle k name) e refl refl)
  | inr i ↦ by (find_key (codes "Services" ∷ []) set) i
]
  where
    by : (o : Option Tree) → Contains (judged_lines in_order set o) (lines.Cycle k name) → IsCyclePlace (rows_of set) k name
    by None i = absurd (unlike is_cycle_line lines.NoServices (lines.Cycle k name) (alone_from lines.NoServices (lines.Cycle k name) i) refl refl)
    by (Some services) i = services_cycle (scope_of in_order set (children services)) (children services) k name i

-- ---- from a wrong need to its line

has_start : (t : Tree) (o : Option Item) (kind : Option ℕ) (e : Entry) → entry_with t (option_and_then dword_in o) kind ≡ Some e
    → is_some o ≡ true
has_start t None kind e h = absurd (no_start kind h)
  where
    no_start : (kind : Option ℕ) → entry_with t None kind ≡ Some e → ⊥
    no_start kind h = cc
has_start t (Some v) kind e h = refl

-- the key of an entry
pub record IsKeyOf (keys : List Tree) (e : Entry) : Type 0 where
  pub key : Tree
  pub there : Contains keys key
  pub name : e.name ≡ (head key).name
  pub started : has_value (codes "Start") key ≡ true

entry_name : (t : Tree) (start kind : Option ℕ) (e : Entry) → entry_with t start kind ≡ Some e → e.name ≡ (head t).name
entry_name t (Some s) (Some k) e h = ap (λ (o : Option Entry). option_map_or (λ (x : Entry). x.name) o []) (sym h)
entry_name t (Some s) None e h = absurd cc
entry_name t None kind e h = absurd cc

key_of_entry : (keys : List Tree) (e : Entry) → Contains (filter_map entry_of keys) e → IsKeyOf keys e
key_of_entry keys e c =
    let t = from entry_of keys e c in
    record {
      key = t.item;
      there = t.there;
      name = entry_name t.item (find_dword (codes "Start") t.item) (find_dword (codes "Type") t.item) e t.is;
      started = has_start t.item (find_item (codes "Start") t.item) (find_dword (codes "Type") t.item) e t.is;
    }

services_say : (s : Scope) (keys : List Tree) (r : Staged) (f : Fault) → RowsApart s.rows → Contains s.rows r
    → IsKeyOf keys r.entry → Contains (need_faults s.rows r) f
    → Contains (services_lines s keys) (lines.About f r.entry.name)
services_say s keys r f apart there k c =
    let name : folds_same (head k.key).name r.entry.name ≡ true =
    ap (folds_same (head k.key).name) k.name ∙ folds_itself (head k.key).name in
    let row : named s.rows (head k.key).name ≡ Some r =
    named_row s.rows (head k.key).name r (named_is s.rows apart (head k.key).name r there name) in
    let entry : Contains (entry_faults s k.key r) f =
    Contains-append_right (own_faults s.has_images k.key r) (bond_faults s r) f
    (Contains-append_left (need_faults s.rows r) (order_faults s.in_order s.orders r) f c) in
    let service : Contains (service_faults s k.key) f =
    Contains-append_right (missing_faults k.key ++ malformed_faults k.key)
    (option_map_or (entry_faults s k.key) (named s.rows (head k.key).name) []) f
    (subst (λ (o : Option Staged). Contains (option_map_or (entry_faults s k.key) o []) f) (sym row) entry) in
    let child : Contains (child_faults s k.key) f =
    subst (λ (b : Bool). Contains (cond b (service_faults s k.key) []) f)
    (sym (or_left (has_value (codes "Start") k.key) (has_value (codes "Type") k.key) k.started)) service in
    let line : Contains (child_lines s k.key) (lines.About f r.entry.name) =
    subst (λ (n : List ℕ). Contains (child_lines s k.key) (lines.About f n)) (sym k.name)
    (mapped_to (about k.key) (child_faults s k.key) f child) in
    Contains-append_left ((list_lines s ++ flat_map (child_lines s) keys) ++ group_lines s) (cycle_lines s) (lines.About f r.entry.name)
    (Contains-append_left (list_lines s ++ flat_map (child_lines s) keys) (group_lines s) (lines.About f r.entry.name)
    (Contains-append_right (list_lines s) (flat_map (child_lines s) keys) (lines.About f r.entry.name)
    (flat_in (child_lines s) keys k.key (lines.About f r.entry.name) k.there line)))

later_line : (number : ℕ) (ls : List CheckLine) (l : CheckLine) → Contains ls l → Contains (lines.Set number ∷ ls) l
later_line number ls l c = later_in (lines.Set number) ls l c

-- a wrong need of a row has its line
pub set_says : (in_order : Bool) (number : ℕ) (set : Tree) (r : Staged) (f : Fault) → RowsApart (rows_of set)
    → Contains (rows_of set) r → Contains (entries_of set) r.entry → Contains (need_faults (rows_of set) r) f
    → Contains (set_lines in_order number set) (lines.About f r.entry.name)
set_says in_order number set r f apart there entry c =
    later_line number (judged_lines in_order set (find_key (codes "Services" ∷ []) set)) (lines.About f r.entry.name)
    (by (find_key (codes "Services" ∷ []) set) entry)
  where
    by : (o : Option Tree) → Contains (filter_map entry_of (option_map_or children o [])) r.entry
        → Contains (judged_lines in_order set o) (lines.About f r.entry.name)
    by None i = absurd (none_in r.entry i)
    by (Some services) i =
        services_say (scope_of in_order set (children services)) (children services) r f apart there
        (key_of_entry (children services) r.entry i) c

-- a place in a cycle has its line
pub set_says_cycle : (in_order : Bool) (number : ℕ) (set : Tree) (e : Entry) → Contains (entries_of set) e → (cycle : List ℕ) (q : ℕ)
    → Contains (cycles_of (waits_of (rows_of set))) cycle → Contains cycle q
    → (k : ℕ) × Contains (set_lines in_order number set) (lines.Cycle k (name_at (rows_of set) q))
set_says_cycle in_order number set e entry cycle q there on = (
  there.0 + 1,
  later_line number (judged_lines in_order set (find_key (codes "Services" ∷ []) set)) (lines.Cycle (there.0 + 1) (name_at (rows_of set) q))
      (by (find_key (codes "Services" ∷ []) set) entry),
)
  where
    line : Contains (numbered_lines (rows_of set) (cycles_of (waits_of (rows_of set)))) (lines.Cycle (there.0 + 1) (name_at (rows_of set) q))
    line =
        flat_in (lines_of_cycle (rows_of set) (cycles_of (waits_of (rows_of set))))
        (range_with_len 0 (length (cycles_of (waits_of (rows_of set))))) there.0
        (lines.Cycle (there.0 + 1) (name_at (rows_of set) q))
        (in_range (length (cycles_of (waits_of (rows_of set)))) there.0 there.1)
        (mapped_to (cycle_line (rows_of set) (there.0 + 1)) (slice_index_or (cycles_of (waits_of (rows_of set))) there.0 []) q
        (subst (λ (c : List ℕ). Contains c q)
        (sym (get_or_default (cycles_of (waits_of (rows_of set))) there.0 [] cycle there.1 ∙ there.2)) on))

    by : (o : Option Tree) → Contains (filter_map entry_of (option_map_or children o [])) e
        → Contains (judged_lines in_order set o) (lines.Cycle (there.0 + 1) (name_at (rows_of set) q))
    by None i = absurd (none_in e i)
    by (Some services) i =
        let s : Scope = scope_of in_order set (children services) in
        Contains-append_right
        ((list_lines (scope_of in_order set (children services)) ++ flat_map (child_lines (scope_of in_order set (children services))) (children services))
        ++ group_lines (scope_of in_order set (children services)))
        (cycle_lines (scope_of in_order set (children services))) (lines.Cycle (there.0 + 1) (name_at (rows_of set) q)) line
