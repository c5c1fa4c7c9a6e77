-- What is found without the order of groups and tags is what is found with it, but for the lines that tell of it.
use Rattle.std.proofs.Common.{◌≡◌, ℕ, ◌+◌, Bool, true, false, not, nat_eq, ◌&&◌, ◌||◌, List, [], ◌∷◌, ◌++◌, length, map, filter, cond, Option, Some, None, refl, sym, ap, ◌∙◌}
use Rattle.std.specs.Prelude.{position, slice_index_or, nat_lt, nat_le, codes}
use Rattle.std.specs.List.{list_all, flat_map, range_with_len}
use Rattle.std.specs.Option.{is_some, option_map_or}
use Rattle.std.proofs.lemmas.Bool.{false≢true, and_parts, and_from}
use Rattle.std.proofs.lemmas.List.Elements.{filter-append}
use Rattle.hive_model.specs.Tree.{Tree, head, children, find_key, find_dword}
use Rattle.hive_model.specs.Edit.{has_child}
use Rattle.start_model.specs.Entries.{Entry, is_driver, is_service}
use Rattle.start_model.specs.Order.{GroupOrder, first_names}
use Rattle.start_model.specs.Sets.{SelectNumbers, select_numbers_of}
use Rattle.select_keys.specs.Sets.{usable_set}
use Rattle.wait_cycles.specs.Waits.{cycles_of}
use Rattle.answer_lines.specs.declared.check_lines.lines.Fault.{Fault}
use Rattle.answer_lines.specs.declared.check_lines.lines.Fault.TheVariants as faults
use Rattle.answer_lines.specs.declared.check_lines.lines.SelectWord.{SelectWord}
use Rattle.answer_lines.specs.declared.check_lines.lines.SelectWord.TheVariants.{Current, Default, Failed, LastKnownGood}
use Rattle.answer_lines.specs.declared.check_lines.lines.CheckLine.{CheckLine}
use Rattle.answer_lines.specs.declared.check_lines.lines.CheckLine.TheVariants as lines
use Rattle.service_check.specs.declared.stage.Stage.{Stage}
use Rattle.service_check.specs.declared.stage.Stage.TheVariants.{System, Automatic}
use Rattle.service_check.specs.declared.stage.Staged.{Staged}
use Rattle.service_check.specs.Stages.{stage_rank, is_taken, is_upto}
use Rattle.service_check.specs.Needs.{named, groups_upto, is_demand, stage_fault, name_fault, service_fault, is_without, group_fault, faults_at, need_faults, waits_of}
use Rattle.service_check.specs.Children.{Scope, when, has_value, missing_faults, all_fields, has_malformed, malformed, malformed_faults, has_image, number_faults, control_beyond, control_faults, image_faults, listed, tag_fault, tag_faults_of, order_faults, own_faults, bond_faults, entry_faults, service_faults, child_faults}
use Rattle.service_check.specs.Check.{select_line, failed_line, four_lines, select_lines, key_lines, scope_of, list_lines, about, child_lines, unlisted_in, group_line, group_lines, cycle_line, lines_of_cycle, cycle_lines, services_lines, judged_lines, set_lines, number_lines}
use Rattle.check_laws.specs.Laws.{is_plain_fault, is_plain, OrderOnlyAdds}
use Rattle.check_laws.proofs.QuietLemmas.{when_all, append_all, flat_all, map_all}

-- ---- filters

kept : {X : Type 0} (p : X → Bool) (xs : List X) → list_all p xs ≡ true → filter p xs ≡ xs
kept p [] h = refl
kept p (x ∷ xs) h =
    let both = and_parts (p x) (list_all p xs) h in
    ap (λ b. cond b (x ∷ filter p xs) (filter p xs)) both.0 ∙ ap (λ ys. x ∷ ys) (kept p xs both.1)

dropped : {X : Type 0} (p : X → Bool) (xs : List X) → list_all (λ x. not (p x)) xs ≡ true → filter p xs ≡ []
dropped p [] h = refl
dropped p (x ∷ xs) h =
    let both = and_parts (not (p x)) (list_all (λ x. not (p x)) xs) h in
    ap (λ b. cond b (x ∷ filter p xs) (filter p xs)) (off (p x) both.0) ∙ dropped p xs both.1
  where
    off : (b : Bool) → not b ≡ true → b ≡ false
    off true h = absurd (false≢true h)
    off false h = refl

-- two parts, one of which is kept whole
both_parts : {X : Type 0} (p : X → Bool) (a b c d : List X) → a ≡ filter p c → b ≡ filter p d → a ++ b ≡ filter p (c ++ d)
both_parts p a b c d e f = (λ j. e j ++ f j) ∙ sym (filter-append p c d)

whole : {X : Type 0} (p : X → Bool) (xs : List X) → list_all p xs ≡ true → xs ≡ filter p xs
whole p xs h = sym (kept p xs h)

flat_parts : {X Y : Type 0} (p : Y → Bool) (f g : X → List Y) (xs : List X) → ((x : X) → f x ≡ filter p (g x))
    → flat_map f xs ≡ filter p (flat_map g xs)
flat_parts p f g [] e = refl
flat_parts p f g (x ∷ xs) e = both_parts p (f x) (flat_map f xs) (g x) (flat_map g xs) (e x) (flat_parts p f g xs e)

mapped_by : (t : Tree) (f : Fault) (gs : List Fault) (ls : List CheckLine) → map (about t) gs ≡ ls → (b : Bool)
    → map (about t) (cond b (f ∷ gs) gs) ≡ cond b (about t f ∷ ls) ls
mapped_by t f gs ls e true = ap (λ ls. about t f ∷ ls) e
mapped_by t f gs ls e false = e

mapped : (t : Tree) (fs : List Fault) → map (about t) (filter is_plain_fault fs) ≡ filter is_plain (map (about t) fs)
mapped t [] = refl
mapped t (f ∷ fs) =
    mapped_by t f (filter is_plain_fault fs) (filter is_plain (map (about t) fs)) (mapped t fs) (is_plain_fault f)

-- ---- faults

plain_when : (b : Bool) (f : Fault) → is_plain_fault f ≡ true → list_all is_plain_fault (when b f) ≡ true
plain_when true f h = and_from (is_plain_fault f) true h refl
plain_when false f h = refl

plain_missing : (t : Tree) → list_all is_plain_fault (missing_faults t) ≡ true
plain_missing t =
    append_all is_plain_fault (when no_start faults.NoStart) (when no_type faults.NoType) (plain_when no_start faults.NoStart refl)
    (plain_when no_type faults.NoType refl)
  where
    no_start : Bool
    no_start = has_value (codes "Type") t && not (has_value (codes "Start") t)

    no_type : Bool
    no_type = has_value (codes "Start") t && not (has_value (codes "Type") t)

plain_malformed : (t : Tree) → list_all is_plain_fault (malformed_faults t) ≡ true
plain_malformed t = map_all is_plain_fault malformed (filter (has_malformed t) all_fields) (λ field. refl)

plain_beyond : (o : Option ℕ) → list_all is_plain_fault (control_beyond o) ≡ true
plain_beyond None = refl
plain_beyond (Some control) = plain_when (nat_lt 3 control) (faults.ControlBeyond control) refl

plain_numbers : (e : Entry) → list_all is_plain_fault (number_faults e) ≡ true
plain_numbers e =
    append_all is_plain_fault (when beyond (faults.Beyond e.start) ++ when odd (faults.Kind e.kind))
    (when early (faults.TooEarly e.start))
    (append_all is_plain_fault (when beyond (faults.Beyond e.start)) (when odd (faults.Kind e.kind))
    (plain_when beyond (faults.Beyond e.start) refl) (plain_when odd (faults.Kind e.kind) refl))
    (plain_when early (faults.TooEarly e.start) refl)
  where
    beyond : Bool
    beyond = nat_lt 4 e.start

    odd : Bool
    odd = nat_le e.start 2 && not (is_driver e.kind || is_service e.kind)

    early : Bool
    early = nat_le e.start 1 && is_service e.kind

plain_control : (t : Tree) (r : Staged) → list_all is_plain_fault (control_faults t r) ≡ true
plain_control t r =
    append_all is_plain_fault (when (is_taken r.stage && not (has_value (codes "ErrorControl") t)) faults.NoControl)
    (control_beyond (find_dword (codes "ErrorControl") t))
    (plain_when (is_taken r.stage && not (has_value (codes "ErrorControl") t)) faults.NoControl refl)
    (plain_beyond (find_dword (codes "ErrorControl") t))

plain_own : (has_images : Bool) (t : Tree) (r : Staged) → list_all is_plain_fault (own_faults has_images t r) ≡ true
plain_own has_images t r =
    append_all is_plain_fault (number_faults r.entry ++ control_faults t r) (image_faults has_images t r.entry)
    (append_all is_plain_fault (number_faults r.entry) (control_faults t r) (plain_numbers r.entry) (plain_control t r))
    (plain_when (has_images && (is_service r.entry.kind && ((nat_eq r.entry.start 2) || (nat_eq r.entry.start 3)))
    && not (has_image t)) faults.NoImage refl)

plain_stage : (own : Stage) (need : List ℕ) (start : ℕ) (o : Option Stage)
    → list_all is_plain_fault (stage_fault own need start o) ≡ true
plain_stage own need start None = refl
plain_stage own need start (Some other) =
    by (is_demand other && not (is_demand own)) (nat_lt (stage_rank own) (stage_rank other))
  where
    by : (a b : Bool) → list_all is_plain_fault
        (cond a (faults.Never start need ∷ []) (cond b (faults.Later start need ∷ []) [])) ≡ true
    by true b = refl
    by false true = refl
    by false false = refl

plain_name : (own : Stage) (need : List ℕ) (o : Option Staged) → list_all is_plain_fault (name_fault own need o) ≡ true
plain_name own need None = refl
plain_name own need (Some r) = plain_stage own need r.entry.start r.stage

plain_group : (rows : List Staged) (own : Stage) (group : List ℕ) → list_all is_plain_fault (group_fault rows own group) ≡ true
plain_group rows own group = by (is_without rows own group)
  where
    by : (b : Bool) → list_all is_plain_fault (cond b (faults.NoMember group ∷ []) []) ≡ true
    by true = refl
    by false = refl

plain_needs : (rows : List Staged) (r : Staged) → list_all is_plain_fault (need_faults rows r) ≡ true
plain_needs rows r = by r.stage
  where
    by : (o : Option Stage) → list_all is_plain_fault (option_map_or (faults_at rows r) o []) ≡ true
    by None = refl
    by (Some own) =
        append_all is_plain_fault (flat_map (service_fault rows own) (first_names r.entry.services)) _
        (flat_all is_plain_fault (service_fault rows own) (first_names r.entry.services)
        (λ need. plain_name own need (named rows need)))
        (flat_all is_plain_fault (group_fault rows own) (first_names r.entry.groups) (plain_group rows own))

no_tag : (tag : ℕ) (group : List ℕ) (o : Option GroupOrder) → list_all (λ f. not (is_plain_fault f)) (tag_fault tag group o) ≡ true
no_tag tag group None = refl
no_tag tag group (Some o) = by (not (is_some (position (λ x. nat_eq x tag) o.tags)))
  where
    by : (b : Bool) → list_all (λ f. not (is_plain_fault f)) (when b (faults.TagUnlisted tag group)) ≡ true
    by true = refl
    by false = refl

no_tags : (orders : List GroupOrder) (tag : Option ℕ) (group : Option (List ℕ))
    → list_all (λ f. not (is_plain_fault f)) (tag_faults_of orders tag group) ≡ true
no_tags orders None group = refl
no_tags orders (Some tag) None = refl
no_tags orders (Some tag) (Some group) = no_tag tag group (listed orders group)

no_order : (orders : List GroupOrder) (r : Staged) → list_all (λ f. not (is_plain_fault f)) (order_faults true orders r) ≡ true
no_order orders r = by (is_upto System r.stage)
  where
    by : (b : Bool) → list_all (λ f. not (is_plain_fault f)) (cond b (tag_faults_of orders r.entry.tag r.entry.group) []) ≡ true
    by true = no_tags orders r.entry.tag r.entry.group
    by false = refl

-- ---- a child

entry_adds : (set : Tree) (keys : List Tree) (t : Tree) (r : Staged)
    → entry_faults (scope_of false set keys) t r ≡ filter is_plain_fault (entry_faults (scope_of true set keys) t r)
entry_adds set keys t r =
    both_parts is_plain_fault (own_faults (scope_of false set keys).has_images t r) (bond_faults (scope_of false set keys) r)
    (own_faults (scope_of true set keys).has_images t r) (bond_faults (scope_of true set keys) r)
    (whole is_plain_fault (own_faults (scope_of true set keys).has_images t r) (plain_own (scope_of true set keys).has_images t r))
    (both_parts is_plain_fault (need_faults (scope_of false set keys).rows r) []
    (need_faults (scope_of true set keys).rows r) (order_faults true (scope_of true set keys).orders r)
    (whole is_plain_fault (need_faults (scope_of true set keys).rows r) (plain_needs (scope_of true set keys).rows r))
    (sym (dropped is_plain_fault (order_faults true (scope_of true set keys).orders r) (no_order (scope_of true set keys).orders r))))

named_adds : (set : Tree) (keys : List Tree) (t : Tree) (o : Option Staged)
    → option_map_or (entry_faults (scope_of false set keys) t) o []
    ≡ filter is_plain_fault (option_map_or (entry_faults (scope_of true set keys) t) o [])
named_adds set keys t None = refl
named_adds set keys t (Some r) = entry_adds set keys t r

service_adds : (set : Tree) (keys : List Tree) (t : Tree)
    → service_faults (scope_of false set keys) t ≡ filter is_plain_fault (service_faults (scope_of true set keys) t)
service_adds set keys t =
    both_parts is_plain_fault (missing_faults t ++ malformed_faults t)
    (option_map_or (entry_faults (scope_of false set keys) t) (named (scope_of false set keys).rows (head t).name) [])
    (missing_faults t ++ malformed_faults t)
    (option_map_or (entry_faults (scope_of true set keys) t) (named (scope_of true set keys).rows (head t).name) [])
    (both_parts is_plain_fault (missing_faults t) (malformed_faults t) (missing_faults t) (malformed_faults t)
    (whole is_plain_fault (missing_faults t) (plain_missing t))
    (whole is_plain_fault (malformed_faults t) (plain_malformed t)))
    (named_adds set keys t (named (scope_of true set keys).rows (head t).name))

child_adds : (set : Tree) (keys : List Tree) (t : Tree)
    → child_lines (scope_of false set keys) t ≡ filter is_plain (child_lines (scope_of true set keys) t)
child_adds set keys t =
    ap (map (about t)) (by (has_value (codes "Start") t || has_value (codes "Type") t))
    ∙ mapped t (child_faults (scope_of true set keys) t)
  where
    by : (b : Bool) → cond b (service_faults (scope_of false set keys) t) []
        ≡ filter is_plain_fault (cond b (service_faults (scope_of true set keys) t) [])
    by true = service_adds set keys t
    by false = refl

-- ---- the whole

no_list : Scope → Bool
no_list s = not (nat_eq (length (groups_upto Automatic s.rows)) 0) && (nat_eq (length s.orders) 0)

services_adds : (set : Tree) (keys : List Tree)
    → services_lines (scope_of false set keys) keys ≡ filter is_plain (services_lines (scope_of true set keys) keys)
unfolding no_list
services_adds set keys =
    both_parts is_plain
    ((list_lines (scope_of false set keys) ++ flat_map (child_lines (scope_of false set keys)) keys) ++ [])
    (cycle_lines (scope_of false set keys))
    ((list_lines (scope_of true set keys) ++ flat_map (child_lines (scope_of true set keys)) keys)
    ++ group_lines (scope_of true set keys))
    (cycle_lines (scope_of true set keys))
    (both_parts is_plain (list_lines (scope_of false set keys) ++ flat_map (child_lines (scope_of false set keys)) keys) []
    (list_lines (scope_of true set keys) ++ flat_map (child_lines (scope_of true set keys)) keys)
    (group_lines (scope_of true set keys))
    (both_parts is_plain (list_lines (scope_of false set keys)) (flat_map (child_lines (scope_of false set keys)) keys)
    (list_lines (scope_of true set keys)) (flat_map (child_lines (scope_of true set keys)) keys)
    (whole is_plain (list_lines (scope_of true set keys)) (when_all is_plain (no_list (scope_of true set keys)) lines.NoList refl))
    (flat_parts is_plain (child_lines (scope_of false set keys)) (child_lines (scope_of true set keys)) keys (child_adds set keys)))
    (sym (dropped is_plain (group_lines (scope_of true set keys))
    (map_all (λ l. not (is_plain l)) (group_line (unlisted_in (scope_of true set keys)))
    (first_names (unlisted_in (scope_of true set keys))) (λ g. refl)))))
    (whole is_plain (cycle_lines (scope_of true set keys))
    (flat_all is_plain (lines_of_cycle (scope_of true set keys).rows (cycles_of (waits_of (scope_of true set keys).rows)))
    (range_with_len 0 (length (cycles_of (waits_of (scope_of true set keys).rows)))) (λ k.
    map_all is_plain (cycle_line (scope_of true set keys).rows (k + 1))
    (slice_index_or (cycles_of (waits_of (scope_of true set keys).rows)) k []) (λ p. refl))))

judged_adds : (set : Tree) (o : Option Tree) → judged_lines false set o ≡ filter is_plain (judged_lines true set o)
judged_adds set None = refl
judged_adds set (Some services) = services_adds set (children services)

number_adds : (number : ℕ) (o : Option Tree) (others : List CheckLine) → list_all is_plain others ≡ true
    → option_map_or (set_lines false number) o others ≡ filter is_plain (option_map_or (set_lines true number) o others)
number_adds number None others h = whole is_plain others h
number_adds number (Some set) others h =
    ap (λ ls. lines.Set number ∷ ls) (judged_adds set (find_key (codes "Services" ∷ []) set))

plain_select : (root : Tree) (word : SelectWord) (number : ℕ) → list_all is_plain (select_line root word number) ≡ true
plain_select root word number = when_all is_plain (not (is_some (usable_set root number))) (lines.Select word number) refl

plain_failed : (root : Tree) (number : ℕ) → list_all is_plain (failed_line root number) ≡ true
plain_failed root number = by (nat_eq number 0)
  where
    by : (b : Bool) → list_all is_plain (cond b [] (select_line root Failed number)) ≡ true
    by true = refl
    by false = plain_select root Failed number

plain_four : (root : Tree) (a b c d : ℕ) → list_all is_plain (four_lines root a b c d) ≡ true
plain_four root a b c d =
    append_all is_plain ((select_line root Current a ++ select_line root Default b) ++ failed_line root c)
    (select_line root LastKnownGood d)
    (append_all is_plain (select_line root Current a ++ select_line root Default b) (failed_line root c)
    (append_all is_plain (select_line root Current a) (select_line root Default b) (plain_select root Current a)
    (plain_select root Default b)) (plain_failed root c)) (plain_select root LastKnownGood d)

pub order_adds : OrderOnlyAdds
order_adds root (Some number) = number_adds number (usable_set root number) (lines.NoSet number ∷ []) refl
order_adds root None =
    let n : SelectNumbers = select_numbers_of root in
    both_parts is_plain (select_lines root ++ key_lines root) (number_lines root false n.default [])
    (select_lines root ++ key_lines root) (number_lines root true n.default [])
    (both_parts is_plain (select_lines root) (key_lines root) (select_lines root) (key_lines root)
    (whole is_plain (select_lines root) (plain_four root n.current n.default n.failed n.good))
    (whole is_plain (key_lines root) (when_all is_plain (has_child (codes "CurrentControlSet") root) lines.CurrentSetKey refl)))
    (number_adds n.default (usable_set root n.default) [] refl)
