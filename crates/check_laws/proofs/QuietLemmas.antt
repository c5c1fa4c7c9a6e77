-- No line that is found is `found` or `end`.
use Rattle.std.proofs.Common.{◌≡◌, ℕ, ◌+◌, Bool, true, false, not, nat_eq, ◌&&◌, length, List, [], ◌∷◌, ◌++◌, map, cond, Option, Some, None, refl, sym, ◌∙◌}
use Rattle.std.specs.Prelude.{slice_index_or, codes}
use Rattle.std.specs.List.{list_all, flat_map, range_with_len}
use Rattle.std.specs.Option.{is_some, option_map_or}
use Rattle.std.proofs.lemmas.Bool.{false≢true, and_parts, and_from}
use Rattle.std.proofs.lemmas.List.Folds.{sum_by-zero, list_all-append}
use Rattle.hive_model.specs.Tree.{Tree, children, find_key}
use Rattle.hive_model.specs.Edit.{has_child}
use Rattle.start_model.specs.Order.{first_names}
use Rattle.start_model.specs.Sets.{SelectNumbers, select_numbers_of}
use Rattle.select_keys.specs.Sets.{usable_set}
use Rattle.wait_cycles.specs.Waits.{cycles_of}
use Rattle.answer_lines.specs.declared.check_lines.lines.SelectWord.{SelectWord}
use Rattle.answer_lines.specs.declared.check_lines.lines.SelectWord.TheVariants.{Current, Default, Failed, LastKnownGood}
use Rattle.answer_lines.specs.declared.check_lines.lines.CheckLine.{CheckLine}
use Rattle.answer_lines.specs.declared.check_lines.lines.CheckLine.TheVariants as lines
use Rattle.service_check.specs.Children.{Scope, child_faults}
use Rattle.service_check.specs.declared.stage.Stage.TheVariants.{Automatic}
use Rattle.service_check.specs.Needs.{groups_upto, waits_of}
use Rattle.service_check.specs.Check.{line_when, select_line, failed_line, four_lines, select_lines, key_lines, scope_of, list_lines, about, child_lines, unlisted_in, group_line, group_lines, cycle_line, lines_of_cycle, cycle_lines, services_lines, judged_lines, set_lines, number_lines, found_lines, is_finding, finding_count, check_lines}
use Rattle.check_laws.specs.Laws.{is_quiet, NothingFoundIsQuiet}

-- the line is neither `found` nor `end`
is_inner : CheckLine → Bool
is_inner (lines.Set number) = true
is_inner (lines.Select word number) = true
is_inner lines.CurrentSetKey = true
is_inner (lines.NoSet number) = true
is_inner lines.NoServices = true
is_inner lines.NoList = true
is_inner (lines.About fault name) = true
is_inner (lines.GroupUnlisted count group) = true
is_inner (lines.Cycle number name) = true
is_inner (lines.Found count) = false
is_inner lines.End = false

-- ---- any test of lines

pub when_all : (p : CheckLine → Bool) (b : Bool) (l : CheckLine) → p l ≡ true → list_all p (line_when b l) ≡ true
when_all p true l h = and_from (p l) true h refl
when_all p false l h = refl

pub append_all : {X : Type 0} (p : X → Bool) (xs ys : List X) → list_all p xs ≡ true → list_all p ys ≡ true
    → list_all p (xs ++ ys) ≡ true
append_all p xs ys f g = list_all-append p xs ys ∙ and_from (list_all p xs) (list_all p ys) f g

pub flat_all : {X Y : Type 0} (p : Y → Bool) (f : X → List Y) (xs : List X) → ((x : X) → list_all p (f x) ≡ true)
    → list_all p (flat_map f xs) ≡ true
flat_all p f [] h = refl
flat_all p f (x ∷ xs) h = append_all p (f x) (flat_map f xs) (h x) (flat_all p f xs h)

pub map_all : {X Y : Type 0} (p : Y → Bool) (f : X → Y) (xs : List X) → ((x : X) → p (f x) ≡ true)
    → list_all p (map f xs) ≡ true
map_all p f [] h = refl
map_all p f (x ∷ xs) h = and_from (p (f x)) (list_all p (map f xs)) (h x) (map_all p f xs h)

-- ---- what is found

select_inner : (root : Tree) (word : SelectWord) (number : ℕ) → list_all is_inner (select_line root word number) ≡ true
unfolding is_inner
select_inner root word number = when_all is_inner (not (is_some (usable_set root number))) (lines.Select word number) refl

failed_inner : (root : Tree) (number : ℕ) → list_all is_inner (failed_line root number) ≡ true
failed_inner root number = by (nat_eq number 0)
  where
    by : (b : Bool) → list_all is_inner (cond b [] (select_line root Failed number)) ≡ true
    by true = refl
    by false = select_inner root Failed number

four_inner : (root : Tree) (a b c d : ℕ) → list_all is_inner (four_lines root a b c d) ≡ true
four_inner root a b c d =
    append_all is_inner ((select_line root Current a ++ select_line root Default b) ++ failed_line root c)
    (select_line root LastKnownGood d)
    (append_all is_inner (select_line root Current a ++ select_line root Default b) (failed_line root c)
    (append_all is_inner (select_line root Current a) (select_line root Default b) (select_inner root Current a)
    (select_inner root Default b)) (failed_inner root c)) (select_inner root LastKnownGood d)

group_inner : (s : Scope) → list_all is_inner (group_lines s) ≡ true
unfolding is_inner
group_inner s = by s.in_order
  where
    by : (b : Bool) → list_all is_inner (cond b (map (group_line (unlisted_in s)) (first_names (unlisted_in s))) []) ≡ true
    by true = map_all is_inner (group_line (unlisted_in s)) (first_names (unlisted_in s)) (λ g. refl)
    by false = refl

services_inner : (s : Scope) (keys : List Tree) → list_all is_inner (services_lines s keys) ≡ true
unfolding is_inner
services_inner s keys =
    append_all is_inner ((list_lines s ++ flat_map (child_lines s) keys) ++ group_lines s) (cycle_lines s)
    (append_all is_inner (list_lines s ++ flat_map (child_lines s) keys) (group_lines s)
    (append_all is_inner (list_lines s) (flat_map (child_lines s) keys)
    (when_all is_inner (not (nat_eq (length (groups_upto Automatic s.rows)) 0) && (nat_eq (length s.orders) 0)) lines.NoList refl)
    (flat_all is_inner (child_lines s) keys (λ t. map_all is_inner (about t) (child_faults s t) (λ f. refl))))
    (group_inner s))
    (flat_all is_inner (lines_of_cycle s.rows (cycles_of (waits_of s.rows)))
    (range_with_len 0 (length (cycles_of (waits_of s.rows)))) (λ k.
    map_all is_inner (cycle_line s.rows (k + 1)) (slice_index_or (cycles_of (waits_of s.rows)) k []) (λ p. refl)))

judged_inner : (in_order : Bool) (set : Tree) (o : Option Tree) → list_all is_inner (judged_lines in_order set o) ≡ true
unfolding is_inner
judged_inner in_order set None = refl
judged_inner in_order set (Some services) = services_inner (scope_of in_order set (children services)) (children services)

set_inner : (in_order : Bool) (number : ℕ) (set : Tree) → list_all is_inner (set_lines in_order number set) ≡ true
unfolding is_inner
set_inner in_order number set = judged_inner in_order set (find_key (codes "Services" ∷ []) set)

number_inner : (in_order : Bool) (number : ℕ) (o : Option Tree) (others : List CheckLine) → list_all is_inner others ≡ true
    → list_all is_inner (option_map_or (set_lines in_order number) o others) ≡ true
number_inner in_order number None others h = h
number_inner in_order number (Some set) others h = set_inner in_order number set

found_inner : (root : Tree) (asked : Option ℕ) (in_order : Bool) → list_all is_inner (found_lines root asked in_order) ≡ true
unfolding is_inner
found_inner root (Some number) in_order =
    number_inner in_order number (usable_set root number) (lines.NoSet number ∷ []) refl
found_inner root None in_order =
    let n : SelectNumbers = select_numbers_of root in
    append_all is_inner (select_lines root ++ key_lines root) (number_lines root in_order n.default [])
    (append_all is_inner (select_lines root) (key_lines root) (four_inner root n.current n.default n.failed n.good)
    (when_all is_inner (has_child (codes "CurrentControlSet") root) lines.CurrentSetKey refl))
    (number_inner in_order n.default (usable_set root n.default) [] refl)

-- ---- counts

quiet_line : (l : CheckLine) → is_inner l ≡ true → nat_eq (cond (is_finding l) 1 0) 0 ≡ is_quiet l
unfolding is_inner
quiet_line (lines.Set number) h = refl
quiet_line (lines.Select word number) h = refl
quiet_line lines.CurrentSetKey h = refl
quiet_line (lines.NoSet number) h = refl
quiet_line lines.NoServices h = refl
quiet_line lines.NoList h = refl
quiet_line (lines.About fault name) h = refl
quiet_line (lines.GroupUnlisted count group) h = refl
quiet_line (lines.Cycle number name) h = refl
quiet_line (lines.Found count) h = absurd (false≢true h)
quiet_line lines.End h = absurd (false≢true h)

same_all : (p q : CheckLine → Bool) (ls : List CheckLine) → list_all is_inner ls ≡ true
    → ((l : CheckLine) → is_inner l ≡ true → p l ≡ q l) → list_all p ls ≡ list_all q ls
same_all p q [] h f = refl
same_all p q (l ∷ ls) h f =
    let both = and_parts (is_inner l) (list_all is_inner ls) h in
    λ j. f l both.0 j && same_all p q ls both.1 f j

three : (a b : Bool) → a ≡ b → a ≡ (b && (a && (true && true)))
three true true e = refl
three false false e = refl
three true false e = e
three false true e = refl

pub found_is_quiet : NothingFoundIsQuiet
unfolding check_lines
found_is_quiet root asked in_order =
    let found = found_lines root asked in_order in
    let same : nat_eq (finding_count found) 0 ≡ list_all is_quiet found =
    sum_by-zero (λ (l : CheckLine). cond (is_finding l) 1 0) found
    ∙ same_all (λ l. nat_eq (cond (is_finding l) 1 0) 0) is_quiet found (found_inner root asked in_order) quiet_line in
    three (nat_eq (finding_count found) 0) (list_all is_quiet found) same
    ∙ sym (list_all-append is_quiet found (lines.Found (finding_count found) ∷ lines.End ∷ []))
