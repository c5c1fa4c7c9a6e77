-- When services, groups and boots have no line.
use Rattle.std.proofs.Common.{◌≡◌, ◌⊎◌, inl, inr, ℕ, Bool, true, false, not, ◌&&◌, ◌||◌, cond, nat_eq, List, [], ◌∷◌, ◌++◌, filter, refl, sym, ap, ◌∙◌}
use Rattle.std.specs.List.{list_all, list_any}
use Rattle.std.proofs.lemmas.Bool.{false≢true, and_parts}
use Rattle.nt_bytes.specs.Folding.{folds_same}
use Rattle.boot_phases.proofs.TriedLemmas.{some_place}
use Rattle.dependencies.proofs.MeetLemmas.{names_flip}
use Rattle.start_model.specs.Order.{GroupOrder}
use Rattle.answer_lines.specs.declared.diff_lines.lines.DiffField.{DiffField}
use Rattle.answer_lines.specs.declared.diff_lines.lines.DiffLine.{DiffLine}
use Rattle.answer_lines.specs.declared.diff_lines.lines.DiffLine.TheVariants.{Sets, StartsSame, Same, End, Lone, Differs, Tags, StartPhase}
use Rattle.answer_lines.specs.declared.diff_lines.lines.Part.{Part}
use Rattle.answer_lines.specs.declared.diff_lines.lines.Part.TheVariants.{Group, Start, Unmet}
use Rattle.answer_lines.specs.declared.diff_lines.lines.Sequence.{Sequence}
use Rattle.answer_lines.specs.declared.diff_lines.lines.Sequence.TheVariants.{Registry, Groups, Starts}
use Rattle.answer_lines.specs.declared.diff_lines.lines.Side.{Side}
use Rattle.answer_lines.specs.declared.diff_lines.lines.Side.TheVariants.{First, Second}
use Rattle.answer_lines.specs.declared.diff_lines.lines.Shown.TheVariants.{Numbers}
use Rattle.set_diff.specs.declared.boot.Attempt.{Attempt}
use Rattle.set_diff.specs.declared.service.Service.{Service}
use Rattle.set_diff.specs.Boots.{attempt_names, attempt_named, phase_rank, phase_lines, paired_phases, phases_lines, lone_names, common_attempts, boots_lines, or_same}
use Rattle.set_diff.specs.Listed.{has, lacks, lone_lines, both_lone, shared, parts_lines, shared_parts}
use Rattle.set_diff.specs.Services.{all_fields, field_shown, field_lines, pair_lines, paired_lines, differs_lines, service_named, service_names, is_only, only_line, only_lines, apart_lines, common_lines, services_lines}
use Rattle.set_diff.specs.Sets.{Compared, compared_of, group_names, group_named, tag_lines, paired_tags, tags_lines, orders_lines, groups_lines, both_lines, is_difference, closed}
use Rattle.set_diff.specs.Shown.{names_same, numbers_same}
use Rattle.diff_laws.specs.diff_laws.Laws.{is_none, has_all, same_names, field_agrees, service_agrees, service_agrees_in, services_agree, ServicesAgree, group_agrees_in, groups_agree, GroupsAgree, attempt_agrees_in, boots_agree, BootsAgree, SetsAgree}
use Rattle.diff_laws.proofs.NoneLemmas.{none_append, none_when, none_map, none_flat, none_pair, none_parts, all_same, all_map, not_not}

-- ---- names

has_any : (names : List (List ℕ)) (name : List ℕ) → has names name ≡ list_any (folds_same name) names
has_any names name = some_place (folds_same name) names

-- names of the one list that are in the other
abbrev any_all : List (List ℕ) → List (List ℕ) → Bool
any_all names others = list_all (λ name. list_any (folds_same name) others) names

has_all_any : (ns ms : List (List ℕ)) → has_all ns ms ≡ any_all ns ms
has_all_any ns ms = all_same (has ms) (λ n. list_any (folds_same n) ms) ns (has_any ms)

or_right : (a b : Bool) → b ≡ true → (a || b) ≡ true
or_right true b e = refl
or_right false b e = e

pub and_of : (a b : Bool) → a ≡ true → b ≡ true → (a && b) ≡ true
and_of true b e f = f
and_of false b e f = e

any_more : (ns ms : List (List ℕ)) (m : List ℕ) → any_all ns ms ≡ true → any_all ns (m ∷ ms) ≡ true
any_more [] ms m all = refl
any_more (n ∷ ns) ms m all =
    let both = and_parts (list_any (folds_same n) ms) (any_all ns ms) all in
    and_of (folds_same n m || list_any (folds_same n) ms) (any_all ns (m ∷ ms)) (or_right (folds_same n m) (list_any (folds_same n) ms) both.0)
    (any_more ns ms m both.1)

or_left : (a b : Bool) → a ≡ true → (a || b) ≡ true
or_left true b e = refl
or_left false b e = absurd (false≢true e)

same_any : (ns ms : List (List ℕ)) → names_same ns ms ≡ true → any_all ns ms ≡ true
same_any [] ms same = refl
same_any (n ∷ ns) [] same = absurd (false≢true same)
same_any (n ∷ ns) (m ∷ ms) same =
    let both = and_parts (folds_same n m) (names_same ns ms) same in
    and_of (folds_same n m || list_any (folds_same n) ms) (any_all ns (m ∷ ms)) (or_left (folds_same n m) (list_any (folds_same n) ms) both.0)
    (any_more ns ms m (same_any ns ms both.1))

same_flip : (ns ms : List (List ℕ)) → names_same ns ms ≡ names_same ms ns
same_flip [] [] = refl
same_flip [] (m ∷ ms) = refl
same_flip (n ∷ ns) [] = refl
same_flip (n ∷ ns) (m ∷ ms) = λ i. names_flip n m i && same_flip ns ms i

pub same_has : (ns ms : List (List ℕ)) → names_same ns ms ≡ true → has_all ns ms ≡ true
same_has ns ms same = has_all_any ns ms ∙ same_any ns ms same

kept_all : (p : List ℕ → Bool) (ns : List (List ℕ)) → list_all p ns ≡ true → filter p ns ≡ ns
kept_all p [] all = refl
kept_all p (n ∷ ns) all =
    let both = and_parts (p n) (list_all p ns) all in
    ap (λ (c : Bool). cond c (n ∷ filter p ns) (filter p ns)) both.0 ∙ ap (λ (xs : List (List ℕ)). n ∷ xs) (kept_all p ns both.1)

-- lists of which one lacks a name of the other aren't the same
never : (xs ys : List (List ℕ)) (b : Bool) → names_same xs ys ≡ b → ((has_all xs ys ≡ false) ⊎ (has_all ys xs ≡ false))
    → names_same xs ys ≡ false
never xs ys true same (inl none) = absurd (false≢true (sym none ∙ same_has xs ys same))
never xs ys true same (inr none) = absurd (false≢true (sym none ∙ same_has ys xs (sym (same_flip xs ys) ∙ same)))
never xs ys false same none = same

-- where each list has the other's names, the names that both have are all
orders_agree : (ns ms : List (List ℕ)) → (same_names ns ms && names_same (shared ns ms) (shared ms ns)) ≡ names_same ns ms
orders_agree ns ms = by (has_all ns ms) (has_all ms ns) refl refl
  where
    by : (a b : Bool) → has_all ns ms ≡ a → has_all ms ns ≡ b
        → ((has_all ns ms && has_all ms ns) && names_same (shared ns ms) (shared ms ns)) ≡ names_same ns ms
    by true true e f =
        (λ i. (e i && f i) && names_same (shared ns ms) (shared ms ns))
        ∙ (λ i. names_same (kept_all (has ms) ns e i) (kept_all (has ns) ms f i))
    by true false e f =
        (λ i. (e i && f i) && names_same (shared ns ms) (shared ms ns)) ∙ sym (never ns ms (names_same ns ms) refl (inr f))
    by false b e f =
        (λ i. (e i && has_all ms ns) && names_same (shared ns ms) (shared ms ns)) ∙ sym (never ns ms (names_same ns ms) refl (inl e))

-- ---- lines on names

lone_none : (part : Part) (side : Side) (ns ms : List (List ℕ)) → is_none (lone_lines part side ns ms) ≡ has_all ns ms
lone_none part side ns ms =
    none_map (λ name. Lone part side name) (lacks ms) ns
    ∙ all_same (λ n. not (lacks ms n)) (has ms) ns (λ n. not_not (has ms n))

both_none : (part : Part) (ns ms : List (List ℕ)) → is_none (both_lone part ns ms) ≡ same_names ns ms
both_none part ns ms =
    none_append (lone_lines part First ns ms) (lone_lines part Second ms ns)
    ∙ (λ i. lone_none part First ns ms i && lone_none part Second ms ns i)

parts_none : (sequence : Sequence) (ns ms : List (List ℕ)) → is_none (shared_parts sequence ns ms) ≡ names_same (shared ns ms) (shared ms ns)
parts_none sequence ns ms = none_parts sequence 1 (shared ns ms) (shared ms ns)

and_swap : (x d s : Bool) → (x && (d && s)) ≡ ((x && s) && d)
and_swap false d s = refl
and_swap true true true = refl
and_swap true true false = refl
and_swap true false true = refl
and_swap true false false = refl

-- ---- services

only_none : (side : Side) (xs : List Service) (ms : List (List ℕ)) → is_none (only_lines side xs ms) ≡ has_all (service_names xs) ms
only_none side xs ms =
    none_map (only_line side) (is_only ms) xs
    ∙ all_same (λ s. not (is_only ms s)) (λ s. has ms s.entry.name) xs (λ s. not_not (has ms s.entry.name))
    ∙ all_map (λ s. s.entry.name) (has ms) xs

field_none : (a b : Service) (field : DiffField) → is_none (field_lines a b field) ≡ field_agrees a b field
field_none a b field =
    none_when (not (field_agrees a b field)) (Differs field (field_shown field a) (field_shown field b) a.entry.name)
    ∙ not_not (field_agrees a b field)

paired_none : (others : List Service) (a : Service) → is_none (paired_lines others a) ≡ service_agrees_in others a
paired_none others a =
    none_pair (pair_lines a) (service_agrees a) (service_named others a.entry.name)
    (λ b. none_flat (field_lines a b) (field_agrees a b) all_fields (field_none a b))

pub services_agree_so : ServicesAgree
services_agree_so first second =
    let ns : List (List ℕ) = service_names first in
    let ms : List (List ℕ) = service_names second in
    let fields : Bool = list_all (service_agrees_in second) first in
    none_append (apart_lines first second) (common_lines first second)
    ∙ (λ i. (none_append (only_lines First first ms) (only_lines Second second ns) i)
    && (none_append (differs_lines first second) (shared_parts Registry ns ms) i))
    ∙ (λ i. (only_none First first ms i && only_none Second second ns i)
    && (none_flat (paired_lines second) (service_agrees_in second) first (paired_none second) i && parts_none Registry ns ms i))
    ∙ and_swap (same_names ns ms) fields (names_same (shared ns ms) (shared ms ns))
    ∙ ap (λ (b : Bool). b && fields) (orders_agree ns ms)

-- ---- groups

tag_none : (a b : GroupOrder) → is_none (tag_lines a b) ≡ numbers_same a.tags b.tags
tag_none a b =
    none_when (not (numbers_same a.tags b.tags)) (Tags (Numbers a.tags) (Numbers b.tags) a.name) ∙ not_not (numbers_same a.tags b.tags)

tags_none : (others : List GroupOrder) (a : GroupOrder) → is_none (paired_tags others a) ≡ group_agrees_in others a
tags_none others a = none_pair (tag_lines a) (λ b. numbers_same a.tags b.tags) (group_named others a.name) (tag_none a)

pub groups_agree_so : GroupsAgree
groups_agree_so a b =
    none_append (both_lone Group (group_names a.groups) (group_names b.groups)) (orders_lines a b)
    ∙ (λ i. both_none Group (group_names a.groups) (group_names b.groups) i
    && (none_append (parts_lines Groups a.listed b.listed) (tags_lines a.groups b.groups) i))
    ∙ ap (λ (c : Bool). same_names (group_names a.groups) (group_names b.groups) && c)
    (λ i. none_parts Groups 1 a.listed b.listed i
    && none_flat (paired_tags b.groups) (group_agrees_in b.groups) a.groups (tags_none b.groups) i)

-- ---- boots

phase_none : (a b : Attempt) → is_none (phase_lines a b) ≡ nat_eq (phase_rank a.phase) (phase_rank b.phase)
phase_none a b =
    none_when (not (nat_eq (phase_rank a.phase) (phase_rank b.phase))) (StartPhase a.phase b.phase a.name)
    ∙ not_not (nat_eq (phase_rank a.phase) (phase_rank b.phase))

phases_none : (others : List Attempt) (a : Attempt) → is_none (paired_phases others a) ≡ attempt_agrees_in others a
phases_none others a =
    none_pair (phase_lines a) (λ b. nat_eq (phase_rank a.phase) (phase_rank b.phase)) (attempt_named others a.name) (phase_none a)

and_turn : (x u p s : Bool) → ((x && u) && (p && s)) ≡ (u && ((x && s) && p))
and_turn x true p s = ap (λ (b : Bool). b && (p && s)) (and_true x) ∙ and_swap x p s
  where
    and_true : (b : Bool) → (b && true) ≡ b
    and_true true = refl
    and_true false = refl
and_turn true false p s = refl
and_turn false false p s = refl

pub boots_agree_so : BootsAgree
boots_agree_so a b =
    let ns : List (List ℕ) = attempt_names a.attempts in
    let ms : List (List ℕ) = attempt_names b.attempts in
    let phases : Bool = list_all (attempt_agrees_in b.attempts) a.attempts in
    none_append (lone_names a b) (common_attempts a.attempts b.attempts)
    ∙ (λ i. (none_append (both_lone Start ns ms) (both_lone Unmet a.unmet b.unmet) i)
    && (none_append (phases_lines a.attempts b.attempts) (shared_parts Starts ns ms) i))
    ∙ (λ i. (both_none Start ns ms i && both_none Unmet a.unmet b.unmet i)
    && (none_flat (paired_phases b.attempts) (attempt_agrees_in b.attempts) a.attempts (phases_none b.attempts) i && parts_none Starts ns ms i))
    ∙ and_turn (same_names ns ms) (same_names a.unmet b.unmet) phases (names_same (shared ns ms) (shared ms ns))
    ∙ ap (λ (c : Bool). same_names a.unmet b.unmet && (c && phases)) (orders_agree ns ms)

-- ---- the whole

pub nil_of : (lines : List DiffLine) → is_none lines ≡ true → lines ≡ []
nil_of [] e = refl
nil_of (line ∷ lines) e = absurd (false≢true e)

two_lines : (n m : ℕ) → closed (Sets n m ∷ StartsSame ∷ []) ≡ Sets n m ∷ StartsSame ∷ Same ∷ End ∷ []
unfolding is_difference
two_lines n m = refl

pub sets_agree_so : SetsAgree
unfolding both_lines
sets_agree_so n m first second same =
    let a : Compared = compared_of first in
    let b : Compared = compared_of second in
    let one = and_parts (services_agree a.services b.services) (groups_agree a b && boots_agree a.boot b.boot) same in
    let two = and_parts (groups_agree a b) (boots_agree a.boot b.boot) one.1 in
    let services = nil_of (services_lines a.services b.services) (services_agree_so a.services b.services ∙ one.0) in
    let groups = nil_of (groups_lines a b) (groups_agree_so a b ∙ two.0) in
    let boots = nil_of (boots_lines a.boot b.boot) (boots_agree_so a.boot b.boot ∙ two.1) in
    (λ i. closed (Sets n m ∷ ((services i ++ groups i) ++ or_same (boots i)))) ∙ two_lines n m
