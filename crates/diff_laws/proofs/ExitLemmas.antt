-- With two sets exchanged the exit is the same.
use Rattle.std.proofs.Common.{◌≡◌, ℕ, zero, suc, Bool, true, false, not, ◌&&◌, cond, nat_eq, List, [], ◌∷◌, ◌++◌, map, refl, sym, ap, ◌∙◌, arith}
use Rattle.std.specs.Prelude.{◌==◌, Option, Some, None, position, slice_get, option_and_then}
use Rattle.std.specs.List.{list_all}
use Rattle.std.specs.Option.{option_map_or}
use Rattle.std.proofs.Math.Dec.{eqb-suc-zero}
use Rattle.std.proofs.lemmas.Bool.{and_parts}
use Rattle.std.proofs.lemmas.List.{append-nil}
use Rattle.nt_bytes.specs.Folding.{folds_same}
use Rattle.hive_model.specs.Tree.{Tree, key}
use Rattle.hive_model.specs.Edit.{renamed}
use Rattle.hive_model.specs.Valid.{HoldsKeys}
use Rattle.start_model.specs.Order.{GroupOrder}
use Rattle.select_keys.specs.Sets.{usable_set}
use Rattle.reg_tree.proofs.Unlike.{Each, Unlike, folds_swap}
use Rattle.command_parts.specs.declared.command_parts.status.Status.TheVariants as statuses
use Rattle.answer_lines.specs.declared.diff_lines.lines.DiffField.{DiffField}
use Rattle.answer_lines.specs.declared.diff_lines.lines.DiffField.TheVariants as fields
use Rattle.answer_lines.specs.declared.diff_lines.lines.DiffLine.TheVariants.{Sets}
use Rattle.set_diff.specs.declared.service.Service.{Service}
use Rattle.set_diff.specs.Boots.{boots_lines, or_same}
use Rattle.set_diff.specs.Services.{all_fields, service_named, service_names, services_in, services_lines}
use Rattle.set_diff.specs.Sets.{Compared, compared_of, group_names, group_named, groups_lines, both_lines, is_difference, difference_count}
use Rattle.set_diff.specs.Shown.{names_same, numbers_same, shown_same, number_shown, text_shown}
use Rattle.set_commands.specs.diff_command.Compared.{both_found, found_lines}
use Rattle.diff_laws.specs.diff_laws.Laws.{same_names, has_all, field_agrees, service_agrees, service_agrees_in, services_agree, group_agrees_in, groups_agree, boots_agree, sets_agree}
use Rattle.diff_laws.proofs.AgreeLemmas.{and_of, nil_of, services_agree_so, groups_agree_so, boots_agree_so}
use Rattle.diff_laws.proofs.NoneLemmas.{all_same}
use Rattle.diff_laws.proofs.OwnLemmas.{all_each, each_more, own_named}
use Rattle.diff_laws.specs.tree_laws.Laws.{AreEqualButForName, AreBothEqual, AreTheSame}
use Rattle.diff_laws.proofs.OnlyLemmas.{same_only}
use Rattle.diff_laws.proofs.SameLemmas.{same_with_all}
use Rattle.diff_laws.proofs.ApartLemmas.{services_apart, orders_apart}
use Rattle.diff_laws.proofs.FoldLemmas.{same_first}
use Rattle.diff_laws.proofs.FollowLemmas.{boots_follow}
use Rattle.diff_laws.specs.turned_laws.Turned.{ExitStays}
use Rattle.diff_laws.proofs.TurnedLawsPairLemmas.{found_by, named_find, OnFound, found_is}
use Rattle.diff_laws.proofs.TreeLemmas.{Held, held_set}

-- ---- agreeing with those of its name, from either list

-- what each agrees in with the one of its name among the others
abbrev agrees_in : {X : Type 0} → (X → List ℕ) → (X → X → Bool) → List X → X → Bool
agrees_in name r others x = option_map_or (r x) (found_by name others (name x)) true

each_true : {X : Type 0} (p : X → Bool) (xs : List X) → list_all p xs ≡ true → Each (λ x. p x ≡ true) xs
each_true p [] all = tt
each_true p (x ∷ xs) all = let both = and_parts (p x) (list_all p xs) all in (both.0, each_true p xs both.1)

-- what is found by a name is found by one that folds to it
found_alike : {X : Type 0} (name : X → List ℕ) (xs : List X) (n m : List ℕ) → folds_same n m ≡ true → found_by name xs n ≡ found_by name xs m
found_alike name [] n m same = refl
found_alike name (x ∷ xs) n m same = λ i. cond (same_first n m (name x) same i) (Some x) (found_alike name xs n m same i)

agree_turn : {X : Type 0} (name : X → List ℕ) (r : X → X → Bool) → ((x y : X) → r x y ≡ r y x) → (xs ys : List X)
    → Each (λ y. found_by name ys (name y) ≡ Some y) ys → list_all (agrees_in name r ys) xs ≡ true → list_all (agrees_in name r xs) ys ≡ true
agree_turn {X} name r flip xs ys own all =
    all_each (agrees_in name r xs) ys
    (each_more (λ y. found_by name ys (name y) ≡ Some y) (λ y. agrees_in name r xs y ≡ true) ys
    (λ y mine. by y mine (found_by name xs (name y))
    (found_is (λ x. agrees_in name r ys x ≡ true) (λ x. folds_same (name y) (name x)) xs (each_true (agrees_in name r ys) xs all)))
    own)
  where
    by : (y : X) → found_by name ys (name y) ≡ Some y → (o : Option X)
        → OnFound (λ x. agrees_in name r ys x ≡ true) (λ x. folds_same (name y) (name x)) o → option_map_or (r y) o true ≡ true
    by y mine None found = refl
    by y mine (Some x) found =
        flip y x
        ∙ sym (ap (λ (o : Option X). option_map_or (r x) o true) (sym (found_alike name ys (name y) (name x) found.1) ∙ mine))
        ∙ found.0

-- ---- what two sets have, from either

same_swap : (a b : ℕ) → (a == b) ≡ (b == a)
same_swap a b = grind arith

names_flip : (ns ms : List (List ℕ)) → names_same ns ms ≡ names_same ms ns
names_flip [] [] = refl
names_flip [] (m ∷ ms) = refl
names_flip (n ∷ ns) [] = refl
names_flip (n ∷ ns) (m ∷ ms) = λ i. folds_swap n m i && names_flip ns ms i

numbers_flip : (ns ms : List ℕ) → numbers_same ns ms ≡ numbers_same ms ns
numbers_flip [] [] = refl
numbers_flip [] (m ∷ ms) = refl
numbers_flip (n ∷ ns) [] = refl
numbers_flip (n ∷ ns) (m ∷ ms) = λ i. same_swap n m i && numbers_flip ns ms i

text_flip : (g h : Option (List ℕ)) → shown_same (text_shown g) (text_shown h) ≡ shown_same (text_shown h) (text_shown g)
text_flip None None = refl
text_flip None (Some h) = refl
text_flip (Some g) None = refl
text_flip (Some g) (Some h) = folds_swap g h

number_flip : (g h : Option ℕ) → shown_same (number_shown g) (number_shown h) ≡ shown_same (number_shown h) (number_shown g)
number_flip None None = refl
number_flip None (Some h) = refl
number_flip (Some g) None = refl
number_flip (Some g) (Some h) = same_swap g h

field_flip : (a b : Service) (field : DiffField) → field_agrees a b field ≡ field_agrees b a field
field_flip a b fields.Start = same_swap a.entry.start b.entry.start
field_flip a b fields.Type = same_swap a.entry.kind b.entry.kind
field_flip a b fields.ErrorControl = same_swap a.entry.control b.entry.control
field_flip a b fields.Group = text_flip a.entry.group b.entry.group
field_flip a b fields.Tag = number_flip a.entry.tag b.entry.tag
field_flip a b fields.DependOnService = names_flip a.entry.services b.entry.services
field_flip a b fields.DependOnGroup = names_flip a.entry.groups b.entry.groups
field_flip a b fields.ImagePath = text_flip a.image b.image
field_flip a b fields.ObjectName = text_flip a.account b.account

service_flip : (a b : Service) → service_agrees a b ≡ service_agrees b a
service_flip a b = all_same (field_agrees a b) (field_agrees b a) all_fields (field_flip a b)

-- tests by place are tests of what is found
all_found : {X : Type 0} (name : X → List ℕ) (r : X → X → Bool) (named : List X → List ℕ → Option X)
    → ((ys : List X) (n : List ℕ) → named ys n ≡ found_by name ys n) → (xs ys : List X)
    → list_all (λ x. option_map_or (r x) (named ys (name x)) true) xs ≡ list_all (agrees_in name r ys) xs
all_found {X} name r named same xs ys =
    all_same (λ x. option_map_or (r x) (named ys (name x)) true) (agrees_in name r ys) xs
    (λ x. ap (λ (o : Option X). option_map_or (r x) o true) (same ys (name x)))

own_found : {X : Type 0} (name : X → List ℕ) (xs : List X) → Unlike name xs → Each (λ x. found_by name xs (name x) ≡ Some x) xs
own_found name xs apart =
    each_more (λ x. option_and_then (slice_get xs) (position (folds_same (name x)) (map name xs)) ≡ Some x)
    (λ x. found_by name xs (name x) ≡ Some x) xs (λ x found. sym (named_find name xs (name x)) ∙ found) (own_named name xs apart)

services_turn : (first second : Tree) → HoldsKeys second → services_agree (services_in first) (services_in second) ≡ true
    → services_agree (services_in second) (services_in first) ≡ true
services_turn first second holds agree =
    let xs : List Service = services_in first in
    let ys : List Service = services_in second in
    let name : Service → List ℕ = λ s. s.entry.name in
    let same : (zs : List Service) (n : List ℕ) → service_named zs n ≡ found_by name zs n = named_find name in
    let both = and_parts (names_same (service_names xs) (service_names ys)) (list_all (service_agrees_in ys) xs) agree in
    and_of (names_same (service_names ys) (service_names xs)) (list_all (service_agrees_in xs) ys)
    (names_flip (service_names ys) (service_names xs) ∙ both.0)
    (all_found name service_agrees service_named same ys xs
    ∙ agree_turn name service_agrees service_flip xs ys (own_found name ys (services_apart second holds))
    (sym (all_found name service_agrees service_named same xs ys) ∙ both.1))

groups_turn : (first second : Tree) → groups_agree (compared_of first) (compared_of second) ≡ true
    → groups_agree (compared_of second) (compared_of first) ≡ true
groups_turn first second agree =
    let a : Compared = compared_of first in
    let b : Compared = compared_of second in
    let ns : List (List ℕ) = group_names a.groups in
    let ms : List (List ℕ) = group_names b.groups in
    let name : GroupOrder → List ℕ = λ g. g.name in
    let r : GroupOrder → GroupOrder → Bool = λ g h. numbers_same g.tags h.tags in
    let same : (zs : List GroupOrder) (n : List ℕ) → group_named zs n ≡ found_by name zs n = named_find name in
    let both = and_parts (same_names ns ms) (names_same a.listed b.listed && list_all (group_agrees_in b.groups) a.groups) agree in
    let names = and_parts (has_all ns ms) (has_all ms ns) both.0 in
    let rest = and_parts (names_same a.listed b.listed) (list_all (group_agrees_in b.groups) a.groups) both.1 in
    and_of (same_names ms ns) (names_same b.listed a.listed && list_all (group_agrees_in a.groups) b.groups)
    (and_of (has_all ms ns) (has_all ns ms) names.1 names.0)
    (and_of (names_same b.listed a.listed) (list_all (group_agrees_in a.groups) b.groups) (names_flip b.listed a.listed ∙ rest.0)
    (all_found name r group_named same b.groups a.groups
    ∙ agree_turn name r (λ g h. numbers_flip g.tags h.tags) a.groups b.groups (own_found name b.groups (orders_apart second))
    (sym (all_found name r group_named same a.groups b.groups) ∙ rest.1)))

sets_agree_turn : (first second : Tree) → HoldsKeys first → HoldsKeys second → sets_agree (compared_of first) (compared_of second) ≡ true
    → sets_agree (compared_of second) (compared_of first) ≡ true
sets_agree_turn first second holds held agree =
    let a : Compared = compared_of first in
    let b : Compared = compared_of second in
    let one = and_parts (services_agree a.services b.services) (groups_agree a b && boots_agree a.boot b.boot) agree in
    let two = and_parts (groups_agree a b) (boots_agree a.boot b.boot) one.1 in
    let services = services_turn first second held one.0 in
    let groups = groups_turn first second two.0 in
    and_of (services_agree b.services a.services) (groups_agree b a && boots_agree b.boot a.boot) services
    (and_of (groups_agree b a) (boots_agree b.boot a.boot) groups (boots_follow second first holds services groups))

-- ---- no line reports a difference

agreed_none : (n m : ℕ) (first second : Tree) → sets_agree (compared_of first) (compared_of second) ≡ true
    → difference_count (both_lines n first m second) ≡ 0
unfolding both_lines is_difference
agreed_none n m first second same =
    let a : Compared = compared_of first in
    let b : Compared = compared_of second in
    let one = and_parts (services_agree a.services b.services) (groups_agree a b && boots_agree a.boot b.boot) same in
    let two = and_parts (groups_agree a b) (boots_agree a.boot b.boot) one.1 in
    let services = nil_of (services_lines a.services b.services) (services_agree_so a.services b.services ∙ one.0) in
    let groups = nil_of (groups_lines a b) (groups_agree_so a b ∙ two.0) in
    let boots = nil_of (boots_lines a.boot b.boot) (boots_agree_so a.boot b.boot ∙ two.1) in
    λ i. difference_count (Sets n m ∷ ((services i ++ groups i) ++ or_same (boots i)))

none_turn : (n m : ℕ) (o p : Option Tree) → Held o → Held p → difference_count (both_found false n o m p) ≡ 0
    → difference_count (both_found false m p n o) ≡ 0
unfolding is_difference
none_turn n m None None holds held e = e
none_turn n m None (Some b) holds held e = e
none_turn n m (Some a) None holds held e = e
none_turn n m (Some a) (Some b) holds held e =
    ap difference_count (append-nil (both_lines m b n a))
    ∙ agreed_none m n b a
    (sets_agree_turn a b holds held (same_only n m a b (sym (ap difference_count (append-nil (both_lines n a m b))) ∙ e)))

-- ---- with all keys and values

renamed_turn : (a b : Tree) → AreEqualButForName a b → AreEqualButForName b a
renamed_turn (key h ts) b e = sym (ap (renamed h.name) e)

equal_turn : (o p : Option Tree) → AreBothEqual o p → AreBothEqual p o
equal_turn None None e = e
equal_turn None (Some b) e = e
equal_turn (Some a) None e = e
equal_turn (Some a) (Some b) e = renamed_turn a b e

same_without : (a : Tree) (n : ℕ) (b : Tree) (m : ℕ) → HoldsKeys a → HoldsKeys b → AreTheSame false a n b m → AreTheSame false b m a n
same_without a n b m holds held e =
    none_turn n m (usable_set a n) (usable_set b m) (held_set a n holds) (held_set b m held) e

same_turn : (all : Bool) (a : Tree) (n : ℕ) (b : Tree) (m : ℕ) → HoldsKeys a → HoldsKeys b → AreTheSame all a n b m
    → AreTheSame all b m a n
same_turn false a n b m holds held e = same_without a n b m holds held e
same_turn true a n b m holds held e =
    let both = (same_with_all a n b m holds).0 e in
    (same_with_all b m a n held).1
    (same_without a n b m holds held both.0, equal_turn (usable_set a n) (usable_set b m) both.1)

-- ---- the exit

zero_same : (k l : ℕ) → (k ≡ 0 → l ≡ 0) → (l ≡ 0 → k ≡ 0) → nat_eq k 0 ≡ nat_eq l 0
zero_same zero l f g = sym (ap (λ (n : ℕ). nat_eq n 0) (f refl))
zero_same (suc k) zero f g = ap (λ (n : ℕ). nat_eq n 0) (g refl)
zero_same (suc k) (suc l) f g = eqb-suc-zero k ∙ sym (eqb-suc-zero l)

pub exit_stays : ExitStays
exit_stays form all a n b m holds held =
    ap (λ (b : Bool). cond (not b) statuses.Found statuses.Done)
    (zero_same (difference_count (found_lines all a n b m)) (difference_count (found_lines all b m a n))
    (same_turn all a n b m holds held) (same_turn all b m a n held holds))
