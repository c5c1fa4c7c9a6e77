-- A set whose services are changed.
use Rattle.std.proofs.Common.{◌≡◌, ℕ, Bool, true, false, cond, not, ◌&&◌, List, [], ◌∷◌, ◌++◌, map, Option, Some, None, refl, sym, ap, ◌∙◌}
use Rattle.std.specs.Prelude.{find, filter, codes, option_map, option_and_then, ◌==◌}
use Rattle.std.specs.Option.{option_map_or}
use Rattle.std.proofs.lemmas.List.Elements.{filter-append}
use Rattle.nt_bytes.specs.Folding.{folds_same}
use Rattle.hive_model.specs.Tree.{Tree, key, trees, listed, head, children, is_named, find_key}
use Rattle.hive_model.specs.Edit.{at_first, of_children}
use Rattle.nt_names.proofs.FoldLemmas.{alike}
use Rattle.reg_tree.proofs.Trees.{listed_trees}
use Rattle.reg_tree.proofs.Unlike.{folds_swap}
use Rattle.start_model.specs.Entries.{Entry, services_of}
use Rattle.safe_boot.specs.declared.mode.SafeMode.{SafeMode}
use Rattle.safe_boot.specs.Listed.{list_name, listed_names, has_entry, is_left_out, stays, reduced_of}
use Rattle.safe_boot.specs.Played.{start_lines_of}
use Rattle.safe_boot.specs.Laws.{with_services, UnlistedChangesNoLine}

abbrev is_services : Tree → Bool
is_services t = is_named (codes "Services") t

abbrev is_control : Tree → Bool
is_control t = is_named (codes "Control") t

-- ---- the first that passes, changed

first_same : (p : Tree → Bool) (a b : Tree → Tree) (ts : List Tree) → ((t : Tree) → find p ts ≡ Some t → a t ≡ b t)
    → at_first p a ts ≡ at_first p b ts
first_same p a b [] same = refl
first_same p a b (t ∷ ts) same = by_case (p t) refl (λ h. first_same p a b ts h)
  where
    by_case : (c : Bool) → p t ≡ c → (((u : Tree) → find p ts ≡ Some u → a u ≡ b u) → at_first p a ts ≡ at_first p b ts)
        → cond c (a t ∷ ts) (t ∷ at_first p a ts) ≡ cond c (b t ∷ ts) (t ∷ at_first p b ts)
    by_case true e rest = ap (λ u. u ∷ ts) (same t (ap (λ c. cond c (Some t) (find p ts)) e))
    by_case false e rest = ap (λ us. t ∷ us) (rest (λ u h. same u (ap (λ c. cond c (Some t) (find p ts)) e ∙ h)))

first_twice : (p : Tree → Bool) (f g : Tree → Tree) (ts : List Tree) → ((t : Tree) → p (f t) ≡ p t)
    → at_first p g (at_first p f ts) ≡ at_first p (λ t. g (f t)) ts
first_twice p f g [] same = refl
first_twice p f g (t ∷ ts) same = by_case (p t) refl (first_twice p f g ts same)
  where
    by_case : (c : Bool) → p t ≡ c → at_first p g (at_first p f ts) ≡ at_first p (λ t. g (f t)) ts
        → at_first p g (cond c (f t ∷ ts) (t ∷ at_first p f ts))
        ≡ cond c (g (f t) ∷ ts) (t ∷ at_first p (λ t. g (f t)) ts)
    by_case true e rest = ap (λ c. cond c (g (f t) ∷ ts) (f t ∷ at_first p g ts)) (same t ∙ e)
    by_case false e rest = ap (λ c. cond c (g t ∷ at_first p f ts) (t ∷ at_first p g (at_first p f ts))) e
        ∙ ap (λ us. t ∷ us) rest

-- it is found changed
found_changed : (p : Tree → Bool) (f : Tree → Tree) (ts : List Tree) → ((t : Tree) → p (f t) ≡ p t)
    → find p (at_first p f ts) ≡ option_map f (find p ts)
found_changed p f [] same = refl
found_changed p f (t ∷ ts) same = by_case (p t) refl (found_changed p f ts same)
  where
    by_case : (c : Bool) → p t ≡ c → find p (at_first p f ts) ≡ option_map f (find p ts)
        → find p (cond c (f t ∷ ts) (t ∷ at_first p f ts)) ≡ option_map f (cond c (Some t) (find p ts))
    by_case true e rest = ap (λ c. cond c (Some (f t)) (find p ts)) (same t ∙ e)
    by_case false e rest = ap (λ c. cond c (Some t) (find p (at_first p f ts))) e ∙ rest

-- and others are found as before
others_found : (p q : Tree → Bool) (f : Tree → Tree) (ts : List Tree) → ((t : Tree) → p t ≡ true → q t ≡ false)
    → ((t : Tree) → q (f t) ≡ q t) → find q (at_first p f ts) ≡ find q ts
others_found p q f [] apart same = refl
others_found p q f (t ∷ ts) apart same = by_case (p t) refl (others_found p q f ts apart same)
  where
    by_case : (c : Bool) → p t ≡ c → find q (at_first p f ts) ≡ find q ts
        → find q (cond c (f t ∷ ts) (t ∷ at_first p f ts)) ≡ cond (q t) (Some t) (find q ts)
    by_case true e rest = ap (λ c. cond c (Some (f t)) (find q ts)) (same t ∙ apart t e)
        ∙ sym (ap (λ c. cond c (Some t) (find q ts)) (apart t e))
    by_case false e rest = ap (λ o. cond (q t) (Some t) o) rest

-- ---- keys with other children

children_of : (change : List Tree → List Tree) (t : Tree) → children (of_children change t) ≡ change (children t)
children_of change (key h ts) = listed_trees (change (listed ts))

named_so : (name : List ℕ) (change : List Tree → List Tree) (t : Tree)
    → is_named name (of_children change t) ≡ is_named name t
named_so name change (key h ts) = refl

twice : (f g : List Tree → List Tree) (t : Tree) → of_children g (of_children f t) ≡ of_children (λ ts. g (f ts)) t
twice f g (key h ts) = ap (λ us. key h (trees (g us))) (listed_trees (f (listed ts)))

changed_alike : (f g : List Tree → List Tree) (t : Tree) → f (children t) ≡ g (children t)
    → of_children f t ≡ of_children g t
changed_alike f g (key h ts) same = ap (λ us. key h (trees us)) same

-- ---- the list of a mode stays

folds_alike : (q n r : List ℕ) → folds_same q n ≡ true → folds_same r n ≡ folds_same r q
folds_alike q n r h = folds_swap r n ∙ sym (alike q n h r) ∙ folds_swap q r

apart : (t : Tree) → is_services t ≡ true → is_control t ≡ false
apart t h = folds_alike (codes "Services") (head t).name (codes "Control") h

names_kept : (change : List Tree → List Tree) (set : Tree) (mode : SafeMode)
    → listed_names (of_children (at_first is_services (of_children change)) set) mode ≡ listed_names set mode
names_kept change set mode =
    ap (λ o. map (λ t. (head t).name)
    (option_map_or children (option_and_then (find_key (codes "SafeBoot" ∷ list_name mode ∷ [])) o) []))
    (ap (find is_control) (children_of (at_first is_services (of_children change)) set)
    ∙ others_found is_services is_control (of_children change) (children set) apart (named_so (codes "Control") change))

-- ---- what remains of the services

services_left : (keep : Tree → Bool) (o : Option Tree)
    → option_map_or children (option_and_then (find_key []) (option_map (of_children (filter keep)) o)) []
    ≡ filter keep (option_map_or children (option_and_then (find_key []) o) [])
services_left keep None = refl
services_left keep (Some t) = children_of (filter keep) t

pub services_reduced : (set : Tree) (mode : SafeMode) (images : Bool)
    → services_of (reduced_of set mode images) ≡ filter (stays images (listed_names set mode)) (services_of set)
services_reduced set mode images =
    let keep : Tree → Bool = stays images (listed_names set mode) in
    ap (λ o. option_map_or children (option_and_then (find_key []) o) [])
    (ap (find is_services) (children_of (at_first is_services (of_children (filter keep))) set)
    ∙ found_changed is_services (of_children (filter keep)) (children set) (named_so (codes "Services") (filter keep)))
    ∙ services_left keep (find is_services (children set))

-- services of which the same ones are kept
same_left : (set : Tree) (keep : Tree → Bool) (keys old : List Tree) → services_of set ≡ old
    → filter keep keys ≡ filter keep old
    → of_children (at_first is_services (of_children (filter keep)))
    (of_children (at_first is_services (of_children (λ _. keys))) set)
    ≡ of_children (at_first is_services (of_children (filter keep))) set
same_left set keep keys old is same =
    twice (at_first is_services (of_children (λ _. keys))) (at_first is_services (of_children (filter keep))) set
    ∙ changed_alike (λ ts. at_first is_services (of_children (filter keep))
    (at_first is_services (of_children (λ _. keys)) ts)) (at_first is_services (of_children (filter keep))) set
    (first_twice is_services (of_children (λ _. keys)) (of_children (filter keep)) (children set)
    (named_so (codes "Services") (λ _. keys))
    ∙ first_same is_services (λ t. of_children (filter keep) (of_children (λ _. keys) t)) (of_children (filter keep))
    (children set) one)
  where
    one : (t : Tree) → find is_services (children set) ≡ Some t
        → of_children (filter keep) (of_children (λ _. keys) t) ≡ of_children (filter keep) t
    one t h =
        let here : old ≡ children t =
        sym is ∙ ap (λ o. option_map_or children (option_and_then (find_key []) o) []) h in
        twice (λ _. keys) (filter keep) t
        ∙ changed_alike (λ _. filter keep keys) (filter keep) t (same ∙ ap (filter keep) here)

left_out : (images : Bool) (names : List (List ℕ)) (t : Tree) (e : Entry) → (e.start == 0) ≡ false
    → has_entry images names t e ≡ false → is_left_out images names t e ≡ true
left_out images names t e late absent = λ i. not (late i) && not (absent i)

gone : (keep : Tree → Bool) (front back : List Tree) (t : Tree) → keep t ≡ false
    → filter keep (front ++ back) ≡ filter keep (front ++ t ∷ back)
gone keep front back t out =
    filter-append keep front back
    ∙ ap (λ ts. filter keep front ++ ts) (sym (ap (λ b. cond b (t ∷ filter keep back) (filter keep back)) out))
    ∙ sym (filter-append keep front (t ∷ back))

pub unlisted_changes_no_line : UnlistedChangesNoLine
unlisted_changes_no_line set mode images front back t is u =
    let names : List (List ℕ) = listed_names set mode in
    let keep : Tree → Bool = stays images names in
    let out : keep t ≡ false =
    ap (λ o. not (option_map_or (is_left_out images names t) o false)) u.read
    ∙ ap not (left_out images names t u.entry u.late u.absent) in
    ap start_lines_of
    (ap (λ ns. of_children (at_first is_services (of_children (filter (stays images ns))))
    (with_services (front ++ back) set))
    (names_kept (λ _. front ++ back) set mode)
    ∙ same_left set keep (front ++ back) (front ++ t ∷ back) is (gone keep front back t out))
