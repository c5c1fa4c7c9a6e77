-- What the flags and a narrower path leave of the hits.
use Rattle.std.proofs.Common.{◌≡◌, ℕ, ◌&&◌, ◌||◌, not, Bool, true, false, List, [], ◌∷◌, ◌++◌, filter, Some, None, refl, sym, ap, ◌∙◌}
use Rattle.std.specs.Prelude.{Option}
use Rattle.std.specs.List.{flat_map, list_any}
use Rattle.std.specs.Option.{option_map_or}
use Rattle.std.proofs.lemmas.List.Elements.{filter-append}
use Rattle.nt_bytes.specs.Folding.{folded}
use Rattle.hive_model.specs.Tree.{Item, Tree, Trees, key, none, more, head, children, listed}
use Rattle.find_rule.specs.declared.wanted.Wanted.{Wanted}
use Rattle.find_rule.specs.Matching.{is_part, stands}
use Rattle.find_rule.specs.Hits.{Hit, KeyName, ValueName, Data, text_stands, bytes_stand, strings_in, values_places, places, places_below, is_hit, hits_of, hits}
use Rattle.find_rule.specs.Narrower.{is_name, in_names_alone, in_data_alone, exactly, loosely}
use Rattle.find_rule.proofs.ListLemmas.{filter_twice, and_second}
use Rattle.find_rule.proofs.MatchLemmas.{whole_is_part}

-- ---- names, and data

names_test : (w : Wanted) → w.names ≡ true → w.strings ≡ true → w.bytes ≡ None → (h : Hit)
    → (is_name h && is_hit w h) ≡ is_hit (in_names_alone w) h
names_test w names strings bytes (KeyName path name) = ap (λ (b : Bool). b && text_stands w name) names
names_test w names strings bytes (ValueName path name) = ap (λ (b : Bool). b && text_stands w name) names
names_test w names strings bytes (Data path v) = sym (ap (λ (o : Option (List ℕ)). option_map_or (λ (x : List ℕ). stands w.exact x v.bytes) o false) bytes)

data_test : (w : Wanted) → w.names ≡ true → w.strings ≡ true → w.bytes ≡ None → (h : Hit)
    → (not (is_name h) && is_hit w h) ≡ is_hit (in_data_alone w) h
data_test w names strings bytes (KeyName path name) = refl
data_test w names strings bytes (ValueName path name) = refl
data_test w names strings bytes (Data path v) =
    ap (λ (b : Bool). (b && list_any (text_stands w) (strings_in v)) || bytes_stand w v.bytes) strings

pub names_part : (w : Wanted) → w.names ≡ true → w.strings ≡ true → w.bytes ≡ None → (all : List Hit)
    → filter is_name (hits_of w all) ≡ hits_of (in_names_alone w) all
names_part w names strings bytes all =
    filter_twice is_name (is_hit w) (is_hit (in_names_alone w)) (names_test w names strings bytes) all

pub data_part : (w : Wanted) → w.names ≡ true → w.strings ≡ true → w.bytes ≡ None → (all : List Hit)
    → filter (λ (h : Hit). not (is_name h)) (hits_of w all) ≡ hits_of (in_data_alone w) all
data_part w names strings bytes all =
    filter_twice (λ (h : Hit). not (is_name h)) (is_hit w) (is_hit (in_data_alone w)) (data_test w names strings bytes) all

-- ---- exactly

stands_loosely : (o : Option (List ℕ)) (f : List ℕ → List ℕ) (whole : List ℕ)
    → option_map_or (λ (x : List ℕ). stands true (f x) whole) o false ≡ true
    → option_map_or (λ (x : List ℕ). stands false (f x) whole) o false ≡ true
stands_loosely None f whole e = e
stands_loosely (Some x) f whole e = whole_is_part (f x) whole e

any_loosely : (w : Wanted) (strings : List (List ℕ)) → list_any (text_stands (exactly w)) strings ≡ true
    → list_any (text_stands (loosely w)) strings ≡ true
any_loosely w [] e = e
any_loosely w (s ∷ strings) e = by (text_stands (exactly w) s) refl e (λ f. any_loosely w strings f)
  where
    second : (a b : Bool) → b ≡ true → (a || b) ≡ true
    second true b f = refl
    second false b f = f

    by : (b : Bool) → text_stands (exactly w) s ≡ b → (b || list_any (text_stands (exactly w)) strings) ≡ true
        → (list_any (text_stands (exactly w)) strings ≡ true → list_any (text_stands (loosely w)) strings ≡ true)
        → (text_stands (loosely w) s || list_any (text_stands (loosely w)) strings) ≡ true
    by true is f further = ap (λ (b : Bool). b || list_any (text_stands (loosely w)) strings) (stands_loosely w.text folded (folded s) is)
    by false is f further = second (text_stands (loosely w) s) (list_any (text_stands (loosely w)) strings) (further f)

name_loosely : (b : Bool) (w : Wanted) (name : List ℕ) → (b && text_stands (exactly w) name) ≡ true
    → (b && text_stands (loosely w) name) ≡ true
name_loosely true w name e = stands_loosely w.text folded (folded name) e
name_loosely false w name e = e

data_loosely : (a b : Bool) (w : Wanted) (v : Item) → list_any (text_stands (exactly w)) (strings_in v) ≡ b
    → ((a && b) || bytes_stand (exactly w) v.bytes) ≡ true
    → ((a && list_any (text_stands (loosely w)) (strings_in v)) || bytes_stand (loosely w) v.bytes) ≡ true
data_loosely true true w v is e = ap (λ (c : Bool). c || bytes_stand (loosely w) v.bytes) (any_loosely w (strings_in v) is)
data_loosely true false w v is e = second (list_any (text_stands (loosely w)) (strings_in v)) (stands_loosely w.bytes (λ x. x) v.bytes e)
  where
    second : (a : Bool) → bytes_stand (loosely w) v.bytes ≡ true → (a || bytes_stand (loosely w) v.bytes) ≡ true
    second true f = refl
    second false f = f
data_loosely false true w v is e = stands_loosely w.bytes (λ x. x) v.bytes e
data_loosely false false w v is e = stands_loosely w.bytes (λ x. x) v.bytes e

hit_loosely : (w : Wanted) (h : Hit) → is_hit (exactly w) h ≡ true → is_hit (loosely w) h ≡ true
hit_loosely w (KeyName path name) e = name_loosely w.names w name e
hit_loosely w (ValueName path name) e = name_loosely w.names w name e
hit_loosely w (Data path v) e = data_loosely w.strings (list_any (text_stands (exactly w)) (strings_in v)) w v refl e

pub exact_among : (w : Wanted) (all : List Hit) → hits_of (exactly w) all ≡ filter (is_hit (exactly w)) (hits_of (loosely w) all)
exact_among w all =
    sym (filter_twice (is_hit (exactly w)) (is_hit (loosely w)) (is_hit (exactly w))
    (λ h. and_second (is_hit (exactly w) h) (is_hit (loosely w) h) (hit_loosely w h)) all)

-- ---- children

pub below_each : (w : Wanted) (path : List (List ℕ)) (ts : Trees)
    → hits_of w (places_below path ts) ≡ flat_map (λ (c : Tree). hits w (path ++ (head c).name ∷ []) c) (listed ts)
below_each w path none = refl
below_each w path (more t ts) =
    filter-append (is_hit w) (places (path ++ (head t).name ∷ []) t) (places_below path ts)
    ∙ ap (λ (hs : List Hit). hits w (path ++ (head t).name ∷ []) t ++ hs) (below_each w path ts)

pub own_then_each : (w : Wanted) (path : List (List ℕ)) (t : Tree)
    → hits w path t
    ≡ hits_of w (KeyName path (head t).name ∷ values_places path (head t).values)
    ++ flat_map (λ (c : Tree). hits w (path ++ (head c).name ∷ []) c) (children t)
own_then_each w path (key k ts) =
    filter-append (is_hit w) (KeyName path k.name ∷ values_places path k.values) (places_below path ts)
    ∙ ap (λ (hs : List Hit). hits_of w (KeyName path k.name ∷ values_places path k.values) ++ hs) (below_each w path ts)
