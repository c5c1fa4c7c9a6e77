-- What a start meets.
use Rattle.std.proofs.Common.{◌≡◌, ℕ, ◌+◌, ◌<◌, Bool, true, false, not, nat_eq, ◌&&◌, ◌||◌, cond, List, [], ◌∷◌, ◌++◌, length, map, get_or, set, Option, Some, None, inl, inr, refl, sym, ap, ◌∙◌, arith}
use Rattle.std.specs.Prelude.{All, count_by, slice_get}
use Rattle.std.specs.List.{list_any}
use Rattle.std.specs.Option.{option_map, option_map_or}
use Rattle.std.proofs.lemmas.Bool.{cases_eq, false≢true, eqb-true}
use Rattle.std.proofs.lemmas.Bool.Decides.{nat_tests}
use Rattle.std.proofs.lemmas.List.{get_or-set_same, get_or-set_other, length-set, length-map, get_or-map, get_or_default, same_lists}
use Rattle.std.proofs.lemmas.List.Folds.{list_any-append, fold-map}
use Rattle.std.proofs.lemmas.List.Elements.{All-contains}
use Rattle.std.proofs.lemmas.Cmp.{nat_eq_equiv}
use Rattle.std.proofs.lemmas.Map.Views.{Contains-from_any, list_any-from_Contains}
use Rattle.nt_bytes.specs.Folding.{folded, folds_same, folded_unit}
use Rattle.nt_names.specs.name_places.Places.{places_named}
use Rattle.nt_names.proofs.PlaceLemmas.{all_named, each_named}
use Rattle.nt_names.proofs.FoldLemmas.{alike}
use Rattle.start_model.specs.Demand.{Need, member}
use Rattle.start_model.specs.Ready.{Label, has_name, has_group}
use Rattle.dependencies.specs.declared.wants.Kind.{Kind}
use Rattle.dependencies.specs.declared.wants.Kind.TheVariants.{Service, Group}
use Rattle.dependencies.specs.Waiting.{label_of}
use Rattle.dependencies.specs.Wants.{meets, names_given, WantsState, is_free, is_ready_at, IsNearer, AreReadyBut, AreWantsOf, AreMetTogether}
use Rattle.dependencies.proofs.PulledLemmas.{same_bool}
use Rattle.dependencies.proofs.WantLemmas.{others_keep}
use Rattle.std.proofs.Math.Bool.{or-false}

or_by : (a b : Bool) → (b ≡ true → a ≡ true) → a ≡ (a || b)
or_by true b h = refl
or_by false true h = h refl
or_by false false h = refl

-- ---- one want

-- the wants with these marks
abbrev pub with_met : WantsState → List Bool → WantsState
with_met w met = record w { met = met }

-- the flags are right again once the owner of a want that is met has its own rewritten
pub one_met : (w other : WantsState) (ready waits : List Bool) (want : ℕ) → AreReadyBut w.count ready waits w other
    → want < length w.met → length w.owners ≡ length w.met → member w.met want ≡ false
    → (owner : ℕ) → owner ≡ get_or w.owners want 0 → owner < w.count
    → AreReadyBut w.count (set ready owner (is_ready_at waits (with_met w (set w.met want true)) other owner)) waits
    (with_met w (set w.met want true)) other
one_met w other ready waits want old lt paired un owner is small = record {
  len = length-set ready owner (is_ready_at waits new other owner) ∙ old.len;
  waits_len = old.waits_len;
  other_count = old.other_count;
  each = λ p below but. elim (cases_eq p owner) [
    | inl e ↦
        ap (member (set ready owner (is_ready_at waits new other owner))) e
        ∙ get_or-set_same ready owner (is_ready_at waits new other owner) false (omega (arith, small, old.len))
        ∙ ap (is_ready_at waits new other) (sym e)
    | inr ne ↦
        get_or-set_other ready owner p (is_ready_at waits new other owner) false ne
        ∙ old.each p below but
        ∙ ap (λ n. (member waits p && nat_eq n 0) && is_free other p)
        (sym (others_keep w.owners w.met want p (omega (arith, lt, paired)) (sym paired) un (λ e. ne (e ∙ sym is))))
  ];
}
  where
    new : WantsState
    new = with_met w (set w.met want true)

-- ---- the wants of a name

-- a place is one of those that the index gives
pub is_place_named : (name : List ℕ) (names : List (List ℕ)) (k : ℕ) → k < length names
    → list_any (nat_eq k) (places_named name names) ≡ folds_same name (get_or names k [])
is_place_named name names k lt =
    same_bool (list_any (nat_eq k) places) (folds_same name (get_or names k []))
    (λ h. (All-contains IsPlace places k (all_named name names) (Contains-from_any eqb-true k places h)).1)
    (λ h. list_any-from_Contains nat_eq_equiv k places (each_named name names k lt h))
  where
    places : List ℕ
    places = places_named name names

    IsPlace : ℕ → Type 0
    IsPlace k = (k < length names) × (folds_same name (get_or names k []) ≡ true)

pub places_below : (name : List ℕ) (names : List (List ℕ)) (n : ℕ) → n ≡ length names
    → All (λ k. k < n) (places_named name names)
places_below name names n same k d lt = omega (arith, same, (all_named name names k d lt).0)

-- where the first want of a name is met, all are
pub spared : (name : List ℕ) (names : List (List ℕ)) (met : List Bool) → AreMetTogether names met
    → option_map_or (member met) (slice_get (places_named name names) 0) false ≡ true
    → (k : ℕ) → k < length names → member met k ≡ (member met k || folds_same name (get_or names k []))
spared name names met together = by (places_named name names) (all_named name names)
  where
    by : (ps : List ℕ) → All (λ k. (k < length names) × (folds_same name (get_or names k []) ≡ true)) ps
        → option_map_or (member met) (slice_get ps 0) false ≡ true
        → (k : ℕ) → k < length names → member met k ≡ (member met k || folds_same name (get_or names k []))
    by [] all h k lt = absurd (false≢true h)
    by (p ∷ ps) all h k lt =
        let first : (p < length names) × (folds_same name (get_or names p []) ≡ true) = all 0 0 (omega arith) in
        or_by (member met k) (folds_same name (get_or names k []))
        (λ same. sym (together p k first.0 lt (sym (alike name (get_or names p []) first.1 (get_or names k [])) ∙ same))
        ∙ h)

-- ---- one more that was started

pub names_flip : (a b : List ℕ) → folds_same a b ≡ folds_same b a
names_flip [] [] = refl
names_flip [] (y ∷ ys) = refl
names_flip (x ∷ xs) [] = refl
names_flip (x ∷ xs) (y ∷ ys) =
    ap (λ b. b && folds_same xs ys) (nat_eq_equiv.symm (folded_unit x) (folded_unit y))
    ∙ ap (λ b. nat_eq (folded_unit y) (folded_unit x) && b) (names_flip xs ys)

-- an entry that was started meets a name
abbrev pub meets_one : Kind → Label → List ℕ → Bool
meets_one Service label n = folds_same label.0 n
meets_one Group label n = option_map_or (λ g. folds_same g n) label.1 false

meets_more : (kind : Kind) (started : List Label) (label : Label) (n : List ℕ)
    → meets kind (started ++ label ∷ []) n ≡ (meets kind started n || meets_one kind label n)
meets_more Service started label n =
    list_any-append (λ (s : Label). folds_same n s.0) started (label ∷ [])
    ∙ ap (λ b. has_name started n || b) (or-false (folds_same n label.0) ∙ names_flip n label.0)
meets_more Group started label n =
    list_any-append (λ (s : Label). option_map_or (folds_same n) s.1 false) started (label ∷ [])
    ∙ ap (λ b. has_group started n || b) (or-false (option_map_or (folds_same n) label.1 false) ∙ flip label.1)
  where
    flip : (g : Option (List ℕ)) → option_map_or (folds_same n) g false ≡ option_map_or (λ g. folds_same g n) g false
    flip None = refl
    flip (Some g) = names_flip n g

-- names that fold alike are met alike
meets_alike : (kind : Kind) (started : List Label) (a b : List ℕ) → folds_same a b ≡ true
    → meets kind started a ≡ meets kind started b
meets_alike Service started a b h =
    ap (λ (p : List ℕ → Bool). list_any (λ (s : Label). p s.0) started) (λ i y. alike a b h y i)
meets_alike Group started a b h =
    ap (λ (p : List ℕ → Bool). list_any (λ (s : Label). option_map_or p s.1 false) started) (λ i y. alike a b h y i)

met_at : (kind : Kind) (needs : List Need) (started : List Label) (names : List (List ℕ)) (w : WantsState)
    → AreWantsOf kind needs started names w
    → (k : ℕ) → k < length names → member w.met k ≡ meets kind started (get_or names k [])
met_at kind needs started names w of k lt =
    ap (λ m. member m k) of.met ∙ get_or-map (meets kind started) names k [] false lt

pub together : (kind : Kind) (needs : List Need) (started : List Label) (names : List (List ℕ)) (w : WantsState)
    → AreWantsOf kind needs started names w → AreMetTogether names w.met
together kind needs started names w of k l lk ll same =
    met_at kind needs started names w of k lk ∙ meets_alike kind started (get_or names k []) (get_or names l []) same
    ∙ sym (met_at kind needs started names w of l ll)

pub met_len : (kind : Kind) (needs : List Need) (started : List Label) (names : List (List ℕ)) (w : WantsState)
    → AreWantsOf kind needs started names w → length w.met ≡ length names
met_len kind needs started names w of = ap length of.met ∙ length-map names (meets kind started)

-- what a start leaves of the wants: those that it meets are met, the others as they were
pub met_by_start : (kind : Kind) (needs : List Need) (started : List Label) (label : Label) (names : List (List ℕ))
    (w w' : WantsState) → AreWantsOf kind needs started names w → IsNearer w w'
    → ((k : ℕ) → k < length names → member w'.met k ≡ (member w.met k || meets_one kind label (get_or names k [])))
    → AreWantsOf kind needs (started ++ label ∷ []) names w'
met_by_start kind needs started label names w w' of near each = record {
  count = near.count ∙ of.count;
  owners = near.owners ∙ of.owners;
  all_given = of.all_given;
  met = same_lists w'.met (map (meets kind (started ++ label ∷ [])) names)
      (near.len ∙ met_len kind needs started names w of ∙ sym (length-map names (meets kind (started ++ label ∷ []))))
      (λ k d lt. let below : k < length names = omega (arith, lt, near.len, met_len kind needs started names w of) in
      get_or_default w'.met k d false lt ∙ each k below
      ∙ ap (λ b. b || meets_one kind label (get_or names k [])) (met_at kind needs started names w of k below)
      ∙ sym (meets_more kind started label (get_or names k []))
      ∙ sym (get_or-map (meets kind (started ++ label ∷ [])) names k [] d below));
}

-- how many wants are not met
pub unmet_of : (kind : Kind) (needs : List Need) (started : List Label) (names : List (List ℕ)) (w : WantsState)
    → AreWantsOf kind needs started names w
    → count_by not w.met ≡ count_by (λ n. not (meets kind started n)) (names_given kind needs)
unmet_of kind needs started names w of =
    ap (count_by not) of.met ∙ fold-map (λ a b. a + cond (not b) 1 0) (meets kind started) 0 names
    ∙ ap (count_by (λ n. not (meets kind started n))) of.all_given

-- ---- the entry that was started

pub unit_again : (u : ℕ) → folded_unit (folded_unit u) ≡ folded_unit u
unit_again u = grind (arith, nat_tests)

pub folded_first : (a b : List ℕ) → folds_same (folded a) b ≡ folds_same a b
folded_first [] [] = refl
folded_first [] (y ∷ ys) = refl
folded_first (x ∷ xs) [] = refl
folded_first (x ∷ xs) (y ∷ ys) = let unit = unit_again x in let rest = folded_first xs ys in
    (λ i. nat_eq (unit i) (folded_unit y) && rest i)

-- its folded name meets what its name meets
pub name_meets : (n : Need) (name : List ℕ) → folds_same n.name name ≡ meets_one Service (label_of n) name
name_meets n name = sym (folded_first n.name name)

pub group_meets : (n : Need) (name : List ℕ)
    → option_map_or (λ g. folds_same g name) n.group false ≡ meets_one Group (label_of n) name
group_meets n name = by n.group
  where
    by : (g : Option (List ℕ))
        → option_map_or (λ g. folds_same g name) g false
        ≡ option_map_or (λ g. folds_same g name) (option_map folded g) false
    by None = refl
    by (Some g) = sym (folded_first g name)
