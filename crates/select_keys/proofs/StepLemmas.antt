-- The steps that delete the sets which retire, number by number.
use Rattle.std.proofs.Common.{◌≡◌, ℕ, zero, suc, ◌+◌, ◌-◌, ◌≤◌, Bool, true, false, cond, List, [], ◌∷◌, ◌++◌, map, get_or, refl, sym, ap, ◌∙◌, arith, append_assoc}
use Rattle.std.specs.Prelude.{◌&&◌, filter}
use Rattle.std.specs.List.{range_with_len}
use Rattle.std.proofs.lemmas.List.Elements.{filter-append}
use Rattle.std.proofs.lemmas.List.{map-append, append-nil}
use Rattle.hive_model.specs.Edit.{Step, delete_key}
use Rattle.start_model.specs.Sets.{SelectNumbers, set_name, deletions_of}
use Rattle.select_keys.specs.Numbers.{numbers_where, numbers_marked}
use Rattle.select_keys.specs.Plans.{gives_up}

abbrev pub deletion : ℕ → Step
deletion n = delete_key (set_name n ∷ [])

abbrev pub retires : List Bool → SelectNumbers → SelectNumbers → ℕ → Bool
retires marks old new n = get_or marks n false && gives_up old new n

-- the steps that delete the sets which retire, of numbers below this one
abbrev pub deleted_before : List Bool → SelectNumbers → SelectNumbers → ℕ → List Step
deleted_before marks old new n = map deletion (filter (retires marks old new) (range_with_len 1 (n - 1)))

range_more : (a len : ℕ) → range_with_len a (suc len) ≡ range_with_len a len ++ (a + len) ∷ []
range_more a zero = ap (λ n. n ∷ []) (omega arith)
range_more a (suc len) = ap (λ ns. a ∷ ns)
    (range_more (a + 1) len ∙ ap (λ n. range_with_len (a + 1) len ++ n ∷ []) (omega arith))

map_one : (b : Bool) (n : ℕ) → map deletion (cond b (n ∷ []) []) ≡ cond b (deletion n ∷ []) []
map_one true n = refl
map_one false n = refl

-- one number more: its set is deleted after the others where it retires
pub deleted_more : (marks : List Bool) (old new : SelectNumbers) (n : ℕ) → 1 ≤ n
    → deleted_before marks old new (n + 1) ≡ deleted_before marks old new n
    ++ cond (retires marks old new n) (deletion n ∷ []) []
deleted_more marks old new n low =
    let kept : List ℕ → List ℕ = filter (retires marks old new) in
    let longer : n + 1 - 1 ≡ suc (n - 1) = omega arith in
    let last : 1 + (n - 1) ≡ n = omega arith in
    ap (λ len. map deletion (kept (range_with_len 1 len))) longer
    ∙ ap (λ ns. map deletion (kept ns)) (range_more 1 (n - 1) ∙ ap (λ m. range_with_len 1 (n - 1) ++ m ∷ []) last)
    ∙ ap (map deletion) (filter-append (retires marks old new) (range_with_len 1 (n - 1)) (n ∷ []))
    ∙ map-append deletion (kept (range_with_len 1 (n - 1))) (cond (retires marks old new n) (n ∷ []) [])
    ∙ ap (λ ss. deleted_before marks old new n ++ ss) (map_one (retires marks old new n) n)

-- the number's set retires, and the step that deletes it was put after
pub deleted_next : (first done after : List Step) (marks : List Bool) (old new : SelectNumbers) (n : ℕ)
    (path : List (List ℕ)) → 1 ≤ n → done ≡ first ++ deleted_before marks old new n
    → after ≡ done ++ delete_key path ∷ [] → path ≡ set_name n ∷ [] → retires marks old new n ≡ true
    → after ≡ first ++ deleted_before marks old new (n + 1)
deleted_next first done after marks old new n path low so_far put is here =
    put ∙ ap (λ ss. ss ++ delete_key path ∷ []) so_far
    ∙ append_assoc first (deleted_before marks old new n) (delete_key path ∷ [])
    ∙ ap (λ p. first ++ (deleted_before marks old new n ++ delete_key p ∷ [])) is
    ∙ ap (λ b. first ++ (deleted_before marks old new n ++ cond b (deletion n ∷ []) [])) (sym here)
    ∙ ap (λ ss. first ++ ss) (sym (deleted_more marks old new n low))

-- the number's set stays, or isn't there
pub deleted_same : (first done : List Step) (marks : List Bool) (old new : SelectNumbers) (n : ℕ) → 1 ≤ n
    → done ≡ first ++ deleted_before marks old new n
    → retires marks old new n ≡ false → done ≡ first ++ deleted_before marks old new (n + 1)
deleted_same first done marks old new n low so_far not_here =
    so_far ∙ ap (λ ss. first ++ ss) (sym (append-nil (deleted_before marks old new n)))
    ∙ ap (λ b. first ++ (deleted_before marks old new n ++ cond b (deletion n ∷ []) [])) (sym not_here)
    ∙ ap (λ ss. first ++ ss) (sym (deleted_more marks old new n low))

filter-filter : (p q : ℕ → Bool) (ns : List ℕ) → filter (λ n. p n && q n) ns ≡ filter q (filter p ns)
filter-filter p q [] = refl
filter-filter p q (n ∷ ns) = by_first (p n) (filter-filter p q ns)
  where
    by_first : (b : Bool) → filter (λ m. p m && q m) ns ≡ filter q (filter p ns)
        → cond (b && q n) (n ∷ filter (λ m. p m && q m) ns) (filter (λ m. p m && q m) ns)
        ≡ filter q (cond b (n ∷ filter p ns) (filter p ns))
    by_first true rest = ap (λ ms. cond (q n) (n ∷ ms) ms) rest
    by_first false rest = rest

deleted_among : (p : ℕ → Bool) (old new : SelectNumbers) (ns : List ℕ)
    → map deletion (filter (λ n. p n && gives_up old new n) ns) ≡ deletions_of (filter p ns) old new
deleted_among p old new ns = ap (map deletion) (filter-filter p (gives_up old new) ns)

-- with all numbers done, these are the deletions
pub deleted_all : (marks : List Bool) (usable : List ℕ) (old new : SelectNumbers) → numbers_marked marks ≡ usable
    → deleted_before marks old new 1000 ≡ deletions_of usable old new
unfolding numbers_where
deleted_all marks usable old new is =
    deleted_among (λ n. get_or marks n false) old new (range_with_len 1 999) ∙ ap (λ ns. deletions_of ns old new) is
