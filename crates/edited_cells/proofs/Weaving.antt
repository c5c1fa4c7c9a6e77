-- Lists in two parts: how they are made, and that uses are once where both parts are.
use Rattle.std.proofs.Common.{◌≡◌, ℕ, Bool, List, [], ◌∷◌, ◌++◌, map, refl, sym, ap, subst, inl, inr, ⊎_elim}
use Rattle.std.specs.Prelude.{◌⊎◌, flat_map}
use Rattle.edited_cells.specs.Owned.{In}
use Rattle.edited_cells.specs.Uses.{Agree, Once}
use Rattle.edited_cells.proofs.Around.{agree_back}
use Rattle.edited_cells.specs.Woven.{Woven}

-- ---- how they are made

pub all_kept : {X : Type 0} (us : List X) → Woven us [] us
all_kept [] = (refl, refl)
all_kept (u ∷ us) = inr (us, refl, all_kept us)

pub all_old : {X : Type 0} (us : List X) → Woven us us []
all_old [] = (refl, refl)
all_old (u ∷ us) = inl (us, refl, all_old us)

pub kept_front : {X : Type 0} (bs us old kept : List X) → Woven us old kept → Woven (bs ++ us) old (bs ++ kept)
kept_front [] us old kept w = w
kept_front (b ∷ bs) us old kept w = inr (bs ++ kept, refl, kept_front bs us old kept w)

pub old_front : {X : Type 0} (bs us old kept : List X) → Woven us old kept → Woven (bs ++ us) (bs ++ old) kept
old_front [] us old kept w = w
old_front (b ∷ bs) us old kept w = inl (bs ++ old, refl, old_front bs us old kept w)

-- one list after the other
pub woven_on : {X : Type 0} (us vs o p k l : List X) → Woven us o k → Woven vs p l → Woven (us ++ vs) (o ++ p) (k ++ l)
woven_on {X} [] vs o p k l e w =
    subst (λ (z : List X). Woven vs (z ++ p) (k ++ l)) (sym e.0) (subst (λ (z : List X). Woven vs p (z ++ l)) (sym e.1) w)
woven_on {X} (u ∷ us) vs o p k l (inl e) w =
    inl (e.0 ++ p, ap (λ (z : List X). z ++ p) e.1, woven_on us vs e.0 p k l e.2 w)
woven_on {X} (u ∷ us) vs o p k l (inr e) w =
    inr (e.0 ++ l, ap (λ (z : List X). z ++ l) e.1, woven_on us vs o p e.0 l e.2 w)

pub kept_back : {X : Type 0} (us bs old kept : List X) → Woven us old kept → Woven (us ++ bs) old (kept ++ bs)
kept_back {X} [] bs old kept e =
    subst (λ (z : List X). Woven bs z (kept ++ bs)) (sym e.0)
    (subst (λ (z : List X). Woven bs [] (z ++ bs)) (sym e.1) (all_kept bs))
kept_back {X} (u ∷ us) bs old kept (inl e) = inl (e.0, e.1, kept_back us bs e.0 kept e.2)
kept_back {X} (u ∷ us) bs old kept (inr e) =
    inr (e.0 ++ bs, ap (λ (z : List X). z ++ bs) e.1, kept_back us bs old e.0 e.2)

pub kept_then_old : {X : Type 0} (kept old : List X) → Woven (kept ++ old) old kept
kept_then_old [] old = all_old old
kept_then_old (k ∷ kept) old = inr (kept, refl, kept_then_old kept old)

pub woven_map : {X Y : Type 0} (f : X → Y) (us old kept : List X) → Woven us old kept
    → Woven (map f us) (map f old) (map f kept)
woven_map f [] old kept e = (ap (map f) e.0, ap (map f) e.1)
woven_map f (u ∷ us) old kept (inl e) = inl (map f e.0, ap (map f) e.1, woven_map f us e.0 kept e.2)
woven_map f (u ∷ us) old kept (inr e) = inr (map f e.0, ap (map f) e.1, woven_map f us old e.0 e.2)

append_on : {X : Type 0} (xs ys zs : List X) → xs ++ (ys ++ zs) ≡ (xs ++ ys) ++ zs
append_on [] ys zs = refl
append_on {X} (x ∷ xs) ys zs = ap (λ (l : List X). x ∷ l) (append_on xs ys zs)

-- what is listed of the elements between others
pub woven_middle : {X Y : Type 0} (f : X → List Y) (front mid back : List X)
    → Woven (flat_map f (front ++ (mid ++ back))) (flat_map f mid) (flat_map f front ++ flat_map f back)
woven_middle f [] [] back = all_kept (flat_map f back)
woven_middle f [] (m ∷ mid) back =
    old_front (f m) (flat_map f (mid ++ back)) (flat_map f mid) (flat_map f back) (woven_middle f [] mid back)
woven_middle {X} {Y} f (y ∷ front) mid back =
    subst (λ (l : List Y). Woven (f y ++ flat_map f (front ++ (mid ++ back))) (flat_map f mid) l)
    (append_on (f y) (flat_map f front) (flat_map f back))
    (kept_front (f y) (flat_map f (front ++ (mid ++ back))) (flat_map f mid) (flat_map f front ++ flat_map f back)
    (woven_middle f front mid back))

-- ---- elements

pub woven_old : {X : Type 0} (us old kept : List X) → Woven us old kept → (u : X) → In old u → In us u
woven_old {X} [] old kept e u i = subst (λ (l : List X). In l u) e.0 i
woven_old {X} (v ∷ us) old kept (inl e) u i =
    ⊎_elim (λ s. inl s) (λ j. inr (woven_old us e.0 kept e.2 u j)) (subst (λ (l : List X). In l u) e.1 i)
woven_old (v ∷ us) old kept (inr e) u i = inr (woven_old us old e.0 e.2 u i)

pub woven_kept : {X : Type 0} (us old kept : List X) → Woven us old kept → (u : X) → In kept u → In us u
woven_kept {X} [] old kept e u i = subst (λ (l : List X). In l u) e.1 i
woven_kept (v ∷ us) old kept (inl e) u i = inr (woven_kept us e.0 kept e.2 u i)
woven_kept {X} (v ∷ us) old kept (inr e) u i =
    ⊎_elim (λ s. inl s) (λ j. inr (woven_kept us old e.0 e.2 u j)) (subst (λ (l : List X). In l u) e.1 i)

-- ---- uses

-- two lists of uses: each once, and once together
pub record AreOnceBoth (old kept : List (ℕ × Bool)) : Type 0 where
  pub first : Once old
  pub second : Once kept
  pub across : (u v : ℕ × Bool) → In old u → In kept v → Agree u v

pub woven_parts : (us old kept : List (ℕ × Bool)) → Woven us old kept → Once us → AreOnceBoth old kept
woven_parts [] old kept e h = record {
  first = subst Once (sym e.0) tt;
  second = subst Once (sym e.1) tt;
  across = λ u v i j. absurd (subst (λ (l : List (ℕ × Bool)). In l u) e.0 i);
}
woven_parts (w ∷ us) old kept (inl e) h =
    let p = woven_parts us e.0 kept e.2 h.1 in
    record {
      first = subst Once (sym e.1) ((λ u i. h.0 u (woven_old us e.0 kept e.2 u i)), p.first);
      second = p.second;
      across = λ u v i j. ⊎_elim
          (λ s. subst (λ (z : ℕ × Bool). Agree z v) s (h.0 v (woven_kept us e.0 kept e.2 v j)))
          (λ n. p.across u v n j) (subst (λ (l : List (ℕ × Bool)). In l u) e.1 i);
    }
woven_parts (w ∷ us) old kept (inr e) h =
    let p = woven_parts us old e.0 e.2 h.1 in
    record {
      first = p.first;
      second = subst Once (sym e.1) ((λ u i. h.0 u (woven_kept us old e.0 e.2 u i)), p.second);
      across = λ u v i j. ⊎_elim
          (λ s. agree_back v u (subst (λ (z : ℕ × Bool). Agree z u) s (h.0 u (woven_old us old e.0 e.2 u i))))
          (λ n. p.across u v i n) (subst (λ (l : List (ℕ × Bool)). In l v) e.1 j);
    }

woven_in : (us old kept : List (ℕ × Bool)) → Woven us old kept → (u : ℕ × Bool) → In us u → In old u ⊎ In kept u
woven_in [] old kept e u i = absurd i
woven_in (v ∷ us) old kept (inl e) u (inl s) = inl (subst (λ (l : List (ℕ × Bool)). In l u) (sym e.1) (inl s))
woven_in (v ∷ us) old kept (inl e) u (inr i) =
    ⊎_elim (λ j. inl (subst (λ (l : List (ℕ × Bool)). In l u) (sym e.1) (inr j))) (λ j. inr j)
    (woven_in us e.0 kept e.2 u i)
woven_in (v ∷ us) old kept (inr e) u (inl s) = inr (subst (λ (l : List (ℕ × Bool)). In l u) (sym e.1) (inl s))
woven_in (v ∷ us) old kept (inr e) u (inr i) =
    ⊎_elim (λ j. inl j) (λ j. inr (subst (λ (l : List (ℕ × Bool)). In l u) (sym e.1) (inr j)))
    (woven_in us old e.0 e.2 u i)

pub woven_once : (us old kept : List (ℕ × Bool)) → Woven us old kept → AreOnceBoth old kept → Once us
woven_once [] old kept e p = tt
woven_once (w ∷ us) old kept (inl e) p =
    let here : Once (w ∷ e.0) = subst Once e.1 p.first in
    let there : In old w = subst (λ (l : List (ℕ × Bool)). In l w) (sym e.1) (inl refl) in (
      λ u i. ⊎_elim (λ j. here.0 u j) (λ j. p.across w u there j) (woven_in us e.0 kept e.2 u i),
      woven_once us e.0 kept e.2 (record {
        first = here.1;
        second = p.second;
        across = λ u v i j. p.across u v (subst (λ (l : List (ℕ × Bool)). In l u) (sym e.1) (inr i)) j;
      }),
    )
woven_once (w ∷ us) old kept (inr e) p =
    let here : Once (w ∷ e.0) = subst Once e.1 p.second in
    let there : In kept w = subst (λ (l : List (ℕ × Bool)). In l w) (sym e.1) (inl refl) in (
      λ u i. ⊎_elim (λ j. agree_back u w (p.across u w j there)) (λ j. here.0 u j) (woven_in us old e.0 e.2 u i),
      woven_once us old e.0 e.2 (record {
        first = p.first;
        second = here.1;
        across = λ u v i j. p.across u v i (subst (λ (l : List (ℕ × Bool)). In l v) (sym e.1) (inr j));
      }),
    )
