-- The test whether two trees are one reports just that.
use Rattle.std.proofs.Common.{◌≡◌, Bool, true, false, ◌&&◌, List, [], ◌∷◌, refl, ap}
use Rattle.std.specs.Prelude.{bytes_eq, ◌==◌}
use Rattle.std.specs.Bool.{Decides}
use Rattle.std.proofs.lemmas.Bool.{false≢true}
use Rattle.std.proofs.lemmas.Bool.Decides.{Decides-and, Decides-eqb}
use Rattle.std.proofs.lemmas.Slice.Eq.{bytes_eq-Decides}
use Rattle.hive_model.specs.Tree.{Item, Head, Tree, Trees, key, none, more, same_items, same_head, same_tree, same_trees}

decides_as : {P Q : Type 0} (r : Bool) → (P → Q) → (Q → P) → Decides r P → Decides r Q
decides_as r f g d = (λ e. f (d.0 e), λ q. d.1 (g q))

items : (xs ys : List Item) → Decides (same_items xs ys) (xs ≡ ys)
items [] [] = (λ e. refl, λ e. refl)
items [] (y ∷ ys) = (λ e. absurd (false≢true e), λ e. absurd cc)
items (x ∷ xs) [] = (λ e. absurd (false≢true e), λ e. absurd cc)
items (x ∷ xs) (y ∷ ys) =
    let P : Type 0 = ((x.name ≡ y.name) × (x.kind ≡ y.kind)) × (x.bytes ≡ y.bytes) in
    let one : Decides (bytes_eq x.name y.name && (x.kind == y.kind) && bytes_eq x.bytes y.bytes) P =
    Decides-and _ _ (Decides-and _ _ (bytes_eq-Decides x.name y.name) (Decides-eqb x.kind y.kind))
    (bytes_eq-Decides x.bytes y.bytes) in
    decides_as _ (λ p. joined p) (λ e. parts e) (Decides-and _ (same_items xs ys) one (items xs ys))
  where
    joined : (((x.name ≡ y.name) × (x.kind ≡ y.kind)) × (x.bytes ≡ y.bytes)) × (xs ≡ ys) → (x ∷ xs) ≡ (y ∷ ys)
    joined p =
        let name = p.0.0.0 in
        let kind = p.0.0.1 in
        let bytes = p.0.1 in
        let rest = p.1 in
        λ i. record { name = name i; kind = kind i; bytes = bytes i } ∷ rest i

    parts : (x ∷ xs) ≡ (y ∷ ys) → (((x.name ≡ y.name) × (x.kind ≡ y.kind)) × (x.bytes ≡ y.bytes)) × (xs ≡ ys)
    parts e = (let first : x ≡ y = cc in let rest : xs ≡ ys = cc in
        (((ap (λ (v : Item). v.name) first, ap (λ (v : Item). v.kind) first), ap (λ (v : Item). v.bytes) first), rest))

heads : (a b : Head) → Decides (same_head a b) (a ≡ b)
heads a b =
    decides_as _ (λ p. joined p) (λ e. parts e)
    (Decides-and _ _ (Decides-and _ _
    (Decides-and _ _ (Decides-and _ _
    (Decides-and _ _ (bytes_eq-Decides a.name b.name) (Decides-eqb a.flags b.flags)) (Decides-eqb a.stamp b.stamp))
    (bytes_eq-Decides a.class b.class)) (bytes_eq-Decides a.security b.security)) (items a.values b.values))
  where
    joined : (((((a.name ≡ b.name) × (a.flags ≡ b.flags)) × (a.stamp ≡ b.stamp)) × (a.class ≡ b.class))
        × (a.security ≡ b.security)) × (a.values ≡ b.values) → a ≡ b
    joined p =
        let name = p.0.0.0.0.0 in
        let flags = p.0.0.0.0.1 in
        let stamp = p.0.0.0.1 in
        let class = p.0.0.1 in
        let security = p.0.1 in
        let values = p.1 in
        λ i. record {
          name = name i;
          flags = flags i;
          stamp = stamp i;
          class = class i;
          security = security i;
          values = values i;
        }

    parts : a ≡ b → (((((a.name ≡ b.name) × (a.flags ≡ b.flags)) × (a.stamp ≡ b.stamp)) × (a.class ≡ b.class))
        × (a.security ≡ b.security)) × (a.values ≡ b.values)
    parts e = (
      (
        (
          ((ap (λ (h : Head). h.name) e, ap (λ (h : Head). h.flags) e), ap (λ (h : Head). h.stamp) e),
          ap (λ (h : Head). h.class) e,
        ),
        ap (λ (h : Head). h.security) e,
      ),
      ap (λ (h : Head). h.values) e,
    )

key_parts : (h i : Head) (ts us : Trees) → key h ts ≡ key i us → (h ≡ i) × (ts ≡ us)
key_parts h i ts us e = (ap head e, ap below e)
  where
    head : Tree → Head
    head (key h ts) = h

    below : Tree → Trees
    below (key h ts) = ts

more_parts : (t u : Tree) (ts us : Trees) → more t ts ≡ more u us → (t ≡ u) × (ts ≡ us)
more_parts t u ts us e = (ap first e, ap rest e)
  where
    first : Trees → Tree
    first none = t
    first (more v vs) = v

    rest : Trees → Trees
    rest none = ts
    rest (more v vs) = vs

mutual
  pub same-Decides : (a b : Tree) → Decides (same_tree a b) (a ≡ b)
  same-Decides (key h ts) (key i us) =
      decides_as _ (λ p. (let a = p.0 in let b = p.1 in λ j. key (a j) (b j))) (key_parts h i ts us)
      (Decides-and (same_head h i) (same_trees ts us) (heads h i) (all-Decides ts us))

  all-Decides : (ts us : Trees) → Decides (same_trees ts us) (ts ≡ us)
  all-Decides none none = (λ e. refl, λ e. refl)
  all-Decides none (more u us) = (λ e. absurd (false≢true e), λ e. absurd cc)
  all-Decides (more t ts) none = (λ e. absurd (false≢true e), λ e. absurd cc)
  all-Decides (more t ts) (more u us) =
      decides_as _ (λ p. (let a = p.0 in let b = p.1 in λ j. more (a j) (b j))) (more_parts t u ts us)
      (Decides-and (same_tree t u) (same_trees ts us) (same-Decides t u) (all-Decides ts us))
