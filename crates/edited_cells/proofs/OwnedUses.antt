-- What a key and the keys below it own, they use, and the other way round.
use Rattle.std.proofs.Common.{◌≡◌, ℕ, zero, suc, ◌<◌, Bool, true, false, List, [], ◌∷◌, ◌++◌, length, refl, sym, ap, subst, inl, inr, ⊎_elim, arith}
use Rattle.std.specs.Prelude.{flat_map}
use Rattle.hive_model.specs.Bins.{Cells}
use Rattle.hive_model.specs.Tree.{Tree}
use Rattle.hive_model.specs.Walk.{value_checks}
use Rattle.hive_model.specs.Footprint.{used_in, child_places, security_cell_at, list_cells_at}
use Rattle.hive_model.specs.Stands.{IsWellFormed}
use Rattle.edited_cells.specs.Owned.{Role, node, class, security, value_list, value, lists, In, node_name, value_name, value_places, value_list_at, class_cell_at, HasRole, Owns, IsSecurity}
use Rattle.edited_cells.specs.Revalues.{cells_of_values, all_value_cells}
use Rattle.edited_cells.specs.Uses.{plain, secure, own_uses, tree_uses}
use Rattle.edited_cells.specs.Relists.{IsSecurityCell}
use Rattle.edited_cells.proofs.Ins.{in_left, in_right, in_cases, in_flat, in_flat_from}
use Rattle.edited_cells.proofs.Pairs.{in_map, in_map_from}
use Rattle.edited_cells.proofs.Wellformed.{sound_hive}
use Rattle.edited_cells.specs.Rewrites.{is_secure}

pub plain_is : (r : Role) → (IsSecurity r → ⊥) → is_secure r ≡ false
plain_is node p = refl
plain_is class p = refl
plain_is security p = absurd (p tt)
plain_is value_list p = refl
plain_is (value n) p = refl
plain_is lists p = refl

pub secure_is : (r : Role) → is_secure r ≡ true → IsSecurity r
secure_is node e = absurd cc
secure_is class e = absurd cc
secure_is security e = tt
secure_is value_list e = absurd cc
secure_is (value n) e = absurd cc
secure_is lists e = absurd cc

pub in_plain : (xs : List ℕ) (o : ℕ) → In xs o → In (plain xs) (o, false)
in_plain xs o i = in_map_from (λ (z : ℕ). (z, false)) xs o i

pub from_plain : (xs : List ℕ) (u : ℕ × Bool) → In (plain xs) u → In xs u.0 × (false ≡ u.1)
from_plain xs u i =
    let m = in_map (λ (z : ℕ). (z, false)) xs u i in
    (subst (In xs) (ap (λ (v : ℕ × Bool). v.0) m.2) m.1, ap (λ (v : ℕ × Bool). v.1) m.2)

-- ---- a key's own

behind_class : (cells : Cells) (at : ℕ) (u : ℕ × Bool)
    → In (secure (security_cell_at cells at) ++ (plain (all_value_cells cells at) ++ plain (list_cells_at cells at))) u
    → In (own_uses cells at) u
behind_class cells at u i = inr (in_right (plain (class_cell_at cells at))
    (secure (security_cell_at cells at) ++ (plain (all_value_cells cells at) ++ plain (list_cells_at cells at))) u i)

behind_security : (cells : Cells) (at : ℕ) (u : ℕ × Bool)
    → In (plain (all_value_cells cells at) ++ plain (list_cells_at cells at)) u → In (own_uses cells at) u
behind_security cells at u i =
    behind_class cells at u (in_right (secure (security_cell_at cells at))
    (plain (all_value_cells cells at) ++ plain (list_cells_at cells at)) u i)

values_use : (cells : Cells) (at o : ℕ) → In (all_value_cells cells at) o → In (own_uses cells at) (o, false)
values_use cells at o i =
    behind_security cells at (o, false) (in_left (plain (all_value_cells cells at)) (plain (list_cells_at cells at))
    (o, false) (in_plain (all_value_cells cells at) o i))

own_use : (cells : Cells) (at : ℕ) (r : Role) (o : ℕ) → HasRole cells at r o → In (own_uses cells at) (o, is_secure r)
own_use cells at node o h = inl (λ i. (h i, false))
own_use cells at class o h =
    inr (in_left (plain (class_cell_at cells at))
    (secure (security_cell_at cells at) ++ (plain (all_value_cells cells at) ++ plain (list_cells_at cells at)))
    (o, false) (in_plain (class_cell_at cells at) o h))
own_use cells at security o h =
    behind_class cells at (o, true) (in_left (secure (security_cell_at cells at))
    (plain (all_value_cells cells at) ++ plain (list_cells_at cells at)) (o, true)
    (in_map_from (λ (z : ℕ). (z, true)) (security_cell_at cells at) o h))
own_use cells at value_list o h =
    values_use cells at o (in_left (value_list_at cells at) (cells_of_values cells (value_places cells at)) o h)
own_use cells at (value name) o h =
    values_use cells at o (in_right (value_list_at cells at) (cells_of_values cells (value_places cells at)) o
    (in_flat_from (λ v. used_in (value_checks cells [] v)) (value_places cells at) o h.place h.listed h.used))
own_use cells at lists o h =
    behind_security cells at (o, false) (in_right (plain (all_value_cells cells at)) (plain (list_cells_at cells at))
    (o, false) (in_plain (list_cells_at cells at) o h))

-- a use, as a role
pub record IsRoleOf (cells : Cells) (at : ℕ) (u : ℕ × Bool) : Type 0 where
  pub role : Role
  pub has : HasRole cells at role u.0
  pub way : is_secure role ≡ u.1

use_own : (cells : Cells) (at : ℕ) (u : ℕ × Bool) → In (own_uses cells at) u → IsRoleOf cells at u
use_own cells at u (inl e) =
    record { role = node; has = ap (λ (v : ℕ × Bool). v.0) e; way = ap (λ (v : ℕ × Bool). v.1) e }
use_own cells at u (inr h) = ⊎_elim
    (λ i. let m = from_plain (class_cell_at cells at) u i in record { role = class; has = m.0; way = m.1 })
    (λ h2. ⊎_elim
    (λ i. let m = in_map (λ (z : ℕ). (z, true)) (security_cell_at cells at) u i in
    record {
      role = security;
      has = subst (In (security_cell_at cells at)) (ap (λ (v : ℕ × Bool). v.0) m.2) m.1;
      way = ap (λ (v : ℕ × Bool). v.1) m.2;
    })
    (λ h3. ⊎_elim
    (λ i. let m = from_plain (all_value_cells cells at) u i in of_values m.0 m.1)
    (λ i. let m = from_plain (list_cells_at cells at) u i in record { role = lists; has = m.0; way = m.1 })
    (in_cases (plain (all_value_cells cells at)) (plain (list_cells_at cells at)) u h3))
    (in_cases (secure (security_cell_at cells at)) (plain (all_value_cells cells at) ++ plain (list_cells_at cells at))
    u h2))
    (in_cases (plain (class_cell_at cells at))
    (secure (security_cell_at cells at) ++ (plain (all_value_cells cells at) ++ plain (list_cells_at cells at))) u h)
  where
    of_values : In (all_value_cells cells at) u.0 → false ≡ u.1 → IsRoleOf cells at u
    of_values i e = ⊎_elim (λ l. record { role = value_list; has = l; way = e })
        (λ l. let f = in_flat (λ v. used_in (value_checks cells [] v)) (value_places cells at) u.0 l in
        record {
          role = value (value_name cells f.0);
          has = record { place = f.0; listed = f.1; named = refl; used = f.2 };
          way = e;
        })
        (in_cases (value_list_at cells at) (cells_of_values cells (value_places cells at)) u.0 i)

-- ---- and below it

-- what a key or one below it owns is used, where there are levels enough
pub owned_use : (left : ℕ) (cells : Cells) (q : List (List ℕ)) (at : ℕ) (r : Role) (o : ℕ) → length q < left
    → Owns cells at q r o → In (tree_uses left cells at) (o, is_secure r)
owned_use zero cells q at r o lt w = absurd (omega (arith, lt))
owned_use (suc left) cells [] at r o lt w =
    in_left (own_uses cells at) (flat_map (tree_uses left cells) (child_places cells at)) (o, is_secure r)
    (own_use cells at r o (subst (λ (z : ℕ). HasRole cells z r o) (sym w.reached) w.has))
owned_use (suc left) cells (m ∷ q) at r o lt w =
    in_right (own_uses cells at) (flat_map (tree_uses left cells) (child_places cells at)) (o, is_secure r)
    (in_flat_from (tree_uses left cells) (child_places cells at) (o, is_secure r) w.reached.0 w.reached.1
    (owned_use left cells q w.reached.0 r o (omega (arith, lt))
    (record { at = w.at; reached = w.reached.3; has = w.has })))

-- a use, as what is owned
pub record IsOwnedBelow (cells : Cells) (at : ℕ) (u : ℕ × Bool) : Type 0 where
  pub path : List (List ℕ)
  pub role : Role
  pub owns : Owns cells at path role u.0
  pub way : is_secure role ≡ u.1

pub use_owned : (left : ℕ) (cells : Cells) (at : ℕ) (u : ℕ × Bool) → In (tree_uses left cells at) u
    → IsOwnedBelow cells at u
use_owned zero cells at u h = absurd h
use_owned (suc left) cells at u h = ⊎_elim
    (λ i. let w = use_own cells at u i in
    record { path = []; role = w.role; owns = record { at = at; reached = refl; has = w.has }; way = w.way })
    (λ i. let f = in_flat (tree_uses left cells) (child_places cells at) u i in
    let w = use_owned left cells f.0 u f.2 in
    record {
      path = node_name cells f.0 ∷ w.path;
      role = w.role;
      owns = record { at = w.owns.at; reached = (f.0, f.1, refl, w.owns.reached); has = w.owns.has };
      way = w.way;
    })
    (in_cases (own_uses cells at) (flat_map (tree_uses left cells) (child_places cells at)) u h)

-- a security cell of the tree is used so
pub secure_there : (b : Cells) (root : ℕ) (t : Tree) (o : ℕ) → IsWellFormed b root t → IsSecurityCell b root o
    → In (tree_uses 512 b root) (o, true)
secure_there b root t o well s =
    owned_use 512 b s.path root security o ((sound_hive b root t well).shallow s.path s.key s.reached)
    (record { at = s.key; reached = s.reached; has = s.uses })
