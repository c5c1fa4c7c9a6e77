-- Cells of security that keys of a tree use: what is read of them, and with which count after a step.
use Rattle.std.proofs.Common.{◌≡◌, ◌<◌, ◌^◌, ℕ, zero, suc, ◌+◌, ◌-◌, Bool, true, false, List, [], ◌∷◌, Result, Ok, sym, ap, subst, ◌∙◌, inl, inr, ⊎_elim, arith}
use Rattle.std.specs.Prelude.{min, replicate, Contains}
use Rattle.std.specs.Int.{w32, to_le_bytes}
use Rattle.nt_bytes.specs.declared.fault.HiveFaultKind.{HiveFaultKind}
use Rattle.nt_bytes.specs.Fields.{u32_in}
use Rattle.nt_bytes.specs.Reading.{◌>>=◌}
use Rattle.hive_model.specs.Bins.{Cells}
use Rattle.hive_model.specs.Tree.{Tree, key}
use Rattle.hive_model.specs.Edit.{Step, set_value, delete_value}
use Rattle.hive_model.specs.Security.{SecurityCell, security_at}
use Rattle.hive_model.specs.InPlace.{count_after, recounted, IsKeptSecurity, KeepsSecurity}
use Rattle.hive_model.specs.Walk.{Check, uses, tests, reading, all_checks}
use Rattle.hive_model.specs.Footprint.{security_used_in}
use Rattle.hive_model.specs.Stands.{Stands, IsWellFormed}
use Rattle.edited_cells.specs.Owned.{Role, node, class, security, value_list, value, lists, In, HasRole, Owns, IsSecurity, Matches, IsMatched}
use Rattle.hive_model.specs.Owned.{IsOfValue}
use Rattle.edited_cells.specs.Uses.{tree_uses}
use Rattle.edited_cells.specs.Written.{with_part}
use Rattle.edited_cells.specs.Relists.{descriptor_at, IsSecurityCell}
use Rattle.edited_cells.specs.Done.{IsDone}
use Rattle.edited_cells.proofs.Ins.{in_from}
use Rattle.edited_cells.proofs.Uses.{marks, walk_uses}
use Rattle.edited_cells.proofs.Held.{are_held}
use Rattle.edited_cells.proofs.Untouched.{root_node, are_once}
use Rattle.edited_cells.proofs.Wellformed.{sound_tree, standing}
use Rattle.edited_cells.proofs.OwnedUses.{secure_is, use_owned}
use Rattle.hive_look.proofs.ResultLemmas.{done}
use Rattle.hive_edit.proofs.CountLemmas.{security_counted, security_text_is}
use Rattle.hive_look.proofs.ParentLemmas.{security_at_node, security_some, security_read}

-- ---- which cells are they

pub role_security : (cells : Cells) (at o : ℕ) (r : Role) → HasRole cells at r o → IsSecurity r
    → HasRole cells at security o
role_security cells at o node h s = absurd s
role_security cells at o class h s = absurd s
role_security cells at o security h s = h
role_security cells at o value_list h s = absurd s
role_security cells at o (value m) h s = absurd s
role_security cells at o lists h s = absurd s

secured_mark : (cs : List Check) (o : ℕ) → In (security_used_in cs) o → In (marks cs) (o, true)
secured_mark [] o i = absurd i
secured_mark (uses at true ∷ cs) o (inl e) = inl (λ k. (e k, true))
secured_mark (uses at true ∷ cs) o (inr i) = inr (secured_mark cs o i)
secured_mark (uses at false ∷ cs) o i = inr (secured_mark cs o i)
secured_mark (tests at kind ∷ cs) o i = secured_mark cs o i

walked : (b : Cells) (root : ℕ) (t : Tree) → IsWellFormed b root t → marks (all_checks b root) ≡ tree_uses 512 b root
unfolding all_checks
walked b root t well =
    let r = root_node b root t well.stands in
    walk_uses 512 b true [] root r.0 (sound_tree b root t well.stands well.names) r.1

-- what the walk uses as security some key of the tree uses so
secured_is : (b : Cells) (root : ℕ) (t : Tree) → IsWellFormed b root t → (o : ℕ)
    → Contains (security_used_in (all_checks b root)) o → IsSecurityCell b root o
secured_is b root t well o i =
    let w = use_owned 512 b root (o, true) (subst (λ (l : List (ℕ × Bool)). In l (o, true)) (walked b root t well)
    (secured_mark (all_checks b root) o (in_from (security_used_in (all_checks b root)) o i))) in
    record {
      path = w.path;
      key = w.owns.at;
      reached = w.owns.reached;
      uses = role_security b w.owns.at o w.role w.owns.has (secure_is w.role w.way);
    }

pub secure_own : (b : Cells) (root o : ℕ) (s : IsSecurityCell b root o) → Owns b root s.path security o
secure_own b root o s = record { at = s.key; reached = s.reached; has = s.uses }

-- ---- what is read of them

pub secure_reads : (b : Cells) (root : ℕ) (t : Tree) → IsWellFormed b root t → (o : ℕ) → IsSecurityCell b root o
    → (s : SecurityCell) × (reading security_at b o ≡ done s)
secure_reads b root t well o u =
    let there = standing b u.path root u.key t well.stands well.names u.reached in
    go there.tree there.stands
  where
    go : (w : Tree) → Stands b u.key w → (s : SecurityCell) × (reading security_at b o ≡ done s)
    go (key hd ts) stands =
        let m = stands.1.node in
        let listed = security_some m.security o
        (subst (λ (l : List ℕ). In l o) (security_at_node b u.key m stands.1.read) u.uses) in
        let s = security_read b m hd.security stands.1.security listed.1 in
        (s.0, ap (reading security_at b) (sym listed.0) ∙ s.1)

-- one whose payload is the same counts as many
pub secure_same : (b c : Cells) (root : ℕ) (t : Tree) → IsWellFormed b root t → (o : ℕ) → IsSecurityCell b root o
    → c.payload o ≡ b.payload o → IsKeptSecurity b c [] o
secure_same b c root t well o s same =
    let r = secure_reads b root t well o s in
    record {
      cell = r.0;
      was = r.1;
      stays = ap (λ (p : Result (List ℕ) HiveFaultKind). p >>= security_at) same ∙ r.1;
    }

pub uses_in : (p : List ℕ) (s : SecurityCell) → security_at p ≡ done s → u32_in p 12 ≡ s.uses
uses_in p s e = ap (λ (z : SecurityCell). z.uses) (security_text_is p s e).fields

-- one whose count was written over has that count
pub secure_counted : (b c : Cells) (o n : ℕ) (p : List ℕ) (changes : List Bool) (s : SecurityCell)
    → b.payload o ≡ done p → security_at p ≡ done s → n < 2 ^ 32 → n ≡ count_after changes s.uses
    → c.payload o ≡ done (with_part 12 (to_le_bytes w32 n) p) → IsKeptSecurity b c changes o
secure_counted b c o n p changes s held e fits is now = record {
  cell = s;
  was = ap (λ (r : Result (List ℕ) HiveFaultKind). r >>= security_at) held ∙ e;
  stays = ap (λ (r : Result (List ℕ) HiveFaultKind). r >>= security_at) now ∙ security_counted p s n e fits
      ∙ ap (λ (k : ℕ). done (record s { uses = k })) is;
}

pub descriptor_kept : (b c : Cells) (changes : List Bool) (o : ℕ) → IsKeptSecurity b c changes o
    → descriptor_at c o ≡ descriptor_at b o
descriptor_kept b c changes o k =
    ap (λ (r : Result SecurityCell HiveFaultKind). r >>= λ z. Ok z.descriptor) k.stays
    ∙ sym (ap (λ (r : Result SecurityCell HiveFaultKind). r >>= λ z. Ok z.descriptor) k.was)

-- ---- counts

pub many_come : (k n : ℕ) → n < 2 ^ 32 → count_after (replicate k true) n ≡ min (n + k) 4294967295
many_come zero n lt = omega (arith, lt)
many_come (suc k) n lt =
    let m = many_come k (recounted true n) (omega arith) in
    m ∙ omega (arith, lt)

pub many_go : (k n : ℕ) → count_after (replicate k false) n ≡ n - k
many_go zero n = omega arith
many_go (suc k) n = let m = many_go k (n - 1) in m ∙ omega arith

-- ---- a step

pub keeps_security : (b c : Cells) (root : ℕ) (t : Tree) (changes : ℕ → List Bool) → IsWellFormed b root t
    → ((o : ℕ) → IsSecurityCell b root o → IsKeptSecurity b c (changes o) o) → KeepsSecurity root changes b c
keeps_security b c root t changes well each = λ o i. each o (secured_is b root t well o i)

-- a step that names none of them leaves them
pub none_counted : (b c : Cells) (root : ℕ) (t u : Tree) (step : Step) → IsWellFormed b root t
    → IsDone b c root t u step → ((p : List (List ℕ)) → Matches t step p security → ⊥)
    → KeepsSecurity root (λ o. []) b c
none_counted b c root t u step well made none = keeps_security b c root t (λ o. []) well each
  where
    by_role : (o : ℕ) (p : List (List ℕ)) (r : Role) → IsSecurity r → Matches t step p r → ⊥
    by_role o p node s m = s
    by_role o p class s m = s
    by_role o p security s m = none p m
    by_role o p value_list s m = s
    by_role o p (value n) s m = s
    by_role o p lists s m = s

    unmatched : (o : ℕ) → IsSecurityCell b root o → IsMatched b root t step o → ⊥
    unmatched o s m = by_role o m.path m.role
        (⊎_elim (λ (e : (m.path ≡ s.path) × (m.role ≡ security)). subst IsSecurity (sym e.1) tt)
        (λ (e : IsSecurity m.role × IsSecurity security). e.0)
        ((are_once b root t well).one m.path s.path m.role security o m.owns (secure_own b root o s)))
        m.matches

    each : (o : ℕ) → IsSecurityCell b root o → IsKeptSecurity b c [] o
    each o s =
        let q = (are_held b root t well).held s.path security o (secure_own b root o s) in
        secure_same b c root t well o s
        (made.framed.rest o q.0 q.1 (unmatched o s) ∙ sym q.1)

not_of_value : (name : List ℕ) → IsOfValue name security → ⊥
not_of_value name (inl e) = cc
not_of_value name (inr v) = let d = v.1 in cc

pub set_counts_none : (t : Tree) (path : List (List ℕ)) (name : List ℕ) (kind : ℕ) (bytes : List ℕ)
    (p : List (List ℕ)) → Matches t (set_value path name kind bytes) p security → ⊥
set_counts_none t path name kind bytes p (inl n) = let d = n.is in cc
set_counts_none t path name kind bytes p (inr m) = not_of_value name m.1

pub delete_counts_none : (t : Tree) (path : List (List ℕ)) (name : List ℕ) (p : List (List ℕ))
    → Matches t (delete_value path name) p security → ⊥
delete_counts_none t path name p (inl n) = let d = n.is in cc
delete_counts_none t path name p (inr m) = not_of_value name m.1
