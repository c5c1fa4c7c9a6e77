-- Keys under their folded names: a map of them puts one in as the list of their values does.
use Rattle.std.proofs.Common.{◌≡◌, ℕ, List, [], ◌∷◌, refl, sym, ap, ◌∙◌}
use Rattle.std.specs.Global.{Vec}
use Rattle.std.specs.Map.{values_of}
use Rattle.std.specs.BTreeMap.{insert_entry}
use Rattle.std.specs.Ordering.{nat_cmp, ordering_reverse, match_ordering}
use Rattle.std.specs.Cmp.Lexicographic.{slice_cmp, nat_list_cmp_total}
use Rattle.std.specs.declared.cmp.Ordering.{Ordering}
use Rattle.std.specs.declared.cmp.Ordering.TheVariants.{Less, Equal, Greater}
use Rattle.nt_bytes.specs.Folding.{folded, folded_order}
use Rattle.hive_model.specs.Tree.{Tree, head}
use Rattle.reg_tree.proofs.Unlike.{Each, each_from, each_all}
use Rattle.salvage_parents.specs.Arranged.{put_by_name, arranged_onto}
use Rattle.salvage_parents.specs.Named.{AreByName}

abbrev Entry : Type 0
Entry = Vec ℕ × Tree

abbrev name_of : Tree → List ℕ
name_of t = (head t).name

abbrev order : List ℕ → List ℕ → Ordering
order a b = slice_cmp nat_cmp a b

abbrev IsByName : Entry → Type 0
IsByName e = order e.0.items (folded (name_of e.1)) ≡ Equal

abbrev pub compared : Vec ℕ → Vec ℕ → Ordering
compared a b = slice_cmp nat_cmp a.items b.items

equal-alone : (r : Ordering) → r ≡ ordering_reverse r → r ≡ Equal
equal-alone Less e = absurd cc
equal-alone Equal e = refl
equal-alone Greater e = absurd cc

order-self : (a : List ℕ) → order a a ≡ Equal
order-self a = equal-alone (order a a) (nat_list_cmp_total.antisymm a a)

-- a name is compared with a key as with the folded name under it
compared-named : (name : List ℕ) (e : Entry) → IsByName e → order (folded name) e.0.items ≡ folded_order name (name_of e.1)
compared-named name e by =
    nat_list_cmp_total.antisymm (folded name) e.0.items
    ∙ ap ordering_reverse (nat_list_cmp_total.congr e.0.items (folded (name_of e.1)) (folded name) by)
    ∙ sym (nat_list_cmp_total.antisymm (folded name) (folded (name_of e.1)))

put-in : (k : Vec ℕ) (t : Tree) (es : List Entry) → k.items ≡ folded (name_of t) → Each IsByName es
    → (values_of (insert_entry compared es k t) ≡ put_by_name t (values_of es)) × Each IsByName (insert_entry compared es k t)
put-in k t [] key by = (refl, (rw key (order-self (folded (name_of t))), tt))
put-in k t (e ∷ es) key by =
    let here : compared k e.0 ≡ folded_order (name_of t) (name_of e.1) =
    ap (λ (n : List ℕ). slice_cmp nat_cmp n e.0.items) key ∙ compared-named (name_of t) e by.0 in
    go (compared k e.0) (folded_order (name_of t) (name_of e.1)) here refl (put-in k t es key by.1)
  where
    Both : List Entry → List Tree → Type 0
    Both fs ts = (values_of fs ≡ ts) × Each IsByName fs

    go : (r s : Ordering) → r ≡ s → compared k e.0 ≡ r → Both (insert_entry compared es k t) (put_by_name t (values_of es))
        → Both (match_ordering r ((k, t) ∷ e ∷ es) ((e.0, t) ∷ es) (e ∷ insert_entry compared es k t))
        (match_ordering s (t ∷ e.1 ∷ values_of es) (t ∷ values_of es) (e.1 ∷ put_by_name t (values_of es)))
    go Less Less same is more = (refl, (rw key (order-self (folded (name_of t))), by))
    go Equal Equal same is more =
        let back : order e.0.items k.items ≡ Equal = nat_list_cmp_total.antisymm e.0.items k.items ∙ ap ordering_reverse is in
        (refl, (rw (← key) back, by.1))
    go Greater Greater same is more = (ap (λ (ts : List Tree). e.1 ∷ ts) more.0, (by.0, more.1))
    go Less Equal same is more = absurd cc
    go Less Greater same is more = absurd cc
    go Equal Less same is more = absurd cc
    go Equal Greater same is more = absurd cc
    go Greater Less same is more = absurd cc
    go Greater Equal same is more = absurd cc

pub put-values : (k : Vec ℕ) (t : Tree) (es fs : List Entry) → k.items ≡ folded (name_of t) → AreByName es → fs ≡ insert_entry compared es k t
    → values_of fs ≡ put_by_name t (values_of es)
put-values k t es fs key by put = rw put (put-in k t es key (each_from IsByName es by)).0

pub put-named : (k : Vec ℕ) (t : Tree) (es fs : List Entry) → k.items ≡ folded (name_of t) → AreByName es → fs ≡ insert_entry compared es k t
    → AreByName fs
put-named k t es fs key by put =
    rw put (each_all IsByName (insert_entry compared es k t) (put-in k t es key (each_from IsByName es by)).1)

pub arranged-end : (keys rest : List Tree) → rest ≡ [] → arranged_onto keys rest ≡ keys
unfolding arranged_onto
arranged-end keys rest e = rw e refl

pub arranged-on : (keys next rest more : List Tree) (t : Tree) → rest ≡ t ∷ more → next ≡ put_by_name t keys
    → arranged_onto next more ≡ arranged_onto keys rest
unfolding arranged_onto
arranged-on keys next rest more t e d = rw (e, d) refl

pub ruleset arranging = (arranged-end, arranged-on)
