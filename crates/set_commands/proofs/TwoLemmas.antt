-- Keys with nothing but children.
use Rattle.std.proofs.Common.{◌≡◌, ◌≤◌, ◌<◌, ℕ, ◌^◌, false, cond, List, [], ◌∷◌, ◌++◌, length, Option, Some, None, refl, sym, ap, subst, ◌∙◌, arith}
use Rattle.std.specs.Prelude.{find}
use Rattle.std.specs.List.{list_any}
use Rattle.std.specs.Option.{option_to_list}
use Rattle.std.proofs.lemmas.List.Elements.{All-nil}
use Rattle.nt_bytes.specs.Text.{is_backslash}
use Rattle.nt_bytes.specs.Folding.{folds_same}
use Rattle.hive_model.specs.Tree.{Tree, trees, head, is_named}
use Rattle.hive_model.specs.Valid.{IsItem, IsKey, HoldsKeys, AllHoldKeys}
use Rattle.reg_tree.proofs.Trees.{listed_trees}
use Rattle.reg_tree.proofs.Unlike.{Each, Unlike, each_all, unlike_pairs}
use Rattle.hive_edit.proofs.EditLemmas.{folds_length}
use Rattle.set_commands.specs.hive_sets.Parts.{bare, of_two}
use Rattle.set_commands.proofs.NameLemmas.{name_of, apart_by_length, apart, IsChild}

-- a name that a key may have
pub record IsKeyName (name : List ℕ) : Type 0 where
  pub short : length name ≤ 255
  pub no_backslash : list_any is_backslash name ≡ false

-- a key that may be a child
abbrev pub IsHeld : Tree → Type 0
IsHeld t = HoldsKeys t × (0 < length (name_of t))

all_hold : (keys : List Tree) → Each IsHeld keys → AllHoldKeys (trees keys)
all_hold [] h = tt
all_hold (t ∷ ts) h = (h.0.0, all_hold ts h.1)

named : (keys : List Tree) → Each IsHeld keys → Each (λ t. 0 < length (head t).name) keys
named [] h = tt
named (t ∷ ts) h = (h.0.1, named ts h.1)

pub bare_holds : (name : List ℕ) (keys : List Tree) → IsKeyName name → length keys < 2 ^ 32 → Each IsHeld keys
    → Unlike name_of keys → HoldsKeys (bare name keys)
bare_holds name keys good few held differ = (
  subst (IsKey (head (bare name keys))) (sym (listed_trees keys)) (record {
    name = good.short;
    no_backslash = good.no_backslash;
    flags = refl;
    class = omega arith;
    security = omega arith;
    item_count = omega arith;
    items = All-nil IsItem;
    items_differ = λ i j d lt within. absurd (omega arith);
    key_count = few;
    keys_named = each_all (λ t. 0 < length (head t).name) keys (named keys held);
    keys_differ = unlike_pairs name_of keys differ;
  }),
  all_hold keys held,
)

-- one or two keys, with these names, of which the lengths differ
pub record AreTwo (a b : List ℕ) (first second : Option Tree) : Type 0 where
  pub one : IsChild a first
  pub other : IsChild b second
  pub differ : length a ≡ length b → ⊥
  pub some : 0 < length a
  pub more : 0 < length b

pub found_first : (a b : List ℕ) (first second : Option Tree) → AreTwo a b first second
    → find (is_named a) (option_to_list first ++ option_to_list second) ≡ first
found_first a b None None two = refl
found_first a b None (Some s) two =
    ap (λ b. cond b (Some s) None) (apart b a (name_of s) (λ e. two.differ (sym e)) two.other.1)
found_first a b (Some f) second two =
    ap (λ b. cond b (Some f) (find (is_named a) (option_to_list second))) two.one.1

pub found_second : (a b : List ℕ) (first second : Option Tree) → AreTwo a b first second
    → find (is_named b) (option_to_list first ++ option_to_list second) ≡ second
found_second a b None None two = refl
found_second a b None (Some s) two = ap (λ b. cond b (Some s) None) two.other.1
found_second a b (Some f) None two = ap (λ b. cond b (Some f) None) (apart a b (name_of f) two.differ two.one.1)
found_second a b (Some f) (Some s) two =
    ap (λ c. cond c (Some f) (find (is_named b) (s ∷ []))) (apart a b (name_of f) two.differ two.one.1)
    ∙ ap (λ b. cond b (Some s) None) two.other.1

held_child : (name : List ℕ) (t : Tree) → IsChild name (Some t) → 0 < length name → IsHeld t
held_child name t is some = (is.0, omega (arith, some, folds_length name (name_of t) is.1))

pub two_hold : (name a b : List ℕ) (first second : Option Tree) → IsKeyName name → AreTwo a b first second
    → HoldsKeys (of_two name first second)
two_hold name a b None None good two = bare_holds name [] good (omega arith) tt tt
two_hold name a b None (Some s) good two =
    bare_holds name (s ∷ []) good (omega arith) (held_child b s two.other two.more, tt) (tt, tt)
two_hold name a b (Some f) None good two =
    bare_holds name (f ∷ []) good (omega arith) (held_child a f two.one two.some, tt) (tt, tt)
two_hold name a b (Some f) (Some s) good two =
    bare_holds name (f ∷ s ∷ []) good (omega arith)
    (held_child a f two.one two.some, (held_child b s two.other two.more, tt)) ((unlike, tt), (tt, tt))
  where
    unlike : folds_same (name_of s) (name_of f) ≡ false
    unlike =
        apart_by_length (name_of s) (name_of f)
        (λ e. two.differ (folds_length a (name_of f) two.one.1 ∙ sym e ∙ sym (folds_length b (name_of s) two.other.1)))
