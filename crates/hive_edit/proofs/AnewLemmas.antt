-- A hive repacked.
use Rattle.std.proofs.Common.{◌≡◌, ℕ, List, Result, Ok, Err, refl, sym, ap, subst, ◌∙◌}
use Rattle.std.specs.Prelude.{IfOk, IfErr, MatchResult}
use Rattle.nt_bytes.specs.declared.version.HiveVersion.{HiveVersion}
use Rattle.hive_model.specs.Bins.{Bin, look_up, IsBins}
use Rattle.hive_model.specs.Packed.{packed_bins}
use Rattle.hive_model.specs.Size.{bulk_of}
use Rattle.hive_model.specs.Tree.{Tree}
use Rattle.hive_model.specs.Edit.{Step, Refusal, edited}
use Rattle.hive_model.specs.Valid.{IsValid}
use Rattle.hive_model.specs.Stands.{IsWellFormed}
use Rattle.hive_cells.specs.Opened.{Opened}
use Rattle.hive_cells.proofs.Again.{one_list}
use Rattle.reg_tree.specs.declared.stop.EditStop.{EditStop}
use Rattle.reg_tree.specs.declared.stop.EditStop.TheVariants.{Memory}
use Rattle.reg_tree.specs.Makes.{IsRefused}
use Rattle.edited_cells.specs.Parents.{NamesParents}
use Rattle.hive_edit.specs.Hive.{hive_of, IsHive}
use Rattle.hive_edit.specs.Edits.{IsPackedAnew}
use Rattle.hive_edit.specs.Standing.{tree_of}
use Rattle.hive_edit.proofs.StandingLemmas.{tree_is}
use Rattle.hive_edit.proofs.HiveLemmas.{hive_opened}

-- the cells of a packed tree, read back and opened
pub record PackedHere (version : HiveVersion) (heap : Opened) (t : Tree) : Type 0 where
  pub stands : IsWellFormed (look_up version heap.bins) 32 t
  pub tree : tree_of (look_up version heap.bins) 32 ≡ t
  pub anew : IsPackedAnew (hive_of heap 32 version)

pub packed_here : (version : HiveVersion) (text : List ℕ) (bins : List Bin) (heap : Opened) (t : Tree)
    → IsBins text (packed_bins version t) → IsBins text bins
    → IsWellFormed (look_up version (packed_bins version t)) 32 t → heap.bins ≡ bins
    → NamesParents (look_up version (packed_bins version t)) 32 → PackedHere version heap t
packed_here version text bins heap t is was well e names =
    let same : heap.bins ≡ packed_bins version t =
    e ∙ sym (one_list (packed_bins version t) bins is.0 was.0 (sym is.1 ∙ was.1)) in
    let stands = subst (λ (bs : List Bin). IsWellFormed (look_up version bs) 32 t) (sym same) well in
    let tree = tree_is (look_up version heap.bins) 32 t stands in
    record {
      stands = stands;
      tree = tree;
      anew = record {
        bins = same ∙ ap (packed_bins version) (sym tree);
        root = refl;
        parents = subst (λ (bs : List Bin). NamesParents (look_up version bs) 32) (sym same) names;
      };
    }

pub packed_hive : (version : HiveVersion) (heap : Opened) (bulk : ℕ) (t : Tree) → PackedHere version heap t
    → IsValid t → bulk ≡ bulk_of version t → IsHive heap.bins 32 version bulk
packed_hive version heap bulk t h v b = hive_opened heap.bins heap.bins 32 version bulk t refl h.stands v b

-- what holds of each outcome by itself, said of both
pub both : {A E : Type 0} (r : Result A E) (P Q : A → Type 0) (M N : E → Type 0) → ((x : A) → P x → Q x)
    → ((e : E) → M e → N e) → IfOk r P → IfErr r M → MatchResult r Q N
both (Ok x) P Q M N f g p m = f x p
both (Err e) P Q M N f g p m = g e m

abbrev pub a_tree : Tree → Result Tree Refusal
a_tree t = Ok t

-- an edit of the tree that was read is one of the hive's
pub edit_of : (version seen : HiveVersion) (t u w : Tree) (steps : List Step) → version ≡ seen → t ≡ u
    → edited version t steps ≡ a_tree w → edited seen u steps ≡ a_tree w
edit_of version seen t u w steps v e h = (λ i. edited (sym v i) (sym e i) steps) ∙ h

pub refusal_of_edit : (version seen : HiveVersion) (t u : Tree) (steps : List Step) (stop : EditStop) → version ≡ seen
    → t ≡ u → IsRefused (edited version t steps) stop → IsRefused (edited seen u steps) stop
refusal_of_edit version seen t u steps stop v e h =
    subst (λ (r : Result Tree Refusal). IsRefused r stop) (λ i. edited (v i) (e i) steps) h

-- lack of memory reports no edit
pub memory_is_free : (edit : Result Tree Refusal) (stop : EditStop) → stop ≡ Memory → IsRefused edit stop
memory_is_free edit stop e = subst (IsRefused edit) (sym e) tt
