-- A value that is there is set where it stands: its size, place and type are written over, and its data are in it or
-- in one cell.
use Rattle.std.proofs.Common.{◌≡◌, ℕ, ◌<◌, ◌^◌, true, false, List, [], ◌∷◌, ◌++◌, sym, ◌∙◌, ap, subst, inl, ⊎_elim, Some, Result, Ok}
use Rattle.std.specs.Prelude.{find}
use Rattle.nt_bytes.specs.Folding.{folds_same}
use Rattle.nt_bytes.specs.declared.fault.HiveFaultKind.{HiveFaultKind}
use Rattle.nt_bytes.specs.Reading.{◌>>=◌}
use Rattle.hive_model.specs.Bins.{Cells}
use Rattle.hive_model.specs.Tree.{Tree, key}
use Rattle.hive_model.specs.Edit.{set_value, after_step}
use Rattle.hive_model.specs.KeyNode.{KeyNode, key_node_at}
use Rattle.hive_model.specs.KeyValue.{KeyValue, key_value_at, data_inside, is_overfull}
use Rattle.hive_model.specs.Walk.{reading, value_checks, data_checks}
use Rattle.hive_model.specs.Footprint.{key_place, used_in, is_value_named}
use Rattle.hive_model.specs.Stands.{data_of, Stands, IsWellFormed}
use Rattle.edited_cells.specs.Owned.{In, value_name, value_places, Reaches}
use Rattle.edited_cells.specs.Sound.{IsValueThere}
use Rattle.edited_cells.specs.Pairs.{Pairwise}
use Rattle.edited_cells.specs.Written.{with_part, three_numbers}
use Rattle.edited_cells.specs.Changes.{GetsData}
use Rattle.edited_cells.specs.Done.{item, IsDone}
use Rattle.edited_cells.proofs.Ins.{found_in}
use Rattle.edited_cells.proofs.Pairs.{IsAmong, among}
use Rattle.edited_cells.proofs.Out.{IsPlaced, placed_at, named_so}
use Rattle.edited_cells.proofs.Wellformed.{sound_hive}
use Rattle.edited_cells.proofs.Same.{first_used}
use Rattle.edited_cells.proofs.Found.{IsThere, found_there}
use Rattle.edited_cells.proofs.Patches.{value_written}
use Rattle.edited_cells.proofs.FromCells.{item_is, value_uses, data_held_inside, name_of_value, gets_data, single}
use Rattle.edited_cells.proofs.ValueSteps.{a_value_set}

-- the value's node with other numbers
abbrev pub with_numbers : KeyValue → ℕ → ℕ → ℕ → KeyValue
with_numbers value size offset kind = record value { size = size; offset = offset; kind = kind }

-- where the value of a name is, in its key's list, and what is read there
pub record IsFound (b : Cells) (root : ℕ) (t : Tree) (path : List (List ℕ)) (name : List ℕ) (x v : ℕ)
    (p : List ℕ) : Type 0 where
  pub stored : List (List ℕ)
  pub reached : Reaches b root stored x
  pub node : KeyNode
  pub read : reading key_node_at b x ≡ Ok node
  pub front : List ℕ
  pub back : List ℕ
  pub places : value_places b x ≡ front ++ v ∷ back
  pub named : folds_same name (value_name b v) ≡ true
  pub value : KeyValue
  pub there : reading key_value_at b v ≡ Ok value
  pub form : key_value_at p ≡ Ok value

pub is_found : (b : Cells) (root : ℕ) (t : Tree) (path : List (List ℕ)) (name : List ℕ) (x v : ℕ) (p : List ℕ)
    → IsWellFormed b root t → key_place b path root ≡ Some x
    → find (is_value_named b name) (value_places b x) ≡ Some v → b.payload v ≡ Ok p → IsFound b root t path name x v p
is_found b root t path name x v p well at found held = record {
  stored = w.stored;
  reached = w.reached;
  node = (node_of k.tree k.stands).0;
  read = (node_of k.tree k.stands).1;
  front = a.before;
  back = a.behind;
  places = a.whole;
  named = named_so name (λ (n : KeyValue). n.name) (reading key_value_at b v) one.1;
  value = there.value;
  there = there.read;
  form = sym (ap (λ (r : Result (List ℕ) HiveFaultKind). r >>= key_value_at) held) ∙ there.read;
}
  where
    w : IsPlaced b root path x
    w = placed_at b path root x at

    k : IsThere b path x t
    k = found_there b path w.stored root x t well.stands well.names w.folds w.reached

    one : In (value_places b x) v × (is_value_named b name v ≡ true)
    one = found_in (is_value_named b name) (value_places b x) v found

    a : IsAmong (value_places b x) v
    a = among (value_places b x) v one.0

    there : IsValueThere b v
    there = ((sound_hive b root t well).all.each w.stored x w.reached).value v one.0

    node_of : (k : Tree) → Stands b x k → (n : KeyNode) × (reading key_node_at b x ≡ Ok n)
    node_of (key hd ts) s = (s.1.node, s.1.read)

-- A value is set whose data it then holds itself: of all cells that are allocated its own alone changes, in twelve
-- bytes.
pub set_inside : (b c : Cells) (root : ℕ) (t u : Tree) (path : List (List ℕ)) (name : List ℕ) (kind : ℕ)
    (bytes : List ℕ) (x v size offset : ℕ) (p : List ℕ) → IsWellFormed b root t
    → after_step (set_value path name kind bytes) t ≡ Ok u → key_place b path root ≡ Some x
    → find (is_value_named b name) (value_places b x) ≡ Some v → b.payload v ≡ Ok p → c.version ≡ b.version
    → c.payload v ≡ Ok (with_part 4 (three_numbers size offset kind) p)
    → ((o : ℕ) (q : List ℕ) → b.payload o ≡ Ok q → (o ≡ v → ⊥) → c.payload o ≡ Ok q) → size < 2 ^ 32 → offset < 2 ^ 32
    → kind < 2 ^ 32 → is_overfull size ≡ false
    → ((value : KeyValue) → data_inside (with_numbers value size offset kind) ≡ Some bytes)
    → IsDone b c root t u (set_value path name kind bytes)
set_inside b c root t u path name kind bytes x v size offset p well ok at found held version new others ls lo lk fits
    inside =
    a_value_set b c root t u path name kind bytes x v f.front (v ∷ []) f.back well ok at f.named
    (gets_data b c root t f.stored x f.node well f.reached f.read f.front f.back v f.places kind bytes g)
  where
    f : IsFound b root t path name x v p
    f = is_found b root t path name x v p well at found held

    read_new : reading key_value_at c v ≡ Ok (with_numbers f.value size offset kind)
    read_new =
        ap (λ (r : Result (List ℕ) HiveFaultKind). r >>= key_value_at) new
        ∙ value_written p f.value size offset kind f.form ls lo lk fits

    data_there : (used_in (data_checks c (with_numbers f.value size offset kind)) ≡ [])
        × (data_of c (with_numbers f.value size offset kind) ≡ Ok bytes)
    data_there = data_held_inside c (with_numbers f.value size offset kind) bytes (inside f.value)

    uses_new : used_in (value_checks c [] v) ≡ v ∷ []
    uses_new =
        value_uses c v (with_numbers f.value size offset kind) read_new ∙ ap (λ (l : List ℕ). v ∷ l) data_there.0

    g : GetsData b c v kind bytes
    g = record {
      version = version;
      reads = item_is c v (with_numbers f.value size offset kind) bytes read_new data_there.1
          ∙ (λ i. Ok (item (sym (name_of_value b v f.value f.there) i) kind bytes));
      others = λ o q h out. others o q h
          (λ e. out (subst (In (used_in (value_checks b [] v))) (sym e) (first_used b v)));
      used = λ o i. inl (⊎_elim (λ (e : v ≡ o). subst (In (used_in (value_checks b [] v))) e (first_used b v))
          (λ (z : ⊥). absurd z) (subst (λ (l : List ℕ). In l o) uses_new i));
      once = subst (Pairwise (λ y z. y ≡ z → ⊥)) (sym uses_new) (single v);
    }
