-- The bytes of cells in which a tree stands have a size that a commit takes.
use Rattle.std.proofs.Common.{◌≡◌, ℕ, ◌%◌, ◌≤◌, true, List, [], ◌∷◌, length, Ok, refl, ap, ◌∙◌, arith}
use Rattle.std.specs.List.{AllByRecursion}
use Rattle.std.proofs.lemmas.Bool.{eq-eqb, le-leb}
use Rattle.nt_bytes.specs.declared.version.HiveVersion.{HiveVersion}
use Rattle.hive_model.specs.Base.{is_bins_size}
use Rattle.hive_model.specs.Bins.{Bin, bins_size, spelled, IsBin, IsHeap, look_up}
use Rattle.hive_model.specs.KeyNode.{KeyNode, key_node_at}
use Rattle.hive_model.specs.Tree.{Tree, key}
use Rattle.hive_model.specs.Stands.{Stands, IsWellFormed}
use Rattle.hive_model.specs.Walk.{reading}
use Rattle.hive_cells.proofs.Tools.{length_spelled}
use Rattle.hive_store.specs.Session.{HasTree}

-- bins are of whole 4096 bytes
whole_bins : (bins : List Bin) → AllByRecursion IsBin bins → bins_size bins % 4096 ≡ 0
whole_bins [] all = refl
whole_bins (b ∷ bs) all = omega (arith, all.0.whole, whole_bins bs all.1)

-- and where a tree is in them, there is one
some_bins : (version : HiveVersion) (bins : List Bin) (root : ℕ) (t : Tree) → AllByRecursion IsBin bins
    → Stands (look_up version bins) root t → 4096 ≤ bins_size bins
some_bins version [] root (key h ts) all stands = absurd (none stands.1.node stands.1.read)
  where
    none : (node : KeyNode) → reading key_node_at (look_up version []) root ≡ Ok node → ⊥
    none node e = absurd cc
some_bins version (b ∷ bs) root t all stands = omega (arith, all.0.whole)

is_size : (n : ℕ) → n % 4096 ≡ 0 → 4096 ≤ n → n ≤ 16777216 → is_bins_size n ≡ true
is_size n whole least most = rw (eq-eqb (n % 4096) 0 whole, le-leb 4096 n least, le-leb n 16777216 most) refl

-- the tree has its bytes
pub has_bytes : (version : HiveVersion) (bins : List Bin) (root : ℕ) (t : Tree) → IsHeap bins
    → IsWellFormed (look_up version bins) root t → HasTree version (spelled 0 bins) root t
has_bytes version bins root t heap stands =
    let size = length_spelled 0 bins heap.each in
    record {
      sized = ap is_bins_size size
          ∙ is_size (bins_size bins) (whole_bins bins heap.each) (some_bins version bins root t heap.each stands.stands)
          heap.small;
      heap = bins;
      cells = (heap, refl);
      stands = stands;
    }

-- the bytes of cells have a size that a commit takes
pub sized_bytes : (version : HiveVersion) (bins : List Bin) (root : ℕ) (t : Tree) (text : List ℕ) → IsHeap bins
    → IsWellFormed (look_up version bins) root t
    → text ≡ spelled 0 bins → is_bins_size (length text) ≡ true
sized_bytes version bins root t text heap stands e =
    ap (λ (l : List ℕ). is_bins_size (length l)) e ∙ (has_bytes version bins root t heap stands).sized
