-- A child goes, or one comes: the cells are well-formed with the tree after the step.
use Rattle.std.proofs.Common.{◌≡◌, ℕ, ◌+◌, List, length, sym, ◌∙◌, ap, Some, arith}
use Rattle.nt_bytes.specs.declared.version.HiveVersion.{HiveVersion}
use Rattle.hive_model.specs.Tree.{Tree, Trees, key, trees, listed, Head, find_key}
use Rattle.hive_model.specs.Edit.{of_children, at_key}
use Rattle.hive_model.specs.Size.{list_size, count, head_size, size, size_of_all}
use Rattle.edited_cells.specs.Sizes.{sizes_of}
use Rattle.edited_cells.proofs.Replaced.{listed_trees}
use Rattle.edited_cells.proofs.Sizes.{sizes_trees, sizes_listed, changed_size}

-- ---- sizes

-- A tree grows by the size of the lists and the children that a key of it gets, less that of those that it had.
pub relisted_size : (version : HiveVersion) (shared : List ℕ) (path : List (List ℕ)) (t : Tree) (hd : Head)
    (ts : Trees) (f : List Tree → List Tree) → find_key path t ≡ Some (key hd ts)
    → size version shared (at_key path (of_children f) t)
    + (list_size (count ts) + sizes_of version hd.security (listed ts))
    ≡ size version shared t + (list_size (length (f (listed ts))) + sizes_of version hd.security (f (listed ts)))
relisted_size version shared path t hd ts f e =
    changed_size version shared path t (key hd ts) (of_children f)
    (list_size (count ts) + sizes_of version hd.security (listed ts))
    (list_size (length (f (listed ts))) + sizes_of version hd.security (f (listed ts))) e here
  where
    sum : (h l m a b : ℕ) → h + m + b + (l + a) ≡ h + l + a + (m + b)
    sum h l m a b = omega arith

    here : (s : List ℕ)
        → size version s (of_children f (key hd ts)) + (list_size (count ts) + sizes_of version hd.security (listed ts))
        ≡ size version s (key hd ts)
        + (list_size (length (f (listed ts))) + sizes_of version hd.security (f (listed ts)))
    here s =
        ap (λ (n : ℕ). head_size version s hd + list_size n + size_of_all version hd.security (trees (f (listed ts)))
        + (list_size (count ts) + sizes_of version hd.security (listed ts)))
        (ap (λ (l : List Tree). length l) (listed_trees (f (listed ts))))
        ∙ ap (λ (n : ℕ). head_size version s hd + list_size (length (f (listed ts))) + n
        + (list_size (count ts) + sizes_of version hd.security (listed ts)))
        (sizes_trees version hd.security (f (listed ts)))
        ∙ sum (head_size version s hd) (list_size (count ts)) (list_size (length (f (listed ts))))
        (sizes_of version hd.security (listed ts)) (sizes_of version hd.security (f (listed ts)))
        ∙ ap (λ (n : ℕ). head_size version s hd + list_size (count ts) + n
        + (list_size (length (f (listed ts))) + sizes_of version hd.security (f (listed ts))))
        (sym (sizes_listed version hd.security ts))
