-- The path that stands for one that begins with `CurrentControlSet`.
use Rattle.std.proofs.Common.{◌≡◌, ℕ, true, List, ◌∷◌, refl, ap, ◌∙◌}
use Rattle.hive_model.specs.Tree.{Tree}
use Rattle.key_text.specs.Found.{means_current, default_path, true_path}

by_first : (root : Tree) (name : List ℕ) (rest : List (List ℕ)) → means_current root name ≡ true
    → true_path root (name ∷ rest) ≡ default_path root rest
unfolding true_path
by_first root name rest e = rw e refl

pub current_path : (root : Tree) (name : List ℕ) (rest path : List (List ℕ)) → path ≡ name ∷ rest
    → means_current root name ≡ true → true_path root path ≡ default_path root rest
current_path root name rest path is e = ap (true_path root) is ∙ by_first root name rest e
