-- Who leans on a name? (this project's own; needs are Microsoft's documentation of service entries, DependOnService and DependOnGroup)
--
-- An entry needs a name that its DependOnService has, and each member of a group that its DependOnGroup has. All entries of the set
-- count, taken or not. Layer by layer: those that need the name come first, then those that need one of them, and so on.
use Rattle.std.specs.Prelude.{ℕ, zero, suc, ◌+◌, ◌==◌, Bool, not, ◌||◌, List, [], ◌∷◌, ◌++◌, map, filter, length, Option, Some, None, if◌then◌else◌}
use Rattle.std.specs.List.{list_any, filter_map}
use Rattle.nt_bytes.specs.Folding.{folds_same}
use Rattle.start_model.specs.Entries.{Entry}
use Rattle.failure_effects.specs.declared.lines.EffectLine.{EffectLine}
use Rattle.failure_effects.specs.declared.lines.EffectLine.TheVariants.{Leans}
use Rattle.failure_effects.specs.declared.lines.NeedWord.{NeedWord}
use Rattle.failure_effects.specs.declared.lines.NeedWord.TheVariants.{Service, Group}
use Rattle.failure_effects.specs.declared.leaning.Layer.{Layer}
use Rattle.failure_effects.specs.declared.leaning.Walk.{Walk}
use Rattle.failure_effects.specs.declared.told.Told.{Told}
use Rattle.failure_effects.specs.Givers.{rest_of}
use Rattle.failure_effects.specs.Lost.{has_name}
use Rattle.failure_effects.specs.States.{state_in}

-- the names of these entries, and the groups that they are members of
abbrev pub layer_of : List Entry → Layer
layer_of entries = record { names = map (λ e. e.name) entries; groups = filter_map (λ e. e.group) entries }

-- the layer from which the walk begins: the name itself, and the groups of its entry, if there is one
abbrev pub first_layer : List ℕ → List Entry → Layer
first_layer name entries = record { names = name ∷ []; groups = filter_map (λ e. e.group) (filter (λ e. folds_same name e.name) entries) }

-- DependOnService names one of the layer
abbrev pub names_one : Layer → Entry → Bool
names_one layer e = list_any (has_name layer.names) e.services

-- DependOnGroup names a group that one of the layer is a member of
abbrev pub groups_one : Layer → Entry → Bool
groups_one layer e = list_any (has_name layer.groups) e.groups

-- the entry needs one of the layer
abbrev pub needs_one : Layer → Entry → Bool
needs_one layer e = names_one layer e || groups_one layer e

abbrev pub need_word : Layer → Entry → NeedWord
need_word layer e = if names_one layer e then Service else Group

-- the line of an entry that needs one of the layer, which is one need nearer to the name
abbrev pub leans_line : List Told → ℕ → Layer → Entry → EffectLine
leans_line plain steps layer e = Leans steps (need_word layer e) (state_in plain e.name) e.name

-- the lines of those among the rest that reach the layer, the nearest first and each layer in the order of the registry; at most that many layers
abbrev pub leans_from : ℕ → ℕ → List Told → Layer → List Entry → List EffectLine
leans_from zero steps plain layer rest = []
leans_from (suc n) steps plain layer rest =
    let near : List Entry = filter (needs_one layer) rest in
    if length near == 0 then []
    else map (leans_line plain steps layer) near ++ leans_from n (steps + 1) plain (layer_of near) (filter (λ e. not (needs_one layer e)) rest)

-- the same from where a walk has got, if it goes on
abbrev pub leans_on : ℕ → ℕ → List Told → List Entry → Option Walk → List EffectLine
leans_on n steps plain entries None = []
leans_on n steps plain entries (Some walk) = leans_from n steps plain walk.layer (rest_of entries walk.left.rest.items)

-- the lines of all entries of a set that lean on a name; there are no more layers than entries
abbrev pub leans_lines : List Told → List ℕ → List Entry → List EffectLine
leans_lines plain name entries =
    leans_from (length entries) 1 plain (first_layer name entries) (filter (λ e. not (folds_same name e.name)) entries)
