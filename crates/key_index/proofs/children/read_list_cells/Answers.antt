use Rattle.std.proofs.Common.{◌++◌, ◌∷◌, [], ℕ, List, sym, ap, ◌∙◌, arith}
use Rattle.key_index.specs.Lists.{offsets_of}
use Rattle.hive_cells.specs.Sources.{cells_of}
use Rattle.key_index.proofs.Below.{child_lists, used_lists}
use Rattle.key_index.proofs.children.read_list_cells.Goals as goal

pub is_list_of_lists-requires : goal.is_list_of_lists-requires
is_list_of_lists-requires c =
    rw c.payload-bytes.ensures
    (child_lists (cells_of c.args.cells.now) c.args.list c.args.count c.requires (omega arith)).read

pub read_list-requires : goal.read_list-requires
read_list-requires c = rw c.payload-bytes.ensures
    (child_lists (cells_of c.args.cells.now) c.args.list c.args.count c.requires (omega arith)).read

pub returns-then-not-is_list_of_lists : goal.returns-then-not-is_list_of_lists
returns-then-not-is_list_of_lists c =
    let cells = cells_of c.args.cells.now in
    let is = sym c.is_list_of_lists.ensures ∙ c.if-not-is_list_of_lists.true in
    let used = (used_lists cells c.args.list c.args.count c.requires (omega arith)).single
    (rw c.payload-bytes.ensures at is) in
    c.in_ok-push.ensures.items ∙ ap (λ (xs : List ℕ). xs ++ (c.args.list ∷ [])) c.new-all.ensures.items ∙ sym used

pub returns : goal.returns
returns c =
    let cells = cells_of c.args.cells.now in
    let is = sym c.is_list_of_lists.ensures ∙ c.if-not-is_list_of_lists.false in
    let used = (used_lists cells c.args.list c.args.count c.requires (omega arith)).many
    (rw c.payload-bytes.ensures at is) in
    let lists = c.deref.ensures.value ∙ c.in_ok-lists.ensures ∙ ap offsets_of c.payload-bytes.ensures in
    c.in_ok-extend_from_slice.ensures.items
    ∙ (λ j. (c.in_ok-push.ensures.items ∙ ap (λ (xs : List ℕ). xs ++ (c.args.list ∷ [])) c.new-all.ensures.items) j
    ++ lists j)
    ∙ sym used
