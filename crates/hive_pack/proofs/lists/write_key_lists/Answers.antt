use Rattle.std.proofs.Common.{◌++◌, List, ℕ, length, sym, ap, subst, ◌∙◌}
use Rattle.std.proofs.lemmas.List.{length-map}
use Rattle.hive_model.specs.Lists.{AreHints}
use Rattle.hive_model.specs.Packed.{hint, list_cells, text}
use Rattle.hive_pack.proofs.Rows.{hints_of}
use Rattle.reg_tree.proofs.Outcomes.{on_ok}
use Rattle.hive_pack.proofs.lists.write_key_lists.Goals as goal

pub write_lists-requires-clause-same : goal.write_lists-requires-clause-same
write_lists-requires-clause-same c =
    c.requires.same ∙ sym (length-map c.args.keys.now (hint c.args.version))
    ∙ ap (λ (x : List (List ℕ)). length x) (sym (c.deref.ensures.value ∙ c.in_ok-hints.ensures))

pub write_lists-requires-clause-four : goal.write_lists-requires-clause-four
write_lists-requires-clause-four c =
    subst AreHints (sym (c.deref.ensures.value ∙ c.in_ok-hints.ensures)) (hints_of c.args.version c.args.keys.now)

pub returns : goal.returns
returns c =
    on_ok c.write_lists.result _ _
    (λ e. e ∙ ap (λ (hs : List (List ℕ)). c.args.out.now
    ++ text (list_cells c.args.version c.args.at c.args.places.now hs)) (c.deref.ensures.value ∙ c.in_ok-hints.ensures))
    c.write_lists.ensures
