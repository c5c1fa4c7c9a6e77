use Rattle.std.proofs.Common.{[], ◌∷◌, ap, ◌∙◌}
use Rattle.std.specs.Prelude.{codes}
use Rattle.std.specs.Option.{option_copied, option_map_or}
use Rattle.hive_model.specs.Tree.{children, find_key}
use Rattle.start_model.specs.Entries.{Entry}
use Rattle.safe_boot.specs.Listed.{list_name}
use Rattle.safe_boot.proofs.NameLemmas.{listed_as}
use Rattle.safe_boot.proofs.listing.listed.Goals as goal

pub returns : goal.returns
returns c =
    let e = c.args.entry.now in
    listed_as c.is_among.result c.listed_keys-keys.result.now
    (option_map_or children (find_key (codes "Control" ∷ codes "SafeBoot" ∷ list_name c.args.mode ∷ [])
    c.args.set.now) [])
    c.as_slice.result.now e.name (option_copied c.as_ref.result) e.group c.is_among.ensures c.listed_keys-keys.ensures
    (c.as_slice.ensures ∙ ap (λ (e : Entry). e.name) c.entry.view_is)
    (c.as_ref.ensures.value ∙ ap (λ (e : Entry). e.group) c.entry.view_is)
