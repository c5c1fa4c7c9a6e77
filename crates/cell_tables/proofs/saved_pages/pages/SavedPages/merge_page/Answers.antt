use Rattle.std.proofs.Common.{List, ℕ, length, ap, sym, ◌∙◌, arith}
use Rattle.cell_tables.specs.saved_pages.Overlay.{kept_at, page_or}
use Rattle.cell_tables.proofs.OverlayLemmas.{kept_with, with_length, with_others}
use Rattle.cell_tables.proofs.CoveredLemmas.{kept_beyond, or_nothing}
use Rattle.cell_tables.proofs.saved_pages.pages.SavedPages.merge_page.Goals as goal

pub returns-then-k-len-clause-here : goal.returns-then-k-len-clause-here
returns-then-k-len-clause-here c =
    sym (ap (page_or (kept_at c.args.self.now c.args.k))
    (kept_beyond c.args.later.now c.args.k (omega (arith, c.len.ensures.count, c.if-k-len.true)))
    ∙ or_nothing (kept_at c.args.self.now c.args.k))

pub returns-in-Some-kept-clause-count : goal.returns-in-Some-kept-clause-count
returns-in-Some-kept-clause-count c =
    ap length c.keep.ensures ∙ with_length c.args.self.now c.args.k c.in-Some-kept.page.now

pub returns-in-Some-kept-clause-here : goal.returns-in-Some-kept-clause-here
returns-in-Some-kept-clause-here c =
    ap (λ (ps : List (List ℕ)). kept_at ps c.args.k) c.keep.ensures
    ∙ kept_with c.args.self.now c.args.k c.in-Some-kept.page.now c.requires
    ∙ c.in-Some-kept.ensures.0
    ∙ ap (λ (p : List ℕ). page_or p (kept_at c.args.later.now c.args.k)) (sym c.in-None.ensures)

pub returns-in-Some-kept-clause-others : goal.returns-in-Some-kept-clause-others
returns-in-Some-kept-clause-others c = λ j other.
    ap (λ (ps : List (List ℕ)). kept_at ps j) c.keep.ensures
    ∙ with_others c.args.self.now c.args.k c.in-Some-kept.page.now j other
