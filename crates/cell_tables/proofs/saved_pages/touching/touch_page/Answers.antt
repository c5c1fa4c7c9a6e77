use Rattle.std.proofs.Common.{◌≡◌, List, ℕ, [], length, ap, subst, ◌∙◌, arith}
use Rattle.cell_tables.specs.saved_pages.Overlay.{before, with_kept, kept_at}
use Rattle.cell_tables.proofs.OverlayLemmas.{before_with, with_length, kept_page_there, with_stays, with_others, some_kept}
use Rattle.cell_tables.proofs.CoveredLemmas.{covered_kept}
use Rattle.cell_tables.proofs.saved_pages.touching.touch_page.Goals as goal

pub returns-in-None-clause-before : goal.returns-in-None-clause-before
returns-in-None-clause-before c =
    ap (λ (ps : List (List ℕ)). before ps c.args.bytes.now) c.keep.ensures
    ∙ ap (λ (q : List ℕ). before (with_kept c.args.pages.now c.args.k q) c.args.bytes.now) c.page_of.ensures.value
    ∙ before_with c.args.pages.now c.args.bytes.now c.args.k (omega (arith, c.len.ensures.count, c.if-k-len.false))
    c.in-None.ensures

pub returns-in-None-clause-count : goal.returns-in-None-clause-count
returns-in-None-clause-count c =
    ap length c.keep.ensures ∙ with_length c.args.pages.now c.args.k c.page_of.result.now

pub page_of-requires : goal.page_of-requires
page_of-requires c =
    c.requires c.args.k (omega (arith, c.len.ensures.count, c.if-k-len.false)) c.in-None.ensures

pub returns-in-None-clause-covered : goal.returns-in-None-clause-covered
returns-in-None-clause-covered c =
    covered_kept c.args.pages.now c.keep.new.self (length c.args.bytes.now) c.requires
    (ap length c.keep.ensures ∙ with_length c.args.pages.now c.args.k c.page_of.result.now)
    (λ j none. with_stays c.args.pages.now c.args.k c.page_of.result.now c.in-None.ensures j
    (subst (λ (ps : List (List ℕ)). kept_at ps j ≡ []) c.keep.ensures none))

pub returns-in-None-clause-kept : goal.returns-in-None-clause-kept
returns-in-None-clause-kept c = λ lt none.
    kept_page_there c.args.pages.now c.args.k c.page_of.result.now lt c.page_of.ensures.long
    (subst (λ (ps : List (List ℕ)). kept_at ps c.args.k ≡ []) c.keep.ensures none)

pub returns-in-None-clause-stays : goal.returns-in-None-clause-stays
returns-in-None-clause-stays c = λ j none.
    with_stays c.args.pages.now c.args.k c.page_of.result.now
    c.in-None.ensures j
    (subst (λ (ps : List (List ℕ)). kept_at ps j ≡ []) c.keep.ensures none)

pub returns-in-None-clause-others : goal.returns-in-None-clause-others
returns-in-None-clause-others c = λ j other.
    ap (λ (ps : List (List ℕ)). kept_at ps j) c.keep.ensures
    ∙ with_others c.args.pages.now c.args.k c.page_of.result.now j other

pub returns-in-Some-clause-kept : goal.returns-in-Some-clause-kept
returns-in-Some-clause-kept c = λ lt none. some_kept _ _ c.in-Some.ensures.0 c.in-Some.ensures.1 none
