use Rattle.std.proofs.Common.{◌≡◌, ℕ, ◌-◌, ◌*◌, codes, [], ◌∷◌, ◌++◌, subst}
use Rattle.std.specs.Prelude.{OnOk}
use Rattle.report_text.specs.line_text.Objects.{Number, object_text}
use Rattle.sweep_text.proofs.sweep_text.calls.push_counts_object.Goals as goal

pub returns : goal.returns
returns c =
    let P : ℕ → ℕ → ℕ → Type 0 =
    λ n b a. OnOk c.push_wide_counts.result (c.push_wide_counts.new.out.items
    ≡ c.args.out.now.items ++ object_text (codes "calls")
    ((codes "count", Number n) ∷ (codes "before", Number b) ∷ (codes "after", Number a) ∷ (codes "neither", Number 0) ∷ [])) in
    subst (λ (n : ℕ). P n (4 * c.args.count - c.args.after) c.args.after) c.from.ensures
    (subst (λ (b : ℕ). P c.from.result b c.args.after) c.from-2.ensures
    (subst (λ (a : ℕ). P c.from.result c.from-2.result a) c.from-3.ensures c.push_wide_counts.ensures))
