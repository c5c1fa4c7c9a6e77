use Rattle.std.proofs.Common.{◌≡◌, ◌<◌, ◌≤◌, ℕ, length}
use Rattle.cell_tables.specs.saved_pages.Overlay.{kept_at, page_or}
use Rattle.cell_tables.proofs.saved_pages.pages.SavedPages.merge.Given as goal

-- the pages up to this one are merged
abbrev pub invariant-loop-k : goal.invariant-loop-k
invariant-loop-k l = record {
  count : length l.self ≡ length l.fn.self;
  done : (j : ℕ) → j < l.k → kept_at l.self j ≡ page_or (kept_at l.fn.self j) (kept_at l.later j);
  left : (j : ℕ) → l.k ≤ j → kept_at l.self j ≡ kept_at l.fn.self j;
}
