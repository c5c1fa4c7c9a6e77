use Rattle.std.proofs.Common.{◌≡◌, ◌⊎◌, ◌≤◌, ◌<◌, ◌+◌, ◌*◌, ◌/◌, ℕ, [], length}
use Rattle.cell_tables.specs.saved_pages.Overlay.{before, kept_at, IsCovered}
use Rattle.cell_tables.proofs.saved_pages.touching.touch.Given as goal

-- the pages up to this one are kept
abbrev pub invariant-loop-k : goal.invariant-loop-k
invariant-loop-k l = record {
  before : before l.pages l.bytes ≡ before l.fn.pages l.bytes;
  count : length l.pages ≡ length l.fn.pages;
  covered : IsCovered l.pages (length l.bytes);
  kept : (j : ℕ) → l.from / 4096 ≤ j → j < l.k → j < length l.fn.pages → kept_at l.pages j ≡ [] → ⊥;
  others : (j : ℕ) → (4096 * j + 4096 ≤ l.from) ⊎ (l.to ≤ 4096 * j) → kept_at l.pages j ≡ kept_at l.fn.pages j;
}
