use Rattle.std.proofs.Common.{◌≡◌, ◌<◌, ℕ, length}
use Rattle.cell_tables.specs.saved_pages.Overlay.{before, kept_at, page_at, page_or}
use Rattle.cell_tables.proofs.saved_pages.pages.SavedPages.restore.Given as goal

-- the pages up to this one are there
abbrev pub invariant-loop-k : goal.invariant-loop-k
invariant-loop-k l = record {
  before : before l.self l.bytes ≡ before l.self l.fn.bytes;
  long : length l.bytes ≡ length l.fn.bytes;
  there : (j : ℕ) → j < l.k → page_or (kept_at l.self j) (page_at j l.bytes) ≡ page_at j l.bytes;
}
