-- What the bins data were, by the pages that were kept.
use Rattle.std.proofs.Common.{◌≡◌, ◌≤◌, ◌*◌, ◌%◌, ℕ, Bool, List, [], ◌++◌, length, replicate, refl, sym, ap, ◌∙◌, arith}
use Rattle.std.proofs.lemmas.List.{length-replicate}
use Rattle.hive_model.specs.Bins.{Bin, bins_size, spelled, IsBins, IsHeap}
use Rattle.hive_cells.specs.Reading.{bins_of, IsKept}
use Rattle.hive_cells.proofs.Steps.{kept_seen}
use Rattle.hive_cells.proofs.Tools.{length_spelled}
use Rattle.hive_cells.proofs.IndexLemmas.{bins_pages}
use Rattle.cell_tables.specs.saved_pages.Overlay.{before, AreWhole, IsCovered}
use Rattle.cell_tables.proofs.OverlayLemmas.{before_more, before_none}
use Rattle.cell_tables.proofs.CoveredLemmas.{covered_long, covered_more, covered_none}

-- the bytes are those of the bins
pub seen_bytes : (text : List ℕ) (starts : List Bool) (bins : List Bin) → IsKept text starts → bins_of text ≡ bins
    → text ≡ spelled 0 bins
seen_bytes text starts bins k e = (kept_seen text starts k).1 ∙ ap (spelled 0) e

pub seen_long : (text : List ℕ) (starts : List Bool) (bins : List Bin) → IsKept text starts → bins_of text ≡ bins
    → length text ≡ bins_size bins
seen_long text starts bins k e =
    let seen = kept_seen text starts k in
    ap length seen.1 ∙ length_spelled 0 (bins_of text) seen.0.each ∙ ap bins_size e

-- what is the same of the bytes is the same of the bins
pub base_seen : (ps qs : List (List ℕ)) (old new : List ℕ) (starts later : List Bool) (bins : List Bin) → IsKept old starts
    → bins_of old ≡ bins → IsKept new later → before qs new ≡ before ps old
    → before qs (spelled 0 (bins_of new)) ≡ before ps (spelled 0 bins)
base_seen ps qs old new starts later bins k e l same =
    ap (before qs) (sym (seen_bytes new later (bins_of new) l refl)) ∙ same
    ∙ ap (before ps) (seen_bytes old starts bins k e)

-- the same where bytes are appended
pub base_more : (old more new : List ℕ) (starts later : List Bool) (bins : List Bin) → IsKept old starts
    → bins_of old ≡ bins → IsKept new later → new ≡ old ++ more → (ps : List (List ℕ))
    → IsCovered ps (bins_size bins)
    → before ps (spelled 0 (bins_of new)) ≡ before ps (spelled 0 bins)
base_more old more new starts later bins k e l is ps there =
    base_seen ps ps old new starts later bins k e l
    (ap (before ps) is
    ∙ before_more ps old more (covered_more ps (bins_size bins) (length old) there
    (omega (arith, seen_long old starts bins k e))))

-- how long bins data are
pub record Lengths (bins : List Bin) : Type 0 where
  pub long : length (spelled 0 bins) ≡ bins_size bins
  pub whole : bins_size bins % 4096 ≡ 0
  pub few : bins_size bins ≤ 16777216

pub lengths : (bins : List Bin) → IsHeap bins → Lengths bins
lengths bins h = record { long = length_spelled 0 bins h.each; whole = bins_pages bins h.each; few = h.small }

-- nothing is kept
pub base_now : (ps : List (List ℕ)) (bins : List Bin) (n : ℕ) → IsHeap bins → ps ≡ replicate n []
    → 4096 * n ≡ bins_size bins → before ps (spelled 0 bins) ≡ spelled 0 bins
base_now ps bins n h is e =
    ap (λ (qs : List (List ℕ)). before qs (spelled 0 bins)) is
    ∙ before_none n (spelled 0 bins) ((lengths bins h).long ∙ sym e)

pub covered_now : (ps : List (List ℕ)) (bins : List Bin) (n : ℕ) → ps ≡ replicate n [] → 4096 * n ≡ bins_size bins
    → IsCovered ps (bins_size bins)
covered_now ps bins n is e = covered_none ps n (bins_size bins) (ap length is ∙ length-replicate n []) (omega (arith, e))

-- ---- the bins data restored

-- the bytes that are there are the old ones, which are bins
pub put_bins : (ps : List (List ℕ)) (text new : List ℕ) (starts : List Bool) (old bins : List Bin) → IsKept text starts
    → bins_of text ≡ old → new ≡ before ps text → IsBins (before ps (spelled 0 old)) bins → IsBins new bins
put_bins ps text new starts old bins k e is h = (h.0, is ∙ ap (before ps) (seen_bytes text starts old k e) ∙ h.1)

-- and are seen as such
pub put_seen : (ps : List (List ℕ)) (text new : List ℕ) (starts later : List Bool) (old : List Bin) → IsKept text starts
    → bins_of text ≡ old → new ≡ before ps text → IsKept new later → IsBins (before ps (spelled 0 old)) (bins_of new)
put_seen ps text new starts later old k e is l =
    let seen = kept_seen new later l in
    (seen.0, ap (before ps) (sym (seen_bytes text starts old k e)) ∙ sym is ∙ seen.1)

-- the base is as long as its pages, and so are the bins that are restored
pub base_long : (ps : List (List ℕ)) (bins : List Bin) → IsHeap bins → AreWhole ps → IsCovered ps (bins_size bins)
    → length (before ps (spelled 0 bins)) ≡ 4096 * length ps
base_long ps bins h whole there =
    let l = lengths bins h in
    covered_long ps (spelled 0 bins) whole (covered_more ps (bins_size bins) (length (spelled 0 bins)) there (omega (arith, l.long)))

pub put_long : (ps : List (List ℕ)) (old new : List Bin) → IsHeap old → AreWhole ps → IsCovered ps (bins_size old)
    → IsBins (before ps (spelled 0 old)) new → bins_size new ≡ 4096 * length ps
put_long ps old new h whole there is =
    let long = base_long ps old h whole there in
    omega (arith, long, ap length is.1, (lengths new is.0).long)
