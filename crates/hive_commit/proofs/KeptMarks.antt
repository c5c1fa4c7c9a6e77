-- The bits of a page of new data, by what was kept of the old one.
use Rattle.std.proofs.Common.{◌≡◌, ◌<◌, ◌≤◌, ◌+◌, ◌-◌, ◌*◌, ℕ, Bool, true, false, List, [], ◌∷◌, length, take, drop, refl, sym, ◌∙◌, ap, arith}
use Rattle.std.specs.Prelude.{nat_le, not, ◌&&◌, bytes_eq}
use Rattle.std.proofs.lemmas.List.{drop-drop, drop-take, take-take}
use Rattle.std.proofs.lemmas.Bool.{le-leb, lt-leb}
use Rattle.std.proofs.lemmas.Slice.Eq.{bytes_eq-Decides}
use Rattle.hive_model.specs.Recovery.{sector, one_if}
use Rattle.hive_model.specs.Log.{byte_of, dirty}
use Rattle.cell_tables.specs.saved_pages.Overlay.{page_at, kept_at, page_or, before, AreWhole, IsCovered}
use Rattle.cell_tables.proofs.OverlayLemmas.{page_long}
use Rattle.cell_tables.proofs.CoveredLemmas.{covered_long, covered_page}

sector_in_page : (xs : List ℕ) (k j : ℕ) → j < 8 → sector xs (8 * k + j) ≡ sector (page_at k xs) j
unfolding sector
sector_in_page xs k j lt =
    let place : 4096 * k + 512 * j ≡ 512 * (8 * k + j) = omega arith in
    let whole : 4096 ≡ 512 * j + (4096 - 512 * j) = omega arith in
    sym (ap (λ (n : ℕ). take 512 (drop (512 * j) (take n (drop (4096 * k) xs)))) whole
    ∙ ap (take 512) (drop-take (512 * j) (4096 - 512 * j) (drop (4096 * k) xs))
    ∙ take-take 512 (4096 - 512 * j) (drop (512 * j) (drop (4096 * k) xs)) (omega arith)
    ∙ ap (take 512) (drop-drop (512 * j) (4096 * k) xs ∙ ap (λ (n : ℕ). drop n xs) place))

dirty_is : (old new : List ℕ) (i : ℕ) (b c : Bool) → nat_le (512 * i + 512) (length old) ≡ b
    → bytes_eq (sector old i) (sector new i) ≡ c → dirty old new i ≡ not (b && c)
dirty_is old new i b c e f = λ t. not (e t && f t)

dirty_past : (old new : List ℕ) (i : ℕ) → length old < 512 * i + 512 → dirty old new i ≡ true
dirty_past old new i lt =
    dirty_is old new i false (bytes_eq (sector old i) (sector new i)) (lt-leb (512 * i + 512) (length old) lt) refl

dirty_not : (old new : List ℕ) (i : ℕ) → 512 * i + 512 ≤ length old → sector old i ≡ sector new i
    → dirty old new i ≡ false
dirty_not old new i le e =
    dirty_is old new i true true (le-leb (512 * i + 512) (length old) le)
    ((bytes_eq-Decides (sector old i) (sector new i)).1 e)

-- whether a sector differs is known by its page
dirty_in_page : (old new : List ℕ) (k j : ℕ) → 4096 * k + 4096 ≤ length old → j < 8
    → dirty old new (8 * k + j) ≡ dirty (page_at k old) (page_at k new) j
dirty_in_page old new k j le lt =
    let one = le-leb (512 * (8 * k + j) + 512) (length old) (omega arith) in
    let two = le-leb (512 * j + 512) (length (page_at k old)) (omega (arith, page_long k old le)) in
    dirty_is old new (8 * k + j) true (bytes_eq (sector (page_at k old) j) (sector (page_at k new) j)) one
    (λ t. bytes_eq (sector_in_page old k j lt t) (sector_in_page new k j lt t))
    ∙ sym (dirty_is (page_at k old) (page_at k new) j true (bytes_eq (sector (page_at k old) j) (sector (page_at k new) j)) two refl)

byte_same : (f g : ℕ → Bool) (a b : ℕ) → ((j : ℕ) → j < 8 → f (a + j) ≡ g (b + j)) → byte_of f a ≡ byte_of g b
byte_same f g a b same =
    let e0 : f a ≡ g b = ap f (omega arith) ∙ same 0 (omega arith) ∙ ap g (omega arith) in
    let e1 = same 1 (omega arith) in
    let e2 = same 2 (omega arith) in
    let e3 = same 3 (omega arith) in
    let e4 = same 4 (omega arith) in
    let e5 = same 5 (omega arith) in
    let e6 = same 6 (omega arith) in
    let e7 = same 7 (omega arith) in
    λ t. one_if (e0 t) + 2 * one_if (e1 t) + 4 * one_if (e2 t) + 8 * one_if (e3 t) + 16 * one_if (e4 t) + 32 * one_if (e5 t)
    + 64 * one_if (e6 t) + 128 * one_if (e7 t)

-- the bits of a page past the old bytes, of one of which nothing was kept, and of one that was kept
pub byte_past : (ps : List (List ℕ)) (new : List ℕ) (k : ℕ) → AreWhole ps → IsCovered ps (length new) → length ps ≤ k
    → 255 ≡ byte_of (dirty (before ps new) new) (8 * k)
byte_past ps new k w there past =
    sym (byte_same (dirty (before ps new) new) (λ n. true) (8 * k) 0
    (λ j lt. dirty_past (before ps new) new (8 * k + j) (omega (arith, covered_long ps new w there))))

pub byte_still : (ps : List (List ℕ)) (new : List ℕ) (k : ℕ) → AreWhole ps → IsCovered ps (length new) → k < length ps
    → kept_at ps k ≡ [] → 0 ≡ byte_of (dirty (before ps new) new) (8 * k)
byte_still ps new k w there lt none =
    let long = covered_long ps new w there in
    let page : page_at k (before ps new) ≡ page_at k new =
    covered_page ps new k w there lt ∙ ap (λ (q : List ℕ). page_or q (page_at k new)) none in
    sym (byte_same (dirty (before ps new) new) (λ n. false) (8 * k) 0
    (λ j small. dirty_not (before ps new) new (8 * k + j) (omega (arith, long))
    (sector_in_page (before ps new) k j small ∙ ap (λ (q : List ℕ). sector q j) page ∙ sym (sector_in_page new k j small))))

pub byte_kept : (ps : List (List ℕ)) (new old : List ℕ) (k : ℕ) → AreWhole ps → IsCovered ps (length new) → k < length ps
    → old ≡ kept_at ps k → length old ≡ 4096
    → byte_of (dirty old (page_at k new)) 0 ≡ byte_of (dirty (before ps new) new) (8 * k)
byte_kept ps new old k w there lt is four =
    let long = covered_long ps new w there in
    let page : page_at k (before ps new) ≡ old =
    covered_page ps new k w there lt ∙ ap (λ (q : List ℕ). page_or q (page_at k new)) (sym is) ∙ some old four in
    sym (byte_same (dirty (before ps new) new) (dirty old (page_at k new)) (8 * k) 0
    (λ j small. dirty_in_page (before ps new) new k j (omega (arith, long)) small
    ∙ ap (λ (q : List ℕ). dirty q (page_at k new) j) page ∙ ap (dirty old (page_at k new)) (omega arith)))
  where
    some : (q : List ℕ) → length q ≡ 4096 → page_or q (page_at k new) ≡ q
    some [] e = absurd (omega (arith, e))
    some (x ∷ xs) e = refl
