-- Pages and their tops: what a search of both finds, and what a change does.
use Rattle.std.proofs.Common.{◌≡◌, inl, inr, ℕ, ◌+◌, ◌-◌, ◌*◌, ◌/◌, ◌<◌, ◌≤◌, max, List, ◌++◌, length, get_or, set, replicate, Option, Some, None, refl, sym, ap, subst, ◌∙◌, arith}
use Rattle.std.proofs.lemmas.Bool.{cases_lt, cases_eq}
use Rattle.std.proofs.lemmas.List.{length-set, length-append, length-replicate, get_or-set_same, get_or-set_other, get_or_append_left, get_or-append_right, get_or-replicate}
use Rattle.cell_tables.specs.free_index.Sizes.{AreUpTo, AreUnder, AreTops, IsTop, IsLowestFit, IsLastSome, FindsLowest, FindsLast}

-- ---- the top of a part

-- one number more
pub top_next : (xs : List ℕ) (from to top next new : ℕ) → IsTop xs from to top → from ≤ to → next ≡ to + 1
    → new ≡ max top (get_or xs to 0) → IsTop xs from next new
top_next xs from to top next new is ordered step e =
    record {
      bounds = λ j ge lt. elim (cases_lt j to) as (λ _. get_or xs j 0 ≤ new) [
        | inl before ↦ omega (arith, e, is.bounds j ge before)
        | inr here ↦
            let same : j ≡ to = omega (arith, lt, here, step) in
            omega (arith, e, ap (λ (k : ℕ). get_or xs k 0) same)
      ];
      least = λ n each. omega (
        arith,
        e,
        is.least n (λ j ge lt. each j ge (omega (arith, lt, step))),
        each to ordered (omega (arith, step)),
      );
    }

-- the same numbers have the same top
top_same : (xs ys : List ℕ) (from to top : ℕ) → ((j : ℕ) → from ≤ j → j < to → get_or ys j 0 ≡ get_or xs j 0)
    → IsTop xs from to top → IsTop ys from to top
top_same xs ys from to top same is =
    record {
      bounds = λ j ge lt. omega (arith, same j ge lt, is.bounds j ge lt);
      least = λ n each. is.least n (λ j ge lt. omega (arith, same j ge lt, each j ge lt));
    }

-- ---- the index of what was read

-- of that many pages the first have their tops
pub record TopsSoFar (sizes tops : List ℕ) (pages page : ℕ) : Type 0 where
  pub long : length tops ≡ pages
  pub each : (p : ℕ) → p < page → IsTop sizes (512 * p) (512 * p + 512) (get_or tops p 0)

pub tops_more : (sizes tops new : List ℕ) (pages page next top : ℕ) → TopsSoFar sizes tops pages page → next ≡ page + 1
    → page < pages → IsTop sizes (512 * page) (512 * page + 512) top → new ≡ set tops page top
    → TopsSoFar sizes new pages next
tops_more sizes tops new pages page next top so step inside is put =
    record {
      long = omega (arith, ap length put, length-set tops page top, so.long);
      each = λ p lt.
          subst (λ (l : List ℕ). IsTop sizes (512 * p) (512 * p + 512) (get_or l p 0)) (sym put)
          (elim (cases_eq p page)
          as (λ _. IsTop sizes (512 * p) (512 * p + 512) (get_or (set tops page top) p 0)) [
            | inl same ↦
                subst (λ (k : ℕ). IsTop sizes (512 * k) (512 * k + 512) (get_or (set tops page top) k 0)) (sym same)
                (subst (IsTop sizes (512 * page) (512 * page + 512))
                (sym (get_or-set_same tops page top 0 (omega (arith, inside, so.long)))) is)
            | inr other ↦
                subst (IsTop sizes (512 * p) (512 * p + 512)) (sym (get_or-set_other tops page p top 0 other))
                (so.each p (omega (arith, lt, step, other)))
          ]);
    }

pub tops_done : (sizes tops : List ℕ) (pages page : ℕ) → TopsSoFar sizes tops pages page → pages ≤ page
    → length sizes ≡ 512 * pages → pages ≤ 4096 → AreTops sizes tops
tops_done sizes tops pages page so all whole few =
    record {
      whole = omega (arith, so.long, whole);
      few = omega (arith, so.long, few);
      each = λ p lt. so.each p (omega (arith, lt, so.long, all));
    }

-- ---- searches

module _ (sizes tops : List ℕ) (kept : AreTops sizes tops) where
  -- a size is at most the top of its page
  under_top : (j : ℕ) → j < length sizes → get_or sizes j 0 ≤ get_or tops (j / 512) 0
  under_top j inside =
      let page : j / 512 < length tops = omega (arith, inside, kept.whole) in
      (kept.each (j / 512) page).bounds j (omega arith) (omega arith)

  -- where no page has it, no slot has it
  pub none_fits : (size count : ℕ) → count ≡ length tops → AreUnder size tops 0 count
      → AreUnder size sizes 0 (length sizes)
  none_fits size count all none j ge lt =
      omega (arith, under_top j lt, none (j / 512) (omega arith) (omega (arith, lt, all, kept.whole)))

  -- the first page that has it has its first slot
  pub fits_in : (size count p : ℕ) → count ≡ length tops → IsLowestFit size tops 0 count p → (r : Option ℕ)
      → FindsLowest size sizes (512 * p) (512 * p + 512) r → FindsLowest size sizes 0 (length sizes) r
  fits_in size count p all found None none =
      let page : p < length tops = omega (arith, all, found.below) in
      let one : get_or sizes (512 * p) 0 < size = none (512 * p) (omega arith) (omega arith) in
      let top : get_or tops p 0 ≤ size - 1 =
      (kept.each p page).least (size - 1) (λ j ge lt. omega (arith, none j ge lt)) in
      absurd (omega (arith, found.fits, one, top))
  fits_in size count p all found (Some k) is =
      record {
        from_here = omega arith;
        below = omega (arith, is.below, found.below, all, kept.whole);
        fits = is.fits;
        lowest = λ j ge lt. elim (cases_lt j (512 * p)) as (λ _. get_or sizes j 0 < size) [
          | inl before ↦ omega (
            arith,
            under_top j (omega (arith, before, found.below, all, kept.whole)),
            found.lowest (j / 512) (omega arith) (omega (arith, before)),
          )
          | inr here ↦ is.lowest j here lt
        ];
      }

  -- where pages have none, their slots have none
  none_by_tops : (from to : ℕ) → to ≤ length tops → AreUpTo 0 tops from to → AreUpTo 0 sizes (512 * from) (512 * to)
  none_by_tops from to inside none j ge lt =
      omega (
        arith,
        under_top j (omega (arith, lt, inside, kept.whole)),
        none (j / 512) (omega (arith, ge)) (omega (arith, lt)),
      )

  pub none_below : (slot : ℕ) → slot ≤ length sizes → AreUpTo 0 sizes (512 * (slot / 512)) slot
      → AreUpTo 0 tops 0 (slot / 512) → AreUpTo 0 sizes 0 slot
  none_below slot inside own none j ge lt = elim (cases_lt j (512 * (slot / 512))) as (λ _. get_or sizes j 0 ≤ 0) [
    | inl before ↦ none_by_tops 0 (slot / 512) (omega (arith, inside, kept.whole)) none j (omega arith) before
    | inr here ↦ own j here lt
  ]

  -- the last page that has some has the last slot
  pub last_in : (slot p : ℕ) → slot ≤ length sizes → AreUpTo 0 sizes (512 * (slot / 512)) slot
      → IsLastSome tops 0 (slot / 512) p → (r : Option ℕ) → FindsLast sizes (512 * p) (512 * p + 512) r
      → FindsLast sizes 0 slot r
  last_in slot p inside own found None none =
      let page : p < length tops = omega (arith, found.below, inside, kept.whole) in
      absurd (omega (arith, found.some, (kept.each p page).least 0 none))
  last_in slot p inside own found (Some k) is =
      record {
        from_here = omega arith;
        below = omega (arith, is.below, found.below);
        some = is.some;
        last = λ j ge lt. elim (cases_lt j (512 * p + 512)) as (λ _. get_or sizes j 0 ≤ 0) [
          | inl near ↦ is.last j ge near
          | inr far ↦ elim (cases_lt j (512 * (slot / 512))) as (λ _. get_or sizes j 0 ≤ 0) [
            | inl before ↦
                none_by_tops (p + 1) (slot / 512) (omega (arith, inside, kept.whole)) found.last j
                (omega (arith, far)) before
            | inr here ↦ own j here lt
          ]
        ];
      }

pub last_own : (sizes : List ℕ) (from slot k : ℕ) → IsLastSome sizes from slot k → IsLastSome sizes 0 slot k
last_own sizes from slot k is =
    record { from_here = omega arith; below = is.below; some = is.some; last = is.last }

-- ---- changes

-- a page has a new top
top_put : (sizes tops : List ℕ) (slot size top : ℕ) → AreTops sizes tops → slot < length sizes
    → IsTop (set sizes slot size) (512 * (slot / 512)) (512 * (slot / 512) + 512) top
    → AreTops (set sizes slot size) (set tops (slot / 512) top)
top_put sizes tops slot size top kept inside is =
    let page : slot / 512 < length tops = omega (arith, inside, kept.whole) in
    record {
      whole = omega (arith, kept.whole, length-set sizes slot size, length-set tops (slot / 512) top);
      few = omega (arith, kept.few, length-set tops (slot / 512) top);
      each = λ q below.
          elim (cases_eq q (slot / 512))
          as (λ _. IsTop (set sizes slot size) (512 * q) (512 * q + 512) (get_or (set tops (slot / 512) top) q 0)) [
            | inl same ↦
                subst (λ (m : ℕ). IsTop (set sizes slot size) (512 * m) (512 * m + 512)
                (get_or (set tops (slot / 512) top) m 0)) (sym same)
                (subst (IsTop (set sizes slot size) (512 * (slot / 512)) (512 * (slot / 512) + 512))
                (sym (get_or-set_same tops (slot / 512) top 0 page)) is)
            | inr other ↦
                subst (IsTop (set sizes slot size) (512 * q) (512 * q + 512))
                (sym (get_or-set_other tops (slot / 512) q top 0 other))
                (top_same sizes (set sizes slot size) (512 * q) (512 * q + 512) (get_or tops q 0)
                (λ j ge lt. get_or-set_other sizes slot j size 0 (λ e. other (omega (arith, e, ge, lt))))
                (kept.each q (omega (arith, below, length-set tops (slot / 512) top))))
          ];
    }

-- a number became no smaller
top_more : (xs : List ℕ) (from to slot size top : ℕ) → IsTop xs from to top → from ≤ slot → slot < to
    → slot < length xs → get_or xs slot 0 ≤ size → IsTop (set xs slot size) from to (max top size)
top_more xs from to slot size top is ge lt inside small =
    let here : get_or (set xs slot size) slot 0 ≡ size = get_or-set_same xs slot size 0 inside in
    record {
      bounds = λ j low high. elim (cases_eq j slot) as (λ _. get_or (set xs slot size) j 0 ≤ max top size) [
        | inl same ↦ omega (arith, here, ap (λ (k : ℕ). get_or (set xs slot size) k 0) same)
        | inr other ↦ omega (arith, get_or-set_other xs slot j size 0 other, is.bounds j low high)
      ];
      least = λ n each.
          let own : get_or (set xs slot size) slot 0 ≤ n = each slot ge lt in
          let old : top ≤ n =
          is.least n (λ j low high. elim (cases_eq j slot) as (λ _. get_or xs j 0 ≤ n) [
            | inl same ↦ omega (arith, ap (λ (k : ℕ). get_or xs k 0) same, small, own, here)
            | inr other ↦ omega (arith, get_or-set_other xs slot j size 0 other, each j low high)
          ]) in
          omega (arith, own, here, old);
    }

-- a number that was not the top is gone
top_less : (xs : List ℕ) (from to slot top : ℕ) → IsTop xs from to top → from ≤ slot → slot < to
    → slot < length xs → (top ≡ get_or xs slot 0 → ⊥) → IsTop (set xs slot 0) from to top
top_less xs from to slot top is ge lt inside apart =
    let here : get_or (set xs slot 0) slot 0 ≡ 0 = get_or-set_same xs slot 0 0 inside in
    let own : get_or xs slot 0 ≤ top = is.bounds slot ge lt in
    record {
      bounds = λ j low high. elim (cases_eq j slot) as (λ _. get_or (set xs slot 0) j 0 ≤ top) [
        | inl same ↦ omega (arith, here, ap (λ (k : ℕ). get_or (set xs slot 0) k 0) same)
        | inr other ↦ omega (arith, get_or-set_other xs slot j 0 0 other, is.bounds j low high)
      ];
      least = λ n each.
          let both : top ≤ max n (get_or xs slot 0) =
          is.least (max n (get_or xs slot 0)) (λ j low high.
          elim (cases_eq j slot) as (λ _. get_or xs j 0 ≤ max n (get_or xs slot 0)) [
            | inl same ↦ omega (arith, ap (λ (k : ℕ). get_or xs k 0) same)
            | inr other ↦ omega (arith, get_or-set_other xs slot j 0 0 other, each j low high)
          ]) in
          elim (cases_lt n top) as (λ _. top ≤ n) [
            | inl less ↦ absurd (apart (omega (arith, both, own, less)))
            | inr more ↦ more
          ];
    }

module _ (sizes tops : List ℕ) (slot : ℕ) (kept : AreTops sizes tops) (inside : slot < length sizes) where
  own_top : IsTop sizes (512 * (slot / 512)) (512 * (slot / 512) + 512) (get_or tops (slot / 512) 0)
  own_top = kept.each (slot / 512) (omega (arith, inside, kept.whole))

  -- what `raise` leaves
  pub raised : (size : ℕ) → get_or sizes slot 0 ≤ size
      → AreTops (set sizes slot size) (set tops (slot / 512) (max (get_or tops (slot / 512) 0) size))
  raised size small =
      top_put sizes tops slot size (max (get_or tops (slot / 512) 0) size) kept inside
      (top_more sizes (512 * (slot / 512)) (512 * (slot / 512) + 512) slot size (get_or tops (slot / 512) 0) own_top
      (omega arith) (omega arith) inside small)

  -- what `lower` leaves
  pub lowered : (new : List ℕ) (old top : ℕ) → get_or sizes slot 0 ≡ old → new ≡ set sizes slot 0
      → ((get_or tops (slot / 512) 0 ≡ old → ⊥) → top ≡ get_or tops (slot / 512) 0)
      → (get_or tops (slot / 512) 0 ≡ old → IsTop new (512 * (slot / 512)) (512 * (slot / 512) + 512) top)
      → AreTops new (set tops (slot / 512) top)
  lowered new old top was is stays counted =
      subst (λ (l : List ℕ). AreTops l (set tops (slot / 512) top)) (sym is)
      (top_put sizes tops slot 0 top kept inside
      (elim (cases_eq (get_or tops (slot / 512) 0) old)
      as (λ _. IsTop (set sizes slot 0) (512 * (slot / 512)) (512 * (slot / 512) + 512) top) [
        | inl same ↦ subst (λ (l : List ℕ). IsTop l (512 * (slot / 512)) (512 * (slot / 512) + 512) top) is
            (counted same)
        | inr other ↦ subst (IsTop (set sizes slot 0) (512 * (slot / 512)) (512 * (slot / 512) + 512))
            (sym (stays other))
            (top_less sizes (512 * (slot / 512)) (512 * (slot / 512) + 512) slot (get_or tops (slot / 512) 0) own_top
            (omega arith) (omega arith) inside (λ e. other (e ∙ was)))
      ]))

-- pages of no size follow
pub grown : (sizes tops : List ℕ) (pages : ℕ) → AreTops sizes tops → length tops + pages ≤ 4096
    → AreTops (sizes ++ replicate (512 * pages) 0) (tops ++ replicate pages 0)
grown sizes tops pages kept few =
    let long : length (tops ++ replicate pages 0) ≡ length tops + pages =
    omega (arith, length-append tops (replicate pages 0), length-replicate {A = ℕ} pages 0) in
    let more = replicate {A = ℕ} (512 * pages) 0 in
    record {
      whole = omega (arith, kept.whole, long, length-append sizes more, length-replicate {A = ℕ} (512 * pages) 0);
      few = omega (arith, long, few);
      each = λ q below.
          elim (cases_lt q (length tops))
          as (λ _. IsTop (sizes ++ more) (512 * q) (512 * q + 512) (get_or (tops ++ replicate pages 0) q 0)) [
            | inl before ↦
                subst (IsTop (sizes ++ more) (512 * q) (512 * q + 512))
                (sym (get_or_append_left tops (replicate pages 0) 0 q before))
                (top_same sizes (sizes ++ more) (512 * q) (512 * q + 512) (get_or tops q 0)
                (λ j ge lt. get_or_append_left sizes more 0 j (omega (arith, lt, before, kept.whole)))
                (kept.each q before))
            | inr behind ↦
                let zero : get_or (tops ++ replicate pages 0) q 0 ≡ 0 =
                get_or-append_right tops (replicate pages 0) (length tops) q 0 refl behind
                ∙ get_or-replicate pages (q - length tops) 0 0 (omega (arith, behind, long, below)) in
                subst (IsTop (sizes ++ more) (512 * q) (512 * q + 512)) (sym zero)
                (record {
                  bounds = λ j ge lt.
                      let none : get_or (sizes ++ more) j 0 ≡ 0 =
                      get_or-append_right sizes more (length sizes) j 0 refl (omega (arith, ge, behind, kept.whole))
                      ∙ get_or-replicate (512 * pages) (j - length sizes) 0 0
                      (omega (arith, ge, lt, behind, below, long, kept.whole)) in
                      omega (arith, none);
                  least = λ n each. omega arith;
                })
          ];
    }
