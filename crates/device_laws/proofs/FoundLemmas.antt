-- The number of findings is that of the findings that are told, and is the same whatever is shown of them.
use Rattle.std.proofs.Common.{◌≡◌, ℕ, suc, ◌+◌, Bool, true, false, not, cond, List, [], ◌∷◌, ◌++◌, length, map, filter, Some, None, refl, sym, ap, ◌∙◌, arith}
use Rattle.std.specs.Prelude.{count_by, sum_by}
use Rattle.std.specs.List.{list_all, flat_map}
use Rattle.std.proofs.lemmas.Bool.{false≢true, and_parts}
use Rattle.std.proofs.lemmas.List.Sums.{sum_by-append, sum_by-cons}
use Rattle.device_rule.specs.declared.lines.DeviceLine.{DeviceLine}
use Rattle.device_rule.specs.declared.lines.DeviceLine.TheVariants as lines
use Rattle.device_rule.specs.declared.scope.Scope.{Scope}
use Rattle.device_rule.specs.declared.scope.DeviceSet.{DeviceSet}
use Rattle.device_rule.specs.declared.scope.Selection.{Selection}
use Rattle.device_rule.specs.declared.block.Block.{Block}
use Rattle.device_rule.specs.declared.device.Device.{Device}
use Rattle.device_rule.specs.Database.{critical_lines}
use Rattle.device_rule.specs.Devices.{block_of, block_findings, has_asked}
use Rattle.device_rule.specs.Report.{set_of, is_shown, blocks_in, lines_in, opening_lines, enum_lines, class_part, closing_lines, finding_lines, found_in, device_lines, device_findings}
use Rattle.device_laws.specs.Told.{is_about, is_finding, block_findings_told}
use Rattle.device_laws.specs.Findings.{FindingsAreTold, only_of, FindingsStay}
use Rattle.device_laws.proofs.TellLemmas.{when_all, class_all, critical_all}
use Rattle.device_laws.proofs.ReadLemmas.{opening_all, shown_all, blocks_read}
use Rattle.device_laws.proofs.SameLemmas.{count_none, found_same, asked_same, kept_sum}

-- ---- those that are told

count_all : {X : Type 0} (p : X → Bool) (xs : List X) → list_all p xs ≡ true → count_by p xs ≡ length xs
count_all p [] h = refl
count_all p (x ∷ xs) h =
    let both = and_parts (p x) (list_all p xs) h in
    sum_by-cons (λ x. cond (p x) 1 0) x xs ∙ (λ i. cond (both.0 i) 1 0 + count_all p xs both.1 i) ∙ more (length xs)
  where
    more : (n : ℕ) → 1 + n ≡ suc n
    more n = omega arith

about_no_finding : (l : DeviceLine) → is_about l ≡ true → not (is_finding l) ≡ true
about_no_finding (lines.NoSet number) h = absurd (false≢true h)
about_no_finding lines.NoEnum h = absurd (false≢true h)
about_no_finding (lines.ClassMalformed field class key) h = absurd (false≢true h)
about_no_finding (lines.ClassFilter role class key driver) h = absurd (false≢true h)
about_no_finding l h = refl

opening_no_finding : (number : ℕ) (set : DeviceSet) (only : Selection)
    → list_all (λ l. not (is_finding l)) (opening_lines number set only) ≡ true
opening_no_finding number set only = opening_all (λ l. not (is_finding l)) number set only refl (λ d. refl) refl

shown_no_finding : (only : Selection) (scope : Scope) (ds : List Device)
    → list_all (λ l. not (is_finding l)) (flat_map lines_in (filter (is_shown only) (map (block_of only.ids scope) ds))) ≡ true
shown_no_finding only scope ds = shown_all (λ l. not (is_finding l)) about_no_finding (λ s c p. refl) only scope ds

whole_count : (number : ℕ) (set : DeviceSet) (only : Selection) (closing : List DeviceLine)
    → list_all (λ l. not (is_finding l)) closing ≡ true
    → count_by is_finding (((opening_lines number set only ++ finding_lines set only) ++ critical_lines only.critical set.scope only.of) ++ closing)
    ≡ length (enum_lines set) + length (class_part set only)
whole_count number set only closing h =
    let opening = opening_lines number set only in
    let enum = enum_lines set in
    let shown = flat_map lines_in (blocks_in set only) in
    let classes = class_part set only in
    let critical = critical_lines only.critical set.scope only.of in
    let f : DeviceLine → ℕ = λ l. cond (is_finding l) 1 0 in
    sum_by-append f ((opening ++ ((enum ++ shown) ++ classes)) ++ critical) closing
    ∙ (λ i. sum_by-append f (opening ++ ((enum ++ shown) ++ classes)) critical i + count_none is_finding closing h i)
    ∙ (λ i. (sum_by-append f opening ((enum ++ shown) ++ classes) i
    + count_none is_finding critical (critical_all (λ l. not (is_finding l)) (λ e d. refl) only.critical set.scope only.of) i) + 0)
    ∙ (λ i. ((count_none is_finding opening (opening_no_finding number set only) i
    + sum_by-append f (enum ++ shown) classes i) + 0) + 0)
    ∙ (λ i. ((0 + (sum_by-append f enum shown i
    + count_all is_finding classes (class_all is_finding (λ f c k. refl) (λ r c k d. refl) set.scope.services only.of set.scope.classes) i)) + 0) + 0)
    ∙ (λ i. ((0 + ((count_all is_finding enum (when_all is_finding (not set.has_enum) lines.NoEnum refl) i
    + count_none is_finding shown (shown_no_finding only set.scope set.devices) i) + length classes)) + 0) + 0)
    ∙ zeros (length enum) (length classes)
  where
    zeros : (a b : ℕ) → ((0 + ((a + 0) + b)) + 0) + 0 ≡ a + b
    zeros a b = omega arith

count_with : (only : Selection) (scope : Scope) (d : Device) (b : Bool) (more : List Block)
    → sum_by block_findings_told (map lines_in more) ≡ sum_by block_findings more
    → sum_by block_findings_told (map lines_in (cond b (block_of only.ids scope d ∷ more) more))
    ≡ sum_by block_findings (cond b (block_of only.ids scope d ∷ more) more)
count_with only scope d false more e = e
count_with only scope d true more e =
    sum_by-cons block_findings_told (block_of only.ids scope d).lines (map lines_in more)
    ∙ ap (λ (n : ℕ). block_findings (block_of only.ids scope d) + n) e
    ∙ sym (sum_by-cons block_findings (block_of only.ids scope d) more)

blocks_count : (only : Selection) (scope : Scope) (ds : List Device)
    → sum_by block_findings_told (map lines_in (filter (is_shown only) (map (block_of only.ids scope) ds)))
    ≡ sum_by block_findings (filter (is_shown only) (map (block_of only.ids scope) ds))
blocks_count only scope [] = refl
blocks_count only scope (d ∷ ds) =
    count_with only scope d (is_shown only (block_of only.ids scope d)) (filter (is_shown only) (map (block_of only.ids scope) ds))
    (blocks_count only scope ds)

pub are_told : FindingsAreTold
unfolding device_lines device_findings
are_told number None only = refl
are_told number (Some keys) only =
    let set = set_of keys in
    (λ i. whole_count number set only (closing_lines (length (blocks_in set only)) (length set.devices) (found_in set only)) refl i
    + ap (sum_by block_findings_told) (blocks_read number keys only) i)
    ∙ ap (λ (n : ℕ). length (enum_lines set) + length (class_part set only) + n) (blocks_count only set.scope set.devices)
    ∙ turned (length (enum_lines set)) (length (class_part set only)) (sum_by block_findings (blocks_in set only))
  where
    turned : (a b c : ℕ) → a + b + c ≡ a + c + b
    turned a b c = omega arith

-- ---- whatever is shown

cond_same : (a : Bool) (m n k l : ℕ) → m ≡ n → k ≡ l → cond a (m + k) k ≡ cond a (n + l) l
cond_same true m n k l e f = λ i. e i + f i
cond_same false m n k l e f = f

stay : (only : Selection) (scope : Scope) (ds : List Device)
    → sum_by block_findings (filter (is_shown only) (map (block_of only.ids scope) ds))
    ≡ sum_by block_findings (filter (is_shown (only_of only.of)) (map (block_of false scope) ds))
stay only scope [] = refl
stay only scope (d ∷ ds) =
    let shown = filter (is_shown only) (map (block_of only.ids scope) ds) in
    let all = filter (is_shown (only_of only.of)) (map (block_of false scope) ds) in
    let block = block_of only.ids scope d in
    let plain = block_of false scope d in
    kept_sum (has_asked only.of block.lines) only.findings block shown (block_findings block) refl
    ∙ ap (λ (b : Bool). cond b (block_findings block + sum_by block_findings shown) (sum_by block_findings shown))
    (sym (asked_same only.of only.ids scope d))
    ∙ cond_same (has_asked only.of plain.lines) (block_findings block) (block_findings plain) (sum_by block_findings shown)
    (sum_by block_findings all) (sym (found_same only.ids scope d)) (stay only scope ds)
    ∙ sym (kept_sum (has_asked only.of plain.lines) false plain all (block_findings plain) refl)

pub findings_stay : FindingsStay
unfolding device_findings
findings_stay None only = refl
findings_stay (Some keys) only =
    let set = set_of keys in
    ap (λ (n : ℕ). length (enum_lines set) + n + length (class_part set only)) (stay only set.scope set.devices)
