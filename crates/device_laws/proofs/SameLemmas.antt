-- What is shown of a block doesn't change what is found in it.
use Rattle.std.proofs.Common.{◌≡◌, ℕ, ◌+◌, Bool, true, false, not, cond, List, [], ◌∷◌, ◌++◌, Option, Some, None, refl, sym, ap, ◌∙◌, append-nil, arith}
use Rattle.std.specs.Prelude.{◌&&◌, ◌||◌, ◌==◌, count_by, sum_by, codes}
use Rattle.std.specs.List.{list_all, list_any}
use Rattle.std.proofs.lemmas.Bool.{false≢true, and_parts, eqb-true}
use Rattle.std.proofs.lemmas.List.Folds.{list_any-append}
use Rattle.std.proofs.lemmas.List.Sums.{sum_by-append, sum_by-cons}
use Rattle.device_rule.specs.declared.lines.DeviceLine.{DeviceLine}
use Rattle.device_rule.specs.declared.lines.DeviceLine.TheVariants as lines
use Rattle.device_rule.specs.declared.scope.Scope.{Scope}
use Rattle.device_rule.specs.declared.scope.Selection.{Selection}
use Rattle.device_rule.specs.declared.block.Block.{Block}
use Rattle.device_rule.specs.declared.device.Device.{Device}
use Rattle.device_rule.specs.Values.{text_of}
use Rattle.device_rule.specs.Database.{match_lines}
use Rattle.device_rule.specs.Devices.{device_state, is_enabled, class_of, class_name, about_lines, stack_lines, block_of, is_fault, block_findings, is_load_of, has_asked}
use Rattle.device_rule.specs.Report.{is_shown}
use Rattle.device_laws.proofs.ListLemmas.{imply_all, no_true}
use Rattle.device_laws.specs.Blocks.{without_database}
use Rattle.device_laws.proofs.TellLemmas.{is_match, match_match}

-- ---- lines that don't count

pub count_none : {X : Type 0} (p : X → Bool) (xs : List X) → list_all (λ x. not (p x)) xs ≡ true → count_by p xs ≡ 0
count_none p [] h = refl
count_none p (x ∷ xs) h =
    let both = and_parts (not (p x)) (list_all (λ x. not (p x)) xs) h in
    sum_by-cons (λ x. cond (p x) 1 0) x xs ∙ (λ i. cond (no_true (p x) both.0 i) 1 0 + count_none p xs both.1 i)

any_none : {X : Type 0} (p : X → Bool) (xs : List X) → list_all (λ x. not (p x)) xs ≡ true → list_any p xs ≡ false
any_none p [] h = refl
any_none p (x ∷ xs) h =
    let both = and_parts (not (p x)) (list_all (λ x. not (p x)) xs) h in
    λ i. no_true (p x) both.0 i || any_none p xs both.1 i

plus_none : (a b : ℕ) → b ≡ 0 → a + b ≡ a
plus_none a b e = omega arith

or_none : (a b : Bool) → b ≡ false → (a || b) ≡ a
or_none true b e = refl
or_none false b e = e

match_no_fault : (l : DeviceLine) → is_match l ≡ true → not (is_fault l) ≡ true
unfolding is_fault
match_no_fault (lines.Bound entry driver) h = refl
match_no_fault lines.Unbound h = refl
match_no_fault l h = absurd (false≢true h)

match_no_load : (name : List ℕ) (l : DeviceLine) → is_match l ≡ true → not (is_load_of name l) ≡ true
match_no_load name (lines.Bound entry driver) h = refl
match_no_load name lines.Unbound h = refl
match_no_load name l h = absurd (false≢true h)

-- ---- a block with and without its entry of the database

-- what is told of a device by its own values and its stack
abbrev pub own_lines : Scope → Device → List DeviceLine
own_lines scope d =
    about_lines d.key ++ stack_lines scope.services (class_of scope.classes (text_of (codes "ClassGUID") d.key)) d.key

count_same : (ids : Bool) (scope : Scope) (d : Device)
    → count_by is_fault (own_lines scope d ++ []) ≡ count_by is_fault (own_lines scope d ++ match_lines ids scope d.key)
count_same ids scope d =
    let own = own_lines scope d in
    let matches = match_lines ids scope d.key in
    ap (count_by is_fault) (append-nil own)
    ∙ sym (plus_none (count_by is_fault own) (count_by is_fault matches)
    (count_none is_fault matches (imply_all is_match (λ l. not (is_fault l)) matches match_no_fault (match_match ids scope d.key))))
    ∙ sym (sum_by-append (λ l. cond (is_fault l) 1 0) own matches)

any_same : (name : List ℕ) (ids : Bool) (scope : Scope) (d : Device)
    → list_any (is_load_of name) (own_lines scope d ++ [])
    ≡ list_any (is_load_of name) (own_lines scope d ++ match_lines ids scope d.key)
any_same name ids scope d =
    let own = own_lines scope d in
    let matches = match_lines ids scope d.key in
    ap (list_any (is_load_of name)) (append-nil own)
    ∙ sym (or_none (list_any (is_load_of name) own) (list_any (is_load_of name) matches)
    (any_none (is_load_of name) matches
    (imply_all is_match (λ l. not (is_load_of name l)) matches (match_no_load name) (match_match ids scope d.key))))
    ∙ sym (list_any-append (is_load_of name) own matches)

abbrev pub first_line : Scope → Device → DeviceLine
first_line scope d =
    let guid : Option (List ℕ) = text_of (codes "ClassGUID") d.key in
    lines.Device (device_state d.key) (class_name guid (class_of scope.classes guid)) d.path

count_first : (first : DeviceLine) (xs ys : List DeviceLine) → count_by is_fault xs ≡ count_by is_fault ys
    → count_by is_fault (first ∷ xs) ≡ count_by is_fault (first ∷ ys)
count_first first xs ys e =
    sum_by-cons (λ l. cond (is_fault l) 1 0) first xs ∙ ap (λ (n : ℕ). cond (is_fault first) 1 0 + n) e
    ∙ sym (sum_by-cons (λ l. cond (is_fault l) 1 0) first ys)

pub found_same : (ids : Bool) (scope : Scope) (d : Device)
    → block_findings (block_of false scope d) ≡ block_findings (block_of ids scope d)
found_same ids scope d =
    ap (λ (n : ℕ). cond (is_enabled (device_state d.key)) n 0)
    (count_first (first_line scope d) (own_lines scope d ++ []) (own_lines scope d ++ match_lines ids scope d.key) (count_same ids scope d))

pub asked_same : (of : Option (List ℕ)) (ids : Bool) (scope : Scope) (d : Device)
    → has_asked of (block_of false scope d).lines ≡ has_asked of (block_of ids scope d).lines
asked_same None ids scope d = refl
asked_same (Some name) ids scope d = any_same name ids scope d

pub shown_same : (only : Selection) (scope : Scope) (d : Device)
    → is_shown (without_database only) (block_of false scope d) ≡ is_shown only (block_of only.ids scope d)
shown_same only scope d =
    λ i. asked_same only.of only.ids scope d i && (not only.findings || not (found_same only.ids scope d i == 0))

-- ---- whether only those with a finding are told

-- the sum with one more block
pub sum_first : (block : Block) (more : List Block) (n : ℕ) → block_findings block ≡ n
    → sum_by block_findings (block ∷ more) ≡ n + sum_by block_findings more
sum_first block more n e = sum_by-cons block_findings block more ∙ ap (λ (k : ℕ). k + sum_by block_findings more) e

pub kept_sum : (a f : Bool) (block : Block) (more : List Block) (n : ℕ) → block_findings block ≡ n
    → sum_by block_findings (cond (a && (not f || not (n == 0))) (block ∷ more) more)
    ≡ cond a (n + sum_by block_findings more) (sum_by block_findings more)
kept_sum false f block more n e = refl
kept_sum true false block more n e = sum_first block more n e
kept_sum true true block more n e = by (n == 0) refl
  where
    nothing : (k m : ℕ) → k ≡ 0 → m ≡ k + m
    nothing k m z = omega arith

    by : (b : Bool) → (n == 0) ≡ b → sum_by block_findings (cond (not b) (block ∷ more) more) ≡ n + sum_by block_findings more
    by true z = nothing n (sum_by block_findings more) (eqb-true n 0 z)
    by false z = sum_first block more n e
