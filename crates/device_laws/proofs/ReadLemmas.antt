-- The blocks of a report, read line by line.
use Rattle.std.proofs.Common.{◌≡◌, ℕ, Bool, true, false, not, cond, List, [], ◌∷◌, ◌++◌, length, map, filter, Option, Some, None, refl, ap, ◌∙◌, append-nil, append_assoc}
use Rattle.std.specs.Prelude.{◌&&◌, ◌||◌, codes}
use Rattle.std.specs.List.{list_all, flat_map}
use Rattle.std.proofs.lemmas.Bool.{false≢true, and_parts, and_from}
use Rattle.device_rule.specs.declared.lines.DeviceState.{DeviceState}
use Rattle.device_rule.specs.declared.lines.Driver.{Driver}
use Rattle.device_rule.specs.declared.lines.DeviceLine.{DeviceLine}
use Rattle.device_rule.specs.declared.lines.DeviceLine.TheVariants as lines
use Rattle.device_rule.specs.declared.scope.Scope.{Scope}
use Rattle.device_rule.specs.declared.scope.SetKeys.{SetKeys}
use Rattle.device_rule.specs.declared.scope.DeviceSet.{DeviceSet}
use Rattle.device_rule.specs.declared.scope.Selection.{Selection}
use Rattle.device_rule.specs.declared.block.Block.{Block}
use Rattle.device_rule.specs.declared.device.Device.{Device}
use Rattle.device_rule.specs.Values.{text_of}
use Rattle.device_rule.specs.Database.{match_lines, critical_lines}
use Rattle.device_rule.specs.Devices.{device_state, class_of, class_name, about_lines, stack_lines, block_of}
use Rattle.device_rule.specs.Report.{set_of, is_shown, blocks_in, lines_in, of_lines, database_lines, opening_lines, enum_lines, class_part, closing_lines, found_in, device_lines}
use Rattle.device_laws.proofs.ListLemmas.{append_all, imply_all}
use Rattle.device_laws.specs.Told.{is_device, is_about, Read, with_line, read_of, blocks_told}
use Rattle.device_laws.proofs.TellLemmas.{when_all, is_own, about_own, stack_own, own_is_about, match_about, is_other, opening_other, enum_other, class_other, critical_other, closing_other}

-- ---- a line

abbrev nothing : Read
nothing = record { rest = []; blocks = [] }

-- what the two sorts of lines do
abbrev going_on : DeviceLine → Read → Read
going_on l r = record { rest = l ∷ r.rest; blocks = r.blocks }

abbrev set_apart : Bool → DeviceLine → Read → Read
set_apart b l r = record { rest = []; blocks = cond b ((l ∷ r.rest) ∷ r.blocks) r.blocks }

about_line : (l : DeviceLine) (r : Read) → is_about l ≡ true → with_line l r ≡ going_on l r
about_line l r h = ap (λ b. cond b (going_on l r) (set_apart (is_device l) l r)) h

other_line : (l : DeviceLine) (r : Read) → is_other l ≡ true → with_line l r ≡ set_apart false l r
other_line l r h = by (is_about l) (is_device l) h
  where
    by : (a b : Bool) → not (a || b) ≡ true → cond a (going_on l r) (set_apart b l r) ≡ set_apart false l r
    by true b h = absurd (false≢true h)
    by false true h = absurd (false≢true h)
    by false false h = refl

-- ---- lines

abouts : (xs ys : List DeviceLine) → list_all is_about xs ≡ true
    → read_of (xs ++ ys) ≡ record { rest = xs ++ (read_of ys).rest; blocks = (read_of ys).blocks }
abouts [] ys h = refl
abouts (x ∷ xs) ys h =
    let both = and_parts (is_about x) (list_all is_about xs) h in
    about_line x (read_of (xs ++ ys)) both.0
    ∙ ap (λ (r : Read). record { rest = x ∷ r.rest; blocks = r.blocks }) (abouts xs ys both.1)

others_before : (xs ys : List DeviceLine) → list_all is_other xs ≡ true → blocks_told (xs ++ ys) ≡ blocks_told ys
others_before [] ys h = refl
others_before (x ∷ xs) ys h =
    let both = and_parts (is_other x) (list_all is_other xs) h in
    ap (λ (r : Read). r.blocks) (other_line x (read_of (xs ++ ys)) both.0) ∙ others_before xs ys both.1

others_alone : (xs : List DeviceLine) → list_all is_other xs ≡ true → read_of xs ≡ nothing
others_alone [] h = refl
others_alone (x ∷ xs) h =
    let both = and_parts (is_other x) (list_all is_other xs) h in
    other_line x (read_of xs) both.0
    ∙ ap (λ (r : Read). record { rest = []; blocks = r.blocks }) (others_alone xs both.1)

-- ---- blocks

-- what follows the first line of a block
abbrev pub block_rest : Bool → Scope → Device → List DeviceLine
block_rest ids scope d =
    about_lines d.key
    ++ stack_lines scope.services (class_of scope.classes (text_of (codes "ClassGUID") d.key)) d.key ++ match_lines ids scope d.key

pub rest_about : (ids : Bool) (scope : Scope) (d : Device) → list_all is_about (block_rest ids scope d) ≡ true
rest_about ids scope d =
    let stack = stack_lines scope.services (class_of scope.classes (text_of (codes "ClassGUID") d.key)) d.key in
    append_all is_about (about_lines d.key ++ stack) (match_lines ids scope d.key)
    (imply_all is_own is_about (about_lines d.key ++ stack) own_is_about
    (append_all is_own (about_lines d.key) stack (about_own d.key)
    (stack_own scope.services (class_of scope.classes (text_of (codes "ClassGUID") d.key)) d.key)))
    (match_about ids scope d.key)

block_read : (ids : Bool) (scope : Scope) (d : Device) (ys : List DeviceLine) (blocks : List (List DeviceLine))
    → read_of ys ≡ record { rest = []; blocks = blocks }
    → read_of ((block_of ids scope d).lines ++ ys) ≡ record { rest = []; blocks = (block_of ids scope d).lines ∷ blocks }
block_read ids scope d ys blocks e =
    let guid = text_of (codes "ClassGUID") d.key in
    let first = lines.Device (device_state d.key) (class_name guid (class_of scope.classes guid)) d.path in
    let rest = block_rest ids scope d in
    ap (λ (r : Read). record { rest = []; blocks = (first ∷ r.rest) ∷ r.blocks })
    (abouts rest ys (rest_about ids scope d)
    ∙ ap (λ (r : Read). record { rest = rest ++ r.rest; blocks = r.blocks }) e)
    ∙ ap (λ (ls : List DeviceLine). record { rest = []; blocks = (first ∷ ls) ∷ blocks }) (append-nil rest)

shown_by : (ids : Bool) (scope : Scope) (d : Device) (more : List Block) (ys : List DeviceLine) (b : Bool)
    → read_of (flat_map lines_in more ++ ys) ≡ record { rest = []; blocks = map lines_in more }
    → read_of (flat_map lines_in (cond b (block_of ids scope d ∷ more) more) ++ ys)
    ≡ record { rest = []; blocks = map lines_in (cond b (block_of ids scope d ∷ more) more) }
shown_by ids scope d more ys true e =
    ap read_of (append_assoc (block_of ids scope d).lines (flat_map lines_in more) ys)
    ∙ block_read ids scope d (flat_map lines_in more ++ ys) (map lines_in more) e
shown_by ids scope d more ys false e = e

shown_read : (only : Selection) (scope : Scope) (ds : List Device) (ys : List DeviceLine) → read_of ys ≡ nothing
    → read_of (flat_map lines_in (filter (is_shown only) (map (block_of only.ids scope) ds)) ++ ys)
    ≡ record { rest = []; blocks = map lines_in (filter (is_shown only) (map (block_of only.ids scope) ds)) }
shown_read only scope [] ys e = e
shown_read only scope (d ∷ ds) ys e =
    shown_by only.ids scope d (filter (is_shown only) (map (block_of only.ids scope) ds)) ys
    (is_shown only (block_of only.ids scope d)) (shown_read only scope ds ys e)

-- ---- tests of all lines of a part

-- of the lines before the blocks
pub opening_all : (p : DeviceLine → Bool) (number : ℕ) (set : DeviceSet) (only : Selection) → p (lines.Set number) ≡ true
    → ((d : Driver) → p (lines.Of d) ≡ true) → p lines.NoDatabase ≡ true → list_all p (opening_lines number set only) ≡ true
opening_all p number set only first asked missing =
    and_from (p (lines.Set number)) _ first
    (append_all p (of_lines set.scope.services only.of) (database_lines set only) (of only.of)
    (when_all p ((only.ids || only.critical) && not set.has_database) lines.NoDatabase missing))
  where
    of : (o : Option (List ℕ)) → list_all p (of_lines set.scope.services o) ≡ true
    of None = refl
    of (Some name) = and_from _ true (asked _) refl

kept_all : (p : DeviceLine → Bool) (b : Bool) (block : Block) (more : List Block) → list_all p block.lines ≡ true
    → list_all p (flat_map lines_in more) ≡ true → list_all p (flat_map lines_in (cond b (block ∷ more) more)) ≡ true
kept_all p true block more e f = append_all p block.lines (flat_map lines_in more) e f
kept_all p false block more e f = f

-- of the lines of the blocks
pub shown_all : (p : DeviceLine → Bool) → ((l : DeviceLine) → is_about l ≡ true → p l ≡ true)
    → ((state : DeviceState) (class : Option (List ℕ)) (path : List (List ℕ)) → p (lines.Device state class path) ≡ true)
    → (only : Selection) (scope : Scope) (ds : List Device)
    → list_all p (flat_map lines_in (filter (is_shown only) (map (block_of only.ids scope) ds))) ≡ true
shown_all p about first only scope [] = refl
shown_all p about first only scope (d ∷ ds) =
    kept_all p (is_shown only (block_of only.ids scope d)) (block_of only.ids scope d)
    (filter (is_shown only) (map (block_of only.ids scope) ds))
    (and_from _ _ (first (device_state d.key) _ d.path)
    (imply_all is_about p (block_rest only.ids scope d) about (rest_about only.ids scope d)))
    (shown_all p about first only scope ds)

-- ---- the report

regroup : {X : Type 0} (a b c d e f : List X) → ((a ++ ((b ++ c) ++ d)) ++ e) ++ f ≡ (a ++ b) ++ (c ++ (d ++ (e ++ f)))
regroup a b c d e f = simp append_assoc

-- the blocks of a report are those that are shown
pub blocks_read : (number : ℕ) (keys : SetKeys) (only : Selection)
    → blocks_told (device_lines number (Some keys) only) ≡ map lines_in (blocks_in (set_of keys) only)
unfolding device_lines
blocks_read number keys only =
    let set = set_of keys in
    let opening = opening_lines number set only in
    let enum = enum_lines set in
    let shown = flat_map lines_in (blocks_in set only) in
    let classes = class_part set only in
    let critical = critical_lines only.critical set.scope only.of in
    let closing = closing_lines (length (blocks_in set only)) (length set.devices) (found_in set only) in
    ap blocks_told (regroup opening enum shown classes critical closing)
    ∙ others_before (opening ++ enum) (shown ++ (classes ++ (critical ++ closing)))
    (append_all is_other opening enum (opening_other number set only) (enum_other set))
    ∙ ap (λ (r : Read). r.blocks)
    (shown_read only set.scope set.devices (classes ++ (critical ++ closing))
    (others_alone (classes ++ (critical ++ closing))
    (append_all is_other classes (critical ++ closing) (class_other set only)
    (append_all is_other critical closing (critical_other only.critical set.scope only.of)
    (closing_other (length (blocks_in set only)) (length set.devices) (found_in set only))))))
