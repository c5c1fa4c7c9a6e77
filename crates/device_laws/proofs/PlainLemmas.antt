-- What is asked of the database only adds lines.
use Rattle.std.proofs.Common.{◌≡◌, ℕ, suc, ◌+◌, Bool, true, false, not, cond, List, [], ◌∷◌, ◌++◌, length, map, filter, Option, Some, None, refl, sym, ap, ◌∙◌}
use Rattle.std.specs.Prelude.{◌&&◌, ◌||◌, sum_by, codes}
use Rattle.std.specs.List.{list_all, flat_map}
use Rattle.std.proofs.lemmas.List.Sums.{sum_by-cons}
use Rattle.hive_model.specs.Tree.{Tree}
use Rattle.device_rule.specs.declared.lines.DeviceLine.{DeviceLine}
use Rattle.device_rule.specs.declared.lines.DeviceLine.TheVariants as lines
use Rattle.device_rule.specs.declared.scope.Scope.{Scope}
use Rattle.device_rule.specs.declared.scope.DeviceSet.{DeviceSet}
use Rattle.device_rule.specs.declared.scope.Selection.{Selection}
use Rattle.device_rule.specs.declared.block.Block.{Block}
use Rattle.device_rule.specs.declared.device.Device.{Device}
use Rattle.device_rule.specs.Values.{text_of}
use Rattle.device_rule.specs.Database.{match_lines, critical_lines}
use Rattle.device_rule.specs.Devices.{line_when, class_of, about_lines, stack_lines, block_of, block_findings}
use Rattle.device_rule.specs.Report.{set_of, is_shown, blocks_in, lines_in, of_lines, database_lines, opening_lines, enum_lines, class_part, closing_lines, finding_lines, found_in, device_lines}
use Rattle.device_laws.proofs.ListLemmas.{append_all, dropped, both_parts, whole, imply_all}
use Rattle.device_laws.specs.Blocks.{without_database, is_plain, DatabaseOnlyAdds}
use Rattle.device_laws.proofs.TellLemmas.{when_all, is_own, about_own, stack_own, own_is_plain, match_match, is_match, match_no_plain, class_all, critical_all}
use Rattle.device_laws.proofs.SameLemmas.{own_lines, first_line, found_same, shown_same}

-- ---- a block

own_plain : (scope : Scope) (d : Device) → list_all is_plain (own_lines scope d) ≡ true
own_plain scope d =
    let class = class_of scope.classes (text_of (codes "ClassGUID") d.key) in
    imply_all is_own is_plain (about_lines d.key ++ stack_lines scope.services class d.key) own_is_plain
    (append_all is_own (about_lines d.key) (stack_lines scope.services class d.key) (about_own d.key)
    (stack_own scope.services class d.key))

block_plain : (ids : Bool) (scope : Scope) (d : Device)
    → (block_of false scope d).lines ≡ filter is_plain (block_of ids scope d).lines
block_plain ids scope d =
    let matches = match_lines ids scope d.key in
    ap (λ (ls : List DeviceLine). first_line scope d ∷ ls)
    (both_parts is_plain (own_lines scope d) [] (own_lines scope d) matches (whole is_plain (own_lines scope d) (own_plain scope d))
    (sym (dropped is_plain matches (imply_all is_match (λ l. not (is_plain l)) matches match_no_plain (match_match ids scope d.key)))))

-- ---- the blocks that are told

length_by : (p q : Block) (ps qs : List Block) (b : Bool) → length ps ≡ length qs → length (cond b (p ∷ ps) ps) ≡ length (cond b (q ∷ qs) qs)
length_by p q ps qs true e = ap suc e
length_by p q ps qs false e = e

lengths : (only : Selection) (scope : Scope) (ds : List Device)
    → length (filter (is_shown (without_database only)) (map (block_of false scope) ds))
    ≡ length (filter (is_shown only) (map (block_of only.ids scope) ds))
lengths only scope [] = refl
lengths only scope (d ∷ ds) =
    let ps = filter (is_shown (without_database only)) (map (block_of false scope) ds) in
    let qs = filter (is_shown only) (map (block_of only.ids scope) ds) in
    ap (λ (b : Bool). length (cond b (block_of false scope d ∷ ps) ps)) (shown_same only scope d)
    ∙ length_by (block_of false scope d) (block_of only.ids scope d) ps qs (is_shown only (block_of only.ids scope d)) (lengths only scope ds)

sum_with : (p q : Block) (ps qs : List Block) (b : Bool) → block_findings p ≡ block_findings q
    → sum_by block_findings ps ≡ sum_by block_findings qs
    → sum_by block_findings (cond b (p ∷ ps) ps) ≡ sum_by block_findings (cond b (q ∷ qs) qs)
sum_with p q ps qs true e f =
    sum_by-cons block_findings p ps ∙ (λ i. e i + f i) ∙ sym (sum_by-cons block_findings q qs)
sum_with p q ps qs false e f = f

sums : (only : Selection) (scope : Scope) (ds : List Device)
    → sum_by block_findings (filter (is_shown (without_database only)) (map (block_of false scope) ds))
    ≡ sum_by block_findings (filter (is_shown only) (map (block_of only.ids scope) ds))
sums only scope [] = refl
sums only scope (d ∷ ds) =
    let ps = filter (is_shown (without_database only)) (map (block_of false scope) ds) in
    let qs = filter (is_shown only) (map (block_of only.ids scope) ds) in
    ap (λ (b : Bool). sum_by block_findings (cond b (block_of false scope d ∷ ps) ps)) (shown_same only scope d)
    ∙ sum_with (block_of false scope d) (block_of only.ids scope d) ps qs (is_shown only (block_of only.ids scope d))
    (found_same only.ids scope d) (sums only scope ds)

flat_with : (p q : Block) (ps qs : List Block) (b : Bool) → p.lines ≡ filter is_plain q.lines
    → flat_map lines_in ps ≡ filter is_plain (flat_map lines_in qs)
    → flat_map lines_in (cond b (p ∷ ps) ps) ≡ filter is_plain (flat_map lines_in (cond b (q ∷ qs) qs))
flat_with p q ps qs true e f = both_parts is_plain p.lines (flat_map lines_in ps) q.lines (flat_map lines_in qs) e f
flat_with p q ps qs false e f = f

flats : (only : Selection) (scope : Scope) (ds : List Device)
    → flat_map lines_in (filter (is_shown (without_database only)) (map (block_of false scope) ds))
    ≡ filter is_plain (flat_map lines_in (filter (is_shown only) (map (block_of only.ids scope) ds)))
flats only scope [] = refl
flats only scope (d ∷ ds) =
    let ps = filter (is_shown (without_database only)) (map (block_of false scope) ds) in
    let qs = filter (is_shown only) (map (block_of only.ids scope) ds) in
    ap (λ (b : Bool). flat_map lines_in (cond b (block_of false scope d ∷ ps) ps)) (shown_same only scope d)
    ∙ flat_with (block_of false scope d) (block_of only.ids scope d) ps qs (is_shown only (block_of only.ids scope d))
    (block_plain only.ids scope d) (flats only scope ds)

-- ---- the report

of_plain : (services : List Tree) (o : Option (List ℕ)) → list_all is_plain (of_lines services o) ≡ true
of_plain services None = refl
of_plain services (Some name) = refl

no_database : (b : Bool) → [] ≡ filter is_plain (line_when b lines.NoDatabase)
no_database true = refl
no_database false = refl

opening_plain : (number : ℕ) (set : DeviceSet) (only : Selection)
    → opening_lines number set (without_database only) ≡ filter is_plain (opening_lines number set only)
opening_plain number set only =
    ap (λ (ls : List DeviceLine). lines.Set number ∷ ls)
    (both_parts is_plain (of_lines set.scope.services only.of) [] (of_lines set.scope.services only.of) (database_lines set only)
    (whole is_plain (of_lines set.scope.services only.of) (of_plain set.scope.services only.of))
    (no_database ((only.ids || only.critical) && not set.has_database)))

findings_plain : (set : DeviceSet) (only : Selection)
    → finding_lines set (without_database only) ≡ filter is_plain (finding_lines set only)
findings_plain set only =
    let less = without_database only in
    both_parts is_plain (enum_lines set ++ flat_map lines_in (blocks_in set less)) (class_part set only)
    (enum_lines set ++ flat_map lines_in (blocks_in set only)) (class_part set only)
    (both_parts is_plain (enum_lines set) (flat_map lines_in (blocks_in set less)) (enum_lines set) (flat_map lines_in (blocks_in set only))
    (whole is_plain (enum_lines set) (when_all is_plain (not set.has_enum) lines.NoEnum refl))
    (flats only set.scope set.devices))
    (whole is_plain (class_part set only) (class_all is_plain (λ f c k. refl) (λ r c k d. refl) set.scope.services only.of set.scope.classes))

closing_plain : (set : DeviceSet) (only : Selection)
    → closing_lines (length (blocks_in set (without_database only))) (length set.devices) (found_in set (without_database only))
    ≡ filter is_plain (closing_lines (length (blocks_in set only)) (length set.devices) (found_in set only))
closing_plain set only =
    λ i. lines.Devices (lengths only set.scope set.devices i) (length set.devices)
    ∷ lines.Found (length (enum_lines set) + sums only set.scope set.devices i + length (class_part set only)) ∷ lines.End ∷ []

pub database_adds : DatabaseOnlyAdds
unfolding device_lines
database_adds number None only = refl
database_adds number (Some keys) only =
    let set = set_of keys in
    let less = without_database only in
    let critical = critical_lines only.critical set.scope only.of in
    let closing = closing_lines (length (blocks_in set only)) (length set.devices) (found_in set only) in
    let fewer = closing_lines (length (blocks_in set less)) (length set.devices) (found_in set less) in
    both_parts is_plain ((opening_lines number set less ++ finding_lines set less) ++ []) fewer
    ((opening_lines number set only ++ finding_lines set only) ++ critical) closing
    (both_parts is_plain (opening_lines number set less ++ finding_lines set less) []
    (opening_lines number set only ++ finding_lines set only) critical
    (both_parts is_plain (opening_lines number set less) (finding_lines set less) (opening_lines number set only) (finding_lines set only)
    (opening_plain number set only) (findings_plain set only))
    (sym (dropped is_plain critical (critical_all (λ l. not (is_plain l)) (λ e d. refl) only.critical set.scope only.of))))
    (closing_plain set only)
