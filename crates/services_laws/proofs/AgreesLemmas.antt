-- What `services` and `check` say of one key.
use Rattle.std.proofs.Common.{◌≡◌, ◌<◌, ℕ, zero, suc, Bool, true, false, not, ◌&&◌, cond, List, [], ◌∷◌, ◌++◌, length, get_or, Option, Some, None, refl, sym, ap, ◌∙◌, arith}
use Rattle.std.specs.Prelude.{◌==◌, ◌||◌, bit_and, codes}
use Rattle.std.specs.Int.{w32, from_le_bytes}
use Rattle.std.specs.List.{Contains}
use Rattle.std.specs.Option.{option_map_or, option_map, is_some}
use Rattle.std.proofs.lemmas.Bool.{false≢true, cond-false}
use Rattle.hive_model.specs.Tree.{Tree, Item, find_item, find_dword, dword_in}
use Rattle.start_model.specs.Entries.{Entry, entry_of, entry_with, is_service}
use Rattle.answer_lines.specs.declared.check_lines.lines.Fault.{Fault}
use Rattle.answer_lines.specs.declared.check_lines.lines.Fault.TheVariants as faults
use Rattle.answer_lines.specs.declared.why_lines.lines.EntryKind.TheVariants as kinds
use Rattle.service_check.specs.Children.{when, has_image, is_no_dword, service_faults}
use Rattle.service_list.specs.declared.field.Field.TheVariants as fields
use Rattle.service_list.specs.Fields.{other_of, number_in}
use Rattle.service_list.specs.Kinds.{kind_in, kind_of, is_service_kind, is_listed}
use Rattle.service_list.specs.Marks.{texts_of}
use Rattle.services_laws.specs.Agrees.{UnlistedAgrees, is_missing, is_other, NoStartAgrees, NoTypeAgrees, MalformedAgrees, is_two_or_three, has_no_image, NoImageAgrees, NoImageWithoutAny}
use Rattle.services_laws.proofs.MarkedLemmas.{marks_stand}

-- ---- what isn't listed

pub unlisted_agrees : UnlistedAgrees
unlisted_agrees s t e = cond-false (is_listed t) (service_faults s t) [] e

-- ---- what is missing

number_is_there : (v : Item) → is_missing (number_in v) ≡ false
number_is_there v = by_case (dword_in v)
  where
    by_case : (o : Option ℕ) → is_missing (option_map_or fields.Number o (other_of v)) ≡ false
    by_case (Some n) = refl
    by_case None = refl

not_that : (f g : Fault) → (f ≡ g → ⊥) → Contains (f ∷ []) g → ⊥
not_that f g differs h = at h.0 h.1 h.2
  where
    at : (k : ℕ) → k < length (f ∷ []) → get_or (f ∷ []) k g ≡ g → ⊥
    at zero less e = differs e
    at (suc k) less e = absurd (omega (arith, less))

not_there : (g : Fault) → Contains [] g → ⊥
not_there g h = absurd (omega (arith, h.1))

-- the fault is there exactly where the field is `-`
abbrev Agree : List Fault → Fault → Bool → Type 0
Agree found fault missing = (Contains found fault → missing ≡ true) × (missing ≡ true → Contains found fault)

-- of two values, of which one is there
starts : (s k : Option Item) → (is_some s || is_some k) ≡ true
    → Agree (when (is_some k && not (is_some s)) faults.NoStart ++ when (is_some s && not (is_some k)) faults.NoType) faults.NoStart
    (is_missing (option_map_or number_in s fields.Missing))
starts (Some v) (Some w) listed = (λ h. absurd (not_there faults.NoStart h), λ e. absurd (false≢true (sym (number_is_there v) ∙ e)))
starts (Some v) None listed =
    (λ h. absurd (not_that faults.NoType faults.NoStart (λ e. absurd cc) h), λ e. absurd (false≢true (sym (number_is_there v) ∙ e)))
starts None (Some w) listed = (λ h. refl, λ e. (0, omega arith, refl))
starts None None listed = absurd (false≢true listed)

types : (s k : Option Item) → (is_some s || is_some k) ≡ true
    → Agree (when (is_some k && not (is_some s)) faults.NoStart ++ when (is_some s && not (is_some k)) faults.NoType) faults.NoType
    (is_missing (option_map_or number_in k fields.Missing))
types (Some v) (Some w) listed = (λ h. absurd (not_there faults.NoType h), λ e. absurd (false≢true (sym (number_is_there w) ∙ e)))
types (Some v) None listed = (λ h. refl, λ e. (0, omega arith, refl))
types None (Some w) listed =
    (λ h. absurd (not_that faults.NoStart faults.NoType (λ e. absurd cc) h), λ e. absurd (false≢true (sym (number_is_there w) ∙ e)))
types None None listed = absurd (false≢true listed)

pub no_start_agrees : NoStartAgrees
no_start_agrees t listed = starts (find_item (codes "Start") t) (find_item (codes "Type") t) listed

pub no_type_agrees : NoTypeAgrees
no_type_agrees t listed = types (find_item (codes "Start") t) (find_item (codes "Type") t) listed

-- ---- what is malformed

bracketed : (v : Item) → is_no_dword v ≡ is_other (number_in v)
bracketed v = by_case ((v.kind == 4) && (length v.bytes == 4))
  where
    by_case : (b : Bool)
        → not b ≡ is_other (option_map_or fields.Number (cond b (Some (from_le_bytes w32 v.bytes)) None) (other_of v))
    by_case true = refl
    by_case false = refl

malformed : (o : Option Item) → option_map_or is_no_dword o false ≡ is_other (option_map_or number_in o fields.Missing)
malformed None = refl
malformed (Some v) = bracketed v

pub malformed_agrees : MalformedAgrees
malformed_agrees = record {
  start = λ t. malformed (find_item (codes "Start") t);
  kind = λ t. malformed (find_item (codes "Type") t);
  control = λ t. malformed (find_item (codes "ErrorControl") t);
  tag = λ t. malformed (find_item (codes "Tag") t);
}

-- ---- images

service_same : (kind : ℕ) → is_service_kind (kind_in kind) ≡ is_service kind
service_same kind = by_cases (bit_and kind 0x0b == 0) (bit_and kind 0x30 == 0)
  where
    by_cases : (c s : Bool) → is_service_kind (cond (not c) kinds.Driver (cond (not s && c) kinds.Service kinds.Other)) ≡ (not s && c)
    by_cases true true = refl
    by_cases true false = refl
    by_cases false true = refl
    by_cases false false = refl

its_type : (t : Tree) (start kind : Option ℕ) (e : Entry) → entry_with t start kind ≡ Some e → kind ≡ Some e.kind
its_type t (Some start) (Some kind) e is = ap (option_map (λ (x : Entry). x.kind)) is
its_type t (Some start) None e is = absurd cc
its_type t None kind e is = absurd cc

service_is : (t : Tree) (e : Entry) → entry_of t ≡ Some e → is_service_kind (kind_of t) ≡ is_service e.kind
service_is t e is =
    ap (λ (o : Option ℕ). is_service_kind (option_map_or kind_in o kinds.Other))
    (its_type t (find_dword (codes "Start") t) (find_dword (codes "Type") t) e is)
    ∙ service_same e.kind

turned : (s w h : Bool) → (true && (s && w) && not h) ≡ (w && (s && not h))
turned true true true = refl
turned true true false = refl
turned true false true = refl
turned true false false = refl
turned false true true = refl
turned false true false = refl
turned false false true = refl
turned false false false = refl

pub no_image_agrees : NoImageAgrees
no_image_agrees t e is =
    let mark : has_no_image t ≡ (is_service e.kind && not (has_image t)) =
    marks_stand.no_image (kind_of t) (texts_of t).image (texts_of t).dll (texts_of t).own ∙ ap (λ b. b && not (has_image t)) (service_is t e is) in
    ap (λ b. when b faults.NoImage)
    (turned (is_service e.kind) (is_two_or_three e) (has_image t) ∙ ap (λ b. is_two_or_three e && b) (sym mark))

pub no_image_without_any : NoImageWithoutAny
no_image_without_any t e = refl
