-- The objects of a report tell its lines.
use Rattle.std.proofs.Common.{◌≡◌, ℕ, List, [], ◌∷◌, ◌++◌, map, Some, None, bytes_eq, refl, sym, ap, ◌∙◌}
use Rattle.std.specs.Prelude.{if◌then◌else◌, codes}
use Rattle.report_text.specs.declared.line_text.form.ReportForm.{ReportForm}
use Rattle.report_text.specs.declared.line_text.form.ReportForm.TheVariants as forms
use Rattle.line_parts.specs.Pieces.{Piece}
use Rattle.line_parts.specs.Parts as parts
use Rattle.line_parts.specs.Parts.{Part, Said, Number, Word, Quoted, Path, WideHex, part_pieces}
use Rattle.line_laws.specs.Layouts.{Layouts, IsToldBy, AreToldBy, HaveValues}
use Rattle.line_laws.proofs.Lines.{texts_told}
use Rattle.device_rule.specs.declared.lines.Role.{Role}
use Rattle.device_rule.specs.declared.lines.Driver.{Driver}
use Rattle.device_rule.specs.declared.lines.DriverState.{DriverState}
use Rattle.device_rule.specs.declared.lines.DriverState.TheVariants as drivers
use Rattle.device_rule.specs.declared.lines.DeviceLine.{DeviceLine}
use Rattle.device_rule.specs.declared.lines.DeviceLine.TheVariants as lines
use Rattle.device_command.specs.Lines.{said_of, printed_lines}

-- ---- how the text of a line is laid out, by its object

-- a number where the object has one more field
abbrev number_layout : List Piece → List Part
number_layout [] = []
number_layout (p ∷ ps) = Number [] 0 ∷ []

-- a driver, by its two fields and the number after them
abbrev driver_layout : List Piece → List Part
driver_layout (name ∷ state ∷ rest) = Quoted [] [] ∷ Word [] [] ∷ number_layout rest
driver_layout _ = []

-- a driver after one field
abbrev second_layout : Part → List Piece → List Part
second_layout first (p ∷ rest) = first ∷ driver_layout rest
second_layout first [] = []

-- a driver after three
abbrev fourth_layout : List Piece → List Part
fourth_layout (role ∷ class ∷ key ∷ rest) = Word [] [] ∷ Quoted [] [] ∷ Quoted [] [] ∷ driver_layout rest
fourth_layout _ = []

-- a device, by whether its object has a class
abbrev device_layout : List Piece → List Part
device_layout (state ∷ class ∷ path ∷ rest) = Word [] [] ∷ Quoted [] [] ∷ Path [] [] ∷ []
device_layout _ = Word [] [] ∷ Said (codes "none") ∷ Path [] [] ∷ []

abbrev parts_by : List ℕ → List Piece → List Part
parts_by word pieces =
    if bytes_eq word (codes "load") then second_layout (Word [] []) pieces
    else if bytes_eq word (codes "device") then device_layout pieces
    else if bytes_eq word (codes "bound") then second_layout (Quoted [] []) pieces
    else if bytes_eq word (codes "critical") then second_layout (Quoted [] []) pieces
    else if bytes_eq word (codes "class-filter") then fourth_layout pieces
    else if bytes_eq word (codes "of") then driver_layout pieces
    else if bytes_eq word (codes "description") then Quoted [] [] ∷ []
    else if bytes_eq word (codes "flags") then WideHex [] 0 ∷ []
    else if bytes_eq word (codes "malformed") then Word [] [] ∷ []
    else if bytes_eq word (codes "class-malformed") then Word [] [] ∷ Quoted [] [] ∷ Quoted [] [] ∷ []
    else if bytes_eq word (codes "devices") then Number [] 0 ∷ Said (codes "of") ∷ Number [] 0 ∷ []
    else number_layout pieces

abbrev layouts : Layouts
layouts word pieces = record { head = word; parts = parts_by word pieces }

-- ---- each line

of_told : (driver : Driver) (state : DriverState) → IsToldBy layouts (said_of (lines.Of (record driver { state = state })))
unfolding part_pieces
of_told driver (drivers.Beyond start) = record { words = refl; laid = refl }
of_told driver (drivers.Kind kind) = record { words = refl; laid = refl }
of_told driver (drivers.Ready start) = record { words = refl; laid = refl }
of_told driver state = record { words = refl; laid = refl }

load_told : (role : Role) (driver : Driver) (state : DriverState) → IsToldBy layouts (said_of (lines.Load role (record driver { state = state })))
unfolding part_pieces
load_told role driver (drivers.Beyond start) = record { words = refl; laid = refl }
load_told role driver (drivers.Kind kind) = record { words = refl; laid = refl }
load_told role driver (drivers.Ready start) = record { words = refl; laid = refl }
load_told role driver state = record { words = refl; laid = refl }

bound_told : (entry : List ℕ) (driver : Driver) (state : DriverState)
    → IsToldBy layouts (said_of (lines.Bound entry (record driver { state = state })))
unfolding part_pieces
bound_told entry driver (drivers.Beyond start) = record { words = refl; laid = refl }
bound_told entry driver (drivers.Kind kind) = record { words = refl; laid = refl }
bound_told entry driver (drivers.Ready start) = record { words = refl; laid = refl }
bound_told entry driver state = record { words = refl; laid = refl }

critical_told : (entry : List ℕ) (driver : Driver) (state : DriverState)
    → IsToldBy layouts (said_of (lines.Critical entry (record driver { state = state })))
unfolding part_pieces
critical_told entry driver (drivers.Beyond start) = record { words = refl; laid = refl }
critical_told entry driver (drivers.Kind kind) = record { words = refl; laid = refl }
critical_told entry driver (drivers.Ready start) = record { words = refl; laid = refl }
critical_told entry driver state = record { words = refl; laid = refl }

filter_told : (role : Role) (class key : List ℕ) (driver : Driver) (state : DriverState)
    → IsToldBy layouts (said_of (lines.ClassFilter role class key (record driver { state = state })))
unfolding part_pieces
filter_told role class key driver (drivers.Beyond start) = record { words = refl; laid = refl }
filter_told role class key driver (drivers.Kind kind) = record { words = refl; laid = refl }
filter_told role class key driver (drivers.Ready start) = record { words = refl; laid = refl }
filter_told role class key driver state = record { words = refl; laid = refl }

is_told : (l : DeviceLine) → IsToldBy layouts (said_of l)
unfolding part_pieces
is_told (lines.Of driver) = of_told driver driver.state
is_told (lines.Load role driver) = load_told role driver driver.state
is_told (lines.Bound entry driver) = bound_told entry driver driver.state
is_told (lines.Critical entry driver) = critical_told entry driver driver.state
is_told (lines.ClassFilter role class key driver) = filter_told role class key driver driver.state
is_told (lines.Device state (Some class) path) = record { words = refl; laid = refl }
is_told (lines.Device state None path) = record { words = refl; laid = refl }
is_told l = record { words = refl; laid = refl }

are_told : (ls : List DeviceLine) → AreToldBy layouts (map said_of ls)
are_told [] = tt
are_told (l ∷ ls) = (is_told l, are_told ls)

as_lines : (form : ReportForm) (ls : List DeviceLine) → printed_lines form ls ≡ parts.printed_lines form (map said_of ls)
unfolding printed_lines
as_lines form [] = refl
as_lines form (l ∷ ls) = ap (λ (t : List ℕ). parts.printed form (said_of l) ++ t) (as_lines form ls)

pub report_told : (ks ls : List DeviceLine) → HaveValues (map said_of ks) → HaveValues (map said_of ls)
    → printed_lines forms.Json ks ≡ printed_lines forms.Json ls → printed_lines forms.Text ks ≡ printed_lines forms.Text ls
report_told ks ls values_k values_l e =
    as_lines forms.Text ks
    ∙ texts_told layouts (map said_of ks) (map said_of ls) (are_told ks) (are_told ls) values_k values_l
    (sym (as_lines forms.Json ks) ∙ e ∙ as_lines forms.Json ls)
    ∙ sym (as_lines forms.Text ls)
