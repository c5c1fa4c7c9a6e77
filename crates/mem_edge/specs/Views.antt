-- What vectors of sectors, maps of sectors and lists of writes stand for. (This project's own.)
use Rattle.std.specs.Prelude.{◌<◌, ℕ, List, [], ◌∷◌, map, length, Option, Some, None, slice_index_or}
use Rattle.std.specs.Ordering.{nat_cmp}
use Rattle.std.specs.BTreeMap as tree
use Rattle.std.specs.Rc.{rc_value}
use Rattle.std.specs.declared.rc.Rc.{Rc}
use Rattle.hive_model.specs.Image.{Content, Bytes, Unreadable, Image, Write, of_file, overlaid}
use Rattle.nt_edge.specs.Crash.{torn}
use Rattle.nt_edge.specs.declared.disk.Keep.{Keep}
use Rattle.nt_edge.specs.declared.disk.Keep.TheVariants.{Nothing, Everything, OddOnes, Torn}
use Rattle.nt_edge.specs.declared.disk.Presence.{Presence}
use Rattle.nt_edge.specs.declared.disk.Presence.TheVariants as presences
use Rattle.mem_edge.specs.declared.image.MemImage.{MemImage}
use Rattle.mem_edge.specs.declared.writes.InFlight.{InFlight}
use Rattle.mem_edge.specs.declared.writes.Latest.{Latest}
use Rattle.mem_edge.specs.declared.writes.Sector.{Sector}
use Rattle.mem_edge.specs.declared.writes.Sector.TheVariants as sectors

-- what a sector has
abbrev pub content_of : Sector → Option Content
content_of sectors.Absent = None
content_of (sectors.Whole bytes) = Some (Bytes (rc_value bytes))
content_of sectors.Unreadable = Some Unreadable

-- these bytes, where there are any
abbrev pub whole_of : {Z : Type 0} → Option (Rc (List ℕ) Z) → Option Content
whole_of None = None
whole_of (Some bytes) = Some (Bytes (rc_value bytes))

-- what a read found, by its answer and the bytes that it gave out
abbrev pub found_of : Presence → List ℕ → Option Content
found_of presences.Absent bytes = None
found_of presences.Whole bytes = Some (Bytes bytes)
found_of presences.Unreadable bytes = Some Unreadable

-- what a file's sector has, by its number
abbrev pub held_in : List Sector → ℕ → Option Content
held_in file n = content_of (slice_index_or file n sectors.Absent)

-- the image that two vectors of sectors are
abbrev pub held_of : MemImage → Image
held_of m = λ a. held_in (of_file m.primary.items m.log.items a.file) a.sector

-- the image that two maps from sectors to bytes are
abbrev pub latest_of : Latest → Image
latest_of m = λ a. whole_of (tree.get nat_cmp (of_file m.primary m.log a.file) a.sector)

-- a write in flight
abbrev pub write_of : InFlight → Write
write_of w = (w.at, rc_value w.bytes)

-- the writes in flight
abbrev pub writes_of : List InFlight → List Write
writes_of ws = map write_of ws

-- what the writes in flight bring to each address: the content of the latest one, or nothing
abbrev pub flying : List Write → Image
flying ws = overlaid (λ _. None) ws

-- the first, third, fifth and so on
abbrev pub odd_ones : {A : Type 0} → List A → List A
odd_ones [] = []
odd_ones (x ∷ []) = x ∷ []
odd_ones (x ∷ y ∷ rest) = x ∷ odd_ones rest

-- what a cut leaves of what is held and of the writes in flight
abbrev pub left : Keep → Image → List Write → Image
left Nothing held flight = held
left Everything held flight = overlaid held flight
left OddOnes held flight = overlaid held (odd_ones flight)
left Torn held flight = torn held flight

-- files of that many sectors have a place for each of the writes
abbrev pub HasRoom : ℕ → ℕ → List InFlight → Type 0
HasRoom primary log [] = Unit {0}
HasRoom primary log (w ∷ ws) = (w.at.sector < of_file primary log w.at.file) × HasRoom primary log ws

-- the image's vectors have a place for each of the writes
abbrev pub Holds : MemImage → List InFlight → Type 0
Holds m ws = HasRoom (length m.primary.items) (length m.log.items) ws
