-- What the files of a hive are on a disk of sectors, and what a loss of power may leave of them.
-- (This project's own disk model: each sector is kept or lost by itself.)
use Rattle.std.specs.Prelude.{◌≡◌, ◌⊎◌, ◌<◌, ◌≤◌, ◌+◌, ◌-◌, ◌*◌, ◌==◌, ◌&&◌, Bool, true, false, ℕ, suc, List, [], ◌∷◌, ◌++◌, length, take, drop, replicate, nat_lt, Option, Some, None, if◌then◌else◌}

-- a hive is two files: the primary, and the log that a commit writes first
pub data File : Type 0 where
  Primary : File
  Log : File

-- where a sector stands: its file, and its number in the file from 0 on
pub record Address : Type 0 where
  pub file : File
  pub sector : ℕ

-- what a sector has: its bytes, of which a disk's sector has 512 (that is not asked here, since a read and a write of a disk
-- are of 512 bytes); or none that can be read, which a loss of power may leave where a write was in flight
pub data Content : Type 0 where
  Bytes : List ℕ → Content
  Unreadable : Content

-- the content of each sector that is there. A function, since proofs on crashes go address by address;
-- that only that many sectors are there is said where it matters, in `IsFileOf`.
abbrev pub Image : Type 0
Image = Address → Option Content

-- a test whether two files are one
abbrev pub same_file : File → File → Bool
same_file Primary Primary = true
same_file Log Log = true
same_file Primary Log = false
same_file Log Primary = false

-- a test whether two addresses are one
abbrev pub same_address : Address → Address → Bool
same_address a b = same_file a.file b.file && (a.sector == b.sector)

-- a write: to which sector, and which bytes
abbrev pub Write : Type 0
Write = Address × List ℕ

-- the image after a write
abbrev pub put : Image → Write → Image
put image w = λ a. if same_address w.0 a then Some (Bytes w.1) else image a

-- the image after these writes, in sequence
abbrev pub overlaid : Image → List Write → Image
overlaid image [] = image
overlaid image (w ∷ ws) = overlaid (put image w) ws

-- what a write to a sector may leave there at a loss of power: its bytes, or none that can be read
abbrev pub IsLeftBy : Write → Option Content → Type 0
IsLeftBy w content = (content ≡ Some (Bytes w.1)) ⊎ (content ≡ Some Unreadable)

-- some write in flight to the address may leave this content
abbrev pub IsInFlight : List Write → Address → Option Content → Type 0
IsInFlight [] a content = ⊥
IsInFlight (w ∷ ws) a content = ((same_address w.0 a ≡ true) × IsLeftBy w content) ⊎ IsInFlight ws a content

-- what a loss of power may leave: at each address what is held there, perhaps nothing, or the content
-- of any write in flight to it, or, where there is such a write, none that can be read; each address by itself
abbrev pub IsCrashImage : Image → List Write → Image → Type 0
IsCrashImage held flight image = (a : Address) → (image a ≡ held a) ⊎ IsInFlight flight a (image a)

-- a whole sector: the bytes, filled up to 512 with zeros
abbrev pub padded : List ℕ → List ℕ
padded bytes = bytes ++ replicate (512 - length bytes) 0

-- sector n of a file of these bytes; there is none at or past their end, and so none of an empty file
abbrev pub sector_of : List ℕ → ℕ → Option Content
sector_of bytes n = if nat_lt (512 * n) (length bytes) then Some (Bytes (padded (take 512 (drop (512 * n) bytes)))) else None

-- the image with this file replaced by one of these bytes
abbrev pub with_file : File → List ℕ → Image → Image
with_file file bytes image = λ a. if same_file a.file file then sector_of bytes a.sector else image a

-- one of the two, by the file
abbrev pub of_file : {A : Type 0} → A → A → File → A
of_file primary log Primary = primary
of_file primary log Log = log

-- the image of a primary and a log: the first 32 MiB of each, which are 65,536 sectors; the last sector
-- of a shorter file is filled up with zeros
abbrev pub image_of : List ℕ → List ℕ → Image
image_of primary log = λ a. if nat_lt a.sector 65536 then sector_of (of_file primary log a.file) a.sector else None

-- the bytes of a content, zeros where there is none or it can't be read
abbrev pub bytes_of : Option Content → List ℕ
bytes_of None = replicate 512 0
bytes_of (Some Unreadable) = replicate 512 0
bytes_of (Some (Bytes bytes)) = bytes

-- the bytes of a file's sector, zeros where it is not there or can't be read
abbrev pub sector_in : Image → File → ℕ → List ℕ
sector_in image file n = bytes_of (image (record { file = file; sector = n }))

-- The bytes are a file of the image: its sectors from 0 up to the last one that is there, and zeros for one
-- in between that is not. No sector is there from `count` on, and the last one before it is. A sector that
-- can't be read is there all the same, and has zeros: where it is the last one, the file ends after it.
pub record IsFileOf (image : Image) (file : File) (bytes : List ℕ) : Type 0 where
  pub count : ℕ
  pub long : length bytes ≡ 512 * count
  pub each : (n : ℕ) → n < count → sector_in image file n ≡ take 512 (drop (512 * n) bytes)
  pub no_more : (n : ℕ) → count ≤ n → image (record { file = file; sector = n }) ≡ None
  pub last : (n : ℕ) → count ≡ suc n → image (record { file = file; sector = n }) ≡ None → ⊥

-- a kind of call of a disk
pub data Call : Type 0 where
  Reads : Call
  Writes : Call
  Syncs : Call

-- what a cut leaves of the writes in flight: none, all, or the first, third, fifth and so on; or none, and each
-- sector that a write was in flight to can't be read
pub data Keep : Type 0 where
  Nothing : Keep
  Everything : Keep
  OddOnes : Keep
  Torn : Keep

-- an order for a stop at the n-th call of a kind afterwards
pub data Arming : Type 0 where
  ArmedCut : Call → ℕ → Keep → Arming
  ArmedFault : Call → ℕ → Arming

-- how many cuts were ordered
abbrev pub cut_orders : List Arming → ℕ
cut_orders [] = 0
cut_orders (ArmedCut call n keep ∷ rest) = cut_orders rest + 1
cut_orders (ArmedFault call n ∷ rest) = cut_orders rest

-- how many faults were ordered
abbrev pub fault_orders : List Arming → ℕ
fault_orders [] = 0
fault_orders (ArmedCut call n keep ∷ rest) = fault_orders rest
fault_orders (ArmedFault call n ∷ rest) = fault_orders rest + 1
