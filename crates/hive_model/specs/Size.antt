-- How many bytes the cells of a tree take in a version where each key is in cells of its own (regf format 1.3 and 1.5;
-- which cells share and how long the lists are is this project's own).
use Rattle.std.specs.Prelude.{ℕ, zero, suc, ◌+◌, ◌-◌, ◌*◌, ◌/◌, ◌%◌, min, Bool, false, not, ◌==◌, nat_eq, nat_lt, if◌then◌else◌, List, [], ◌∷◌, length}
use Rattle.std.specs.List.{list_all}
use lib.Pointwise.{pointwise}
use Rattle.nt_bytes.specs.declared.version.HiveVersion.{HiveVersion}
use Rattle.nt_bytes.specs.declared.version.HiveVersion.TheVariants.{V3, V5}
use Rattle.hive_model.specs.Tree.{Item, Head, Tree, Trees, key, none, more, listed}
use Rattle.nt_bytes.specs.Counts.{capped}

-- a cell's size: the payload after four bytes for the size, up to a multiple of eight (regf format, Hive bin cell)
abbrev pub cell : ℕ → ℕ
cell payload = 8 * ((payload + 11) / 8)

-- each unit of the name is below 256, so that one byte is enough for it
abbrev pub is_narrow : List ℕ → Bool
is_narrow name = list_all (λ u. nat_lt u 256) name

-- a name's length as it is spelled: one byte for each unit of a narrow name, else two (regf format, Key node)
abbrev pub name_bytes : List ℕ → ℕ
name_bytes name = if is_narrow name then length name else 2 * length name

-- the cells with payloads of these lengths together
abbrev pub cells_sum : List ℕ → ℕ
cells_sum [] = 0
cells_sum (n ∷ ns) = cell n + cells_sum ns

-- ---- a value's data

-- how many bytes a full segment of big data holds (regf format 1.5, Big data)
abbrev pub segment_bytes : ℕ
segment_bytes = 16344

-- in version 1.5 data of more bytes than a segment holds are big (regf format 1.5, Big data)
abbrev pub is_big : HiveVersion → ℕ → Bool
is_big V3 n = false
is_big V5 n = nat_lt segment_bytes n

-- how many segments n bytes fill: n divided by 16,344 and rounded up
abbrev pub segment_count : ℕ → ℕ
segment_count n = (n + 16343) / segment_bytes

-- how many of the n bytes that are left a segment holds
abbrev pub segment_part : ℕ → ℕ
segment_part n = min segment_bytes n

-- how many bytes each of that many segments holds: each but the last is full
abbrev pub segment_sizes : ℕ → ℕ → List ℕ
segment_sizes zero n = []
segment_sizes (suc k) n = segment_part n ∷ segment_sizes k (n - segment_bytes)

-- The lengths of the payloads that n bytes of data are written in, in order. Up to four bytes are in the value itself. Big
-- data have a cell `db`, the list of their segments, and the segments; other data have one cell (regf format 1.3 and 1.5,
-- Key value and Big data).
abbrev pub data_sizes : HiveVersion → ℕ → List ℕ
data_sizes version n =
    if is_big version n then 8 ∷ 4 * segment_count n ∷ segment_sizes (segment_count n) n
    else if nat_lt 4 n then n ∷ []
    else []

-- the cells of a value's data
abbrev pub data_size : HiveVersion → List ℕ → ℕ
data_size version bytes = cells_sum (data_sizes version (length bytes))

-- ---- the cells of a key

-- the cells of a value (regf format, Key value)
abbrev pub item_size : HiveVersion → Item → ℕ
item_size version v = cell (20 + name_bytes v.name) + data_size version v.bytes

-- the cells of values in sequence
abbrev pub items_sum : HiveVersion → List Item → ℕ
items_sum version [] = 0
items_sum version (v ∷ vs) = item_size version v + items_sum version vs

-- the value list and the cells of its values (regf format, Value list)
abbrev pub items_size : HiveVersion → List Item → ℕ
items_size version [] = 0
items_size version (v ∷ vs) = cell (4 * length (v ∷ vs)) + items_sum version (v ∷ vs)

-- the cell of a class (regf format, Key node)
abbrev pub class_size : List ℕ → ℕ
class_size [] = 0
class_size (b ∷ c) = cell (length (b ∷ c))

-- a descriptor has a cell of its own, unless it is empty or the one of the key above (this project's own)
abbrev pub has_own : List ℕ → List ℕ → Bool
has_own shared [] = false
has_own shared (b ∷ s) = not (pointwise nat_eq shared (b ∷ s))

-- the cell of a descriptor under a key with another one (regf format, Key security)
abbrev pub security_size : List ℕ → List ℕ → ℕ
security_size shared s = if has_own shared s then cell (20 + length s) else 0

-- the cell of a key node (regf format, Key node)
abbrev pub node_size : Head → ℕ
node_size h = cell (76 + name_bytes h.name)

-- the cells of a key but those of its lists and children, under a key with this descriptor
abbrev pub head_size : HiveVersion → List ℕ → Head → ℕ
head_size version shared h = node_size h + class_size h.class + security_size shared h.security + items_size version h.values

-- how many lists of at most 500 entries n children fill (this project's own)
abbrev pub part_count : ℕ → ℕ
part_count n = (n + 499) / 500

-- the lists of n children: one of at most 500, or a list of such lists, each but the last full (regf format, Subkeys
-- list; the number is this project's own)
abbrev pub list_size : ℕ → ℕ
list_size n =
    if n == 0 then 0
    else if nat_lt n 501 then cell (4 + 8 * n)
    else cell (4 + 4 * part_count n) + n / 500 * cell 4004 + (if n % 500 == 0 then 0 else cell (4 + 8 * (n % 500)))

-- how many children these are
abbrev pub count : Trees → ℕ
count ts = length (listed ts)

-- the cells of a key and of all below it, under a key with this descriptor; of the root, [] stands above
abbrev mutual
  pub size : HiveVersion → List ℕ → Tree → ℕ
  size version shared (key h ts) = head_size version shared h + list_size (count ts) + size_of_all version h.security ts

  -- the cells of keys in sequence and of all below them, under a key with this descriptor
  pub size_of_all : HiveVersion → List ℕ → Trees → ℕ
  size_of_all version shared none = 0
  size_of_all version shared (more t ts) = size version shared t + size_of_all version shared ts

-- the bulk of a tree: the bin's header of 32 bytes and all cells (this project's own)
abbrev pub bulk_of : HiveVersion → Tree → ℕ
bulk_of version t = capped (32 + size version [] t)
