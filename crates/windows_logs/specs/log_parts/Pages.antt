-- Pages: runs of bytes that a log has for places in the bins data of a hive's file.
use Rattle.std.specs.Prelude.{◌+◌, ℕ, List, [], ◌∷◌, ◌++◌, length, take, drop}

-- a page: its place in the bins data, and its bytes
pub record Page : Type 0 where
  pub place : ℕ
  pub bytes : List ℕ

-- the file with these bytes at a place, where it is so long
abbrev pub put_at : List ℕ → ℕ → List ℕ → List ℕ
put_at file at bytes = take at file ++ bytes ++ drop (at + length bytes) file

-- the file of a hive with the pages written into its bins data, which begin at byte 4096, one page after another
abbrev pub put_pages : List ℕ → List Page → List ℕ
put_pages file [] = file
put_pages file (page ∷ pages) = put_pages (put_at file (4096 + page.place) page.bytes) pages
