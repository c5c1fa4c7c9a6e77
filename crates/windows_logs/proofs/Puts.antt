-- Bytes written into a file keep its length.
use Rattle.std.proofs.Common.{◌≡◌, ◌≤◌, ◌+◌, ℕ, List, ◌++◌, length, take, drop, arith, length-append, length-take, length-drop}
use Rattle.windows_logs.specs.log_parts.Pages.{put_at}

pub put_long : (file : List ℕ) (at : ℕ) (bytes : List ℕ) → at + length bytes ≤ length file → length (put_at file at bytes) ≡ length file
put_long file at bytes inside =
    omega (
      arith,
      length-append (take at file ++ bytes) (drop (at + length bytes) file),
      length-append (take at file) bytes,
      length-take at file,
      length-drop (at + length bytes) file,
    )
