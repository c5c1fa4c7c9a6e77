-- Which page does a lone word of `ntmend` ask for? (this project's own)
use Rattle.std.specs.Prelude.{ℕ, List, Option, Some, None, codes, bytes_eq, if◌then◌else◌}
use Rattle.ntmend.specs.declared.pages.TheConstants as texts

-- the page, where the word asks for one
abbrev pub page_named : List ℕ → Option (List ℕ)
page_named word =
    if bytes_eq word (codes "--help") then Some texts.HELP.now
    else if bytes_eq word (codes "--version") then Some texts.VERSION.now
    else None
