-- What is asked by the values of `clap` is what is asked by ours.
use Rattle.std.proofs.Common.{◌≡◌, ◌∙◌, List, Result, sym, ap}
use Rattle.std.proofs.Math.Path.{fun_ext}
use Rattle.clap.specs.Words.{Row, first_of}
use Rattle.command_words.specs.Words.{Reason, Text}
use Rattle.command_words.specs.Walk.{Values, and_then}
use Rattle.command_words.specs.Commands.{CommandRow, Look}
use Rattle.command_words.specs.Reading.{asked_by, asked_of, asked_with}
use Rattle.command_words.specs.Clap.{Reads}

pub asks_by : (c : CommandRow) (words : List Text) (found : List Row) → Reads c.options words found
    → asked_of c words ≡ asked_with c.command (λ n. first_of n found)
asks_by c words found r =
    ap (λ (v : Result Values Reason). and_then v (asked_by c)) (r.1)
    ∙ ap (λ (look : Look). asked_with c.command look) (fun_ext (λ n. sym (r.2 n)))
