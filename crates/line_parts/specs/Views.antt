-- The parts as the code holds them.
use Rattle.std.specs.Prelude.{List, map}
use Rattle.hex.specs.Hex.{encode_lower}
use Rattle.line_parts.specs.declared.part.Part.{Part as CodePart}
use Rattle.line_parts.specs.declared.part.Part.TheVariants as code
use Rattle.line_parts.specs.Parts.{Part, Said, Number, Word, Name, Quoted, Written, Path, BootPath, Texts, Numbers, Counted, Digits, Cut, Hex, WideHex, Dword, Qword, Unless, Words, Nothing, Absent, Hidden, Bracket, BracketEnd, Records, NextRecord, RecordsEnd, NoRecords}

-- a part, as the texts after the references
abbrev pub seen : CodePart → Part
seen (code.Said word) = Said word.now
seen (code.Number key n) = Number key.now n
seen (code.Word key word) = Word key.now word.now
seen (code.Name key name) = Name key.now name.now
seen (code.Quoted key text) = Quoted key.now text.now
seen (code.Written key text) = Written key.now text.now
seen (code.Path key path) = Path key.now path.now
seen (code.BootPath key path) = BootPath key.now path.now
seen (code.Texts key texts) = Texts key.now texts.now
seen (code.Numbers key ns) = Numbers key.now ns.now
seen (code.Counted key texts) = Counted key.now texts.now
seen (code.Digits key bytes) = Digits key.now (encode_lower bytes.now)
seen (code.Cut key bytes) = Cut key.now (encode_lower bytes.now)
seen (code.Hex key n) = Hex key.now n
seen (code.WideHex key n) = WideHex key.now n
seen (code.Dword key n) = Dword key.now n
seen (code.Qword key n) = Qword key.now n
seen (code.Unless key word flag) = Unless key.now word.now flag
seen (code.Words key words) = Words key.now (map (λ w. w.now) words.now)
seen (code.Nothing key) = Nothing key.now
seen (code.Absent key) = Absent key.now
seen (code.Hidden key word) = Hidden key.now word.now
seen (code.Bracket key first word) = Bracket key.now first.now word.now
seen code.BracketEnd = BracketEnd
seen (code.Records key head first name) = Records key.now head.now first.now name.now
seen (code.NextRecord head first name) = NextRecord head.now first.now name.now
seen code.RecordsEnd = RecordsEnd
seen (code.NoRecords key) = NoRecords key.now

abbrev pub all_seen : List CodePart → List Part
all_seen parts = map seen parts
