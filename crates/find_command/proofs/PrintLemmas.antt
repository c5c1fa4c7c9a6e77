-- Texts that are printed one after another.
use Rattle.std.proofs.Common.{◌≡◌, ℕ, List, [], ◌∷◌, ◌++◌, refl, sym, ap, subst, ◌∙◌, append-nil, append_assoc}
use Rattle.std.specs.Prelude.{Result, Ok, Err}
use Rattle.nt_edge.specs.Host.{HostState, SaysFront}
use Rattle.nt_edge.specs.declared.host.HostStop.{HostStop}
use Rattle.nt_edge.specs.declared.host.HostStop.TheVariants.{Memory}
use Rattle.report_text.specs.declared.line_text.form.ReportForm.{ReportForm}
use Rattle.line_parts.specs.Parts.{Line, printed, printed_lines}
use Rattle.command_parts.proofs.LeaveLemmas.{keeps_then, files_then, fault_then, no_front}
use Rattle.find_command.specs.Prints.{Prints}

-- nothing was printed
pub nothing : (s : HostState) → Prints [] (Ok tt) s s
nothing s = record {
  said = λ tells. sym (append-nil s.said);
  front = λ tells. tt;
  keeps = record { tells = refl; quiet = λ q. q; errors = refl; warned = refl };
  files = λ tells. refl;
  unasked = refl;
  counts = record { reads = refl; writes = refl };
  unread = λ e. absurd cc;
}

-- there was no memory, and nothing was printed
pub lacked : (text : List ℕ) (s : HostState) → Prints text (Err Memory) s s
lacked text s = record {
  said = λ tells. tt;
  front = λ tells. no_front text s.said s.said refl;
  keeps = record { tells = refl; quiet = λ q. q; errors = refl; warned = refl };
  files = λ tells. refl;
  unasked = refl;
  counts = record { reads = refl; writes = refl };
  unread = λ e. absurd cc;
}

-- a first part of a text is one of a longer text
front_of : (old new t u : List ℕ) → SaysFront old new t → SaysFront old new (t ++ u)
front_of old new t u f = record {
  front = f.front;
  rest = f.rest ++ u;
  cut = ap (λ (x : List ℕ). x ++ u) f.cut ∙ append_assoc f.front f.rest u;
  said = f.said;
}

-- a first part of a text after another one
front_after : (old mid new t u : List ℕ) → mid ≡ old ++ t → SaysFront mid new u → SaysFront old new (t ++ u)
front_after old mid new t u e f = record {
  front = t ++ f.front;
  rest = f.rest;
  cut = ap (λ (x : List ℕ). t ++ x) f.cut ∙ sym (append_assoc t f.front f.rest);
  said = f.said ∙ ap (λ (x : List ℕ). x ++ f.front) e ∙ append_assoc old t f.front;
}

-- a text was printed, and then another one
pub then : {y : Unit {0}} (t u : List ℕ) (r : Result (Unit {0}) HostStop) (a b c : HostState) → Prints t (Ok y) a b → Prints u r b c
    → Prints (t ++ u) r a c
then t u (Ok x) a b c p q = record {
  said = λ tells. q.said (p.keeps.tells ∙ tells) ∙ ap (λ (s : List ℕ). s ++ u) (p.said tells) ∙ append_assoc a.said t u;
  front = λ tells. tt;
  keeps = keeps_then a b c p.keeps q.keeps;
  files = files_then a b c p.keeps p.files q.files;
  unasked = q.unasked ∙ p.unasked;
  counts = fault_then (Ok x) a b c p.keeps p.counts q.counts;
  unread = q.unread;
}
then t u (Err stop) a b c p q = record {
  said = λ tells. tt;
  front = λ tells. front_after a.said b.said c.said t u (p.said tells) (q.front (p.keeps.tells ∙ tells));
  keeps = keeps_then a b c p.keeps q.keeps;
  files = files_then a b c p.keeps p.files q.files;
  unasked = q.unasked ∙ p.unasked;
  counts = fault_then {A = Unit {0}} (Err stop) a b c p.keeps p.counts q.counts;
  unread = q.unread;
}

-- a text was stopped, and what was to come after it did not come
pub halted : (t u : List ℕ) (stop : HostStop) (a b : HostState) → Prints t (Err stop) a b → Prints (t ++ u) (Err stop) a b
halted t u stop a b p = record {
  said = λ tells. tt;
  front = λ tells. front_of a.said b.said t u (p.front tells);
  keeps = p.keeps;
  files = p.files;
  unasked = p.unasked;
  counts = p.counts;
  unread = p.unread;
}

-- two lines, one after the other
pub both_lines : {y : Unit {0}} (form : ReportForm) (one two : Line) (r : Result (Unit {0}) HostStop) (a b c : HostState)
    → Prints (printed form one) (Ok y) a b
    → Prints (printed form two) r b c → Prints (printed_lines form (one ∷ two ∷ [])) r a c
both_lines form one two r a b c p q =
    then (printed form one) (printed form two ++ []) r a b c p
    (subst (λ (t : List ℕ). Prints t r b c) (sym (append-nil (printed form two))) q)

pub first_halted : (form : ReportForm) (one two : Line) (stop : HostStop) (a b : HostState) → Prints (printed form one) (Err stop) a b
    → Prints (printed_lines form (one ∷ two ∷ [])) (Err stop) a b
first_halted form one two stop a b p = halted (printed form one) (printed form two ++ []) stop a b p
