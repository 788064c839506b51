-- The byte machine reads what the cutting spells.
use Rattle.std.proofs.Common.{◌≡◌, ℕ, Bool, true, false, cond, List, [], ◌∷◌, ◌++◌, refl, sym, ap, ◌∙◌, subst, append_assoc, append-nil}
use Rattle.std.specs.Prelude.{◌==◌, nat_lt}
use Rattle.std.specs.List.{AllByRecursion}
use Rattle.telnet_line.specs.Telnet.{NUL, LF, CR, SE, SB, WILL, WONT, DO, DONT, IAC, StreamUnit, Data, Command, Negotiation, Event, Spells, IsText, IsEvent, line_after, brought, line_of, events_of}
use Rattle.telnet_line.specs.TelnetReading as reading
use Rattle.telnet_line.specs.TelnetReading.{Begun, HasBegun, Reading, HasRead}
use Rattle.telnet_line.specs.TelnetSteps.{fresh, Step, takes, step_data, step_return, step_iac, step_by, step, reading_after, events_after}
use Rattle.telnet_line.proofs.Cutter.{Cutter, Nothing, Return, Iac, Negotiating, Parameters, Parameters_iac, bytes_of, Fits, Cut, whole, cut_data, cut_return, cut_iac, cut_byte, run, cut_is, left_fits}
use Rattle.telnet_line.proofs.Texts.{texts}
use Rattle.telnet_line.proofs.Unfinished.{complete, begun_run}

-- what has begun, without its parameters
abbrev shape : Cutter → Begun
shape Nothing = reading.Nothing
shape Return = reading.Return
shape Iac = reading.Iac
shape (Negotiating verb) = reading.Negotiating verb
shape (Parameters ps) = reading.Parameters
shape (Parameters_iac ps) = reading.Parameters_iac

-- what a byte's cut means to a reader
abbrev meaning : List ℕ → Cut → Step
meaning line s = record { reading = record { begun = shape s.left; line = line_of line s.units }; events = events_of line s.units }

-- both machines make the same test
same_test : (line : List ℕ) (c : Bool) (x y : Cut) (s t : Step) → s ≡ meaning line x → t ≡ meaning line y → cond c s t ≡ meaning line (cond c x y)
same_test line true x y s t e f = e
same_test line false x y s t e f = f

takes_is : (u : StreamUnit) (line : List ℕ) → takes u line ≡ meaning line (whole u)
takes_is u line = ap (λ (x : List Event). record { reading = record { begun = reading.Nothing; line = line_after line u }; events = x }) (sym (append-nil (brought line u)))

data_is : (b : ℕ) (line : List ℕ) → step_data b line ≡ meaning line (cut_data b)
data_is b line = same_test line (b == LF) _ _ _ _ refl (same_test line (b == CR) _ _ _ _ refl (same_test line (b == IAC) _ _ _ _ refl (takes_is (Data b) line)))

return_is : (b : ℕ) (line : List ℕ) → step_return b line ≡ meaning line (cut_return b)
return_is b line = same_test line (b == LF) _ _ _ _ refl (same_test line (b == NUL) _ _ _ _ refl (data_is b line))

iac_is : (b : ℕ) (line : List ℕ) → step_iac b line ≡ meaning line (cut_iac b)
iac_is b line =
    same_test line (nat_lt b SE) _ _ _ _ (data_is b line)
    (same_test line (b == SB) _ _ _ _ refl
    (same_test line (b == WILL) _ _ _ _ refl
    (same_test line (b == WONT) _ _ _ _ refl
    (same_test line (b == DO) _ _ _ _ refl
    (same_test line (b == DONT) _ _ _ _ refl
    (same_test line (b == IAC) _ _ _ _ refl (takes_is (Command b) line)))))))

step_is : (c : Cutter) (b : ℕ) (line : List ℕ) → step_by (shape c) b line ≡ meaning line (cut_byte c b)
step_is Nothing b line = data_is b line
step_is Return b line = return_is b line
step_is Iac b line = iac_is b line
step_is (Negotiating verb) b line = takes_is (Negotiation verb b) line
step_is (Parameters ps) b line = same_test line (b == IAC) _ _ _ _ refl refl
step_is (Parameters_iac ps) b line = same_test line (b == SE) _ _ _ _ refl refl

line_of-append : (xs ys : List StreamUnit) (line : List ℕ) → line_of line (xs ++ ys) ≡ line_of (line_of line xs) ys
line_of-append [] ys line = refl
line_of-append (x ∷ xs) ys line = line_of-append xs ys (line_after line x)

events_of-append : (xs ys : List StreamUnit) (line : List ℕ) → events_of line (xs ++ ys) ≡ events_of line xs ++ events_of (line_of line xs) ys
events_of-append [] ys line = refl
events_of-append (x ∷ xs) ys line =
    ap (λ e. brought line x ++ e) (events_of-append xs ys (line_after line x))
    ∙ sym (append_assoc (brought line x) (events_of (line_after line x) xs) (events_of (line_of (line_after line x) xs) ys))

abbrev stands : Cutter → List ℕ → Reading
stands c line = record { begun = shape c; line = line }

reading_is : (bytes : List ℕ) (c : Cutter) (line : List ℕ) → reading_after (stands c line) bytes ≡ stands (run c bytes).left (line_of line (run c bytes).units)
reading_is [] c line = refl
reading_is (b ∷ bytes) c line =
    let s = cut_byte c b in
    ap (λ (x : Step). reading_after x.reading bytes) (step_is c b line)
    ∙ reading_is bytes s.left (line_of line s.units)
    ∙ ap (stands (run s.left bytes).left) (sym (line_of-append s.units (run s.left bytes).units line))

events_is : (bytes : List ℕ) (c : Cutter) (line : List ℕ) → events_after (stands c line) bytes ≡ events_of line (run c bytes).units
events_is [] c line = refl
events_is (b ∷ bytes) c line =
    let s = cut_byte c b in
    ap (λ (x : Step). x.events ++ events_after x.reading bytes) (step_is c b line)
    ∙ ap (λ (x : List Event). events_of line s.units ++ x) (events_is bytes s.left (line_of line s.units))
    ∙ sym (events_of-append s.units (run s.left bytes).units line)

-- ---- where a reader stands

has_begun : (c : Cutter) → Fits c → HasBegun (shape c) (bytes_of c)
has_begun Nothing f = refl
has_begun Return f = refl
has_begun Iac f = refl
has_begun (Negotiating verb) f = refl
has_begun (Parameters ps) f = (ps, f, refl)
has_begun (Parameters_iac ps) f = (ps, f, refl)

by_run : (c : Cutter) → Fits c → (bytes : List ℕ) → bytes ≡ bytes_of c → shape c ≡ shape (run Nothing bytes).left
by_run c f bytes e = sym (ap (λ x. shape (run Nothing x).left) e ∙ ap (λ (x : Cut). shape x.left) (begun_run c f))

begun_shape : (begun : Begun) (bytes : List ℕ) → HasBegun begun bytes → begun ≡ shape (run Nothing bytes).left
begun_shape reading.Nothing bytes h = by_run Nothing tt bytes h
begun_shape reading.Return bytes h = by_run Return tt bytes h
begun_shape reading.Iac bytes h = by_run Iac tt bytes h
begun_shape (reading.Negotiating verb) bytes h = by_run (Negotiating verb) tt bytes h
begun_shape reading.Parameters bytes h = by_run (Parameters h.0) h.1 bytes h.2
begun_shape reading.Parameters_iac bytes h = by_run (Parameters_iac h.0) h.1 bytes h.2

-- the machine has read what the cutting spells
pub has_read : (stream : List ℕ) → HasRead stream (events_after fresh stream) (reading_after fresh stream)
has_read stream =
    let s = run Nothing stream in
    let e = reading_is stream Nothing [] in
    record {
      spells = record { units = s.units; rest = bytes_of s.left; cut = cut_is stream; meant = events_is stream Nothing [] };
      line = ap (λ (x : Reading). x.line) e;
      begun = subst (λ (x : Reading). HasBegun x.begun (bytes_of s.left)) (sym e) (has_begun s.left (left_fits stream));
    }

-- and the stream spells nothing else
pub only_events : (stream : List ℕ) (events : List Event) → Spells stream events → events ≡ events_after fresh stream
only_events stream events h = h.meant ∙ ap (events_of []) (sym (complete h.cut).0) ∙ sym (events_is stream Nothing [])

pub only_reading : (stream : List ℕ) (events : List Event) (reading : Reading) → HasRead stream events reading → reading ≡ reading_after fresh stream
only_reading stream events reading h =
    let s = run Nothing stream in
    let k = complete h.spells.cut in
    let begun : reading.begun ≡ shape s.left = begun_shape reading.begun h.spells.rest h.begun ∙ ap (λ x. shape (run Nothing x).left) (sym k.1) ∙ ap (λ (x : Cut). shape x.left) (begun_run s.left (left_fits stream)) in
    let line : reading.line ≡ line_of [] s.units = h.line ∙ ap (line_of []) (sym k.0) in
    let e : reading ≡ stands s.left (line_of [] s.units) = ap (λ x. record { begun = x; line = reading.line }) begun ∙ ap (stands s.left) line in
    e ∙ sym (reading_is stream Nothing [])

-- ---- pieces

pub reading_after-append : (xs ys : List ℕ) (r : Reading) → reading_after r (xs ++ ys) ≡ reading_after (reading_after r xs) ys
reading_after-append [] ys r = refl
reading_after-append (x ∷ xs) ys r = reading_after-append xs ys (step x r).reading

pub events_after-append : (xs ys : List ℕ) (r : Reading) → events_after r (xs ++ ys) ≡ events_after r xs ++ events_after (reading_after r xs) ys
events_after-append [] ys r = refl
events_after-append (x ∷ xs) ys r =
    ap (λ (e : List Event). (step x r).events ++ e) (events_after-append xs ys (step x r).reading)
    ∙ sym (append_assoc (step x r).events (events_after (step x r).reading xs) (events_after (reading_after (step x r).reading xs) ys))

-- a reader that goes on has read the stream with the piece after it
pub goes_on : (stream piece : List ℕ) (events : List Event) (r : Reading) → HasRead stream events r → HasRead (stream ++ piece) (events ++ events_after r piece) (reading_after r piece)
goes_on stream piece events r h =
    let told = only_events stream events h.spells in
    let stood = only_reading stream events r h in
    let e : events_after fresh (stream ++ piece) ≡ events ++ events_after r piece = events_after-append stream piece fresh ∙ ap (λ x. x ++ events_after (reading_after fresh stream) piece) (sym told) ∙ ap (λ x. events ++ events_after x piece) (sym stood) in
    let f : reading_after fresh (stream ++ piece) ≡ reading_after r piece = reading_after-append stream piece fresh ∙ ap (λ x. reading_after x piece) (sym stood) in
    subst (λ x. HasRead (stream ++ piece) x (reading_after r piece)) e (subst (λ x. HasRead (stream ++ piece) (events_after fresh (stream ++ piece)) x) f (has_read (stream ++ piece)))

-- ---- lines

-- where each has read nothing of a subnegotiation
abbrev cutter_of : Begun → Cutter
cutter_of reading.Nothing = Nothing
cutter_of reading.Return = Return
cutter_of reading.Iac = Iac
cutter_of (reading.Negotiating verb) = Negotiating verb
cutter_of reading.Parameters = Parameters []
cutter_of reading.Parameters_iac = Parameters_iac []

shape-cutter_of : (begun : Begun) → shape (cutter_of begun) ≡ begun
shape-cutter_of reading.Nothing = refl
shape-cutter_of reading.Return = refl
shape-cutter_of reading.Iac = refl
shape-cutter_of (reading.Negotiating verb) = refl
shape-cutter_of reading.Parameters = refl
shape-cutter_of reading.Parameters_iac = refl

-- the events of a piece, each line of which may be kept
pub events_texts : (piece : List ℕ) (r : Reading) → IsText r.line → AllByRecursion IsEvent (events_after r piece)
events_texts piece r h =
    let e : events_after r piece ≡ events_of r.line (run (cutter_of r.begun) piece).units = ap (λ x. events_after (record { begun = x; line = r.line }) piece) (sym (shape-cutter_of r.begun)) ∙ events_is piece (cutter_of r.begun) r.line in
    subst (AllByRecursion IsEvent) (sym e) (texts (run (cutter_of r.begun) piece).units r.line h)

-- what a call leaves, from a draft that stands where the reader did
pub fed : (stream piece : List ℕ) (past : List Event) (r d new : Reading) (none events : List Event) → d ≡ r → none ≡ [] → new ≡ reading_after d piece → events ≡ none ++ events_after d piece → HasRead stream past r → HasRead (stream ++ piece) (past ++ events) new
fed stream piece past r d new none events same empty reading told h =
    let e : events_after r piece ≡ events = sym (told ∙ ap (λ x. x ++ events_after d piece) empty ∙ ap (λ x. events_after x piece) same) in
    let f : reading_after r piece ≡ new = sym (reading ∙ ap (λ x. reading_after x piece) same) in
    subst (λ x. HasRead (stream ++ piece) (past ++ x) new) e (subst (λ x. HasRead (stream ++ piece) (past ++ events_after r piece) x) f (goes_on stream piece past r h))

pub fed_texts : (piece : List ℕ) (d : Reading) (none events : List Event) → IsText d.line → none ≡ [] → events ≡ none ++ events_after d piece → AllByRecursion IsEvent events
fed_texts piece d none events h empty told = subst (AllByRecursion IsEvent) (sym (told ∙ ap (λ x. x ++ events_after d piece) empty)) (events_texts piece d h)
