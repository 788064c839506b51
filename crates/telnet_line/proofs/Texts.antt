-- Lines keep what may be kept.
use Rattle.std.proofs.Common.{◌≡◌, ℕ, zero, suc, ◌-◌, ◌<◌, ◌≤◌, Bool, true, false, cond, ◌&&◌, List, [], ◌∷◌, ◌++◌, length, take, refl, ap, ◌∙◌, arith, length-append, length-take}
use Rattle.std.specs.Prelude.{◌==◌, nat_lt}
use Rattle.std.specs.List.{list_all, AllByRecursion}
use Rattle.std.specs.Str.{IsAscii}
use Rattle.std.proofs.lemmas.Bool.{cond_both, ltb-true}
use Rattle.std.proofs.lemmas.Bool.Decides.{nat_tests}
use Rattle.spec_value.specs.Datum.{is_character}
use Rattle.telnet_line.specs.Telnet.{AYT, EC, EL, Will, Wont, Do, Dont, StreamUnit, Data, Data_iac, Line_feed, Return_line_feed, Command, Negotiation, Event, Reply, max_line, IsText, IsEvent, with_data, line_after, yes, brought, line_of, events_of}
use Rattle.telnet_line.specs.TelnetSteps.{with_all}

pub and_true : (a b : Bool) → (a && b) ≡ true → (a ≡ true) × (b ≡ true)
and_true true b h = (refl, h)
and_true false b h = cc

pub all_snoc : (xs : List ℕ) (b : ℕ) → list_all is_character xs ≡ true → is_character b ≡ true → list_all is_character (xs ++ b ∷ []) ≡ true
all_snoc [] b h e = ap (λ x. x && true) e
all_snoc (x ∷ xs) b h e = let k = and_true (is_character x) (list_all is_character xs) h in ap (λ y. y && list_all is_character (xs ++ b ∷ [])) k.0 ∙ all_snoc xs b k.1 e

pub all_take : (n : ℕ) (xs : List ℕ) → list_all is_character xs ≡ true → list_all is_character (take n xs) ≡ true
all_take zero xs h = refl
all_take (suc n) [] h = refl
all_take (suc n) (x ∷ xs) h = let k = and_true (is_character x) (list_all is_character xs) h in ap (λ y. y && list_all is_character (take n xs)) k.0 ∙ all_take n xs k.1

-- a kept character more, where there is room
pub text_more : (text : List ℕ) (b : ℕ) → IsText text → is_character b ≡ true → length text < 4096 → IsText (text ++ b ∷ [])
text_more text b h e r = (omega (arith, length-append text (b ∷ [])), all_snoc text b h.1 e)

pub text_take : (n : ℕ) (text : List ℕ) → IsText text → IsText (take n text)
text_take n text h = (omega (arith, h.0, take_le n text), all_take n text h.1)
  where
    take_le : (n : ℕ) (xs : List ℕ) → length (take n xs) ≤ length xs
    take_le zero xs = omega arith
    take_le (suc n) [] = omega arith
    take_le (suc n) (x ∷ xs) = omega (arith, take_le n xs)

all_append : (xs ys : List ℕ) → list_all is_character xs ≡ true → list_all is_character ys ≡ true → list_all is_character (xs ++ ys) ≡ true
all_append [] ys h k = k
all_append (x ∷ xs) ys h k = let e = and_true (is_character x) (list_all is_character xs) h in ap (λ y. y && list_all is_character (xs ++ ys)) e.0 ∙ all_append xs ys e.1 k

-- characters more, as many as there is room for
pub text_all : (text more : List ℕ) → IsText text → list_all is_character more ≡ true → IsText (with_all text more)
text_all text more h k =
    let new = take (max_line - length text) more in
    (omega (arith, h.0, length-append text new, length-take (max_line - length text) more), all_append text new h.1 (all_take (max_line - length text) more k))

kept_low : (b : ℕ) → is_character b ≡ true → b < 128
kept_low b h = grind (arith, nat_tests)

-- characters that are kept are ASCII
pub text_ascii : (text : List ℕ) → list_all is_character text ≡ true → IsAscii text
text_ascii [] h i = omega arith
text_ascii (x ∷ text) h zero = kept_low x (and_true (is_character x) (list_all is_character text) h).0
text_ascii (x ∷ text) h (suc i) = text_ascii text (and_true (is_character x) (list_all is_character text) h).1 i

-- ---- lines of units

data_text : (line : List ℕ) (b : ℕ) → IsText line → IsText (with_data line b)
data_text line b h = cond_both (is_character b && nat_lt (length line) 4096) _ _ IsText (λ e. let k = and_true (is_character b) (nat_lt (length line) 4096) e in text_more line b h k.0 (ltb-true (length line) 4096 k.1)) (λ _. h)

line_text : (u : StreamUnit) (line : List ℕ) → IsText line → IsText (line_after line u)
line_text (Data b) line h = data_text line b h
line_text Data_iac line h = h
line_text Line_feed line h = (omega arith, refl)
line_text Return_line_feed line h = (omega arith, refl)
line_text (Command c) line h = cond_both (c == EC) _ _ IsText (λ _. text_take _ line h) (λ _. cond_both (c == EL) _ _ IsText (λ _. (omega arith, refl)) (λ _. h))
line_text _ line h = h

all_events : (u : StreamUnit) (line : List ℕ) (later : List Event) → IsText line → AllByRecursion IsEvent later → AllByRecursion IsEvent (brought line u ++ later)
all_events Line_feed line later h k = (h, k)
all_events Return_line_feed line later h k = (h, k)
all_events (Command c) line later h k = reply_or_not (c == AYT)
  where
    reply_or_not : (t : Bool) → AllByRecursion IsEvent (cond t (Reply yes ∷ []) [] ++ later)
    reply_or_not true = (tt, k)
    reply_or_not false = k
all_events (Negotiation Will option) line later h k = (tt, k)
all_events (Negotiation Wont option) line later h k = k
all_events (Negotiation Do option) line later h k = (tt, k)
all_events (Negotiation Dont option) line later h k = k
all_events _ line later h k = k

-- each line of a stream may be kept
pub texts : (units : List StreamUnit) (line : List ℕ) → IsText line → AllByRecursion IsEvent (events_of line units)
texts [] line h = tt
texts (u ∷ units) line h = all_events u line (events_of (line_after line u) units) h (texts units (line_after line u) (line_text u line h))

pub text_of : (units : List StreamUnit) (line : List ℕ) → IsText line → IsText (line_of line units)
text_of [] line h = h
text_of (u ∷ units) line h = text_of units (line_after line u) (line_text u line h)
