-- The handlers of a place, from one on.
use Rattle.std.proofs.Common.{◌≡◌, ℕ, ◌+◌, ◌<◌, ◌≤◌, Bool, true, false, cond, List, [], ◌∷◌, ◌++◌, drop, map, get_or, length, refl, ap, sym, ◌∙◌}
use Rattle.std.specs.Prelude.{take, filter}
use Rattle.std.proofs.lemmas.List.{drop_all}
use Rattle.spec_value.specs.Datum.{Text}
use Rattle.moo_code.specs.Instruction as code
use Rattle.moo_code.specs.Machine.{covers, handlers_at}
use Rattle.moo_program.specs.Meaning.{handler_meant}
use Rattle.moo_program.specs.declared.instruction.Handler.{Handler}
use Rattle.moo_program.proofs.Lists.{item_next}
use Rattle.moo_program.proofs.Opens.{drop_map}

abbrev pub all : List Text → List Handler → List code.Handler
all names hs = map (handler_meant names) hs

next : (names : List Text) (hs : List Handler) (i : ℕ) (h : Handler) → i < length hs → h ≡ get_or hs i h → drop i (all names hs) ≡ handler_meant names h ∷ drop (i + 1) (all names hs)
next names hs i h less is =
    drop_map (handler_meant names) i hs ∙ ap (map (handler_meant names)) (item_next hs i h less is) ∙ ap (λ hs. handler_meant names h ∷ hs) (sym (drop_map (handler_meant names) (i + 1) hs))

outside : (h : code.Handler) (hs : List code.Handler) (place : ℕ) → false ≡ covers place h → handlers_at (h ∷ hs) place ≡ handlers_at hs place
outside h hs place e = ap (λ b. cond b (h ∷ handlers_at hs place) (handlers_at hs place)) (sym e)

inside : (h : code.Handler) (hs : List code.Handler) (place : ℕ) → true ≡ covers place h → handlers_at (h ∷ hs) place ≡ h ∷ handlers_at hs place
inside h hs place e = ap (λ b. cond b (h ∷ handlers_at hs place) (handlers_at hs place)) (sym e)

pub passed : (names : List Text) (hs : List Handler) (place from i : ℕ) (h : Handler) → i < length hs → h ≡ get_or hs i h → false ≡ covers place (handler_meant names h)
    → handlers_at (drop from (all names hs)) place ≡ handlers_at (drop i (all names hs)) place
    → handlers_at (drop from (all names hs)) place ≡ handlers_at (drop (i + 1) (all names hs)) place
passed names hs place from i h less is out before =
    before ∙ ap (λ hs. handlers_at hs place) (next names hs i h less is) ∙ outside (handler_meant names h) (drop (i + 1) (all names hs)) place out

pub found : (names : List Text) (hs : List Handler) (place from i : ℕ) (h : Handler) → i < length hs → h ≡ get_or hs i h → true ≡ covers place (handler_meant names h)
    → handlers_at (drop from (all names hs)) place ≡ handlers_at (drop i (all names hs)) place
    → handlers_at (drop from (all names hs)) place ≡ take 1 (drop i (all names hs)) ++ handlers_at (drop (i + 1) (all names hs)) place
found names hs place from i h less is within before =
    before ∙ ap (λ hs. handlers_at hs place) (next names hs i h less is) ∙ inside (handler_meant names h) (drop (i + 1) (all names hs)) place within
    ∙ ap (λ first. first ++ handlers_at (drop (i + 1) (all names hs)) place) (sym (ap (take 1) (next names hs i h less is)))

pub none : (names : List Text) (hs : List Handler) (place from i : ℕ) → length hs ≤ i
    → handlers_at (drop from (all names hs)) place ≡ handlers_at (drop i (all names hs)) place → handlers_at (drop from (all names hs)) place ≡ []
none names hs place from i h before =
    before ∙ ap (λ hs. handlers_at hs place) (drop_map (handler_meant names) i hs ∙ ap (map (handler_meant names)) (drop_all i hs h))
