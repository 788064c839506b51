-- Each cutting of a stream is the one that the machine makes.
use Rattle.std.proofs.Common.{◌≡◌, ◌≢◌, ℕ, true, cond, List, [], ◌∷◌, ◌++◌, length, refl, sym, ap, ◌∙◌, subst, append_assoc, append-nil, length-append, arith}
use Rattle.std.specs.Prelude.{◌==◌, nat_lt}
use Rattle.std.specs.List.{AllByRecursion, flat_map}
use Rattle.std.proofs.lemmas.Bool.{cond-true, cond-false, ne_eqb, le-ltb, lt-ltb}
use Rattle.telnet_line.specs.Telnet.{NUL, LF, CR, SE, SB, WILL, WONT, DO, DONT, IAC, Will, Wont, Do, Dont, Parameter, Plain, After_iac, IsParameter, parameter_bytes, StreamUnit, Data, Data_iac, Line_feed, Return_line_feed, Return_null, Lone_return, Lone_iac, Command, Negotiation, Subnegotiation, IsUnit, spelling, MayPrecede, IsCut, rest, unit}
use Rattle.telnet_line.proofs.Cutter.{Cutter, Nothing, Return, Iac, Negotiating, Parameters, Parameters_iac, bytes_of, Fits, Cut, holds, whole, before, cut_data, cut_return, cut_iac, cut_byte, joined, run, cut_is}

other : {A : Type 0} (b n : ℕ) (x y : A) → b ≢ n → cond (b == n) x y ≡ y
other b n x y h = cond-false (b == n) x y (ne_eqb b n h)

-- ---- a unit is made whole

data_unit : (b : ℕ) → (b ≢ LF) × (b ≢ CR) × (b ≢ IAC) → cut_data b ≡ whole (Data b)
data_unit b h = other b LF _ _ h.0 ∙ other b CR _ _ h.1 ∙ other b IAC _ _ h.2

command_unit : (c : ℕ) → IsUnit (Command c) → cut_iac c ≡ whole (Command c)
command_unit c h = cond-false (nat_lt c SE) _ _ (le-ltb c SE h.0) ∙ other c SB _ _ h.1 ∙ other c WILL _ _ h.2 ∙ other c WONT _ _ h.3 ∙ other c DO _ _ h.4 ∙ other c DONT _ _ h.5 ∙ other c IAC _ _ h.6

lone_return : (b : ℕ) → (b ≢ LF) × (b ≢ NUL) → cut_return b ≡ before Lone_return (cut_data b)
lone_return b h = other b LF _ _ h.0 ∙ other b NUL _ _ h.1

lone_iac : (b : ℕ) → nat_lt b SE ≡ true → cut_iac b ≡ before Lone_iac (cut_data b)
lone_iac b h = cond-true (nat_lt b SE) _ _ h

then_run : (s t : Cut) (bytes : List ℕ) → s ≡ t → joined s (λ d. run d bytes) ≡ joined t (λ d. run d bytes)
then_run s t bytes e = ap (λ x. joined x (λ d. run d bytes)) e

parameters_run : (ps qs : List Parameter) (after : List ℕ) → AllByRecursion IsParameter ps → run (Parameters qs) ((flat_map parameter_bytes ps ++ IAC ∷ SE ∷ []) ++ after) ≡ before (Subnegotiation (qs ++ ps)) (run Nothing after)
parameters_run [] qs after h = ap (λ x. before (Subnegotiation x) (run Nothing after)) (sym (append-nil qs))
parameters_run (Plain b ∷ ps) qs after h =
    then_run (cut_byte (Parameters qs) b) (holds (Parameters (qs ++ Plain b ∷ []))) _ (other b IAC _ _ h.0)
    ∙ parameters_run ps (qs ++ Plain b ∷ []) after h.1
    ∙ ap (λ x. before (Subnegotiation x) (run Nothing after)) (append_assoc qs (Plain b ∷ []) ps)
parameters_run (After_iac b ∷ ps) qs after h =
    then_run (cut_byte (Parameters_iac qs) b) (holds (Parameters (qs ++ After_iac b ∷ []))) _ (other b SE _ _ h.0)
    ∙ parameters_run ps (qs ++ After_iac b ∷ []) after h.1
    ∙ ap (λ x. before (Subnegotiation x) (run Nothing after)) (append_assoc qs (After_iac b ∷ []) ps)

unit_run : (u : StreamUnit) (after : List ℕ) → IsUnit u → MayPrecede u after → run Nothing (spelling u ++ after) ≡ before u (run Nothing after)
unit_run (Data b) after i m = then_run (cut_data b) (whole (Data b)) after (data_unit b i)
unit_run Data_iac after i m = refl
unit_run Line_feed after i m = refl
unit_run Return_line_feed after i m = refl
unit_run Return_null after i m = refl
unit_run Lone_return [] i m = absurd m
unit_run Lone_return (b ∷ after) i m = then_run (cut_return b) (before Lone_return (cut_data b)) after (lone_return b m)
unit_run Lone_iac [] i m = absurd m
unit_run Lone_iac (b ∷ after) i m = then_run (cut_iac b) (before Lone_iac (cut_data b)) after (lone_iac b (lt-ltb b SE m))
unit_run (Command c) after i m = then_run (cut_iac c) (whole (Command c)) after (command_unit c i)
unit_run (Negotiation Will b) after i m = refl
unit_run (Negotiation Wont b) after i m = refl
unit_run (Negotiation Do b) after i m = refl
unit_run (Negotiation Dont b) after i m = refl
unit_run (Subnegotiation ps) after i m = parameters_run ps [] after i

open_run : (ps qs : List Parameter) → AllByRecursion IsParameter ps → run (Parameters qs) (flat_map parameter_bytes ps) ≡ holds (Parameters (qs ++ ps))
open_run [] qs h = ap (λ x. holds (Parameters x)) (sym (append-nil qs))
open_run (Plain b ∷ ps) qs h =
    then_run (cut_byte (Parameters qs) b) (holds (Parameters (qs ++ Plain b ∷ []))) _ (other b IAC _ _ h.0)
    ∙ open_run ps (qs ++ Plain b ∷ []) h.1
    ∙ ap (λ x. holds (Parameters x)) (append_assoc qs (Plain b ∷ []) ps)
open_run (After_iac b ∷ ps) qs h =
    then_run (cut_byte (Parameters_iac qs) b) (holds (Parameters (qs ++ After_iac b ∷ []))) _ (other b SE _ _ h.0)
    ∙ open_run ps (qs ++ After_iac b ∷ []) h.1
    ∙ ap (λ x. holds (Parameters x)) (append_assoc qs (After_iac b ∷ []) ps)

-- ---- what is unfinished makes nothing

pub run_append : (bytes more : List ℕ) (c : Cutter) → run c (bytes ++ more) ≡ joined (run c bytes) (λ d. run d more)
run_append [] more c = refl
run_append (b ∷ bytes) more c =
    let s = cut_byte c b in
    ap (λ (x : Cut). record { units = s.units ++ x.units; left = x.left }) (run_append bytes more s.left)
    ∙ ap (λ (x : List StreamUnit). record { units = x; left = (run (run s.left bytes).left more).left }) (sym (append_assoc s.units (run s.left bytes).units (run (run s.left bytes).left more).units))

one_byte : (x : ℕ) (bytes : List ℕ) (b : ℕ) (more : List ℕ) → x ∷ [] ≡ bytes ++ b ∷ more → bytes ≡ []
one_byte x [] b more e = refl
one_byte x (y ∷ bytes) b more e = absurd (omega (arith, ap length e, length-append bytes (b ∷ more)))

too_long : (xs ys : List ℕ) (b : ℕ) (more : List ℕ) → xs ≡ (xs ++ ys) ++ b ∷ more → ⊥
too_long xs ys b more e = omega (arith, ap length e, length-append (xs ++ ys) (b ∷ more), length-append xs ys)

-- a beginning of a unit makes no unit, and is held back whole
abbrev IsHeld : List ℕ → Type 0
IsHeld bytes = ((run Nothing bytes).units ≡ []) × (bytes_of (run Nothing bytes).left ≡ bytes)

none_whole : (u : StreamUnit) (b : ℕ) (more bytes : List ℕ) (units : List StreamUnit) (left : List ℕ) (later : List StreamUnit) → spelling u ≡ bytes ++ b ∷ more → IsCut bytes units left → units ++ later ≡ u ∷ [] → (units ≡ []) × (left ≡ bytes)
none_whole u b more bytes [] left later e (rest h) k = (refl, refl)
none_whole u b more bytes (v ∷ units) left later e (unit {after = after} w i m c) k =
    let same : w ≡ u = cc in
    absurd (too_long (spelling u) after b more (e ∙ ap (λ x. (spelling x ++ after) ++ b ∷ more) same))

held_by : (u : StreamUnit) (b : ℕ) (more bytes : List ℕ) → spelling u ≡ bytes ++ b ∷ more → run Nothing (spelling u ++ []) ≡ whole u → IsHeld bytes
held_by u b more bytes e r =
    let s = run Nothing bytes in
    let all : joined s (λ d. run d (b ∷ more)) ≡ whole u = sym (run_append bytes (b ∷ more) Nothing) ∙ ap (run Nothing) (sym e ∙ sym (append-nil (spelling u))) ∙ r in
    none_whole u b more bytes s.units (bytes_of s.left) (run s.left (b ∷ more)).units e (cut_is bytes) (ap (λ (x : Cut). x.units) all)

nothing_held : (x : ℕ) (bytes : List ℕ) (b : ℕ) (more : List ℕ) → x ∷ [] ≡ bytes ++ b ∷ more → IsHeld bytes
nothing_held x bytes b more e = subst IsHeld (sym (one_byte x bytes b more e)) (refl, refl)

held : (u : StreamUnit) (b : ℕ) (more bytes : List ℕ) → IsUnit u → spelling u ≡ bytes ++ b ∷ more → IsHeld bytes
held Lone_return b more bytes i e = nothing_held CR bytes b more e
held Lone_iac b more bytes i e = nothing_held IAC bytes b more e
held (Data c) b more bytes i e = nothing_held c bytes b more e
held Line_feed b more bytes i e = nothing_held LF bytes b more e
held Data_iac b more bytes i e = held_by Data_iac b more bytes e refl
held Return_line_feed b more bytes i e = held_by Return_line_feed b more bytes e refl
held Return_null b more bytes i e = held_by Return_null b more bytes e refl
held (Command c) b more bytes i e = held_by (Command c) b more bytes e (unit_run (Command c) [] i tt)
held (Negotiation verb c) b more bytes i e = held_by (Negotiation verb c) b more bytes e (unit_run (Negotiation verb c) [] tt tt)
held (Subnegotiation ps) b more bytes i e = held_by (Subnegotiation ps) b more bytes e (unit_run (Subnegotiation ps) [] i tt)

-- ---- each cutting is the one that the machine makes

pub complete : {stream : List ℕ} {units : List StreamUnit} {left : List ℕ} → IsCut stream units left → ((run Nothing stream).units ≡ units) × (bytes_of (run Nothing stream).left ≡ left)
complete (rest {bytes = bytes} h) = held h.0 h.1 h.2 bytes h.3 h.4
complete (unit {after = after} u i m c) =
    let r = unit_run u after i m in
    let k = complete c in
    (ap (λ (x : Cut). x.units) r ∙ ap (λ x. u ∷ x) k.0, ap (λ (x : Cut). bytes_of x.left) r ∙ k.1)

-- what has begun, on its own, is held back
pub begun_run : (c : Cutter) → Fits c → run Nothing (bytes_of c) ≡ holds c
begun_run Nothing f = refl
begun_run Return f = refl
begun_run Iac f = refl
begun_run (Negotiating Will) f = refl
begun_run (Negotiating Wont) f = refl
begun_run (Negotiating Do) f = refl
begun_run (Negotiating Dont) f = refl
begun_run (Parameters ps) f = open_run ps [] f
begun_run (Parameters_iac ps) f =
    run_append (flat_map parameter_bytes ps) (IAC ∷ []) (Parameters []) ∙ ap (λ s. joined s (λ d. run d (IAC ∷ []))) (open_run ps [] f)
