-- A machine that takes a byte at a time and makes the units. What it makes is a cutting.
use Rattle.std.proofs.Common.{◌≡◌, ℕ, true, List, [], ◌∷◌, ◌++◌, refl, sym, ap, ◌∙◌, subst, append_assoc, append-nil}
use Rattle.std.specs.Prelude.{◌==◌, nat_lt, if◌then◌else◌}
use Rattle.std.specs.List.{AllByRecursion, flat_map}
use Rattle.std.proofs.lemmas.Bool.{cond_both, eqb-true, eqb-false, ltb-true, ltb-false}
use Rattle.telnet_line.specs.Telnet.{NUL, LF, CR, SE, SB, WILL, WONT, DO, DONT, IAC, Verb, Will, Wont, Do, Dont, code, Parameter, Plain, After_iac, IsParameter, parameter_bytes, StreamUnit, Data, Data_iac, Line_feed, Return_line_feed, Return_null, Lone_return, Lone_iac, Command, Negotiation, Subnegotiation, IsUnit, spelling, MayPrecede, IsUnfinished, IsCut, rest, unit}

-- ---- the machine

pub data Cutter : Type 0 where
  Nothing : Cutter
  Return : Cutter
  Iac : Cutter
  Negotiating : Verb → Cutter
  Parameters : List Parameter → Cutter
  Parameters_iac : List Parameter → Cutter

abbrev pub bytes_of : Cutter → List ℕ
bytes_of Nothing = []
bytes_of Return = CR ∷ []
bytes_of Iac = IAC ∷ []
bytes_of (Negotiating verb) = IAC ∷ code verb ∷ []
bytes_of (Parameters ps) = IAC ∷ SB ∷ flat_map parameter_bytes ps
bytes_of (Parameters_iac ps) = IAC ∷ SB ∷ (flat_map parameter_bytes ps ++ IAC ∷ [])

abbrev pub Fits : Cutter → Type 0
Fits (Parameters ps) = AllByRecursion IsParameter ps
Fits (Parameters_iac ps) = AllByRecursion IsParameter ps
Fits _ = Unit {0}

-- the units that are whole now, and what has begun
pub record Cut : Type 0 where
  pub units : List StreamUnit
  pub left : Cutter

abbrev pub holds : Cutter → Cut
holds c = record { units = []; left = c }

abbrev pub whole : StreamUnit → Cut
whole u = record { units = u ∷ []; left = Nothing }

abbrev pub before : StreamUnit → Cut → Cut
before u s = record { units = u ∷ s.units; left = s.left }

abbrev pub cut_data : ℕ → Cut
cut_data b = if b == LF then whole Line_feed else (if b == CR then holds Return else (if b == IAC then holds Iac else whole (Data b)))

abbrev pub cut_return : ℕ → Cut
cut_return b = if b == LF then whole Return_line_feed else (if b == NUL then whole Return_null else before Lone_return (cut_data b))

abbrev pub cut_iac : ℕ → Cut
cut_iac b =
    if nat_lt b SE then before Lone_iac (cut_data b)
    else (if b == SB then holds (Parameters [])
    else (if b == WILL then holds (Negotiating Will)
    else (if b == WONT then holds (Negotiating Wont)
    else (if b == DO then holds (Negotiating Do)
    else (if b == DONT then holds (Negotiating Dont)
    else (if b == IAC then whole Data_iac
    else whole (Command b)))))))

abbrev pub cut_byte : Cutter → ℕ → Cut
cut_byte Nothing b = cut_data b
cut_byte Return b = cut_return b
cut_byte Iac b = cut_iac b
cut_byte (Negotiating verb) b = whole (Negotiation verb b)
cut_byte (Parameters ps) b = if b == IAC then holds (Parameters_iac ps) else holds (Parameters (ps ++ Plain b ∷ []))
cut_byte (Parameters_iac ps) b = if b == SE then whole (Subnegotiation ps) else holds (Parameters (ps ++ After_iac b ∷ []))

abbrev pub joined : Cut → (Cutter → Cut) → Cut
joined s f = record { units = s.units ++ (f s.left).units; left = (f s.left).left }

abbrev pub run : Cutter → List ℕ → Cut
run c [] = holds c
run c (b ∷ bytes) = joined (cut_byte c b) (λ d. run d bytes)

-- ---- parameters

flat_snoc : (ps : List Parameter) (p : Parameter) → flat_map parameter_bytes (ps ++ p ∷ []) ≡ flat_map parameter_bytes ps ++ parameter_bytes p
flat_snoc [] p = append-nil (parameter_bytes p)
flat_snoc (q ∷ ps) p = ap (λ x. parameter_bytes q ++ x) (flat_snoc ps p) ∙ sym (append_assoc (parameter_bytes q) (flat_map parameter_bytes ps) (parameter_bytes p))

all_snoc : (ps : List Parameter) (p : Parameter) → AllByRecursion IsParameter ps → IsParameter p → AllByRecursion IsParameter (ps ++ p ∷ [])
all_snoc [] p h i = (i, tt)
all_snoc (q ∷ ps) p h i = (h.0, all_snoc ps p h.1 i)

-- ---- what it makes is a cutting

unfinished : (c : Cutter) → Fits c → IsUnfinished (bytes_of c)
unfinished Nothing f = (Line_feed, LF, [], tt, refl)
unfinished Return f = (Return_line_feed, LF, [], tt, refl)
unfinished Iac f = (Data_iac, IAC, [], tt, refl)
unfinished (Negotiating verb) f = (Negotiation verb 0, 0, [], tt, refl)
unfinished (Parameters ps) f = (Subnegotiation ps, IAC, SE ∷ [], f, refl)
unfinished (Parameters_iac ps) f = (Subnegotiation ps, SE, [], f, ap (λ x. IAC ∷ SB ∷ x) (sym (append_assoc (flat_map parameter_bytes ps) (IAC ∷ []) (SE ∷ []))))

-- the stream, of which these bytes are still to come, is cut in the units so far and those that the bytes make
record Made (stream bytes : List ℕ) (s : Cut) : Type 0 where
  cut : IsCut stream (s.units ++ (run s.left bytes).units) (bytes_of (run s.left bytes).left)
  fits : Fits (run s.left bytes).left

abbrev Goes : List ℕ → Type 0
Goes bytes = (c : Cutter) → Fits c → Made (bytes_of c ++ bytes) bytes (holds c)

at_byte : (bytes : List ℕ) (s : Cut) (b n : ℕ) (front : List ℕ) → (b == n) ≡ true → Made (front ++ n ∷ bytes) bytes s → Made (front ++ b ∷ bytes) bytes s
at_byte bytes s b n front e h = subst (λ x. Made (front ++ x ∷ bytes) bytes s) (sym (eqb-true b n e)) h

after_unit : (bytes : List ℕ) (u : StreamUnit) → Goes bytes → IsUnit u → MayPrecede u bytes → Made (spelling u ++ bytes) bytes (whole u)
after_unit bytes u go i m = let g = go Nothing tt in record { cut = unit u i m g.cut; fits = g.fits }

data_made : (bytes : List ℕ) → Goes bytes → (b : ℕ) → Made (b ∷ bytes) bytes (cut_data b)
data_made bytes go b =
    let P : Cut → Type 0 = λ s. Made (b ∷ bytes) bytes s in
    cond_both (b == LF) _ _ P (λ e. at_byte bytes _ b LF [] e (after_unit bytes Line_feed go tt tt)) (λ lf.
    cond_both (b == CR) _ _ P (λ e. at_byte bytes _ b CR [] e (go Return tt)) (λ cr.
    cond_both (b == IAC) _ _ P (λ e. at_byte bytes _ b IAC [] e (go Iac tt)) (λ iac.
    after_unit bytes (Data b) go (eqb-false b LF lf, eqb-false b CR cr, eqb-false b IAC iac) tt)))

lone : (bytes : List ℕ) (u : StreamUnit) (b : ℕ) (s : Cut) → IsUnit u → MayPrecede u (b ∷ bytes) → Made (b ∷ bytes) bytes s → Made (spelling u ++ b ∷ bytes) bytes (before u s)
lone bytes u b s i m h = record { cut = unit u i m h.cut; fits = h.fits }

return_made : (bytes : List ℕ) → Goes bytes → (b : ℕ) → Made (CR ∷ b ∷ bytes) bytes (cut_return b)
return_made bytes go b =
    let P : Cut → Type 0 = λ s. Made (CR ∷ b ∷ bytes) bytes s in
    cond_both (b == LF) _ _ P (λ e. at_byte bytes _ b LF (CR ∷ []) e (after_unit bytes Return_line_feed go tt tt)) (λ lf.
    cond_both (b == NUL) _ _ P (λ e. at_byte bytes _ b NUL (CR ∷ []) e (after_unit bytes Return_null go tt tt)) (λ nul.
    lone bytes Lone_return b _ tt (eqb-false b LF lf, eqb-false b NUL nul) (data_made bytes go b)))

iac_made : (bytes : List ℕ) → Goes bytes → (b : ℕ) → Made (IAC ∷ b ∷ bytes) bytes (cut_iac b)
iac_made bytes go b =
    let P : Cut → Type 0 = λ s. Made (IAC ∷ b ∷ bytes) bytes s in
    cond_both (nat_lt b SE) _ _ P (λ e. lone bytes Lone_iac b _ tt (ltb-true b SE e) (data_made bytes go b)) (λ low.
    cond_both (b == SB) _ _ P (λ e. at_byte bytes _ b SB (IAC ∷ []) e (go (Parameters []) tt)) (λ sb.
    cond_both (b == WILL) _ _ P (λ e. at_byte bytes _ b WILL (IAC ∷ []) e (go (Negotiating Will) tt)) (λ will.
    cond_both (b == WONT) _ _ P (λ e. at_byte bytes _ b WONT (IAC ∷ []) e (go (Negotiating Wont) tt)) (λ wont.
    cond_both (b == DO) _ _ P (λ e. at_byte bytes _ b DO (IAC ∷ []) e (go (Negotiating Do) tt)) (λ do_it.
    cond_both (b == DONT) _ _ P (λ e. at_byte bytes _ b DONT (IAC ∷ []) e (go (Negotiating Dont) tt)) (λ dont.
    cond_both (b == IAC) _ _ P (λ e. at_byte bytes _ b IAC (IAC ∷ []) e (after_unit bytes Data_iac go tt tt)) (λ iac.
    after_unit bytes (Command b) go (ltb-false b SE low, eqb-false b SB sb, eqb-false b WILL will, eqb-false b WONT wont, eqb-false b DO do_it, eqb-false b DONT dont, eqb-false b IAC iac) tt)))))))

-- the bytes of a subnegotiation, and those that go on
abbrev opened : List ℕ → List ℕ
opened bytes = IAC ∷ SB ∷ bytes

one_more : (bytes : List ℕ) (s : Cut) (ps : List Parameter) (p : Parameter) → Made (opened (flat_map parameter_bytes (ps ++ p ∷ []) ++ bytes)) bytes s → Made (opened (flat_map parameter_bytes ps ++ (parameter_bytes p ++ bytes))) bytes s
one_more bytes s ps p h = subst (λ x. Made (opened x) bytes s) (ap (λ x. x ++ bytes) (flat_snoc ps p) ∙ append_assoc (flat_map parameter_bytes ps) (parameter_bytes p) bytes) h

parameters_made : (bytes : List ℕ) → Goes bytes → (ps : List Parameter) → AllByRecursion IsParameter ps → (b : ℕ) → Made (opened (flat_map parameter_bytes ps ++ b ∷ bytes)) bytes (cut_byte (Parameters ps) b)
parameters_made bytes go ps f b =
    let P : Cut → Type 0 = λ s. Made (opened (flat_map parameter_bytes ps ++ b ∷ bytes)) bytes s in
    cond_both (b == IAC) _ _ P
    (λ e. at_byte bytes _ b IAC (opened (flat_map parameter_bytes ps)) e (subst (λ x. Made (opened x) bytes (holds (Parameters_iac ps))) (append_assoc (flat_map parameter_bytes ps) (IAC ∷ []) bytes) (go (Parameters_iac ps) f)))
    (λ e. one_more bytes _ ps (Plain b) (go (Parameters (ps ++ Plain b ∷ [])) (all_snoc ps (Plain b) f (eqb-false b IAC e))))

parameters_iac_made : (bytes : List ℕ) → Goes bytes → (ps : List Parameter) → AllByRecursion IsParameter ps → (b : ℕ) → Made (opened ((flat_map parameter_bytes ps ++ IAC ∷ []) ++ b ∷ bytes)) bytes (cut_byte (Parameters_iac ps) b)
parameters_iac_made bytes go ps f b =
    let P : Cut → Type 0 = λ s. Made (opened ((flat_map parameter_bytes ps ++ IAC ∷ []) ++ b ∷ bytes)) bytes s in
    let seam : (x : ℕ) → (flat_map parameter_bytes ps ++ IAC ∷ []) ++ x ∷ bytes ≡ flat_map parameter_bytes ps ++ IAC ∷ x ∷ bytes = λ x. append_assoc (flat_map parameter_bytes ps) (IAC ∷ []) (x ∷ bytes) in
    cond_both (b == SE) _ _ P
    (λ e. at_byte bytes _ b SE (opened (flat_map parameter_bytes ps ++ IAC ∷ [])) e (subst (λ x. Made (opened x) bytes (whole (Subnegotiation ps))) (append_assoc (flat_map parameter_bytes ps) (IAC ∷ SE ∷ []) bytes ∙ sym (seam SE)) (after_unit bytes (Subnegotiation ps) go f tt)))
    (λ e. subst (λ x. Made (opened x) bytes (holds (Parameters (ps ++ After_iac b ∷ [])))) (sym (seam b)) (one_more bytes _ ps (After_iac b) (go (Parameters (ps ++ After_iac b ∷ [])) (all_snoc ps (After_iac b) f (eqb-false b SE e)))))

stepped : (stream bytes : List ℕ) (c : Cutter) (b : ℕ) → Made stream bytes (cut_byte c b) → Made stream (b ∷ bytes) (holds c)
stepped stream bytes c b h = record { cut = h.cut; fits = h.fits }

goes : (bytes : List ℕ) → Goes bytes
goes [] c f = record { cut = subst (λ x. IsCut x [] (bytes_of c)) (sym (append-nil (bytes_of c))) (rest (unfinished c f)); fits = f }
goes (b ∷ bytes) Nothing f = stepped _ bytes Nothing b (data_made bytes (goes bytes) b)
goes (b ∷ bytes) Return f = stepped _ bytes Return b (return_made bytes (goes bytes) b)
goes (b ∷ bytes) Iac f = stepped _ bytes Iac b (iac_made bytes (goes bytes) b)
goes (b ∷ bytes) (Negotiating verb) f = stepped _ bytes (Negotiating verb) b (after_unit bytes (Negotiation verb b) (goes bytes) tt tt)
goes (b ∷ bytes) (Parameters ps) f = stepped _ bytes (Parameters ps) b (parameters_made bytes (goes bytes) ps f b)
goes (b ∷ bytes) (Parameters_iac ps) f = stepped _ bytes (Parameters_iac ps) b (parameters_iac_made bytes (goes bytes) ps f b)

-- each stream has a cutting
pub cut_is : (stream : List ℕ) → IsCut stream (run Nothing stream).units (bytes_of (run Nothing stream).left)
cut_is stream = (goes stream Nothing tt).cut

pub left_fits : (stream : List ℕ) → Fits (run Nothing stream).left
left_fits stream = (goes stream Nothing tt).fits
