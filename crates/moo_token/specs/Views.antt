-- What the code keeps, without where it lies in memory.
use Rattle.std.specs.Prelude.{◌≡◌, List, map, Option, Some, None, Result, Ok, Err}
use Rattle.moo_token.specs.declared.token.Token.{Token as Lexeme}
use Rattle.moo_token.specs.declared.token.Token.TheVariants as l
use Rattle.moo_token.specs.declared.token.Placed.{Placed}
use Rattle.moo_token.specs.declared.fault.TokenFault.{TokenFault}
use Rattle.moo_token.specs.declared.cutter.CutError.{CutError}
use Rattle.moo_token.specs.declared.cutter.CutError.TheVariants as error
use Rattle.moo_token.specs.declared.cutter.Cutter.{Cutter}
use Rattle.moo_token.specs.Tokens as t
use Rattle.moo_token.specs.Tokens.{Token, Place, Ending, whole, faulty}
use Rattle.moo_token.specs.Cutting.{State, Cut, Step}

abbrev pub token_of : Lexeme → Token
token_of (l.Identifier v) = t.identifier v.items
token_of (l.Keyword k) = t.keyword k
token_of (l.Error e) = t.error_name e
token_of (l.Integer n) = t.integer n
token_of (l.Object minus n) = t.object minus n
token_of (l.Text v) = t.text v.items
token_of (l.Sign s) = t.mark s

abbrev pub place_of : Placed → Place
place_of p = record { token = token_of p.token; line = p.line }

abbrev pub places : List Placed → List Place
places ps = map place_of ps

abbrev pub ending_of : Option TokenFault → Ending
ending_of None = whole
ending_of (Some f) = faulty f.kind f.line

abbrev pub state_of : Cutter → State
state_of c = record { pending = c.pending; buffer = c.buffer.items; out = places c.out.items; line = c.line }

-- What a step of the code does: the machine's step, unless memory runs out.
abbrev pub Stepped : Step → Result (Unit {0}) CutError → Cutter → Type 0
Stepped r (Ok u) new = r ≡ Ok (state_of new)
Stepped r (Err error.Memory) new = Unit {0}
Stepped r (Err (error.Fault kind)) new = r ≡ Err (record { places = places new.out.items; ending = faulty kind new.line })

abbrev pub Finished : Cut → Result (Unit {0}) CutError → Cutter → Type 0
Finished r (Ok u) new = r ≡ record { places = places new.out.items; ending = whole }
Finished r (Err error.Memory) new = Unit {0}
Finished r (Err (error.Fault kind)) new = r ≡ record { places = places new.out.items; ending = faulty kind new.line }
