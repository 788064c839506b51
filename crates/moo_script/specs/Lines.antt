-- What a line of a script says, after the first one.
use Rattle.std.specs.Prelude.{◌≡◌, ℕ, pos, Bool, not, ◌&&◌, ◌==◌, nat_le, nat_lt, List, [], ◌∷◌, ◌++◌, length, codes, IsTrue, IsFalse}
use Rattle.std.specs.List.{list_all}
use Rattle.spec_value.specs.Datum.{is_text}
use Rattle.task_step.specs.declared.step.Event.TheVariants as event
use Rattle.moo_script.specs.declared.fault.LineFault.{LineFault}
use Rattle.moo_script.specs.declared.fault.LineFault.TheVariants as fault
use Rattle.moo_script.specs.declared.script.Command.{Command}
use Rattle.moo_script.specs.declared.script.Command.TheVariants as command
use Rattle.moo_script.specs.declared.script.Word.{Word}
use Rattle.moo_script.specs.declared.script.Word.TheVariants as word
use Rattle.moo_script.specs.declared.script.Refusal.{Refusal}
use Rattle.moo_script.specs.declared.script.Refusal.TheVariants as refusal
use Rattle.moo_script.specs.Numbers.{is_number, number_value}

-- the fields stand one space apart: none is empty, and none has a space
abbrev pub is_field : List ℕ → Bool
is_field bs = nat_lt 0 (length bs) && list_all (λ b. not (b == 32)) bs

-- how a word stands in a line, with the space behind it
abbrev pub letters : Word → List ℕ
letters word.Moment = codes "moment "
letters word.Open = codes "open "
letters word.Close = codes "close "
letters word.Ready = codes "ready "

-- a line with its fields as they are written: a number behind its word, or a connection's and the text behind it
pub data Line : Type 0 where
  numbered : Word → List ℕ → Line
  input : List ℕ → List ℕ → Line

abbrev pub written : Line → List ℕ
written (numbered w n) = letters w ++ n
written (input c t) = codes "line " ++ (c ++ 32 ∷ t)

abbrev pub number_of : Line → List ℕ
number_of (numbered w n) = n
number_of (input c t) = c

abbrev pub text_of : Line → List ℕ
text_of (numbered w n) = []
text_of (input c t) = t

-- a task's number is at most the greatest integer of the language
abbrev pub number_fits : Line → Bool
number_fits (numbered word.Ready n) = is_number n && nat_le (number_value n) 2147483647
number_fits (numbered w n) = is_number n
number_fits (input c t) = is_number c

-- what it means where nothing is wrong with it
abbrev pub word_meaning : Word → ℕ → Command
word_meaning word.Moment n = command.Moment n
word_meaning word.Open n = command.Event (event.Open n)
word_meaning word.Close n = command.Event (event.Close n)
word_meaning word.Ready n = command.Event (event.Ready (pos n))

abbrev pub meaning : Line → Command
meaning (numbered w n) = word_meaning w (number_value n)
meaning (input c t) = command.Event (event.Line (number_value c) t)

abbrev pub is_short_text : List ℕ → Bool
is_short_text t = nat_le (length t) 4096 && is_text t

-- these bytes are the line
abbrev pub IsLine : List ℕ → Line → Type 0
IsLine bs l = (bs ≡ written l) × IsTrue (is_field (number_of l))

abbrev pub Says : List ℕ → Command → Type 0
Says bs c = (l : Line) × IsLine bs l × IsTrue (number_fits l) × IsTrue (is_short_text (text_of l)) × (c ≡ meaning l)

-- what is wrong with the bytes, the first in the order of the kinds; the key's is that of the first line alone
abbrev pub IsFaulty : List ℕ → LineFault → Type 0
IsFaulty bs fault.Key = ⊥
IsFaulty bs fault.Word = (l : Line) → IsLine bs l → ⊥
IsFaulty bs fault.Number = (l : Line) × IsLine bs l × IsFalse (number_fits l)
IsFaulty bs fault.Text = (l : Line) × IsLine bs l × IsTrue (number_fits l) × IsFalse (is_short_text (text_of l))

abbrev pub IsRefused : List ℕ → Refusal → Type 0
IsRefused bs (refusal.Fault kind) = IsFaulty bs kind
IsRefused bs (refusal.Memory e) = Unit {0}
