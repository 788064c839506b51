-- What the reader's own types mean.
use Rattle.std.specs.Prelude.{◌≡◌, ℕ, List, ◌++◌}
use Rattle.telnet_line.specs.declared.draft.Verb.{Verb as Heard}
use Rattle.telnet_line.specs.declared.draft.Verb.TheVariants as heard
use Rattle.telnet_line.specs.declared.draft.Begun.{Begun as Kept}
use Rattle.telnet_line.specs.declared.draft.Begun.TheVariants as kept
use Rattle.telnet_line.specs.declared.draft.Draft.{Draft}
use Rattle.telnet_line.specs.Telnet.{Verb, Will, Wont, Do, Dont}
use Rattle.telnet_line.specs.TelnetReading.{Begun, Nothing, Return, Iac, Negotiating, Parameters, Parameters_iac, Reading}
use Rattle.telnet_line.specs.TelnetSteps.{Step, reading_after, events_after}
use Rattle.telnet_line.specs.Events.{events_given}

abbrev pub verb_of : Heard → Verb
verb_of heard.Will = Will
verb_of heard.Wont = Wont
verb_of heard.Do = Do
verb_of heard.Dont = Dont

abbrev pub begun_of : Kept → Begun
begun_of kept.Nothing = Nothing
begun_of kept.Return = Return
begun_of kept.Iac = Iac
begun_of (kept.Negotiating verb) = Negotiating (verb_of verb)
begun_of kept.Parameters = Parameters
begun_of kept.ParametersIac = Parameters_iac

abbrev pub reading_of : Draft → Reading
reading_of draft = record { begun = begun_of draft.begun; line = draft.line }

-- the draft makes this step
pub record Stepped (step : Step) (old new : Draft) : Type 0 where
  pub reading : reading_of new ≡ step.reading
  pub events : events_given new.events.items ≡ events_given old.events.items ++ step.events

-- the draft reads a piece up to what is left of it
pub record ReadsUpTo (piece left : List ℕ) (old new : Draft) : Type 0 where
  pub reading : reading_after (reading_of new) left ≡ reading_after (reading_of old) piece
  pub events : events_given new.events.items ++ events_after (reading_of new) left ≡ events_given old.events.items ++ events_after (reading_of old) piece

-- the draft reads all of a piece
pub record ReadsAll (piece : List ℕ) (old new : Draft) : Type 0 where
  pub reading : reading_of new ≡ reading_after (reading_of old) piece
  pub events : events_given new.events.items ≡ events_given old.events.items ++ events_after (reading_of old) piece
