-- What a whole script says, and its first fault.
use Rattle.std.specs.Prelude.{◌≡◌, ℕ, ◌+◌, min, ◌<◌, Bool, not, ◌==◌, List, [], ◌∷◌, ◌++◌, length, codes, IsTrue}
use Rattle.std.specs.List.{list_all}
use Rattle.spec_world.specs.Step.{Step}
use Rattle.task_step.specs.StepView.{event_of}
use Rattle.moo_script.specs.declared.fault.LineFault.{LineFault}
use Rattle.moo_script.specs.declared.fault.LineFault.TheVariants as fault
use Rattle.moo_script.specs.declared.fault.ScriptFault.{ScriptFault}
use Rattle.moo_script.specs.declared.fault.ScriptFault.TheVariants as script
use Rattle.moo_script.specs.declared.script.Command.{Command}
use Rattle.moo_script.specs.declared.script.Command.TheVariants as command
use Rattle.moo_script.specs.Keys.{is_key, Spells}
use Rattle.moo_script.specs.Lines.{Says, IsFaulty}

-- no line end stands in it
abbrev pub is_one_line : List ℕ → Bool
is_one_line bs = list_all (λ b. not (b == 10)) bs

-- the first line gives the key
abbrev pub GivesKey : List ℕ → List ℕ → Type 0
GivesKey line key = (ds : List ℕ) × (line ≡ codes "key " ++ ds) × IsTrue (is_key ds) × Spells ds key

-- lines, each with its line end, and what they say
pub data AreLines : List ℕ → List Command → Type 0 where
  none : AreLines [] []
  also : {bs : List ℕ} {cs : List Command} → AreLines bs cs → (line : List ℕ) (c : Command) → IsTrue (is_one_line line) → Says line c → AreLines (bs ++ (line ++ 10 ∷ [])) (cs ++ c ∷ [])

-- the steps up to here, with the moment and the number of the next one
pub record Timeline : Type 0 where
  pub steps : List Step
  pub moment : ℕ
  pub number : ℕ

abbrev pub after_command : List ℕ → Timeline → Command → Timeline
after_command key t (command.Moment m) = record t { moment = m }
after_command key t (command.Event e) = record { steps = t.steps ++ record { number = t.number; moment = t.moment; key = key; event = event_of e } ∷ []; moment = t.moment; number = min (t.number + 1) 4294967295 }

abbrev pub after_commands : List ℕ → Timeline → List Command → Timeline
after_commands key t [] = t
after_commands key t (c ∷ cs) = after_commands key (after_command key t c) cs

-- the moment begins at 0
abbrev pub timeline : List ℕ → ℕ → List Command → Timeline
timeline key first cs = after_commands key (record { steps = []; moment = 0; number = first }) cs

-- the lines behind the first one, and their steps
abbrev pub GiveSteps : List ℕ → List ℕ → ℕ → List Step → Type 0
GiveSteps body key first steps = (cs : List Command) × AreLines body cs × (steps ≡ (timeline key first cs).steps)

abbrev pub IsScript : List ℕ → ℕ → List Step → Type 0
IsScript bs first steps = (line : List ℕ) × (body : List ℕ) × (key : List ℕ) × (bs ≡ line ++ 10 ∷ body) × GivesKey line key × GiveSteps body key first steps

-- the number of a line, as far as a `usize` counts
abbrev pub counted : ℕ → ℕ
counted n = min n 18446744073709551615

-- the first fault of the lines behind the first one: lines that say something, and then a faulty one or one without its end
pub data BodyFault (body : List ℕ) : ℕ → LineFault → Type 0 where
  faulty : (past : List ℕ) (cs : List Command) (line more : List ℕ) (kind : LineFault) → AreLines past cs → body ≡ past ++ (line ++ 10 ∷ more) → IsTrue (is_one_line line) → IsFaulty line kind → BodyFault body (counted (length cs + 2)) kind
  no_end : (past : List ℕ) (cs : List Command) (line : List ℕ) → AreLines past cs → body ≡ past ++ line → 0 < length line → IsTrue (is_one_line line) → BodyFault body (counted (length cs + 2)) fault.Word

abbrev pub IsBodyFault : List ℕ → ScriptFault → Type 0
IsBodyFault body (script.Line n kind) = BodyFault body n kind
IsBodyFault body (script.Memory e) = Unit {0}

-- the first fault of a script
pub data Fault (bs : List ℕ) : ℕ → LineFault → Type 0 where
  no_key : (line more : List ℕ) → bs ≡ line ++ 10 ∷ more → IsTrue (is_one_line line) → ((key : List ℕ) → GivesKey line key → ⊥) → Fault bs 1 fault.Key
  no_key_alone : IsTrue (is_one_line bs) → ((key : List ℕ) → GivesKey bs key → ⊥) → Fault bs 1 fault.Key
  key_without_end : (key : List ℕ) → GivesKey bs key → Fault bs 1 fault.Word
  later : (line body key : List ℕ) (n : ℕ) (kind : LineFault) → bs ≡ line ++ 10 ∷ body → GivesKey line key → BodyFault body n kind → Fault bs n kind

abbrev pub IsFault : List ℕ → ScriptFault → Type 0
IsFault bs (script.Line n kind) = Fault bs n kind
IsFault bs (script.Memory e) = Unit {0}
