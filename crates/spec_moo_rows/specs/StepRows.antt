-- Worked rows, true by computation: what steps on the fixture print, from the first number, at moment 0.
use Rattle.std.specs.Prelude.{◌≡◌, ℕ, zero, suc, ℤ, pos, neg_ℤ, List, [], ◌∷◌, ◌++◌, length, take, drop, replicate, true, false, codes}
use Rattle.std.specs.Fmt.{decimal}
use Rattle.spec_value.specs.Datum.{Text}
use Rattle.spec_program.specs.ReadPrograms.{parsed}
use Rattle.spec_world.specs.World.{World, Verb, Object}
use Rattle.spec_world.specs.Checkpoint.{each_task, world_lines, checkpoint_text}
use Rattle.spec_world.specs.Families.{change_object}
use Rattle.spec_world.specs.Members.{verb_added}
use Rattle.spec_moo.specs.Steps.{play}
use Rattle.spec_world.specs.Step.{Event, open_link, close_link, line_of, ready_task, Step}
use Rattle.spec_world.specs.Outcome.{Outcome}
use Rattle.spec_moo.specs.Steps.Printing.{outcome_lines}
use Rattle.spec_fixture.specs.Fixture.{fixture, plain_verb}
use Rattle.spec_fixture.specs.Texts.{program_of}

-- ---- a script and what it prints

abbrev pub step_at : ℕ → Event → Step
step_at n e = record { number = n; moment = 0; key = replicate 32 0; event = e }

abbrev pub steps_from : ℕ → List Event → List Step
steps_from n [] = []
steps_from n (e ∷ es) = step_at n e ∷ steps_from (suc n) es

abbrev pub lines_from : ℕ → List Outcome → List Text
lines_from n [] = []
lines_from n (o ∷ os) = outcome_lines n o ++ lines_from (suc n) os

abbrev pub prints : World → List Event → List Text
prints w es = lines_from w.next (play w (steps_from w.next es)).1

abbrev pub line : ℤ → Text → Event
line c t = line_of c t

-- ---- the fixture with further verbs of the room

abbrev pub with_verb : World → Text → Text → World
with_verb w names code = verb_added w (pos 3) (plain_verb names (program_of (parsed code)))

-- the wizard owns it; by another owner
abbrev pub with_verb_of : World → ℤ → Text → Text → World
with_verb_of w owner names code = verb_added w (pos 3) (record (plain_verb names (program_of (parsed code))) { owner = owner })

-- ---- counts and words

abbrev pub TwoCounts : Type 0
TwoCounts = prints fixture (line (pos 1) (codes "count") ∷ line (pos 2) (codes "count ") ∷ []) ≡ codes "step 1 value 1 ticks 5" ∷ codes "step 2 value 2 ticks 5" ∷ []

abbrev pub Sum : Type 0
Sum = prints fixture (line (pos 1) (codes "sum") ∷ []) ≡ codes "step 1 value 7 ticks 3" ∷ []

abbrev pub Looks : Type 0
Looks =
    prints fixture (line (pos 1) (codes "look in front of box") ∷ line (pos 1) (codes "put \"red ball\" in box") ∷ line (pos 1) (codes "loo") ∷ line (pos 1) (codes "looks") ∷ [])
    ≡ codes "step 1 value \"in front of\" ticks 1" ∷ codes "step 2 value {\"red ball\", \"in\", #6} ticks 2" ∷ codes "step 3 value \"loo\" ticks 1"
    ∷ codes "step 4 none ticks 0" ∷ codes "> 1 I couldn't understand that." ∷ []

-- a verb that was added is there for the next step
abbrev pub Grows : Type 0
Grows =
    (prints fixture (line (pos 1) (codes "grow") ∷ line (pos 2) (codes "call") ∷ []) ≡ codes "step 1 value 0 ticks 3" ∷ codes "step 2 value 0 ticks 3" ∷ [])
    × (prints fixture (line (pos 2) (codes "call") ∷ []) ≡ codes "step 1 value \"none\" ticks 3" ∷ [])

-- ---- `eval`

abbrev pub Evaluated : Type 0
Evaluated =
    prints fixture (line (pos 1) (codes ";-2147483648 / -1") ∷ line (pos 1) (codes ";-5 % 2") ∷ line (pos 1) (codes ";\"abc\"[3..2]") ∷ line (pos 1) (codes ";{1, 2}[0]") ∷ [])
    ≡ codes "step 1 value -2147483648 ticks 9" ∷ codes "step 2 value -1 ticks 8" ∷ codes "step 3 value \"\" ticks 7"
    ∷ codes "step 4 raised E_RANGE ticks 5" ∷ codes "> 1 #-1:eval: Range error" ∷ codes "> 1 called from #3:eval" ∷ codes "> 1 (End of traceback)" ∷ []

-- ---- tasks

abbrev pub Plots : Type 0
Plots =
    prints fixture (line (pos 1) (codes "plot") ∷ ready_task (pos 2) ∷ ready_task (pos 1) ∷ [])
    ≡ codes "step 1 value 0 ticks 2" ∷ codes "+ 1 0" ∷ codes "+ 2 0" ∷ codes "step 2 value 0 ticks 1" ∷ codes "step 3 absent ticks 0" ∷ []

-- the word is that of ChaCha20 under a key of zeros, stream 2
abbrev pub Dice : Type 0
Dice =
    prints fixture (line (pos 1) (codes "count") ∷ line (pos 2) (codes "dice") ∷ [])
    ≡ codes "step 1 value 1 ticks 5" ∷ codes "step 2 value {3, 29992} ticks 10" ∷ codes "+ 65 0" ∷ codes "+ 66 1" ∷ []

abbrev pub Holds : Type 0
Holds =
    prints fixture (line (pos 1) (codes "hold") ∷ line (pos 1) (codes "wake") ∷ ready_task (pos 1) ∷ [])
    ≡ codes "step 1 suspended ticks 1" ∷ codes "+ 1 never" ∷ codes "step 2 value 0 ticks 2" ∷ codes "step 3 value {1, 5, 3} ticks 2" ∷ []

abbrev pub Asks : Type 0
Asks =
    prints (with_verb fixture (codes "ask") (codes "return read();")) (line (pos 1) (codes "ask") ∷ line (pos 1) (codes "hello") ∷ [])
    ≡ codes "step 1 reading ticks 1" ∷ codes "+ 1 read" ∷ codes "step 2 value \"hello\" ticks 1" ∷ []

abbrev pub Drops : Type 0
Drops =
    prints (with_verb fixture (codes "drop") (codes "fork b (0) endfork kill_task(b);")) (line (pos 1) (codes "drop") ∷ ready_task (pos 1) ∷ [])
    ≡ codes "step 1 value 0 ticks 2" ∷ codes "+ 1 0" ∷ codes "step 2 absent ticks 0" ∷ []

abbrev pub Breeds : Type 0
Breeds =
    prints (with_verb fixture (codes "breed") (codes "fork (0) this:breed(); this:breed(); endfork")) (line (pos 1) (codes "breed") ∷ ready_task (pos 1) ∷ [])
    ≡ codes "step 1 value 0 ticks 1" ∷ codes "+ 1 0" ∷ codes "step 2 value 0 ticks 4" ∷ codes "+ 65 0" ∷ codes "+ 66 0" ∷ []

-- ---- links

abbrev pub Closed : Type 0
Closed =
    prints fixture (close_link (pos 1) ∷ line (pos 2) (codes "tell") ∷ line (pos 1) (codes "count") ∷ [])
    ≡ codes "step 1 none ticks 0" ∷ codes "step 2 value 0 ticks 1" ∷ codes "step 3 none ticks 0" ∷ []

abbrev pub Told : Type 0
Told = prints fixture (line (pos 2) (codes "tell") ∷ []) ≡ codes "step 1 value 0 ticks 1" ∷ codes "> 1 hi" ∷ []

abbrev pub LogsIn : Type 0
LogsIn =
    prints fixture (open_link (pos 3) ∷ line (pos 3) (codes "connect #2") ∷ [])
    ≡ codes "step 1 value 0 ticks 5" ∷ codes "> 3 Type connect #n" ∷ codes "step 2 value #2 ticks 9" ∷ codes "> 3 *** Connected ***" ∷ []

-- a player who logs in again loses the older link
abbrev pub LogsInAgain : Type 0
LogsInAgain =
    prints fixture (open_link (pos 3) ∷ line (pos 3) (codes "connect #4") ∷ [])
    ≡ codes "step 1 value 0 ticks 5" ∷ codes "> 3 Type connect #n" ∷ codes "step 2 value #4 ticks 9" ∷ codes "> 3 *** Connected ***" ∷ codes "! 1" ∷ []

-- ---- objects

abbrev pub Moves : Type 0
Moves =
    (prints (with_verb fixture (codes "go") (codes "return move(#6, #4);")) (line (pos 1) (codes "go") ∷ []) ≡ codes "step 1 value 0 ticks 2" ∷ [])
    × (prints (with_verb fixture (codes "go") (codes "move(#6, #6);")) (line (pos 1) (codes "go") ∷ [])
    ≡ codes "step 1 raised E_RECMOVE ticks 1" ∷ codes "> 1 #3:go: Recursive move" ∷ codes "> 1 (End of traceback)" ∷ [])

-- Ann owns the verb and the box, or the verb alone
abbrev pub MovesOfAnn : Type 0
MovesOfAnn =
    (prints (with_verb_of (change_object fixture (pos 6) (λ x. record x { header = record (x.header) { owner = pos 4 } })) (pos 4) (codes "go") (codes "return move(#6, #4);")) (line (pos 1) (codes "go") ∷ [])
    ≡ codes "step 1 raised E_NACC ticks 1" ∷ codes "> 1 #3:go: Move refused by object" ∷ codes "> 1 (End of traceback)" ∷ [])
    × (prints (with_verb_of fixture (pos 4) (codes "go") (codes "return move(#6, #4);")) (line (pos 1) (codes "go") ∷ [])
    ≡ codes "step 1 raised E_PERM ticks 1" ∷ codes "> 1 #3:go: Permission denied" ∷ codes "> 1 (End of traceback)" ∷ [])

abbrev pub EvaluatesOne : Type 0
EvaluatesOne = prints (with_verb fixture (codes "go") (codes "return eval(\"return 1;\");")) (line (pos 1) (codes "go") ∷ []) ≡ codes "step 1 value {1, 1} ticks 3" ∷ []

-- ---- programs of the room

abbrev pub Catches : Type 0
Catches =
    (prints (with_verb fixture (codes "go") []) (line (pos 1) (codes "go") ∷ []) ≡ codes "step 1 value 0 ticks 0" ∷ [])
    × (prints (with_verb fixture (codes "go") (codes "return `1 / 0 ! E_DIV => 7';")) (line (pos 1) (codes "go") ∷ []) ≡ codes "step 1 value 7 ticks 3" ∷ [])
    × (prints (with_verb fixture (codes "go") (codes "return 1 / 0;")) (line (pos 1) (codes "go") ∷ [])
    ≡ codes "step 1 raised E_DIV ticks 1" ∷ codes "> 1 #3:go: Division by zero" ∷ codes "> 1 (End of traceback)" ∷ [])
    × (prints (verb_added fixture (pos 3) (record (plain_verb (codes "go") (program_of (parsed (codes "return 1 / 0;")))) { debug = false })) (line (pos 1) (codes "go") ∷ [])
    ≡ codes "step 1 value E_DIV ticks 2" ∷ [])

-- ---- `.program`, by Ann as a programmer and wizard

abbrev pub with_wizard : World
with_wizard = change_object fixture (pos 4) (λ x. record x { header = record (x.header) { is_programmer = true; is_wizard = true } })

abbrev pub Programs : Type 0
Programs =
    prints with_wizard (line (pos 1) (codes ".program #3:sum") ∷ line (pos 1) (codes "return 8;") ∷ line (pos 1) (codes ".") ∷ line (pos 1) (codes "sum") ∷ [])
    ≡ codes "step 1 none ticks 0" ∷ codes "> 1 Now programming #3:sum." ∷ codes "step 2 none ticks 0" ∷ codes "step 3 none ticks 0" ∷ codes "> 1 Verb programmed."
    ∷ codes "step 4 value 8 ticks 1" ∷ []

abbrev pub ProgramsWrong : Type 0
ProgramsWrong =
    (prints with_wizard (line (pos 1) (codes ".program #3:sum") ∷ line (pos 1) (codes "retrun 8;") ∷ line (pos 1) (codes ".") ∷ line (pos 1) (codes "sum") ∷ [])
    ≡ codes "step 1 none ticks 0" ∷ codes "> 1 Now programming #3:sum." ∷ codes "step 2 none ticks 0" ∷ codes "step 3 none ticks 0" ∷ codes "> 1 Line 1: Token"
    ∷ codes "step 4 value 7 ticks 3" ∷ [])
    × (prints fixture (line (pos 1) (codes ".program #3:sum") ∷ []) ≡ codes "step 1 none ticks 0" ∷ codes "> 1 I couldn't understand that." ∷ [])

-- ---- storms and bombs

abbrev pub numbered_from : ℕ → ℕ → List Text
numbered_from zero i = []
numbered_from (suc n) i = (codes "+ " ++ (decimal i ++ codes " 0")) ∷ numbered_from n (suc i)

-- the 65th task of a step finds no id
abbrev pub Storm : Type 0
Storm =
    prints fixture (line (pos 1) (codes "storm") ∷ [])
    ≡ codes "step 1 raised E_QUOTA ticks 130" ∷ codes "> 1 #3:storm: Resource limit exceeded" ∷ codes "> 1 (End of traceback)" ∷ numbered_from 64 1

-- the 51st frame
abbrev pub Recursion : Type 0
Recursion =
    prints (with_verb fixture (codes "rec") (codes "return this:rec();")) (line (pos 1) (codes "rec") ∷ [])
    ≡ codes "step 1 raised E_MAXREC ticks 50" ∷ codes "> 1 #3:rec: Too many verb calls"
    ∷ (replicate 49 (codes "> 1 called from #3:rec") ++ codes "> 1 (End of traceback)" ∷ [])

abbrev pub Bomb : Type 0
Bomb =
    prints (with_verb fixture (codes "bomb") (codes "s = \"a\"; while (1) s = s + s; endwhile")) (line (pos 1) (codes "bomb") ∷ [])
    ≡ codes "step 1 raised E_QUOTA ticks 48" ∷ codes "> 1 #3:bomb: Resource limit exceeded" ∷ codes "> 1 (End of traceback)" ∷ []

-- a list of arguments is weighed
abbrev pub Twice : Type 0
Twice =
    prints (with_verb (with_verb fixture (codes "twice") (codes "s = {}; while (1) s = this:wrap(s, s); endwhile")) (codes "wrap") (codes "return args;"))
    (line (pos 1) (codes "twice") ∷ [])
    ≡ codes "step 1 raised E_QUOTA ticks 64" ∷ codes "> 1 #3:twice: Resource limit exceeded" ∷ codes "> 1 (End of traceback)" ∷ []

-- ---- the text of a world

abbrev pub empty_world : World
empty_world = record { objects = []; tasks = []; links = []; greatest = neg_ℤ (pos 1); next = 1; ending = false }

abbrev pub EmptyText : Type 0
EmptyText =
    (length (checkpoint_text empty_world) ≡ 75)
    × (world_lines empty_world
    ≡ codes "MOO-CHECKPOINT 1" ∷ codes "next 1" ∷ codes "greatest -1" ∷ codes "ending 0" ∷ codes "links 0" ∷ codes "objects 0" ∷ codes "tasks 0" ∷ codes "end" ∷ [])

abbrev pub world_after : World → List Event → World
world_after w es = (play w (steps_from w.next es)).0

-- a task that waits as the second item of a list, and holds the first
abbrev pub HeldText : Type 0
HeldText =
    each_task (world_after fixture (line (pos 1) (codes "hold") ∷ [])).tasks
    ≡ codes "task 1 idle" ∷ codes "player #4" ∷ codes "entries 1" ∷ codes "frame #3 #4 #3 #2 \"hold\" 1 1" ∷ codes "return {1, suspend(), 3};"
    ∷ codes "start {\"\", #-1, \"\", \"\", #-1, \"\"}" ∷ codes "place 1.1.2" ∷ codes "vars 17"
    ∷ codes "var \"args\" {}" ∷ codes "var \"argstr\" \"\"" ∷ codes "var \"caller\" #4" ∷ codes "var \"dobj\" #-1" ∷ codes "var \"dobjstr\" \"\""
    ∷ codes "var \"err\" 3" ∷ codes "var \"int\" 0" ∷ codes "var \"iobj\" #-1" ∷ codes "var \"iobjstr\" \"\"" ∷ codes "var \"list\" 4" ∷ codes "var \"num\" 0"
    ∷ codes "var \"obj\" 1" ∷ codes "var \"player\" #4" ∷ codes "var \"prepstr\" \"\"" ∷ codes "var \"str\" 2" ∷ codes "var \"this\" #3" ∷ codes "var \"verb\" \"hold\""
    ∷ codes "held 1" ∷ codes "{1}" ∷ []

abbrev pub CountText : Type 0
CountText =
    take 2 (drop 1 (world_lines (world_after fixture (line (pos 1) (codes "count") ∷ [])))) ≡ codes "next 2" ∷ codes "greatest 7" ∷ []
