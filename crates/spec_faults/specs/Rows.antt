-- Worked rows, true by computation: texts, the line of the first fault, and the fault.
use Rattle.std.specs.Prelude.{◌≡◌, ℕ, ◌-◌, List, [], ◌∷◌, ◌++◌, take, drop, None, codes}
use Rattle.spec_value.specs.Datum.{Text}
use Rattle.spec_world.specs.Checkpoint as fault
use Rattle.spec_world.specs.Checkpoint.{CheckpointFault, with_line_ends}
use Rattle.spec_faults.specs.Faults.{first_fault, fault_at}

abbrev pub Told : List Text → ℕ → CheckpointFault → Type 0
Told ts n k = first_fault (with_line_ends ts) ≡ fault_at n k

-- behind whose last line there is more, without a line end
abbrev pub Cut : List Text → Text → ℕ → CheckpointFault → Type 0
Cut ts rest n k = first_fault (with_line_ends ts ++ rest) ≡ fault_at n k

abbrev pub Unfaulted : List Text → Type 0
Unfaulted ts = first_fault (with_line_ends ts) ≡ None

-- ---- the world with nothing in it

abbrev pub empty_but_end : List Text
empty_but_end = codes "MOO-CHECKPOINT 1" ∷ codes "next 1" ∷ codes "greatest -1" ∷ codes "ending 0" ∷ codes "links 0" ∷ codes "objects 0" ∷ codes "tasks 0" ∷ []

abbrev pub EmptyWorld : Type 0
EmptyWorld =
    Unfaulted (empty_but_end ++ codes "end" ∷ [])
    × Told (codes "MOO-CHECKPOINT 1" ∷ codes "next 01" ∷ []) 2 fault.number
    × Told empty_but_end 8 fault.ended
    × Told (empty_but_end ++ codes "end" ∷ codes "x" ∷ []) 9 fault.line
    × Told (codes "MOO-CHECKPOINT 2" ∷ []) 1 fault.header
    × Told (take 5 empty_but_end ++ codes "objects 99999999999" ∷ []) 7 fault.ended

-- ---- a small world: a player, somebody who has not logged in, and a task that waits inside a loop

abbrev pub before_tasks : List Text
before_tasks =
    codes "MOO-CHECKPOINT 1"
    ∷ codes "next 2"
    ∷ codes "greatest 1"
    ∷ codes "ending 0"
    ∷ codes "links 2"
    ∷ codes "link 1 #0 {#0, \"v\", {\"a\"}}"
    ∷ codes "link 2 #-5 0"
    ∷ codes "objects 2"
    ∷ codes "object 0"
    ∷ codes "name \"A\""
    ∷ codes "owner #0"
    ∷ codes "parent #-1"
    ∷ codes "location #-1"
    ∷ codes "children {#1}"
    ∷ codes "contents {}"
    ∷ codes "flags 100001"
    ∷ codes "defines {\"p\"}"
    ∷ codes "slots 1"
    ∷ codes "slot #0 rc {1, \"b\"}"
    ∷ codes "verbs 0"
    ∷ codes "object 1"
    ∷ codes "name \"B\""
    ∷ codes "owner #0"
    ∷ codes "parent #0"
    ∷ codes "location #-1"
    ∷ codes "children {}"
    ∷ codes "contents {}"
    ∷ codes "flags 000000"
    ∷ codes "defines {}"
    ∷ codes "slots 1"
    ∷ codes "slot #0 - clear"
    ∷ codes "verbs 1"
    ∷ codes "verb \"v*\" #0 xd this 2 any 3"
    ∷ codes "for x in ({4, 5})"
    ∷ codes "  y = {x, suspend()};"
    ∷ codes "endfor"
    ∷ codes "tasks 1"
    ∷ []

abbrev pub verb_under_way : List Text
verb_under_way =
    codes "frame #1 #0 #1 #0 \"v\" 1 3"
    ∷ codes "for x in ({4, 5})"
    ∷ codes "  y = {x, suspend()};"
    ∷ codes "endfor"
    ∷ codes "start {\"\", #-1, \"\", \"\", #-1, \"\"}"
    ∷ codes "place 1.2.1.1.2.2"
    ∷ codes "vars 2"
    ∷ codes "var \"this\" #1"
    ∷ codes "var \"x\" 4"
    ∷ codes "held 3"
    ∷ codes "{4, 5}"
    ∷ codes "1"
    ∷ codes "{4}"
    ∷ []

abbrev pub before_entries : List Text
before_entries = before_tasks ++ codes "task 1 wait 7 \"z\"" ∷ codes "player #0" ∷ []

abbrev pub before_fork : List Text
before_fork = before_tasks ++ codes "task 1 fork 7" ∷ codes "player #0" ∷ []

abbrev pub small : List Text
small = before_entries ++ codes "entries 1" ∷ (verb_under_way ++ codes "end" ∷ [])

-- with another line of this number
abbrev pub altered : ℕ → Text → List Text → List Text
altered n t ts = take (n - 1) ts ++ t ∷ drop n ts

-- the line that is altered is told
abbrev pub Wrong : ℕ → Text → CheckpointFault → Type 0
Wrong n t k = Told (altered n t small) n k

-- another first line that has its line end
abbrev pub Headers : Type 0
Headers =
    Wrong 1 (codes "MOO-CHECKPOINT 2") fault.header
    × Wrong 1 (codes "MOO-CHECKPOINT 1 ") fault.header
    × Wrong 1 (codes "") fault.header
    × Told (altered 1 (codes "x") (altered 2 (codes "next 01") small)) 1 fault.header

-- the text ends before the line end, also where only a line behind the last lacks it
abbrev pub Ends : Type 0
Ends =
    Cut (take 0 small) (codes "") 1 fault.ended
    × Cut (take 0 small) (codes "x") 1 fault.ended
    × Cut (take 0 small) (codes "MOO-CHECKPOINT 1") 1 fault.ended
    × Told (take 53 small) 54 fault.ended
    × Cut (take 53 small) (codes "end") 54 fault.ended
    × Cut (take 54 small) (codes "x") 55 fault.ended

-- a program whose lines are not all there
abbrev pub EndsInCode : Type 0
EndsInCode =
    Told (take 33 small) 34 fault.ended
    × Told (take 34 small) 35 fault.ended
    × Cut (take 34 small) (codes "x") 35 fault.ended
    × Told (altered 33 (codes "verb \"v*\" #0 xd this 2 any 22") small) 55 fault.ended
    × Told (altered 33 (codes "verb \"v*\" #0 xd this 2 any 9223372036854775807") small) 55 fault.ended

-- another word
abbrev pub OtherWords : Type 0
OtherWords =
    Wrong 2 (codes "nexts 2") fault.line
    × Wrong 4 (codes "Ending 0") fault.line
    × Wrong 9 (codes "objects 0") fault.line
    × Wrong 54 (codes "ends") fault.line
    × Wrong 38 (codes "task 1 later 7") fault.line
    × Wrong 41 (codes "frames #1 #0 #1 #0 \"v\" 1 3") fault.line
    × Wrong 4 (codes "ending-0") fault.line
    × Wrong 11 (codes "ownerx#0") fault.line

-- another number of fields; an empty one is none
abbrev pub OtherCounts : Type 0
OtherCounts =
    Wrong 2 (codes "next  2") fault.line
    × Wrong 2 (codes "next 2 ") fault.line
    × Wrong 2 (codes "next ") fault.line
    × Wrong 2 (codes "next") fault.line
    × Wrong 2 (codes "") fault.line
    × Wrong 10 (codes "name \"A\" \"B\"") fault.line
    × Wrong 17 (codes "defines  {\"p\"}") fault.line
    × Wrong 38 (codes "task 1 idle 7") fault.line
    × Wrong 52 (codes "1 1") fault.line
    × Wrong 50 (codes "held  3") fault.line

-- more lines than were told, or fewer, and a line behind the last
abbrev pub OtherLines : Type 0
OtherLines =
    Told (altered 5 (codes "links 3") small) 8 fault.line
    × Told (altered 8 (codes "objects 3") small) 37 fault.line
    × Told (altered 18 (codes "slots 0") small) 19 fault.line
    × Told (altered 33 (codes "verb \"v*\" #0 xd this 2 any 0") small) 34 fault.line
    × Told (altered 37 (codes "tasks 0") small) 38 fault.line
    × Told (altered 40 (codes "entries 2") small) 54 fault.line
    × Told (altered 47 (codes "vars 1") small) 49 fault.line
    × Told (small ++ codes "end" ∷ []) 55 fault.line
    × Told (small ++ codes "" ∷ []) 55 fault.line

-- numbers that are misspelt or out of their range
abbrev pub Numbers : Type 0
Numbers =
    Wrong 2 (codes "next 02") fault.number
    × Wrong 2 (codes "next 0") fault.number
    × Wrong 2 (codes "next 33554433") fault.number
    × Wrong 2 (codes "next +2") fault.number
    × Wrong 3 (codes "greatest -2") fault.number
    × Wrong 3 (codes "greatest -0") fault.number
    × Wrong 3 (codes "greatest 1000000") fault.number
    × Wrong 5 (codes "links 9223372036854775808") fault.number
    × Wrong 18 (codes "slots -4") fault.number

-- numbers of links and of objects
abbrev pub ObjectNumbers : Type 0
ObjectNumbers =
    Wrong 6 (codes "link 0 #0 0") fault.number
    × Wrong 6 (codes "link 2147483648 #0 0") fault.number
    × Wrong 7 (codes "link 2 -5 0") fault.number
    × Wrong 9 (codes "object -1") fault.number
    × Wrong 11 (codes "owner 0") fault.number
    × Wrong 11 (codes "owner #00") fault.number
    × Wrong 12 (codes "parent #2147483648") fault.number
    × Wrong 13 (codes "location #b1") fault.number

-- flags, bits and the objects that a verb wants
abbrev pub Letters : Type 0
Letters =
    Wrong 4 (codes "ending 2") fault.number
    × Wrong 16 (codes "flags 50") fault.number
    × Wrong 16 (codes "flags 100002") fault.number
    × Wrong 19 (codes "slot #0 cr 0") fault.number
    × Wrong 19 (codes "slot #0 x 0") fault.number
    × Wrong 33 (codes "verb \"v*\" #0 dx this 2 any 3") fault.number
    × Wrong 33 (codes "verb \"v*\" #0 xd here 2 any 3") fault.number
    × Wrong 33 (codes "verb \"v*\" #0 xd this 15 any 3") fault.number
    × Wrong 33 (codes "verb \"v*\" #0 xd this 02 any 3") fault.number
    × Wrong 33 (codes "verb \"v*\" #0 xd this 2 any 03") fault.number

-- the numbers of a task, and places
abbrev pub TaskNumbers : Type 0
TaskNumbers =
    Wrong 38 (codes "task 0 wait 7 \"z\"") fault.number
    × Wrong 38 (codes "task 2147483585 idle") fault.number
    × Wrong 38 (codes "task 1 fork 2147483648") fault.number
    × Wrong 38 (codes "task 1 read 0") fault.number
    × Wrong 41 (codes "frame #1 #0 #1 #0 \"v\" 2 3") fault.number
    × Wrong 46 (codes "place 1.0") fault.number
    × Wrong 46 (codes "place 1.") fault.number
    × Wrong 46 (codes "place 01") fault.number
    × Wrong 46 (codes "place -4") fault.number

-- literals that are not as values are written
abbrev pub Misspelt : Type 0
Misspelt =
    Wrong 19 (codes "slot #0 rc 007") fault.value
    × Wrong 19 (codes "slot #0 rc -0") fault.value
    × Wrong 19 (codes "slot #0 rc {1,2}") fault.value
    × Wrong 19 (codes "slot #0 rc {1, 2 }") fault.value
    × Wrong 19 (codes "slot #0 rc {1, }") fault.value
    × Wrong 19 (codes "slot #0 rc {1") fault.value
    × Wrong 19 (codes "slot #0 rc 2147483648") fault.value
    × Wrong 19 (codes "slot #0 rc E_NO") fault.value
    × Wrong 19 (codes "slot #0 rc \"a") fault.value
    × Wrong 19 (codes "slot #0 rc \"a\"b") fault.value
    × Wrong 19 (codes "slot #0 rc x") fault.value
    × Wrong 19 (codes "slot #0 rc #") fault.value
    × Wrong 19 (codes "slot #0 rc CLEAR") fault.value

-- literals of another kind than belongs there
abbrev pub OtherKinds : Type 0
OtherKinds =
    Wrong 10 (codes "name 5") fault.value
    × Wrong 14 (codes "children {1}") fault.value
    × Wrong 14 (codes "children #1") fault.value
    × Wrong 17 (codes "defines {#1}") fault.value
    × Wrong 6 (codes "link 1 #0 1") fault.value
    × Wrong 6 (codes "link 1 #0 {#0, \"v\"}") fault.value
    × Wrong 6 (codes "link 1 #0 {#0, \"v\", 1}") fault.value
    × Wrong 41 (codes "frame #1 #0 #1 #0 1 1 3") fault.value
    × Wrong 45 (codes "start {\"\", #-1, \"\", \"\", #-1}") fault.value
    × Wrong 48 (codes "var this #1") fault.value

-- of two faults in a line the least: another number of fields before a number, that before a literal
abbrev pub LeastOfLine : Type 0
LeastOfLine =
    Wrong 6 (codes "link 0 #0 {") fault.number
    × Wrong 6 (codes "link 0 #0 {} {") fault.line
    × Wrong 19 (codes "slot 0 rc 007") fault.number
    × Wrong 19 (codes "slot 0 rc 007 x") fault.line
    × Wrong 33 (codes "verb v #0 dx this 2 any 3") fault.number
    × Wrong 38 (codes "task 0 later z") fault.line
    × Wrong 38 (codes "task 0 wait 7 z") fault.number
    × Wrong 41 (codes "frame #1 #0 #1 #0 v 1 -") fault.number

-- and these before what does not go with the lines before
abbrev pub LeastOfEntry : Type 0
LeastOfEntry =
    Wrong 41 (codes "native move {}") fault.line
    × Wrong 41 (codes "native moves 1 {}") fault.number
    × Wrong 41 (codes "native move 4 {}") fault.number
    × Wrong 41 (codes "native move 1 {") fault.value
    × Wrong 50 (codes "held 03") fault.number
    × Wrong 51 (codes "{4,5}") fault.value
    × Wrong 46 (codes "place 9.") fault.number

-- of two faulty lines the earlier
abbrev pub EarliestLine : Type 0
EarliestLine =
    Told (altered 2 (codes "next 01") (altered 3 (codes "x") small)) 2 fault.number
    × Told (altered 10 (codes "name 5") (altered 9 (codes "object 00") small)) 9 fault.number
    × Told (altered 35 (codes "y = 1") (altered 37 (codes "x") small)) 34 fault.code
    × Told (altered 41 (codes "frame #1 #0 #1 #0 \"v\" 1 1") (altered 38 (codes "task 1 fork 07") small)) 38 fault.number

-- lines of a program, all of them there, that are no spelling: told at the first of them
abbrev pub Programs : Type 0
Programs =
    Told (altered 35 (codes "  y = {x,suspend()};") small) 34 fault.code
    × Told (altered 35 (codes "y = {x, suspend()};") small) 34 fault.code
    × Told (altered 36 (codes "endfo") small) 34 fault.code
    × Told (altered 33 (codes "verb \"v*\" #0 xd this 2 any 2") small) 34 fault.code
    × Told (altered 33 (codes "verb \"v*\" #0 xd this 2 any 21") small) 34 fault.code
    × Told (altered 43 (codes "  y = {x, suspend() };") small) 42 fault.code
    × Wrong 34 (codes "for x in ({4,5})") fault.code

-- a place that is no call of the program, or not the beginning of a fork
abbrev pub Places : Type 0
Places =
    Wrong 46 (codes "place 0") fault.frame
    × Wrong 46 (codes "place 1.2.1") fault.frame
    × Wrong 46 (codes "place 9") fault.frame
    × Wrong 46 (codes "place 1.2.1.1.2.2.1") fault.frame
    × Told (altered 38 (codes "task 1 fork 7") small) 46 fault.frame

-- values that the path does not hold
abbrev pub Held : Type 0
Held =
    Wrong 50 (codes "held 2") fault.frame
    × Wrong 50 (codes "held 4") fault.frame
    × Wrong 51 (codes "5") fault.frame
    × Wrong 51 (codes "{}") fault.frame
    × Wrong 52 (codes "0") fault.frame
    × Wrong 52 (codes "3") fault.frame
    × Wrong 52 (codes "{1}") fault.frame
    × Wrong 53 (codes "4") fault.frame

-- a built-in function first, last or behind another, or with other arguments than its stage has
abbrev pub Entries : Type 0
Entries =
    Told (before_entries ++ ((codes "entries 3" ∷ (codes "native create 1 {#0, #1}" ∷ (verb_under_way ++ (verb_under_way ++ [])))) ++ codes "end" ∷ [])) 41 fault.frame
    × Told (before_entries ++ ((codes "entries 2" ∷ (verb_under_way ++ (codes "native create 1 {#0, #1}" ∷ []))) ++ codes "end" ∷ [])) 54 fault.frame
    × Told (before_entries ++ ((codes "entries 4" ∷ (verb_under_way ++ (codes "native create 1 {#0, #1}" ∷ (codes "native create 1 {#0, #1}" ∷ (verb_under_way ++ []))))) ++ codes "end" ∷ [])) 55 fault.frame
    × Told (before_entries ++ ((codes "entries 3" ∷ (verb_under_way ++ (codes "native move 2 {#0, #1}" ∷ (verb_under_way ++ [])))) ++ codes "end" ∷ [])) 54 fault.frame
    × Told (before_entries ++ ((codes "entries 3" ∷ (verb_under_way ++ (codes "native eval 1 {1}" ∷ (verb_under_way ++ [])))) ++ codes "end" ∷ [])) 54 fault.frame
    × Told (before_entries ++ ((codes "entries 3" ∷ (verb_under_way ++ (codes "native recycle 2 {#0}" ∷ (verb_under_way ++ [])))) ++ codes "end" ∷ [])) 54 fault.frame
    × Told (before_entries ++ ((codes "entries 3" ∷ (verb_under_way ++ (codes "native move 1 5" ∷ (verb_under_way ++ [])))) ++ codes "end" ∷ [])) 54 fault.frame

-- a second entry of a fork, and a built-in function as one
abbrev pub Forks : Type 0
Forks =
    Told (before_fork ++ ((codes "entries 2" ∷ (codes "frame #1 #0 #1 #0 \"v\" 1 0" ∷ (codes "start {\"\", #-1, \"\", \"\", #-1, \"\"}" ∷ (codes "place 0" ∷ (codes "vars 0" ∷ (codes "held 0" ∷ (codes "frame #1 #0 #1 #0 \"v\" 1 0" ∷ (codes "start {\"\", #-1, \"\", \"\", #-1, \"\"}" ∷ (codes "place 0" ∷ (codes "vars 0" ∷ (codes "held 0" ∷ []))))))))))) ++ codes "end" ∷ [])) 46 fault.frame
    × Told (before_fork ++ ((codes "entries 1" ∷ (codes "native create 1 {#0, #1}" ∷ [])) ++ codes "end" ∷ [])) 41 fault.frame

-- worlds, whose lines have no fault
abbrev pub UnfaultedWorlds : Type 0
UnfaultedWorlds =
    Unfaulted small
    × Unfaulted (before_entries ++ ((codes "entries 3" ∷ (verb_under_way ++ (codes "native create 1 {#0, #1}" ∷ (verb_under_way ++ [])))) ++ codes "end" ∷ []))
    × Unfaulted (before_fork ++ ((codes "entries 1" ∷ (codes "frame #1 #0 #1 #0 \"v\" 1 0" ∷ (codes "start {\"\", #-1, \"\", \"\", #-1, \"\"}" ∷ (codes "place 0" ∷ (codes "vars 0" ∷ (codes "held 0" ∷ [])))))) ++ codes "end" ∷ []))
    × Unfaulted (altered 7 (codes "link 2 #-5 {#0, \"v\", 0}") small)
    × Unfaulted (altered 19 (codes "slot #0 - -2147483648") small)
    × Unfaulted (altered 19 (codes "slot #0 rw {E_FLOAT, \"a\\\"b\\\\ {\", #-1, {}}") small)

-- texts of no well-formed world whose lines have no fault: numbers out of order, a parent that is not there, another number of slots, no entries, a name that no variable has, a variable twice
abbrev pub UnfaultedOthers : Type 0
UnfaultedOthers =
    Unfaulted (altered 7 (codes "link 1 #-5 0") small)
    × Unfaulted (altered 24 (codes "parent #1") small)
    × Unfaulted (altered 9 (codes "object 1") small)
    × Unfaulted (take 17 small ++ (codes "slots 0" ∷ drop 19 small))
    × Unfaulted (before_entries ++ codes "entries 0" ∷ codes "end" ∷ [])
    × Unfaulted (altered 48 (codes "var \"X\" #1") small)
    × Unfaulted (altered 48 (codes "var \"x\" #1") small)
    × Unfaulted (altered 38 (codes "task 65 idle") small)
