-- A whole text: the machine's start, its steps up to its end, and what has come out there.
use Rattle.std.specs.Prelude.{ℕ, zero, suc, List, [], ◌∷◌, ◌++◌}
use Rattle.spec_program.specs.Tokens.{FaultKind, bad, Placed}
use Rattle.spec_program.specs.Reading.{Read, got, stuck}
use Rattle.spec_program.specs.ReadPrograms.{FoundBlock, Parsed, parsed_by}
use Rattle.spec_program.specs.Frames.{Kind, Of, Frames, push, whole_text}
use Rattle.spec_reader.specs.Next.{Next, found, reads_block, State, goes}
use Rattle.spec_reader.specs.Step.{step}
use Rattle.spec_reader.specs.Work.{work}

abbrev pub start : List Placed → State
start ts = goes (reads_block whole_text) ts

-- so many steps
unfoldable pub after : ℕ → State → State
after zero s = s
after (suc n) s = after n (step s)

-- as many as there is work
abbrev pub ended : List Placed → State
ended ts = after (work (start ts)) (start ts)

-- what has come out at the end, with the tokens that are left; elsewhere nothing has
abbrev pub found_whole : {a : Kind} → Frames a → Of a → List Placed → Read FoundBlock
found_whole whole_text p ts = got p ts
found_whole (push g fs) v ts = stuck ts

abbrev pub come_out : Next → List Placed → Read FoundBlock
come_out (found fs v) ts = found_whole fs v ts
come_out x ts = stuck ts

-- of all tokens: their tree or their first fault
abbrev pub outcome : List Placed → State → Parsed
outcome all s = parsed_by all (come_out s.next s.left)

-- ---- a token that is none is to each step as the end of the text

abbrev pub bad_at : FaultKind → ℕ → Placed
bad_at k line = record { token = bad k; line = line }

abbrev pub before : Placed → State → State
before q s = record { next = s.next; left = s.left ++ q ∷ [] }
