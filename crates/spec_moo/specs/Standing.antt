-- Where a running task stands in its programs (Programmer's Manual, "The MOO Programming Language").
use Rattle.std.specs.Prelude.{◌≡◌, List, [], Bool, true, false, IsTrue}
use Rattle.spec_value.specs.Datum.{Data}
use Rattle.spec_program.specs.Tree.{Expr, Target, Program}
use Rattle.spec_program.specs.Construct.{Construct, of_expr, of_target, of_program, Piece}
use Rattle.spec_program.specs.Place.{Linked}
use Rattle.spec_world.specs.World.{Call}
use Rattle.spec_world.specs.WellFormed.{FramesStand}
use Rattle.spec_moo.specs.Scene.{Scene}
use Rattle.spec_moo.specs.Pending.{Focus, begin, hand, aim, operate, next, leave, Pending, waiting, Turned, goes_on, halts}
use Rattle.spec_moo.specs.Tables.{has_step}
use Rattle.spec_moo.specs.Turn.{called_frame, turn}

-- a scatter's default, a statement or a program
abbrev pub has_no_value : Construct → Bool
has_no_value (of_expr e) = false
has_no_value (of_target t) = false
has_no_value c = true

-- the pieces lead from what is looked at to the whole program
abbrev pub LooksAt : Construct → List Piece → Focus → Type 0
LooksAt root ps (begin c) = Linked c ps root
LooksAt root ps (hand v) = (e : Expr) × Linked (of_expr e) ps root
LooksAt root ps (aim vs) = (t : Target) × Linked (of_target t) ps root
LooksAt root ps (operate c n vs) = (has_step c n ≡ true) × Linked c ps root
LooksAt root ps next = (c : Construct) × IsTrue (has_no_value c) × Linked c ps root
LooksAt root ps (leave l) = (c : Construct) × Linked c ps root

-- so does the innermost verb's; each verb that waits stands at a call of its program
abbrev pub Stands : Pending → Type 0
Stands p = LooksAt (of_program p.frame.program) p.frame.pieces p.focus × FramesStand p.outer

-- a task that waits stands at its call too
abbrev pub StandsStill : Turned → Type 0
StandsStill (goes_on s p) = Stands p
StandsStill (halts s (waiting why es)) = FramesStand es
StandsStill (halts s why) = Unit {0}

-- no turn leaves the programs
abbrev pub TurnsStay : Type 0
TurnsStay = (s : Scene) (p : Pending) → Stands p → StandsStill (turn s p)

-- and a verb begins in its own
abbrev pub StartsStand : Type 0
StartsStand =
    (p : Pending) (d : Call) (body : Program) (args : Data)
    → Stands (record p { focus = begin (of_program body); frame = called_frame p d body args; outer = [] })
