-- The texts of the fixture's verbs, and the programs that they read as.
use Rattle.std.specs.Prelude.{◌≡◌, codes}
use Rattle.spec_value.specs.Datum.{Text}
use Rattle.spec_program.specs.Tree.{Program, the_end}
use Rattle.spec_program.specs.ReadPrograms.{Parsed, program, faulty, parsed}
use Rattle.spec_fixture.specs.Programs.{login_program, accept_program, count_program, grow_program, call_program, plot_program, dice_program, sum_program, spin_program, look_program, hold_program, wake_program, storm_program, tell_program, eval_program, box_look_program, put_program}

-- ---- what a text reads as

-- the empty program for a text that is none
abbrev pub program_of : Parsed → Program
program_of (program p) = p
program_of (faulty f) = the_end

abbrev pub Reads : Text → Program → Type 0
Reads t p = parsed t ≡ program p

-- ---- the system's and the box's verbs

abbrev pub login_text : Text
login_text = codes "if (length(args) == 2 && args[1] == \"connect\") return toobj(args[2]); endif notify(player, \"Type connect #n\");"

abbrev pub box_look_text : Text
box_look_text = codes "return prepstr;"

abbrev pub put_text : Text
put_text = codes "return {dobjstr, prepstr, iobj};"

abbrev pub LoginReads : Type 0
LoginReads = Reads login_text login_program

abbrev pub BoxLookReads : Type 0
BoxLookReads = Reads box_look_text box_look_program

abbrev pub PutReads : Type 0
PutReads = Reads put_text put_program

-- ---- the room's verbs that answer

abbrev pub accept_text : Text
accept_text = codes "return 1;"

abbrev pub count_text : Text
count_text = codes "this.n = this.n + 1; return this.n;"

abbrev pub sum_text : Text
sum_text = codes "return 1 + 2 * 3;"

abbrev pub look_text : Text
look_text = codes "return verb;"

abbrev pub tell_text : Text
tell_text = codes "notify(#4, \"hi\");"

abbrev pub eval_text : Text
eval_text = codes "return eval(\"return \" + argstr + \";\")[2];"

abbrev pub AcceptReads : Type 0
AcceptReads = Reads accept_text accept_program

abbrev pub CountReads : Type 0
CountReads = Reads count_text count_program

abbrev pub SumReads : Type 0
SumReads = Reads sum_text sum_program

abbrev pub LookReads : Type 0
LookReads = Reads look_text look_program

abbrev pub TellReads : Type 0
TellReads = Reads tell_text tell_program

abbrev pub EvalReads : Type 0
EvalReads = Reads eval_text eval_program

-- ---- the room's verbs that call and change verbs

abbrev pub grow_text : Text
grow_text = codes "add_verb(#7, {#2, \"xd\", \"hum\"}, {\"this\", \"none\", \"this\"});"

abbrev pub call_text : Text
call_text = codes "return `#6:hum() ! E_VERBNF => \"none\"';"

abbrev pub GrowReads : Type 0
GrowReads = Reads grow_text grow_program

abbrev pub CallReads : Type 0
CallReads = Reads call_text call_program

-- ---- the room's verbs that fork, wait and do not end

abbrev pub plot_text : Text
plot_text = codes "fork b (0) notify(player, \"B\"); endfork fork (0) kill_task(b); endfork"

abbrev pub dice_text : Text
dice_text = codes "this.n = this.n + 1; r = random(6); fork (0) endfork fork (1) endfork return {r, ticks_left()};"

abbrev pub spin_text : Text
spin_text = codes "try while (1) endwhile finally notify(player, \"done\"); endtry"

abbrev pub hold_text : Text
hold_text = codes "return {1, suspend(), 3};"

abbrev pub wake_text : Text
wake_text = codes "return resume(1, 5);"

abbrev pub storm_text : Text
storm_text = codes "for i in [1..65] fork (0) i = 0; endfork endfor"

abbrev pub PlotReads : Type 0
PlotReads = Reads plot_text plot_program

abbrev pub DiceReads : Type 0
DiceReads = Reads dice_text dice_program

abbrev pub SpinReads : Type 0
SpinReads = Reads spin_text spin_program

abbrev pub HoldReads : Type 0
HoldReads = Reads hold_text hold_program

abbrev pub WakeReads : Type 0
WakeReads = Reads wake_text wake_program

abbrev pub StormReads : Type 0
StormReads = Reads storm_text storm_program
