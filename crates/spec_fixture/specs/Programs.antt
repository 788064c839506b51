-- The programs of the fixture's verbs, and short names for what programs are made of.
use Rattle.std.specs.Prelude.{ℕ, pos, Some, None, codes}
use Rattle.spec_value.specs.Datum.{integer, object, text, error, Text, verb_not_found}
use Rattle.spec_value.specs.Operators.{plus, times, equals}
use Rattle.spec_program.specs.Tree.{Expr, literal, variable, binary, both, listing, call, property, verb_call, index, caught, assignment, Arguments, no_arguments, argument, codes_in, instead, to_variable, to_property, Statement, evaluate, give, branch, for_range, repeat, fork, finished, Program, the_end, seq, no_branches, on, no_else}

abbrev pub number : ℕ → Expr
number n = literal (integer (pos n))

abbrev pub word : Text → Expr
word t = literal (text t)

abbrev pub object_number : ℕ → Expr
object_number n = literal (object (pos n))

abbrev pub none_given : Arguments
none_given = no_arguments

abbrev pub one_given : Expr → Arguments
one_given a = argument a no_arguments

abbrev pub two_given : Expr → Expr → Arguments
two_given a b = argument a (one_given b)

abbrev pub three_given : Expr → Expr → Expr → Arguments
three_given a b c = argument a (two_given b c)

-- one statement, and one before others
abbrev pub only : Statement → Program
only s = seq s the_end

abbrev pub returning : Expr → Program
returning e = only (give e)

abbrev pub doing : Expr → Program → Program
doing e p = seq (evaluate e) p

-- x = e;
abbrev pub setting : Text → Expr → Program → Program
setting x e p = doing (assignment (to_variable x) e) p

abbrev pub this_n : Expr
this_n = property (variable (codes "this")) (word (codes "n"))

-- this.n = this.n + 1;
abbrev pub n_raised : Expr
n_raised = assignment (to_property (variable (codes "this")) (word (codes "n"))) (binary plus this_n (number 1))

-- if (length(args) == 2 && args[1] == "connect") return toobj(args[2]); endif notify(player, "Type connect #n");
abbrev pub login_program : Program
login_program =
    seq
    (branch
    (on
    (both (binary equals (call (codes "length") (one_given (variable (codes "args")))) (number 2))
    (binary equals (index (variable (codes "args")) (number 1)) (word (codes "connect"))))
    (returning (call (codes "toobj") (one_given (index (variable (codes "args")) (number 2))))) no_branches)
    no_else)
    (doing (call (codes "notify") (two_given (variable (codes "player")) (word (codes "Type connect #n")))) the_end)

-- return 1;
abbrev pub accept_program : Program
accept_program = returning (number 1)

-- this.n = this.n + 1; return this.n;
abbrev pub count_program : Program
count_program = doing n_raised (returning this_n)

-- add_verb(#7, {#2, "xd", "hum"}, {"this", "none", "this"});
abbrev pub grow_program : Program
grow_program =
    doing
    (call (codes "add_verb")
    (three_given (object_number 7) (listing (three_given (object_number 2) (word (codes "xd")) (word (codes "hum"))))
    (listing (three_given (word (codes "this")) (word (codes "none")) (word (codes "this"))))))
    the_end

-- return `#6:hum() ! E_VERBNF => "none"';
abbrev pub call_program : Program
call_program =
    returning
    (caught (verb_call (object_number 6) (word (codes "hum")) none_given) (codes_in (one_given (literal (error verb_not_found)))) (instead (word (codes "none"))))

-- fork b (0) notify(player, "B"); endfork fork (0) kill_task(b); endfork
abbrev pub plot_program : Program
plot_program =
    seq (fork (Some (codes "b")) (number 0) (doing (call (codes "notify") (two_given (variable (codes "player")) (word (codes "B")))) the_end))
    (only (fork None (number 0) (doing (call (codes "kill_task") (one_given (variable (codes "b")))) the_end)))

-- this.n = this.n + 1; r = random(6); fork (0) endfork fork (1) endfork return {r, ticks_left()};
abbrev pub dice_program : Program
dice_program =
    doing n_raised
    (doing (assignment (to_variable (codes "r")) (call (codes "random") (one_given (number 6))))
    (seq (fork None (number 0) the_end)
    (seq (fork None (number 1) the_end) (returning (listing (two_given (variable (codes "r")) (call (codes "ticks_left") none_given)))))))

-- return 1 + 2 * 3;
abbrev pub sum_program : Program
sum_program = returning (binary plus (number 1) (binary times (number 2) (number 3)))

-- try while (1) endwhile finally notify(player, "done"); endtry
abbrev pub spin_program : Program
spin_program =
    only
    (finished (only (repeat None (number 1) the_end))
    (doing (call (codes "notify") (two_given (variable (codes "player")) (word (codes "done")))) the_end))

-- return verb;
abbrev pub look_program : Program
look_program = returning (variable (codes "verb"))

-- return {1, suspend(), 3};
abbrev pub hold_program : Program
hold_program = returning (listing (three_given (number 1) (call (codes "suspend") none_given) (number 3)))

-- return resume(1, 5);
abbrev pub wake_program : Program
wake_program = returning (call (codes "resume") (two_given (number 1) (number 5)))

-- for i in [1..65] fork (0) i = 0; endfork endfor
abbrev pub storm_program : Program
storm_program =
    only (for_range (codes "i") (number 1) (number 65) (only (fork None (number 0) (doing (assignment (to_variable (codes "i")) (number 0)) the_end))))

-- notify(#4, "hi");
abbrev pub tell_program : Program
tell_program = doing (call (codes "notify") (two_given (object_number 4) (word (codes "hi")))) the_end

-- return eval("return " + argstr + ";")[2];
abbrev pub eval_program : Program
eval_program =
    returning
    (index (call (codes "eval") (one_given (binary plus (binary plus (word (codes "return ")) (variable (codes "argstr"))) (word (codes ";"))))) (number 2))

-- return prepstr; and return {dobjstr, prepstr, iobj};
abbrev pub box_look_program : Program
box_look_program = returning (variable (codes "prepstr"))

abbrev pub put_program : Program
put_program = returning (listing (three_given (variable (codes "dobjstr")) (variable (codes "prepstr")) (variable (codes "iobj"))))
