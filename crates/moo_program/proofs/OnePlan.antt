-- In the layout of a construct all operations of a scattering assignment have the same items and the same defaults.
use Rattle.std.proofs.Common.{◌≡◌, ℕ, suc, ◌+◌, List, [], ◌∷◌, drop, refl}
use Rattle.std.specs.Prelude.{Some, Bool, true, false}
use Rattle.spec_value.specs.Datum.{Datum}
use Rattle.spec_program.specs.Tree.{Expr, literal, variable, own_length, unary, binary, both, either, conditional, listing, call, property, verb_call, index, range, caught, assignment, scatter, Arguments, no_arguments, argument, splice, Codes, any_code, codes_in, Fallback, the_code, instead, Target, to_variable, to_property, to_index, to_range, Items, no_items, required, optional, remaining, defaulted, Statement, evaluate, give, give_zero, branch, for_each, for_range, repeat, fork, guarded, finished, leave_loop, next_turn, Program, the_end, seq, Branches, no_branches, on, Otherwise, no_else, else_do, Arms, no_arms, except}
use Rattle.spec_program.specs.Construct.{of_expr, of_program}
use Rattle.spec_program.specs.Place.{arity as target_arity}
use Rattle.spec_moo.specs.Effects.Handlers.{code_count}
use Rattle.moo_code.specs.Instruction as code
use Rattle.moo_code.specs.Instruction.{Slot, Operation, scatter_on, begin_part, make_list, call_function, call_verb, finish, caught_value, operand_at, target_at, Unraised, as_value}
use Rattle.moo_code.specs.Layout.{Around, Layout, stop, own, inner, gap, above, in_brackets, in_body, plain, watched, shape_of, slots_of, default_parts, begin_codes, end_codes, last_of, caught_sign, next_part, next_held, arm_count, testing, expr_layout, arguments_layout, codes_layout, fallback_layout, target_layout, items_layout, arm_arguments_layout, arm_codes_layout, statement_layout, branches_layout, otherwise_layout, arms_layout, program_layout}

-- items, and the parts that are defaults
abbrev pub Shared : Type 0
Shared = List Slot × List ℕ

-- an operation of a scattering assignment has these
abbrev pub IsOf : Shared → Operation → List ℕ → Type 0
IsOf p (code.scatter xs) ns = (xs ≡ p.0) × (ns ≡ p.1)
IsOf p (scatter_on xs n) ns = (xs ≡ p.0) × (drop 1 ns ≡ p.1)
IsOf p op ns = Unit {0}

-- all of a construct have these, and those of each part have some
abbrev pub HasOne : Shared → Layout → Type 0
HasOne p stop = Unit {0}
HasOne p (own op ns l) = IsOf p op ns × HasOne p l
HasOne p (inner k a l) = ((q : Shared) × HasOne q a) × HasOne p l
HasOne p (gap l) = HasOne p l

abbrev pub One : Layout → Type 0
One l = (q : Shared) × HasOne q l

none : Shared
none = ([], [])

begin_one : (p : Shared) (codes : Codes) (l : Layout) → HasOne p l → HasOne p (begin_codes codes l)
begin_one p any_code l h = (tt, h)
begin_one p (codes_in no_arguments) l h = (tt, h)
begin_one p (codes_in (argument e es)) l h = (tt, h)
begin_one p (codes_in (splice e es)) l h = (tt, h)

end_one : (p : Shared) (es : Arguments) (l : Layout) → HasOne p l → HasOne p (end_codes es l)
end_one p no_arguments l h = h
end_one p (argument e es) l h = (tt, h)
end_one p (splice e es) l h = (tt, h)

last_one : (p : Shared) (es : Arguments) (l more : Layout) → HasOne p l → HasOne p more → HasOne p (last_of es l more)
last_one p no_arguments l more h m = h
last_one p (argument e es) l more h m = m
last_one p (splice e es) l more h m = m

mutual
  expr_one : (x : Around) (e : Expr) → One (expr_layout x e)
  expr_one x (literal v) = (none, (tt, tt))
  expr_one x (variable y) = (none, (tt, tt))
  expr_one x own_length = (none, (tt, tt))
  expr_one x (unary u a) = (none, (expr_one (above x 0) a, (tt, tt)))
  expr_one x (binary op a b) = (none, (expr_one (above x 0) a, (expr_one (above x 1) b, (tt, tt))))
  expr_one x (both a b) = (none, (expr_one (above x 0) a, (tt, (expr_one (above x 0) b, tt))))
  expr_one x (either a b) = (none, (expr_one (above x 0) a, (tt, (expr_one (above x 0) b, tt))))
  expr_one x (conditional c a b) = (none, (expr_one (above x 0) c, (tt, (expr_one (above x 0) a, (tt, (expr_one (above x 0) b, tt))))))
  expr_one x (listing es) = (none, arguments_one none (above x 1) 1 as_value es (own make_list [] stop) (tt, tt))
  expr_one x (call f es) = (none, arguments_one none (above x 1) 1 as_value es (own (call_function f) [] stop) (tt, tt))
  expr_one x (property o p) = (none, (expr_one (above x 0) o, (expr_one (above x 1) p, (tt, tt))))
  expr_one x (verb_call o v es) =
      (none, (expr_one (above x 0) o, (expr_one (above x 1) v, arguments_one none (above x 3) 3 as_value es (own call_verb [] stop) (tt, tt))))
  expr_one x (index a i) = (none, (expr_one (above x 0) a, (expr_one (in_brackets x 1 (operand_at x.height)) i, (tt, tt))))
  expr_one x (range a i j) =
      (none, (expr_one (above x 0) a, (expr_one (in_brackets x 1 (operand_at x.height)) i, (expr_one (in_brackets x 2 (operand_at x.height)) j, (tt, tt)))))
  expr_one x (caught e codes d) = (
    none,
    begin_one none codes
        (inner (watched x 1 (caught_sign (suc (suc (code_count codes))) d) (of_expr e)) (expr_layout (above x 1) e)
        (own caught_value (0 ∷ []) (codes_layout (above x 1) 1 as_value codes (fallback_layout (above x 0) d))))
        (expr_one (above x 1) e, (tt, codes_one none (above x 1) 1 as_value codes (fallback_layout (above x 0) d) (fallback_one none (above x 0) d))),
  )
  expr_one x (assignment t e) = (none, (target_one (above x 0) t, (expr_one (above x (target_arity t)) e, (tt, tt))))
  expr_one x (scatter items e) = (
    (slots_of items, default_parts 1 items),
    (
      tt,
      items_one (above x 1) (slots_of items) (default_parts 1 items) 1 items
          (inner (plain (of_expr e)) (expr_layout (above x 0) e) (own (code.scatter (slots_of items)) (default_parts 1 items) stop))
          (expr_one (above x 0) e, ((refl, refl), tt)),
    ),
  )

  arguments_one : (p : Shared) (x : Around) (n : ℕ) (u : Unraised) (es : Arguments) (l : Layout) → HasOne p l → HasOne p (arguments_layout x n u es l)
  arguments_one p x n u no_arguments l h = h
  arguments_one p x n u (argument e more) l h = (expr_one x e, arguments_one p x n u more l h)
  arguments_one p x n u (splice e more) l h = (expr_one x e, arguments_one p x n u more l h)

  codes_one : (p : Shared) (x : Around) (n : ℕ) (u : Unraised) (codes : Codes) (l : Layout) → HasOne p l → HasOne p (codes_layout x n u codes l)
  codes_one p x n u any_code l h = h
  codes_one p x n u (codes_in es) l h = arguments_one p x n u es (end_codes es l) (end_one p es l h)

  fallback_one : (p : Shared) (x : Around) (d : Fallback) → HasOne p (fallback_layout x d)
  fallback_one p x the_code = tt
  fallback_one p x (instead e) = (expr_one x e, tt)

  target_one : (x : Around) (t : Target) → One (target_layout x t)
  target_one x (to_variable y) = (none, tt)
  target_one x (to_property o p) = (none, (expr_one (above x 0) o, (expr_one (above x 1) p, tt)))
  target_one x (to_index t i) =
      (none, (target_one (above x 0) t, (expr_one (in_brackets x (target_arity t) (target_at (shape_of t) x.height)) i, tt)))
  target_one x (to_range t i j) = (
    none,
    (
      target_one (above x 0) t,
      (
        expr_one (in_brackets x (target_arity t) (target_at (shape_of t) x.height)) i,
        (expr_one (in_brackets x (suc (target_arity t)) (target_at (shape_of t) x.height)) j, tt),
      ),
    ),
  )

  items_one : (x : Around) (whole : List Slot) (defaults : List ℕ) (n : ℕ) (items : Items) (l : Layout)
      → HasOne (whole, defaults) l → HasOne (whole, defaults) (items_layout x whole defaults n items l)
  items_one x whole defaults n no_items l h = h
  items_one x whole defaults n (required y more) l h = items_one x whole defaults (suc n) more l h
  items_one x whole defaults n (optional y more) l h = items_one x whole defaults (suc n) more l h
  items_one x whole defaults n (remaining y more) l h = items_one x whole defaults (suc n) more l h
  items_one x whole defaults n (defaulted y e more) l h =
      ((none, (expr_one (above x 0) e, (tt, tt))), ((refl, refl), items_one x whole defaults (suc n) more l h))

arm_arguments_one : (p : Shared) (x : Around) (k n : ℕ) (es : Arguments) (next : ℕ → ℕ) (held : List Datum) (l : Layout)
    → HasOne p l → HasOne p (arm_arguments_layout x k n es next held l)
arm_arguments_one p x k n no_arguments next held l h = h
arm_arguments_one p x k n (argument e es) next held l h = (
  expr_one (above x (suc k)) e,
  last_one p es (own (begin_part 0 (suc k) (next (suc n)) held) (next (suc n) ∷ []) l) (arm_arguments_layout x k (suc n) es next held l)
      (tt, h) (arm_arguments_one p x k (suc n) es next held l h),
)
arm_arguments_one p x k n (splice e es) next held l h = (
  expr_one (above x (suc k)) e,
  last_one p es (own (begin_part 0 (suc k) (next (suc n)) held) (next (suc n) ∷ []) l) (arm_arguments_layout x k (suc n) es next held l)
      (tt, h) (arm_arguments_one p x k (suc n) es next held l h),
)

arm_codes_one : (p : Shared) (x : Around) (k n : ℕ) (codes : Codes) (next : ℕ → ℕ) (held : List Datum) (l : Layout)
    → HasOne p l → HasOne p (arm_codes_layout x k n codes next held l)
arm_codes_one p x k n any_code next held l h = h
arm_codes_one p x k n (codes_in es) next held l h = arm_arguments_one p x k n es next held l h

testing_one : (p : Shared) (first : Bool) (n : ℕ) (bs : Branches) (q : Otherwise) (l : Layout) → HasOne p l → HasOne p (testing first n bs q l)
testing_one p first n no_branches no_else l h = (tt, h)
testing_one p first n no_branches (else_do q) l h = (tt, h)
testing_one p first n (on c b more) q l h = (tt, h)

mutual
  statement_one : (x : Around) (s : Statement) → One (statement_layout x s)
  statement_one x (evaluate e) = (none, (expr_one (above x 0) e, (tt, tt)))
  statement_one x (give e) = (none, (expr_one (above x 0) e, (tt, tt)))
  statement_one x give_zero = (none, (tt, tt))
  statement_one x (branch bs q) = (none, branches_one none x true 1 bs q (otherwise_layout x q) (otherwise_one none x q))
  statement_one x (for_each y e b) =
      (none, (expr_one (in_body x 0 (Some y)) e, (tt, ((none, program_one none (in_body x 2 (Some y)) b), (tt, tt)))))
  statement_one x (for_range y d e b) =
      (none, (expr_one (in_body x 0 (Some y)) d, (expr_one (in_body x 1 (Some y)) e, (tt, ((none, program_one none (in_body x 2 (Some y)) b), (tt, tt))))))
  statement_one x (repeat y c b) =
      (none, (tt, (expr_one (in_body x 0 y) c, (tt, ((none, program_one none (in_body x 0 y) b), (tt, tt))))))
  statement_one x (fork y e b) = (none, (expr_one (above x 0) e, (tt, tt)))
  statement_one x (guarded b arms) =
      (none, (tt, ((none, program_one none (above x (arm_count arms)) b), (tt, arms_one none x 0 2 arms))))
  statement_one x (finished b c) =
      (none, (tt, ((none, program_one none (above x 0) b), (tt, ((none, program_one none (above x 1) c), (tt, tt))))))
  statement_one x (leave_loop y) = (none, (tt, tt))
  statement_one x (next_turn y) = (none, (tt, tt))

  branches_one : (p : Shared) (x : Around) (first : Bool) (n : ℕ) (bs : Branches) (q : Otherwise) (last : Layout)
      → HasOne p last → HasOne p (branches_layout x first n bs q last)
  branches_one p x first n no_branches q last h = h
  branches_one p x first n (on c b more) q last h = (
    expr_one (above x 0) c,
    testing_one p first (suc n) more q
        (inner (plain (of_program b)) (program_layout (above x 0) b) (own (finish 0) (0 ∷ []) (branches_layout x false (suc (suc n)) more q last)))
        ((none, program_one none (above x 0) b), (tt, branches_one p x false (suc (suc n)) more q last h)),
  )

  otherwise_one : (p : Shared) (x : Around) (q : Otherwise) → HasOne p (otherwise_layout x q)
  otherwise_one p x no_else = tt
  otherwise_one p x (else_do b) = ((none, program_one none (above x 0) b), tt)

  arms_one : (p : Shared) (x : Around) (k n : ℕ) (arms : Arms) → HasOne p (arms_layout x k n arms)
  arms_one p x k n no_arms = tt
  arms_one p x k n (except y codes b later) =
      arm_codes_one p x k n codes (λ m. next_part m later) (next_held later)
      (inner (plain (of_program b)) (program_layout (above x 0) b) (own (finish 0) (0 ∷ []) (arms_layout x (suc k) (suc (n + code_count codes)) later)))
      ((none, program_one none (above x 0) b), (tt, arms_one p x (suc k) (suc (n + code_count codes)) later))

  pub program_one : (p : Shared) (x : Around) (b : Program) → HasOne p (program_layout x b)
  program_one p x the_end = tt
  program_one p x (seq s more) = (statement_one (above x 0) s, program_one p x more)
