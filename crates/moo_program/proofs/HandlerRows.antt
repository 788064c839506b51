-- A handler is put before those after it, and its codes before its program.
use Rattle.std.proofs.Common.{◌≡◌, ◌<◌, ◌+◌, ◌-◌, ℕ, zero, suc, List, [], ◌∷◌, length, map, take, drop, Option, refl, ap, sym, ◌∙◌, arith}
use Rattle.std.specs.Prelude.{get_or}
use Rattle.std.proofs.lemmas.List.{take_rest}
use Rattle.spec_value.specs.Datum.{Text}
use Rattle.spec_moo.specs.Held.{listed, spliced}
use Rattle.spec_moo.specs.Effects.Handlers.{argument_count, code_count}
use Rattle.spec_program.specs.Construct.{of_expr, of_program}
use Rattle.spec_program.specs.Tree.{Arguments, no_arguments, argument, splice, Codes, any_code, codes_in, Program, Arms, except}
use Rattle.moo_tree.specs.ExpressionView.{arguments_of, codes_of}
use Rattle.moo_tree.specs.StatementView.{program_of, arms_of}
use Rattle.moo_tree.specs.declared.expression.Argument.{Argument}
use Rattle.moo_tree.specs.declared.expression.Argument.TheVariants.{Value, Splice}
use Rattle.moo_tree.specs.declared.statement.Arm.{Arm}
use Rattle.moo_code.specs.Instruction.{never, begin_part, finish}
use Rattle.moo_code.specs.Layout.{Around, Layout, stop, own, inner, plain, taken, above, expr_layout, arguments_layout, program_layout, arm_arguments_layout, arms_layout, arm_count, handler_rows, next_part, next_held}
use Rattle.moo_program.specs.declared.moo_bytecode.operation.HandlerRow.{HandlerRow}
use Rattle.moo_program.specs.Drafting.{State, over, row_of, with_own}
use Rattle.moo_program.specs.Handling.{held_codes_layout, known_codes_of}
use Rattle.moo_program.proofs.ArgumentRows.{arguments_over}

pub arms_counted : (hs : List Arm) → arm_count (arms_of hs) ≡ length hs
arms_counted [] = refl
arms_counted (h ∷ hs) = ap suc (arms_counted hs)

-- ---- rows, and the part at which the codes of a handler begin

pub row_next : (n : ℕ) (hs : List Arm) (i : ℕ) (d : Arm) → i < length hs
    → handler_rows n (arms_of (drop i hs))
    ≡ ((get_or hs i d).variable, suc (n + code_count (codes_of (get_or hs i d).codes))) ∷ handler_rows (suc (n + code_count (codes_of (get_or hs i d).codes))) (arms_of (drop (suc i) hs))
row_next n [] i d h = absurd (omega arith)
row_next n (a ∷ hs) zero d h = refl
row_next n (a ∷ hs) (suc i) d h = row_next n hs i d (omega arith)

abbrev pub first_part : ℕ → ℕ → List Arm → ℕ
first_part n zero hs = n
first_part n (suc i) [] = n
first_part n (suc i) (a ∷ hs) = first_part (suc (n + code_count (codes_of a.codes))) i hs

pub first_next : (n i : ℕ) (hs : List Arm) (d : Arm) → i < length hs → first_part n (suc i) hs ≡ suc (first_part n i hs + code_count (codes_of (get_or hs i d).codes))
first_next n i [] d h = absurd (omega arith)
first_next n zero (a ∷ hs) d h = refl
first_next n (suc i) (a ∷ hs) d h = first_next (suc (n + code_count (codes_of a.codes))) i hs d (omega arith)

first_after : (n i : ℕ) (hs : List Arm) → first_part (suc n) i hs ≡ suc (first_part n i hs)
first_after n zero hs = refl
first_after n (suc i) [] = refl
first_after n (suc i) (a ∷ hs) =
    let e : suc n + code_count (codes_of a.codes) ≡ suc (n + code_count (codes_of a.codes)) = omega arith in
    ap (λ m. first_part (suc m) i hs) e ∙ first_after (suc (n + code_count (codes_of a.codes))) i hs

pub rows_counted : (n : ℕ) (rs : List HandlerRow) (hs : List Arm) → map row_of rs ≡ handler_rows n (arms_of hs) → length rs ≡ length hs
rows_counted n [] [] e = refl
rows_counted n [] (a ∷ hs) e = absurd (cc)
rows_counted n (r ∷ rs) [] e = absurd (cc)
rows_counted n (r ∷ rs) (a ∷ hs) e = ap suc (rows_counted (suc (n + code_count (codes_of a.codes))) rs hs (cc))

row_part : (n : ℕ) (rs : List HandlerRow) (hs : List Arm) (i : ℕ) (d : HandlerRow) (e : Arm) → i < length hs → map row_of rs ≡ handler_rows n (arms_of hs)
    → (get_or rs i d).part ≡ suc (first_part n i hs + code_count (codes_of (get_or hs i e).codes))
row_part n rs [] i d e h q = absurd (omega arith)
row_part n [] (a ∷ hs) i d e h q = absurd (cc)
row_part n (r ∷ rs) (a ∷ hs) zero d e h q =
    let same : row_of r ≡ (a.variable, suc (n + code_count (codes_of a.codes))) = cc in
    ap (λ p. p.1) same
row_part n (r ∷ rs) (a ∷ hs) (suc i) d e h q = row_part (suc (n + code_count (codes_of a.codes))) rs hs i d e (omega arith) (cc)

-- the program's part stands in the row
pub program_part : (rs : List HandlerRow) (hs : List Arm) (i : ℕ) (d : HandlerRow) (e : Arm) → i < length hs → map row_of rs ≡ handler_rows 1 (arms_of hs)
    → (get_or rs i d).part ≡ first_part 2 i hs + code_count (codes_of (get_or hs i e).codes)
program_part rs hs i d e h q = omega (arith, row_part 1 rs hs i d e h q, first_after 1 i hs)

-- ---- what is begun next, by the first handler with codes

passed : (n : ℕ) (x : Option Text) (cs : Codes) (p : Program) (later : Arms) → code_count cs ≡ 0 → next_part n (except x cs p later) ≡ next_part (suc n) later
passed n x any_code p later h = refl
passed n x (codes_in no_arguments) p later h = refl
passed n x (codes_in (argument e es)) p later h = absurd (omega arith)
passed n x (codes_in (splice e es)) p later h = absurd (omega arith)

found : (n : ℕ) (x : Option Text) (cs : Codes) (p : Program) (later : Arms) → 0 < code_count cs → next_part n (except x cs p later) ≡ suc n
found n x any_code p later h = absurd (omega arith)
found n x (codes_in no_arguments) p later h = absurd (omega arith)
found n x (codes_in (argument e es)) p later h = refl
found n x (codes_in (splice e es)) p later h = refl

pub next_passed : (n : ℕ) (hs : List Arm) (i : ℕ) (d : Arm) → i < length hs → code_count (codes_of (get_or hs i d).codes) ≡ 0
    → next_part n (arms_of (drop i hs)) ≡ next_part (suc n) (arms_of (drop (suc i) hs))
next_passed n [] i d h e = absurd (omega arith)
next_passed n (a ∷ hs) zero d h e = passed n a.variable (codes_of a.codes) (program_of a.body.items) (arms_of hs) e
next_passed n (a ∷ hs) (suc i) d h e = next_passed n hs i d (omega arith) e

pub next_found : (n : ℕ) (hs : List Arm) (i : ℕ) (d : Arm) → i < length hs → 0 < code_count (codes_of (get_or hs i d).codes) → next_part n (arms_of (drop i hs)) ≡ suc n
next_found n [] i d h e = absurd (omega arith)
next_found n (a ∷ hs) zero d h e = found n a.variable (codes_of a.codes) (program_of a.body.items) (arms_of hs) e
next_found n (a ∷ hs) (suc i) d h e = next_found n hs i d (omega arith) e

all_known : (x : Option Text) (cs : Codes) (p : Program) (later : Arms) → code_count cs ≡ 0 → next_held (except x cs p later) ≡ known_codes_of cs ∷ next_held later
all_known x any_code p later h = refl
all_known x (codes_in no_arguments) p later h = refl
all_known x (codes_in (argument e es)) p later h = absurd (omega arith)
all_known x (codes_in (splice e es)) p later h = absurd (omega arith)

last_known : (x : Option Text) (cs : Codes) (p : Program) (later : Arms) → 0 < code_count cs → next_held (except x cs p later) ≡ known_codes_of cs ∷ []
last_known x any_code p later h = absurd (omega arith)
last_known x (codes_in no_arguments) p later h = absurd (omega arith)
last_known x (codes_in (argument e es)) p later h = refl
last_known x (codes_in (splice e es)) p later h = refl

pub held_passed : (hs : List Arm) (i : ℕ) (d : Arm) → i < length hs → code_count (codes_of (get_or hs i d).codes) ≡ 0
    → next_held (arms_of (drop i hs)) ≡ known_codes_of (codes_of (get_or hs i d).codes) ∷ next_held (arms_of (drop (suc i) hs))
held_passed [] i d h e = absurd (omega arith)
held_passed (a ∷ hs) zero d h e = all_known a.variable (codes_of a.codes) (program_of a.body.items) (arms_of hs) e
held_passed (a ∷ hs) (suc i) d h e = held_passed hs i d (omega arith) e

pub held_found : (hs : List Arm) (i : ℕ) (d : Arm) → i < length hs → 0 < code_count (codes_of (get_or hs i d).codes)
    → next_held (arms_of (drop i hs)) ≡ known_codes_of (codes_of (get_or hs i d).codes) ∷ []
held_found [] i d h e = absurd (omega arith)
held_found (a ∷ hs) zero d h e = last_known a.variable (codes_of a.codes) (program_of a.body.items) (arms_of hs) e
held_found (a ∷ hs) (suc i) d h e = held_found hs i d (omega arith) e

-- ---- the codes of a handler

pub codes_none : (x : Around) (k m : ℕ) (es : List Argument) (later : Arms) (s : State) → length es ≡ 0
    → over (held_codes_layout x k m (codes_in (arguments_of es)) later stop) s ≡ s
codes_none x k m [] later s h = refl
codes_none x k m (e ∷ es) later s h = absurd (omega arith)

pub codes_listed : (x : Around) (k m : ℕ) (es : List Argument) (later : Arms) (s : State) → 0 < length es
    → over (held_codes_layout x k m (codes_in (arguments_of es)) later stop) s
    ≡ over (arguments_layout (above x (suc k)) (suc k) never (arguments_of es) stop) (with_own (begin_part 0 (suc k) (next_part m later) (next_held later)) (next_part m later ∷ []) s)
codes_listed x k m [] later s h = absurd (omega arith)
codes_listed x k m (Value e ∷ es) later s h =
    arguments_over (above x (suc k)) (suc k) never (argument e (arguments_of es)) (own (begin_part 0 (suc k) (next_part m later) (next_held later)) (next_part m later ∷ []) stop) s
codes_listed x k m (Splice e ∷ es) later s h =
    arguments_over (above x (suc k)) (suc k) never (splice e (arguments_of es)) (own (begin_part 0 (suc k) (next_part m later) (next_held later)) (next_part m later ∷ []) stop) s

module _ (x : Around) (k m : ℕ) (later : Arms) where
  abbrev after_codes : Layout → Layout
  after_codes l = own (begin_part 0 (suc k) (next_part m later) (next_held later)) (next_part m later ∷ []) l

  abbrev listed_codes : Arguments → Layout → Layout
  listed_codes es l = arguments_layout (above x (suc k)) (suc k) never es l

  codes_put : (es : Arguments) (l : Layout) (s : State) → over (listed_codes es (after_codes l)) s ≡ over (listed_codes es (after_codes stop)) (over l s)
  codes_put es l s = arguments_over (above x (suc k)) (suc k) never es (after_codes l) s ∙ sym (arguments_over (above x (suc k)) (suc k) never es (after_codes stop) (over l s))

  pub codes_over : (cs : Codes) (l : Layout) (s : State)
      → over (held_codes_layout x k m cs later l) s ≡ over (held_codes_layout x k m cs later stop) (over l s)
  codes_over any_code l s = refl
  codes_over (codes_in no_arguments) l s = refl
  codes_over (codes_in (argument e es)) l s = codes_put (argument e es) l s
  codes_over (codes_in (splice e es)) l s = codes_put (splice e es) l s

  -- they stand in the layout of handlers, whose parts are counted from the first one
  arm_codes : (n : ℕ) (es : Arguments) (l : Layout) → m ≡ n + argument_count es → 0 < argument_count es
      → listed_codes es (after_codes l) ≡ arm_arguments_layout x k n es (λ j. next_part j later) (next_held later) l
  arm_codes n no_arguments l e h = absurd (omega arith)
  arm_codes n (argument a no_arguments) l e h =
      let q : m ≡ suc n = omega arith in
      ap (λ j. inner (taken listed (suc k) never (of_expr a)) (expr_layout (above x (suc k)) a) (own (begin_part 0 (suc k) (next_part j later) (next_held later)) (next_part j later ∷ []) l)) q
  arm_codes n (splice a no_arguments) l e h =
      let q : m ≡ suc n = omega arith in
      ap (λ j. inner (taken spliced (suc k) never (of_expr a)) (expr_layout (above x (suc k)) a) (own (begin_part 0 (suc k) (next_part j later) (next_held later)) (next_part j later ∷ []) l)) q
  arm_codes n (argument a (argument b es)) l e h = ap (inner (taken listed (suc k) never (of_expr a)) (expr_layout (above x (suc k)) a)) (arm_codes (suc n) (argument b es) l (omega arith) (omega arith))
  arm_codes n (argument a (splice b es)) l e h = ap (inner (taken listed (suc k) never (of_expr a)) (expr_layout (above x (suc k)) a)) (arm_codes (suc n) (splice b es) l (omega arith) (omega arith))
  arm_codes n (splice a (argument b es)) l e h = ap (inner (taken spliced (suc k) never (of_expr a)) (expr_layout (above x (suc k)) a)) (arm_codes (suc n) (argument b es) l (omega arith) (omega arith))
  arm_codes n (splice a (splice b es)) l e h = ap (inner (taken spliced (suc k) never (of_expr a)) (expr_layout (above x (suc k)) a)) (arm_codes (suc n) (splice b es) l (omega arith) (omega arith))

  -- ---- handlers

  abbrev arm_program : Program → Layout → Layout
  arm_program p l = inner (plain (of_program p)) (program_layout (above x 0) p) (own (finish 0) (0 ∷ []) l)

  one_arm : (n : ℕ) (y : Option Text) (cs : Codes) (p : Program) (s : State) → m ≡ n + code_count cs
      → over (held_codes_layout x k m cs later (arm_program p stop)) (over (arms_layout x (suc k) (suc m) later) s) ≡ over (arms_layout x k n (except y cs p later)) s
  one_arm n y any_code p s e = ap (λ j. over (arm_program p (arms_layout x (suc k) (suc j) later)) s) e
  one_arm n y (codes_in no_arguments) p s e = ap (λ j. over (arm_program p (arms_layout x (suc k) (suc j) later)) s) e
  one_arm n y (codes_in (argument a es)) p s e =
      codes_put (argument a es) (arm_program p stop) (over (arms_layout x (suc k) (suc m) later) s)
      ∙ sym (codes_put (argument a es) (arm_program p (arms_layout x (suc k) (suc m) later)) s)
      ∙ ap (λ l. over l s) (arm_codes n (argument a es) (arm_program p (arms_layout x (suc k) (suc m) later)) e (omega arith))
      ∙ ap (λ j. over (arm_arguments_layout x k n (argument a es) (λ j. next_part j later) (next_held later) (arm_program p (arms_layout x (suc k) (suc j) later))) s) e
  one_arm n y (codes_in (splice a es)) p s e =
      codes_put (splice a es) (arm_program p stop) (over (arms_layout x (suc k) (suc m) later) s)
      ∙ sym (codes_put (splice a es) (arm_program p (arms_layout x (suc k) (suc m) later)) s)
      ∙ ap (λ l. over l s) (arm_codes n (splice a es) (arm_program p (arms_layout x (suc k) (suc m) later)) e (omega arith))
      ∙ ap (λ j. over (arm_arguments_layout x k n (splice a es) (λ j. next_part j later) (next_held later) (arm_program p (arms_layout x (suc k) (suc j) later))) s) e

pub arm_put : (x : Around) (k n m : ℕ) (hs : List Arm) (i : ℕ) (d : Arm) (s : State) → i < length hs → m ≡ n + code_count (codes_of (get_or hs i d).codes)
    → over (held_codes_layout x k m (codes_of (get_or hs i d).codes) (arms_of (drop (suc i) hs))
    (inner (plain (of_program (program_of (get_or hs i d).body.items))) (program_layout (above x 0) (program_of (get_or hs i d).body.items)) (own (finish 0) (0 ∷ []) stop)))
    (over (arms_layout x (suc k) (suc m) (arms_of (drop (suc i) hs))) s)
    ≡ over (arms_layout x k n (arms_of (drop i hs))) s
arm_put x k n m [] i d s h e = absurd (omega arith)
arm_put x k n m (a ∷ hs) zero d s h e = one_arm x k m (arms_of hs) n a.variable (codes_of a.codes) (program_of a.body.items) s e
arm_put x k n m (a ∷ hs) (suc i) d s h e = arm_put x k n m hs i d s (omega arith) e

abbrev pub program_put : Around → Arm → Layout
program_put x a = inner (plain (of_program (program_of a.body.items))) (program_layout (above x 0) (program_of a.body.items)) (own (finish 0) (0 ∷ []) stop)

-- the last of those that are not put yet, by its row
pub arm_next : (x : Around) (hs : List Arm) (rs : List HandlerRow) (i j : ℕ) (a : Arm) (r : HandlerRow) (u s : State)
    → i ≡ suc j → j < length hs → map row_of rs ≡ handler_rows 1 (arms_of hs) → a ≡ get_or hs j a → u ≡ over (arms_layout x i (first_part 2 i hs) (arms_of (drop i hs))) s
    → over (held_codes_layout x j (get_or rs j r).part (codes_of a.codes) (arms_of (take (length hs - (j + 1)) (drop (j + 1) hs))) (program_put x a)) u
    ≡ over (arms_layout x j (first_part 2 j hs) (arms_of (drop j hs))) s
arm_next x hs rs i j a r u s e b q is before =
    let m = (get_or rs j r).part in
    let p : m ≡ first_part 2 j hs + code_count (codes_of (get_or hs j a).codes) = program_part rs hs j r a b q in
    let n : first_part 2 (suc j) hs ≡ suc m = first_next 2 j hs a b ∙ ap suc (sym p) in
    let k : j + 1 ≡ suc j = omega arith in
    let later : take (length hs - (j + 1)) (drop (j + 1) hs) ≡ drop (suc j) hs = take_rest hs (j + 1) ∙ ap (λ k. drop k hs) k in
    let those : u ≡ over (arms_layout x (suc j) (suc m) (arms_of (drop (suc j) hs))) s =
    before ∙ ap (λ i. over (arms_layout x i (first_part 2 i hs) (arms_of (drop i hs))) s) e ∙ ap (λ k. over (arms_layout x (suc j) k (arms_of (drop (suc j) hs))) s) n in
    ap (λ l. over (held_codes_layout x j m (codes_of a.codes) (arms_of l) (program_put x a)) u) later
    ∙ ap (over (held_codes_layout x j m (codes_of a.codes) (arms_of (drop (suc j) hs)) (program_put x a))) those
    ∙ ap (λ a. over (held_codes_layout x j m (codes_of a.codes) (arms_of (drop (suc j) hs)) (program_put x a)) (over (arms_layout x (suc j) (suc m) (arms_of (drop (suc j) hs))) s)) is
    ∙ arm_put x j (first_part 2 j hs) m hs j a s b p
