-- The names of code, of handlers and the bodies of forks are those of the draft.
use Rattle.std.proofs.Common.{◌≡◌, ℕ, suc, ◌+◌, Bool, true, false, List, [], ◌∷◌, ◌++◌, Option, Some, None, refl, ap, sym, ◌∙◌}
use Rattle.std.specs.Prelude.{take, if◌then◌else◌}
use Rattle.spec_value.specs.Datum.{Text}
use Rattle.spec_world.specs.WellFormed.{has_name}
use Rattle.spec_program.specs.Tree.{Program}
use Rattle.moo_code.specs.Instruction.{Operation, start_fork, Instruction, Handler}
use Rattle.moo_code.specs.Layout.{Reception, straight, received, Caught, reception_size, receiving}
use Rattle.moo_code.specs.Names.{with_names, all_names, all_handled, operation_names, handler_names}
use Rattle.moo_program.specs.Drafting.{Draught, own_of, part_of, close_of, gap_of, opening_size}
use Rattle.moo_program.specs.Assembling.{Open, opened, innermost, outer, opening_code, code_in, handlers_in}
use Rattle.moo_program.specs.Gathering.{draft_names, draft_handled, draft_bodies, forks_before, forks_in}

pub no_names : (names : List Text) → with_names names [] ≡ names
unfolding with_names
no_names names = refl

pub with_append : (xs ys names : List Text) → with_names names (xs ++ ys) ≡ with_names (with_names names xs) ys
unfolding with_names
with_append [] ys names = refl
with_append (x ∷ xs) ys names = go (has_name names x) (with_append xs ys)
  where
    go : (b : Bool) → ((names : List Text) → with_names names (xs ++ ys) ≡ with_names (with_names names xs) ys)
        → (if b then with_names names (xs ++ ys) else with_names (names ++ x ∷ []) (xs ++ ys))
        ≡ with_names (if b then with_names names xs else with_names (names ++ x ∷ []) xs) ys
    go true more = more names
    go false more = more (names ++ x ∷ [])

-- ---- one item

pub names_next : (names : List Text) (d : Draught) (ds : List Draught) → draft_names names (d ∷ ds) ≡ draft_names (draft_names names (d ∷ [])) ds
unfolding draft_names
names_next names (own_of op ns) ds = refl
names_next names (part_of o n m) ds = refl
names_next names (close_of r c) ds = refl
names_next names gap_of ds = refl

pub handled_next : (names : List Text) (d : Draught) (ds : List Draught) → draft_handled names (d ∷ ds) ≡ draft_handled (draft_handled names (d ∷ [])) ds
unfolding draft_handled
handled_next names (own_of op ns) ds = refl
handled_next names (part_of o n m) ds = refl
handled_next names (close_of r None) ds = refl
handled_next names (close_of r (Some c)) ds = refl
handled_next names gap_of ds = refl

forks_apart : (op : Operation) (ps : List Program) → forks_before op ps ≡ forks_before op [] ++ ps
forks_apart (start_fork x p) ps = refl
forks_apart op ps = refl

pub bodies_next : (d : Draught) (ds : List Draught) → draft_bodies (d ∷ ds) ≡ draft_bodies (d ∷ []) ++ draft_bodies ds
unfolding draft_bodies
bodies_next (own_of op ns) ds = forks_apart op (draft_bodies ds)
bodies_next (part_of o n m) ds = refl
bodies_next (close_of r c) ds = refl
bodies_next gap_of ds = refl

-- ---- the code's names

opening_none : (o : Bool) (names : List Text) (is : List Instruction) → all_names names (opening_code o ++ is) ≡ all_names names is
unfolding all_names with_names
opening_none true names is = refl
opening_none false names is = refl

receiving_none : (end : ℕ) (r : Reception) (names : List Text) (is : List Instruction) → all_names names (receiving end r ++ is) ≡ all_names names is
unfolding all_names with_names
receiving_none end straight names is = refl
receiving_none end (received w n u) names is = refl

pub code_names : (ds : List Draught) (cs : List Open) (b : ℕ) (names : List Text) → all_names names (code_in cs b ds) ≡ draft_names names ds
unfolding all_names draft_names
code_names [] cs b names = refl
code_names (own_of op ns ∷ ds) cs b names = code_names ds cs (suc b) (with_names names (operation_names op))
code_names (part_of o n m ∷ ds) cs b names =
    opening_none o names (code_in (opened (b + opening_size o) (take n ds) m ∷ cs) (b + opening_size o) ds)
    ∙ code_names ds (opened (b + opening_size o) (take n ds) m ∷ cs) (b + opening_size o) names
code_names (close_of r c ∷ ds) cs b names =
    receiving_none (innermost (outer cs)).end r names (code_in (outer cs) (b + reception_size r) ds) ∙ code_names ds (outer cs) (b + reception_size r) names
code_names (gap_of ∷ ds) cs b names = code_names ds cs b names

pub handlers_names : (ds : List Draught) (cs : List Open) (b : ℕ) (names : List Text) → all_handled names (handlers_in cs b ds) ≡ draft_handled names ds
unfolding all_handled draft_handled
handlers_names [] cs b names = refl
handlers_names (own_of op ns ∷ ds) cs b names = handlers_names ds cs (suc b) names
handlers_names (part_of o n m ∷ ds) cs b names = handlers_names ds (opened (b + opening_size o) (take n ds) m ∷ cs) (b + opening_size o) names
handlers_names (close_of r None ∷ ds) cs b names = handlers_names ds (outer cs) (b + reception_size r) names
handlers_names (close_of r (Some c) ∷ ds) cs b names = handlers_names ds (outer cs) (b + reception_size r) (with_names names (handler_names c.sign))
handlers_names (gap_of ∷ ds) cs b names = handlers_names ds cs b names

-- ---- the forks' bodies

opening_no_fork : (o : Bool) (is : List Instruction) → forks_in (opening_code o ++ is) ≡ forks_in is
unfolding forks_in
opening_no_fork true is = refl
opening_no_fork false is = refl

receiving_no_fork : (end : ℕ) (r : Reception) (is : List Instruction) → forks_in (receiving end r ++ is) ≡ forks_in is
unfolding forks_in
receiving_no_fork end straight is = refl
receiving_no_fork end (received w n u) is = refl

pub code_forks : (ds : List Draught) (cs : List Open) (b : ℕ) → forks_in (code_in cs b ds) ≡ draft_bodies ds
unfolding forks_in draft_bodies
code_forks [] cs b = refl
code_forks (own_of op ns ∷ ds) cs b = ap (forks_before op) (code_forks ds cs (suc b))
code_forks (part_of o n m ∷ ds) cs b =
    opening_no_fork o (code_in (opened (b + opening_size o) (take n ds) m ∷ cs) (b + opening_size o) ds)
    ∙ code_forks ds (opened (b + opening_size o) (take n ds) m ∷ cs) (b + opening_size o)
code_forks (close_of r c ∷ ds) cs b = receiving_no_fork (innermost (outer cs)).end r (code_in (outer cs) (b + reception_size r) ds) ∙ code_forks ds (outer cs) (b + reception_size r)
code_forks (gap_of ∷ ds) cs b = code_forks ds cs b
