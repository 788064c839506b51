-- A task that begins with a verb, and one that goes on, may run.
use Rattle.std.proofs.Common.{◌≡◌, ◌∙◌, ◌+◌, ap, sym, refl, subst, ℤ, List, [], Option, Some, None, arith}
use Rattle.spec_value.specs.Datum.{Data, Text}
use Rattle.spec_program.specs.Tree.{Program}
use Rattle.spec_program.specs.Construct.{of_program}
use Rattle.spec_world.specs.World.{Call, Start}
use Rattle.spec_moo.specs.Calling.{starting}
use Rattle.spec_moo.specs.Pending as pending
use Rattle.spec_moo.specs.Pending.{begin}
use Rattle.spec_moo.specs.Steps.Running.{begun}
use Rattle.spec_moo.specs.Worlds as worlds
use Rattle.spec_ready.proofs.GoingOn.{beginnings_stand}
use Rattle.moo_code.specs.Machine.{Kept, Outer}
use Rattle.moo_code.specs.Stands.{AllWait, Stands, first_size}
use Rattle.moo_code.proofs.Runs.{verbs_begin}
use Rattle.moo_task.specs.Frames as frames
use Rattle.moo_task.specs.Outcomes.{running_kept}
use Rattle.moo_task.specs.declared.running.Running.{Running}
use Rattle.moo_task.specs.UnderWay.{GoesOn, verb_of, IsUnderWay, begins}
use Rattle.steps.specs.Tasks.{MayRun, called_as}

-- a verb at its beginning
abbrev pub first_kept : ℤ → Call → Text → Start → Data → Program → Kept
first_kept player c word s args body =
    record { call = c; start = s; program = body; variables = starting player c word s args; place = 0; operands = [] }

pub may_begin : (player : ℤ) (c : Call) (word : Text) (s : Start) (args : Data) (body : Program) (r : Running) (k : Kept)
    → k ≡ frames.begun player s (called_as c word) body args → running_kept r ≡ record k { call = c } → r.player ≡ player → r.outer ≡ []
    → MayRun r (begun player c word s args body)
may_begin player c word s args body r k started named players alone =
    let p : pending.Pending = begun player c word s args body in
    let is : running_kept r ≡ first_kept player c word s args body = named ∙ ap (λ (x : Kept). record x { call = c }) started in
    let stands : Stands (verb_of p) p.frame.variables p.focus p.frame.pieces (first_kept player c word s args body) [] = verbs_begin (verb_of p) p.frame.variables [] tt in
    record {
      pending = record {
        player_is = sym players;
        stands = subst (λ (z : Kept). Stands (verb_of p) p.frame.variables p.focus p.frame.pieces z r.outer) (sym is)
            (subst (λ (z : List Outer). Stands (verb_of p) p.frame.variables p.focus p.frame.pieces (first_kept player c word s args body) z) (sym alone) stands);
      };
      under_way = begins (record {
        entries = [];
        waiting = subst (λ (z : List Outer). AllWait [] z) (sym alone) tt;
        standing = tt;
        place = ap (λ (z : Kept). z.place) is;
        operands = ap (λ (z : Kept). z.operands) is;
      });
      keeps = beginnings_stand player c word s args body;
    }

-- a task that goes on
pub may_go_on : (o : Option pending.Pending) (r : Running) → GoesOn o r.player (running_kept r) r.outer → IsUnderWay (running_kept r) r.outer
    → ((p : pending.Pending) → o ≡ Some p → worlds.IsUnderWay p) → (p : pending.Pending) × ((o ≡ Some p) × MayRun r p)
may_go_on None r g u keeps = absurd g
may_go_on (Some p) r g u keeps = (p, (refl, record { pending = g; under_way = u; keeps = keeps p refl }))

-- how the machine stands at a verb's beginning
pub begun_kept : (player : ℤ) (c : Call) (word : Text) (s : Start) (args : Data) (body : Program) (r : Running) → MayRun r (begun player c word s args body)
    → running_kept r ≡ first_kept player c word s args body
begun_kept player c word s args body r h =
    let stands = h.pending.stands in
    let front : stands.place + first_size (of_program body) ≡ 0 = stands.means.place in
    let place : stands.place ≡ 0 = omega (arith, front) in
    stands.is ∙ (λ i. record { call = c; start = s; program = body; variables = starting player c word s args; place = place i; operands = stands.means.stack i })
