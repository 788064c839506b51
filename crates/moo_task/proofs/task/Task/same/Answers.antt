use Rattle.std.proofs.Common.{◌≡◌, ◌∙◌, sym, of_z, w32, arith, rules}
use Rattle.std.proofs.lemmas.Bool.{eqb-true}
use Rattle.std.specs.Arc.{arc_value}
use Rattle.moo_task.specs.Effects.{waiting_of}
use Rattle.moo_task.proofs.Kept.{alike_told}
use Rattle.moo_task.proofs.task.Task.same.Goals.{then-self-other, else-self-other}
use Rattle.moo_task.proofs.task.Task.same.Goals as goal

pub returns-then-same_waiting : goal.returns-then-same_waiting
returns-then-same_waiting c = elim c.if-self-other.branch [
  | then-self-other w ↦
      let players : c.self.inside.player ≡ c.other.inside.player = search rules in
      alike_told c.same_outers.result c.args.self.now c.args.other.now c.self.inside.player c.other.inside.player
      (waiting_of c.self.inside.waiting) (waiting_of c.other.inside.waiting) (arc_value c.self.inside.verbs) (arc_value c.other.inside.verbs)
      c.self.view_is c.other.view_is c.self.invariant c.other.invariant players (w.same_waiting.ensures.0 (sym w.value-is ∙ c.if-same_waiting.true)) (
        λ t. sym c.deref.ensures ∙ c.same_outers.ensures.0 t ∙ c.deref-then-same_waiting.ensures,
        λ t. c.same_outers.ensures.1 (c.deref.ensures ∙ t ∙ sym c.deref-then-same_waiting.ensures),
      )
  | else-self-other w ↦
      let equal = eqb-true (of_z w32 c.self.inside.player) (of_z w32 c.other.inside.player) (sym w.value-is ∙ c.if-same_waiting.true) in
      absurd (omega arith)
]
