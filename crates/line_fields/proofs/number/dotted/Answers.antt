use Rattle.std.proofs.Common.{◌≡◌, ◌∙◌, [], ◌∷◌, ◌++◌, subst, sym, ap, Some}
use Rattle.line_fields.proofs.Dots.{Behind, part_read, last_read}
use Rattle.spec_faults.specs.Plain.{between_dots}
use Rattle.line_fields.proofs.DotsSaid.{SaidSoFar, one_said, none_there, last_said, last_none}
use Rattle.line_fields.proofs.number.dotted.Goals as goal

pub returns-in-None : goal.returns-in-None
returns-in-None c = record {
  reads = λ m ms h e.
      let read = part_read m ms c.parts.rest.now c.parts.numbers.items c.in-Some.part.now c.in-Some.behind.now c.natural.result (c.parts.invariant.0 m ms h e) c.in-Some.ensures.between c.in-Some.ensures.last c.natural.ensures.reads in
      absurd (cc (read.1, c.in-None.is));
  fault = none_there (between_dots c.args.text.now) c.parts.numbers.items c.parts.rest.now c.in-Some.part.now c.in-Some.behind.now c.parts.invariant.1 c.in-Some.ensures.cuts c.in-None.ensures.fault;
}

pub parts-preserved : goal.parts-preserved
parts-preserved c = (
  λ m ms h e.
      let read = part_read m ms c.parts.rest.now c.parts.numbers.items c.in-Some.part.now c.in-Some.behind.now c.natural.result (c.parts.invariant.0 m ms h e) c.in-Some.ensures.between c.in-Some.ensures.last c.natural.ensures.reads in
      let same : c.in-Some-natural.number ≡ read.0 = cc (read.1, c.in-Some-natural.is) in
      subst (λ ns. Behind m ms ns c.in-Some.behind.now) (sym (c.in_ok-push-in-Some-natural.ensures.items ∙ ap (λ n. c.parts.numbers.items ++ n ∷ []) same)) read.2,
  subst (λ ns. SaidSoFar (between_dots c.args.text.now) ns (between_dots c.in-Some.behind.now)) (sym c.in_ok-push-in-Some-natural.ensures.items)
      (one_said (between_dots c.args.text.now) c.parts.numbers.items c.parts.rest.now c.in-Some.part.now c.in-Some.behind.now c.in-Some-natural.number c.parts.invariant.1 c.in-Some.ensures.cuts c.in-Some-natural.ensures.fault),
)

pub returns-in-None-natural : goal.returns-in-None-natural
returns-in-None-natural c = record {
  reads = λ m ms h e.
      let read = last_read m ms c.parts.rest.now c.parts.numbers.items c.natural-2.result (c.parts.invariant.0 m ms h e) c.in_default.ensures.between c.natural-2.ensures.reads in
      absurd (cc (read.1, c.in-None-natural.is));
  fault = last_none (between_dots c.args.text.now) c.parts.numbers.items c.parts.rest.now c.parts.invariant.1 c.in_default.ensures.cuts c.in-None-natural.ensures.fault;
}

pub returns : goal.returns
returns c = record {
  reads = λ m ms h e.
      let read = last_read m ms c.parts.rest.now c.parts.numbers.items c.natural-2.result (c.parts.invariant.0 m ms h e) c.in_default.ensures.between c.natural-2.ensures.reads in
      let same : c.in-Some-natural-2.number ≡ read.0 = cc (read.1, c.in-Some-natural-2.is) in
      c.in_ok-push-in-Some-natural-2.ensures.items ∙ ap (λ n. c.parts.numbers.items ++ n ∷ []) same ∙ read.2;
  fault =
      let said = last_said (between_dots c.args.text.now) c.parts.numbers.items c.parts.rest.now c.in-Some-natural-2.number c.parts.invariant.1 c.in_default.ensures.cuts c.in-Some-natural-2.ensures.fault in
      (said.0, ap Some (said.1 ∙ sym c.in_ok-push-in-Some-natural-2.ensures.items));
}
