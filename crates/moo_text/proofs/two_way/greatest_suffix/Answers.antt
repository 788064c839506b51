use Rattle.std.proofs.Common.{◌≡◌, ◌+◌, ◌-◌, length, sym, subst, ◌∙◌, arith}
use Rattle.memchr.proofs.lemmas.SuffixLemmas.{IsScan, IsScan-accept, IsScan-skip, IsScan-push, IsScan-block, IsScan-end}
use Rattle.moo_text.specs.TwoWay.{read_by, precedes}
use Rattle.moo_text.proofs.Cutting.{precedes_on, precedes_no_self}
use Rattle.moo_text.proofs.two_way.greatest_suffix.Goals as goal

pub scan-preserved-in-Less : goal.scan-preserved-in-Less
scan-preserved-in-Less c =
    let s = c.scan in
    let turned = c.args.turned in
    let x = read_by c.args.reading c.args.sought.now in
    let won = c.order.ensures.less c.in-Less.is in
    IsScan-accept (precedes turned) (precedes_on turned) (precedes_no_self turned) x _ s.invariant c.scan-test.true
    (subst (λ v. precedes turned v (x (s.candidate + s.offset))) c.read-known.ensures (subst (precedes turned c.read-known.result) c.read-other.ensures won))

pub scan-preserved-in-Greater : goal.scan-preserved-in-Greater
scan-preserved-in-Greater c =
    let s = c.scan in
    let turned = c.args.turned in
    let x = read_by c.args.reading c.args.sought.now in
    let m = length c.args.sought.now in
    let lost = c.order.ensures.greater c.in-Greater.is in
    let moved : s.candidate + s.offset + 1 ≡ s.candidate + (s.offset + 1) = omega arith in
    subst (λ k. IsScan (precedes turned) x m s.place (k - s.place) k 0) moved
    (IsScan-skip (precedes turned) (precedes_on turned) (precedes_no_self turned) x m s.invariant c.scan-test.true
    (subst (λ v. precedes turned v (x (s.place + s.offset))) c.read-other.ensures (subst (precedes turned c.read-other.result) c.read-known.ensures lost)))

pub scan-preserved-then-offset-period : goal.scan-preserved-then-offset-period
scan-preserved-then-offset-period c =
    let turned = c.args.turned in
    let alike = sym c.read-known.ensures ∙ c.order.ensures.equal c.in-Equal.is ∙ c.read-other.ensures in
    IsScan-block (precedes turned) (precedes_on turned) (precedes_no_self turned) _ _ c.scan.invariant c.scan-test.true alike c.if-offset-period.true

pub scan-preserved : goal.scan-preserved
scan-preserved c =
    let turned = c.args.turned in
    let short = c.scan.invariant.short in
    let differs = c.if-offset-period.false in
    let alike = sym c.read-known.ensures ∙ c.order.ensures.equal c.in-Equal.is ∙ c.read-other.ensures in
    IsScan-push (precedes turned) (precedes_on turned) (precedes_no_self turned) _ _ c.scan.invariant c.scan-test.true alike (omega arith)

pub returns : goal.returns
returns c =
    let turned = c.args.turned in
    let within = c.scan.invariant.within in
    let ended = c.scan-test.false in
    IsScan-end (precedes turned) (precedes_on turned) (precedes_no_self turned) _ _ c.scan.invariant (omega arith)
