use Rattle.std.proofs.Common.{ℕ, refl, ◌≡◌, ◌+◌, ◌≤◌, ◌<◌, length, sym, ap, ◌∙◌, arith, ⊎_elim}
use Rattle.std.proofs.lemmas.Bool.{cases_lt, false≢true}
use Rattle.memchr.proofs.lemmas.FindLemmas.{Nowhere-then}
use Rattle.memchr.proofs.lemmas.SearchLemmas.{Nowhere-right, Nowhere-left, Nowhere-end}
use Rattle.moo_text.specs.TwoWay.{read_by}
use Rattle.moo_text.proofs.two_way.first_from.Goals as goal

pub places-preserved-then-stand-sought : goal.places-preserved-then-stand-sought
places-preserved-then-stand-sought c =
    let x = read_by c.args.reading c.args.sought.now in
    let m = length c.args.sought.now in
    let h = read_by c.args.reading c.args.text.now in
    let n = length c.args.text.now in
    let cut = c.requires.cut in
    let old = c.places.invariant in
    let low = old.low in
    let stand = c.stand_to-stand.ensures in
    let from = stand.low in
    let below = c.if-stand-sought.true in
    let inside = cut.below in
    let here = Nowhere-right x m h n c.args.cut.place cut.critical c.places.place c.stand_to-stand.result (omega arith) below
    (λ k a b. ⊎_elim (λ near. old.front k (omega arith)) (λ far. stand.same k far b) (cases_lt k c.max.result)) (stand.differs below) in
    record {
      low = omega arith;
      high = omega arith;
      none = Nowhere-then old.none here;
      short = omega arith;
      front = λ k l. absurd (omega arith);
    }

pub places-preserved : goal.places-preserved
places-preserved c =
    let x = read_by c.args.reading c.args.sought.now in
    let m = length c.args.sought.now in
    let h = read_by c.args.reading c.args.text.now in
    let n = length c.args.text.now in
    let cut = c.requires.cut in
    let old = c.places.invariant in
    let low = old.low in
    let stand = c.stand_to-stand.ensures in
    let full : m ≤ c.stand_to-stand.result = omega (arith, c.if-stand-sought.false) in
    let fits = cut.fits in
    let some = cut.some in
    let reach = cut.reach in
    let behind : (k : ℕ) → c.args.cut.place ≤ k → k < m → x k ≡ h (c.places.place + k) = λ k a b.
    ⊎_elim (λ near. old.front k (omega arith)) (λ far. stand.same k far (omega arith)) (cases_lt k c.max.result) in
    let here = Nowhere-left x m h n c.args.cut.place c.args.cut.shift cut.critical cut.short c.places.place behind
    (λ occurs. false≢true (c.if-stand_between.ensures.1 (λ k a b. sym (occurs.reads k (omega arith))))) in
    record {
      low = omega arith;
      high = omega arith;
      none = Nowhere-then old.none here;
      short = omega arith;
      front = λ k l.
          let there : c.places.place + (k + c.args.cut.shift) ≡ c.places.place + c.args.cut.shift + k = omega arith in
          cut.repeats k l ∙ behind (k + c.args.cut.shift) (omega arith) (omega arith) ∙ ap h there;
    }

pub returns-then-stand_between : goal.returns-then-stand_between
returns-then-stand_between c =
    let m = length c.args.sought.now in
    let old = c.places.invariant in
    let low = old.low in
    let stand = c.stand_to-stand.ensures in
    let full : m ≤ c.stand_to-stand.result = omega (arith, c.if-stand-sought.false) in
    let before = c.if-stand_between.ensures.0 refl in
    let some = c.requires.cut.below in (
      record { low = omega arith; high = omega arith; before = old.none },
      record {
        fits = omega arith;
        reads = λ j l. sym (⊎_elim
            (λ early. old.front j early)
            (λ late. ⊎_elim (λ inside. before j late inside) (λ outside. stand.same j (omega arith) (omega arith)) (cases_lt j c.args.cut.place))
            (cases_lt j c.places.known));
      },
    )

pub returns : goal.returns
returns c =
    Nowhere-then c.places.invariant.none
    (Nowhere-end (read_by c.args.reading c.args.sought.now) (length c.args.sought.now) (read_by c.args.reading c.args.text.now) (length c.args.text.now) c.places.place c.places-test.false)
