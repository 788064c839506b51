use Rattle.std.proofs.Common.{◌+◌, ◌-◌, ◌∷◌, [], ◌++◌, length, drop, refl, sym, ap, subst, IsTrue, ◌∙◌, slice_index_or, append_assoc}
use Rattle.std.specs.Prelude.{slice_get}
use Rattle.std.proofs.Math.ListN.{drop_of_length-le}
use Rattle.std.proofs.lemmas.Result.{err_from_is_err_and}
use Rattle.spec_world.specs.Checkpoint.{literal_lines}
use Rattle.held_values.specs.declared.fits.Wanted.TheVariants.{Any}
use Rattle.held_values.specs.Wanted.{wanted_fits, all_fit}
use Rattle.checkpoint_lines.specs.Rows.{Left}
use Rattle.checkpoint_lines.proofs.Giving.{gives_passed}
use Rattle.task_lines.specs.Wanting.{GoesWith}
use Rattle.task_lines.proofs.Loops.{next_wanted, next_held, before_is, last_pushed}
use Rattle.task_lines.proofs.HeldLines.{begins, one_more, read_one, read_none, all_read}
use Rattle.task_lines.proofs.Telling.{tells_passed}
use Rattle.task_lines.proofs.held.next_values.Goals as goal

pub returns-in_err-value : goal.returns-in_err-value
returns-in_err-value c = record {
  reads = λ vs rest h fits l.
      let inv = c.values.invariant.0 vs rest h fits l in
      let items = c.values.values.items in
      let w = slice_index_or c.args.wanted.now c.values.one-index Any in
      let next = next_held (slice_get items (length items - 1)) c.args.wanted.now c.values.one-index w Any inv.0 c.values-test.true refl inv.3 inv.2 in
      let before = before_is c.last.result c.deref.result.now items c.last.ensures.value c.deref.ensures.value in
      let one = subst (λ b. IsTrue (wanted_fits w b next.value)) (sym before) next.fits in
      let here = subst (λ xs. Left c.values.lines (literal_lines xs ++ rest)) next.are inv.4 in
      let memory = c.in_err-value.ensures.reads next.value (literal_lines next.rest ++ rest) next.readable one here in
      let passed = err_from_is_err_and c.from_residual.result c.from_residual.ensures.1 in
      gives_passed c.from_residual.result passed.0 _ passed.1 (cc (passed.2, memory));
  tells = λ hs is.
      let passed = err_from_is_err_and c.from_residual.result c.from_residual.ensures.1 in
      tells_passed c.from_residual.result passed.0 _ _ _ _ _ passed.1 (cc (passed.2))
      (λ room.
      let items = c.values.values.items in
      let before = slice_get items (length items - 1) in
      let w = slice_index_or c.args.wanted.now c.values.one-index Any in
      let wanted = drop (c.values.one-index + 1) c.args.wanted.now in
      let more = one_more _ _ hs before w wanted (drop c.values.one-index c.args.wanted.now) (next_wanted c.args.wanted.now c.values.one-index w Any c.values-test.true refl) (c.values.invariant.1 hs room is) in
      let last = before_is c.last.result c.deref.result.now items c.last.ensures.value c.deref.ensures.value in
      let goes = subst (λ b. GoesWith more.around more.here more.done w b) (sym last) more.goes_with in
      read_none _ _ _ hs before w wanted more (c.in_err-value.ensures.tells more.around (length more.next) more.here more.done goes));
}

pub values-preserved : goal.values-preserved
values-preserved c = (
  λ vs rest h fits l.
      let inv = c.values.invariant.0 vs rest h fits l in
      let items = c.values.values.items in
      let w = slice_index_or c.args.wanted.now c.values.one-index Any in
      let next = next_held (slice_get items (length items - 1)) c.args.wanted.now c.values.one-index w Any inv.0 c.values-test.true refl inv.3 inv.2 in
      let before = before_is c.last.result c.deref.result.now items c.last.ensures.value c.deref.ensures.value in
      let one = subst (λ b. IsTrue (wanted_fits w b next.value)) (sym before) next.fits in
      let here = subst (λ xs. Left c.values.lines (literal_lines xs ++ rest)) next.are inv.4 in
      let value = c.in_ok-value.ensures.reads next.value (literal_lines next.rest ++ rest) next.readable one here in
      let pushed = c.in_ok-push.ensures.items ∙ ap (λ v. items ++ v ∷ []) value.0 in
      let last = last_pushed items c.push.new.self.items next.value pushed in
      let done = ap (λ xs. xs ++ next.rest) pushed ∙ append_assoc items (next.value ∷ []) next.rest ∙ ap (λ xs. items ++ xs) (sym next.are) ∙ inv.1 in
      (next.rest, done, next.all_readable, subst (λ b. IsTrue (all_fit b (drop (c.values.one-index + 1) c.args.wanted.now) next.rest)) (sym last) next.all_fits, value.1),
  λ hs room is.
      let items = c.values.values.items in
      let before = slice_get items (length items - 1) in
      let w = slice_index_or c.args.wanted.now c.values.one-index Any in
      let wanted = drop (c.values.one-index + 1) c.args.wanted.now in
      let more = one_more _ _ hs before w wanted (drop c.values.one-index c.args.wanted.now) (next_wanted c.args.wanted.now c.values.one-index w Any c.values-test.true refl) (c.values.invariant.1 hs room is) in
      let last = before_is c.last.result c.deref.result.now items c.last.ensures.value c.deref.ensures.value in
      let goes = subst (λ b. GoesWith more.around more.here more.done w b) (sym last) more.goes_with in
      let fits = subst (λ b. IsTrue (wanted_fits w b c.in_ok-value.value)) last c.in_ok-value.ensures.fits in
      read_one _ _ _ hs before w wanted more c.in_ok-value.value (slice_get c.push.new.self.items (length c.push.new.self.items - 1)) (last_pushed items c.push.new.self.items c.in_ok-value.value c.in_ok-push.ensures.items) fits
      (c.in_ok-value.ensures.tells more.around (length more.next) more.here more.done goes more.goes.room),
)

pub values-init : goal.values-init
values-init c = (
  λ vs rest h fits l. (
    vs,
    ap (λ us. us ++ vs) c.new-values.ensures.items,
    h,
    subst (λ us. IsTrue (all_fit (slice_get us (length us - 1)) c.args.wanted.now vs)) (sym c.new-values.ensures.items) fits,
    l,
  ),
  λ hs room is. begins c.args.lines.now hs c.args.wanted.now _ room is,
)

pub returns-clause-tells : goal.returns-clause-tells
returns-clause-tells c = λ hs is room. all_read _ _ hs _ _ (drop_of_length-le c.args.wanted.now c.values-test.false) (c.values.invariant.1 hs room is)
