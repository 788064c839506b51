use Rattle.std.proofs.Common.{◌≡◌, ◌==◌, true, Some, [], ◌++◌, codes, is_some, length, refl, ap, sym, ◌∙◌}
use Rattle.std.proofs.lemmas.List.{append-nil}
use Rattle.spec_world.specs.Checkpoint.{letter_if}
use Rattle.line_fields.proofs.Letters.{behind_first, behind_w, verb_r, verb_w, verb_x, verb_no_dash}
use Rattle.line_fields.proofs.LettersSet.{no_verb_bits, some_verb_bits, empty_is}
use Rattle.line_fields.proofs.bits.verb_bits.Goals as goal

pub returns-then-not-is_empty : goal.returns-then-not-is_empty
returns-then-not-is_empty c = record {
  reads = λ v e.
      let letters = c.in_ok-letters.ensures.reads (letter_if (codes "r") v.readable ++ behind_first v) e (verb_no_dash v) in
      let r = c.without-readable.ensures.reads v.readable (behind_first v) (verb_r v) letters in
      let w = c.without-writable.ensures.reads v.writable (behind_w v) (verb_w v) r.1 in
      let x = c.without-callable.ensures.reads v.callable (letter_if (codes "d") v.debug) (verb_x v) w.1 in
      let d = c.without-debug.ensures.reads v.debug [] refl (x.1 ∙ sym (append-nil (letter_if (codes "d") v.debug))) in
      let empty : c.is_empty.result ≡ true = c.is_empty.ensures ∙ ap (λ t. length t == 0) d.1 in
      absurd (cc (empty, c.if-not-is_empty.true));
  fault = sym (no_verb_bits c.args.text.now (λ v e.
      let letters = c.in_ok-letters.ensures.reads (letter_if (codes "r") v.readable ++ behind_first v) e (verb_no_dash v) in
      let r = c.without-readable.ensures.reads v.readable (behind_first v) (verb_r v) letters in
      let w = c.without-writable.ensures.reads v.writable (behind_w v) (verb_w v) r.1 in
      let x = c.without-callable.ensures.reads v.callable (letter_if (codes "d") v.debug) (verb_x v) w.1 in
      let d = c.without-debug.ensures.reads v.debug [] refl (x.1 ∙ sym (append-nil (letter_if (codes "d") v.debug))) in
      let empty : c.is_empty.result ≡ true = c.is_empty.ensures ∙ ap (λ t. length t == 0) d.1 in
      absurd (cc (empty, c.if-not-is_empty.true))));
}

pub returns : goal.returns
returns c = record {
  reads = λ v e.
      let letters = c.in_ok-letters.ensures.reads (letter_if (codes "r") v.readable ++ behind_first v) e (verb_no_dash v) in
      let r = c.without-readable.ensures.reads v.readable (behind_first v) (verb_r v) letters in
      let w = c.without-writable.ensures.reads v.writable (behind_w v) (verb_w v) r.1 in
      let x = c.without-callable.ensures.reads v.callable (letter_if (codes "d") v.debug) (verb_x v) w.1 in
      let d = c.without-debug.ensures.reads v.debug [] refl (x.1 ∙ sym (append-nil (letter_if (codes "d") v.debug))) in
      λ i. Some (record { readable = r.0 i; writable = w.0 i; callable = x.0 i; debug = d.0 i });
  fault = sym (some_verb_bits c.args.text.now c.in_ok-letters.letters.now c.without-readable.result.1.now c.without-writable.result.1.now c.without-callable.result.1.now c.without-debug.result.1.now
      c.without-readable.result.0 c.without-writable.result.0 c.without-callable.result.0 c.without-debug.result.0 c.in_ok-letters.ensures.tells c.without-readable.ensures.tells
      c.without-writable.ensures.tells c.without-callable.ensures.tells c.without-debug.ensures.tells (empty_is c.without-debug.result.1.now c.is_empty.result c.is_empty.ensures c.if-not-is_empty.false));
}

pub returns-in_err-letters-clause-fault : goal.returns-in_err-letters-clause-fault
returns-in_err-letters-clause-fault c = ap is_some c.from_residual.ensures ∙ sym (no_verb_bits c.args.text.now (λ v e. c.in_err-letters.ensures.reads (letter_if (codes "r") v.readable ++ behind_first v) e (verb_no_dash v)))
