use Rattle.std.proofs.Common.{◌≡◌, ◌==◌, true, Some, [], ◌++◌, codes, is_some, length, refl, ap, sym, ◌∙◌}
use Rattle.std.proofs.lemmas.List.{append-nil}
use Rattle.spec_world.specs.Checkpoint.{letter_if}
use Rattle.line_fields.proofs.Letters.{behind_r, slot_r, slot_w, slot_no_dash}
use Rattle.line_fields.proofs.LettersSet.{no_slot_bits, some_slot_bits, empty_is}
use Rattle.line_fields.proofs.bits.slot_bits.Goals as goal

pub returns-then-not-is_empty : goal.returns-then-not-is_empty
returns-then-not-is_empty c = record {
  reads = λ s e.
      let letters = c.in_ok-letters.ensures.reads (letter_if (codes "r") s.readable ++ behind_r s) e (slot_no_dash s) in
      let r = c.without-readable.ensures.reads s.readable (behind_r s) (slot_r s) letters in
      let w = c.without-writable.ensures.reads s.writable (letter_if (codes "c") s.changeable) (slot_w s) r.1 in
      let x = c.without-changeable.ensures.reads s.changeable [] refl (w.1 ∙ sym (append-nil (letter_if (codes "c") s.changeable))) in
      let empty : c.is_empty.result ≡ true = c.is_empty.ensures ∙ ap (λ t. length t == 0) x.1 in
      absurd (cc (empty, c.if-not-is_empty.true));
  fault = sym (no_slot_bits c.args.text.now (λ s e.
      let letters = c.in_ok-letters.ensures.reads (letter_if (codes "r") s.readable ++ behind_r s) e (slot_no_dash s) in
      let r = c.without-readable.ensures.reads s.readable (behind_r s) (slot_r s) letters in
      let w = c.without-writable.ensures.reads s.writable (letter_if (codes "c") s.changeable) (slot_w s) r.1 in
      let x = c.without-changeable.ensures.reads s.changeable [] refl (w.1 ∙ sym (append-nil (letter_if (codes "c") s.changeable))) in
      let empty : c.is_empty.result ≡ true = c.is_empty.ensures ∙ ap (λ t. length t == 0) x.1 in
      absurd (cc (empty, c.if-not-is_empty.true))));
}

pub returns : goal.returns
returns c = record {
  reads = λ s e.
      let letters = c.in_ok-letters.ensures.reads (letter_if (codes "r") s.readable ++ behind_r s) e (slot_no_dash s) in
      let r = c.without-readable.ensures.reads s.readable (behind_r s) (slot_r s) letters in
      let w = c.without-writable.ensures.reads s.writable (letter_if (codes "c") s.changeable) (slot_w s) r.1 in
      let x = c.without-changeable.ensures.reads s.changeable [] refl (w.1 ∙ sym (append-nil (letter_if (codes "c") s.changeable))) in
      λ i. Some (record { readable = r.0 i; writable = w.0 i; changeable = x.0 i });
  fault = sym (some_slot_bits c.args.text.now c.in_ok-letters.letters.now c.without-readable.result.1.now c.without-writable.result.1.now c.without-changeable.result.1.now
      c.without-readable.result.0 c.without-writable.result.0 c.without-changeable.result.0 c.in_ok-letters.ensures.tells c.without-readable.ensures.tells c.without-writable.ensures.tells
      c.without-changeable.ensures.tells (empty_is c.without-changeable.result.1.now c.is_empty.result c.is_empty.ensures c.if-not-is_empty.false));
}

pub returns-in_err-letters-clause-fault : goal.returns-in_err-letters-clause-fault
returns-in_err-letters-clause-fault c = ap is_some c.from_residual.ensures ∙ sym (no_slot_bits c.args.text.now (λ s e. c.in_err-letters.ensures.reads (letter_if (codes "r") s.readable ++ behind_r s) e (slot_no_dash s)))
