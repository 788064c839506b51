use Rattle.std.proofs.Common.{◌<◌, ◌+◌, drop, length, string_bytes, ap, ◌∙◌, arith}
use Rattle.spec_value.specs.TextSearch.{substituted, replaced}
use Rattle.moo_value.proofs.Characters.{is_text-append}
use Rattle.moo_text.proofs.Standing.{replaced_step, replaced_end, long_as_front}
use Rattle.moo_text.proofs.replace.substitute_text.Goals as goal

pub places-preserved : goal.places-preserved
places-preserved c =
    let sought = c.as_bytes-sought.result.now in
    let some : 0 < length sought = omega (arith, ap length c.as_bytes-sought.ensures.value, c.requires.sought) in
    let found = rw c.as_bytes-bytes.ensures.value at c.in-Some.ensures in
    let stands = found.1.fits in
    record {
      place = stands;
      out = rw c.in_ok-push_str-2.ensures.bytes (is_text-append (string_bytes c.push_str.new.self) c.args.replacement.now
          (rw c.in_ok-push_str.ensures.bytes (is_text-append (string_bytes c.places.out) c.front.result.now c.places.invariant.out c.front.ensures.allowed)) c.requires.replacement);
      left =
          replaced_step c.args.case_counts c.args.text.now sought c.args.replacement.now (string_bytes c.places.out) c.places.place
          c.front.result.now (string_bytes c.push_str.new.self) (string_bytes c.push_str-in-Some.new.self) c.in-Some.next some found
          (rw c.back.ensures.value at c.front.ensures.value) c.in_ok-push_str.ensures.bytes c.in_ok-push_str-2.ensures.bytes
          ∙ c.places.invariant.left;
    }

pub returns-then-len-ge-WEIGHT_LIMIT : goal.returns-then-len-ge-WEIGHT_LIMIT
returns-then-len-ge-WEIGHT_LIMIT c =
    let sought = c.as_bytes-sought.result.now in
    let some : 0 < length sought = omega (arith, ap length c.as_bytes-sought.ensures.value, c.requires.sought) in
    let found = rw c.as_bytes-bytes.ensures.value at c.in-Some.ensures in
    let out = string_bytes c.push_str-in-Some.new.self in
    let whole =
    replaced_step c.args.case_counts c.args.text.now sought c.args.replacement.now (string_bytes c.places.out) c.places.place
    c.front.result.now (string_bytes c.push_str.new.self) out c.in-Some.next some found
    (rw c.back.ensures.value at c.front.ensures.value) c.in_ok-push_str.ensures.bytes c.in_ok-push_str-2.ensures.bytes
    ∙ c.places.invariant.left
    ∙ ap (λ t. substituted c.args.case_counts c.args.text.now t c.args.replacement.now) c.as_bytes-sought.ensures.value in
    long_as_front out (replaced c.args.case_counts sought c.args.replacement.now 0 (drop (c.in-Some.next + length sought) c.args.text.now)) _ _ (omega arith) whole

pub returns-then-len-ge-WEIGHT_LIMIT-2 : goal.returns-then-len-ge-WEIGHT_LIMIT-2
returns-then-len-ge-WEIGHT_LIMIT-2 c =
    let found = rw c.as_bytes-bytes.ensures.value at c.in_default.ensures in
    let whole = replaced_end c.args.case_counts c.args.text.now c.as_bytes-sought.result.now c.args.replacement.now (string_bytes c.places.out) c.places.place
    c.back-2.result.now (string_bytes c.push_str-2.new.self) _ c.places.invariant.place found c.back-2.ensures.value c.in_ok-push_str-3.ensures.bytes c.places.invariant.left
    ∙ ap (λ t. substituted c.args.case_counts c.args.text.now t c.args.replacement.now) c.as_bytes-sought.ensures.value in
    omega (arith, ap length whole)

pub from_string-requires : goal.from_string-requires
from_string-requires c =
    rw c.in_ok-push_str-3.ensures.bytes (is_text-append (string_bytes c.places.out) c.back-2.result.now c.places.invariant.out c.back-2.ensures.allowed)

pub returns : goal.returns
returns c =
    let found = rw c.as_bytes-bytes.ensures.value at c.in_default.ensures in
    let whole = replaced_end c.args.case_counts c.args.text.now c.as_bytes-sought.result.now c.args.replacement.now (string_bytes c.places.out) c.places.place
    c.back-2.result.now (string_bytes c.push_str-2.new.self) _ c.places.invariant.place found c.back-2.ensures.value c.in_ok-push_str-3.ensures.bytes c.places.invariant.left
    ∙ ap (λ t. substituted c.args.case_counts c.args.text.now t c.args.replacement.now) c.as_bytes-sought.ensures.value in
    c.in_ok-from_string.ensures ∙ whole
