use Rattle.std.proofs.Common.{◌≡◌, ℕ, ◌+◌, ◌<◌, List, ◌++◌, length, get_or, drop, rules, ap, ◌∙◌, sym, add-one, append_assoc}
use Rattle.std.proofs.Math.Seq.{drop-cons}
use Rattle.std.proofs.Output.{has_written_append}
use Rattle.spec_value.specs.Literal.{escape, escaped}
use Rattle.moo_value.proofs.Characters.{text_at}
use Rattle.moo_value.proofs.write.write_escaped.Goals as goal

-- one byte more
escaped_more : (bs done : List ℕ) (i : ℕ) → i < length bs → done ++ escaped (drop i bs) ≡ escaped bs → (done ++ escape (get_or bs i 0)) ++ escaped (drop (i + 1) bs) ≡ escaped bs
escaped_more bs done i inside whole =
    rw add-one (append_assoc done (escape (get_or bs i 0)) _ ∙ ap (λ rest. done ++ escaped rest) (sym (drop-cons bs i 0 inside)) ∙ whole)

pub write_escaped_byte-requires : goal.write_escaped_byte-requires
write_escaped_byte-requires g c =
    let inside = rw c.as_bytes-byte-items.ensures.value at c.loop-byte-test.true in
    rw c.as_bytes-byte-items.ensures.value (text_at _ _ c.requires inside)

pub loop-byte-preserved : goal.loop-byte-preserved
loop-byte-preserved g c =
    let (done, whole, wrote) = c.loop-byte.invariant in (
      done ++ escape (get_or c.as_bytes-byte-items.result.now c.loop-byte.byte-index 0),
      escaped_more _ done _ c.loop-byte-test.true whole,
      λ plain. let sofar = wrote plain in has_written_append _ _ _ _ _ _ sofar (c.write_escaped_byte.ensures sofar.plain (search rules)),
    )
