use Rattle.std.proofs.Common.{◌≡◌, ℕ, ◌+◌, ◌≤◌, ◌<◌, List, ◌∷◌, ◌++◌, length, slice_index_or, drop, rules, ap, ◌∙◌, sym, add-one, arith, append_assoc}
use Rattle.std.proofs.Math.Seq.{drop-cons}
use Rattle.std.proofs.Output.{has_written_append}
use Rattle.spec_value.specs.Datum.{Datum, of_list}
use Rattle.spec_value.specs.Literal.{literal, data_text, more_text}
use Rattle.moo_value.specs.Depth.{depth, data_depth}
use Rattle.moo_value.proofs.Listing.{depth_item}
use Rattle.moo_value.proofs.write.+literal.Goals as goal

-- one item more, behind a comma and a space
more_written : (ds : List Datum) (d : Datum) (done whole : List ℕ) (i : ℕ) → i < length ds
    → done ++ more_text (of_list (drop i ds)) ≡ whole → (done ++ (44 ∷ 32 ∷ literal (slice_index_or ds i d))) ++ more_text (of_list (drop (i + 1) ds)) ≡ whole
more_written ds d done whole i inside h =
    rw add-one (append_assoc done _ _ ∙ ap (λ rest. done ++ more_text (of_list rest)) (sym (drop-cons ds i d inside)) ∙ h)

pub write_items-loop-item-init : goal.write_items-loop-item-init
write_items-loop-item-init g t c =
    (literal c.in-Some.first.now, ap (λ ds. data_text (of_list ds)) (sym c.in-Some.ensures.cases.0), λ plain. c.write_literal.ensures plain (search rules))

pub write_items-write_literal-requires-in-loop-item : goal.write_items-write_literal-requires-in-loop-item
write_items-write_literal-requires-in-loop-item g t c κs within =
    let h : depth c.item-item.result ≤ data_depth (of_list c.in-Some.rest.now) = rw c.item-item.is (depth_item _ _ _ c.loop-item-test.true) in
    let e = ap (λ ds. data_depth (of_list ds)) c.in-Some.ensures.cases.0 in
    (omega (arith, h, e), within)

pub write_items-loop-item-preserved : goal.write_items-loop-item-preserved
write_items-loop-item-preserved g t c =
    let (done, whole, wrote) = c.loop-item.invariant in (
      done ++ (44 ∷ 32 ∷ literal c.item-item.result),
      rw c.item-item.is (more_written _ _ done _ _ c.loop-item-test.true whole),
      λ plain.
          let sofar = wrote plain in
          let comma = c.write_mark.ensures sofar.plain (search rules) in
          has_written_append _ _ _ _ _ _ sofar (has_written_append _ _ _ _ _ _ comma (c.write_literal-in-loop-item.ensures comma.plain (search rules))),
    )
