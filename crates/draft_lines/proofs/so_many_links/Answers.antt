use Rattle.std.proofs.Common.{◌≡◌, ◌≤◌, ◌<◌, ℤ, suc, ◌+◌, Some, List, ◌++◌, length, take, drop, subst, ◌∙◌, arith, ◌∷◌, []}
use Rattle.std.proofs.Math.ListN.{drop_of_length-le}
use Rattle.std.proofs.lemmas.List.{take_all}
use Rattle.std.proofs.lemmas.Result.{err_from_is_err_and}
use Rattle.spec_value.proofs.Entries.{first_holds}
use Rattle.spec_world.specs.World.{Link}
use Rattle.spec_world.specs.WellFormed.{is_connection}
use Rattle.spec_world.specs.Questions.{put_record}
use Rattle.spec_world.specs.Checkpoint.{link_lines}
use Rattle.spec_checkpoint.specs.Records.{link_holds}
use Rattle.checkpoint_lines.specs.Rows.{Left}
use Rattle.checkpoint_lines.proofs.Giving.{gives_passed}
use Rattle.object_lines.specs.Readable.{is_link_read}
use Rattle.object_lines.proofs.Lists.{next_at, holds_at}
use Rattle.draft_lines.proofs.Fronts.{link_put}
use Rattle.checkpoint_lines.proofs.Going.{passed_on, none_yet, one_fails, one_of_them, all_of_them, no_memory}
use Rattle.spec_faults.specs.Awaited.{again}
use Rattle.spec_faults.specs.Awaited as awaited
use Rattle.draft_lines.proofs.so_many_links.Goals as goal

pub reading-init : goal.reading-init
reading-init c = (
  λ w rest f h none n l. (l, λ i. record (c.args.draft.now) { links = none i }),
  none_yet c.args.lines.now c.args.count awaited.each_link,
)

pub returns-in_err-entry : goal.returns-in_err-entry
returns-in_err-entry c = record {
  reads = λ w rest f h none n l.
      let within : c.reading._link < length w.links = omega arith in
      let at = next_at w.links c.reading._link within in
      let read = holds_at is_link_read w.links c.reading._link at.0 at.1 h in
      let later : List (ℤ × Link) = drop (suc c.reading._link) w.links in
      let inv = c.reading.invariant.0 w rest f h none n l in
      let here = subst (λ us. Left c.reading.lines (link_lines us ++ rest)) at.2 inv.0 in
      let memory = c.in_err-entry.ensures.reads (at.0).0 (at.0).1 (link_lines later ++ rest) read here in
      let passed = err_from_is_err_and c.from_residual.result c.from_residual.ensures.1 in
      gives_passed c.from_residual.result passed.0 _ passed.1 (cc (passed.2, memory));
  tells = let passed = err_from_is_err_and c.from_residual.result c.from_residual.ensures.1 in passed_on c.from_residual.result passed.0 _ c.args.lines.now _ (again c.args.count awaited.each_link ∷ []) (λ _. []) passed.1 passed.2 (one_fails _ c.args.lines.now c.reading.lines c.args.count c.reading._link awaited.each_link (omega arith) c.reading.invariant.1 c.in_err-entry.ensures.tells);
}

pub reading-preserved : goal.reading-preserved
reading-preserved c = (
  λ w rest f h none n l.
      let within : c.reading._link < length w.links = omega arith in
      let at = next_at w.links c.reading._link within in
      let read = holds_at is_link_read w.links c.reading._link at.0 at.1 h in
      let later : List (ℤ × Link) = drop (suc c.reading._link) w.links in
      let inv = c.reading.invariant.0 w rest f h none n l in
      let here = subst (λ us. Left c.reading.lines (link_lines us ++ rest)) at.2 inv.0 in
      let entry = c.in_ok-entry.ensures.reads (at.0).0 (at.0).1 (link_lines later ++ rest) read here in
      let next : suc c.reading._link ≡ c.reading._link + 1 = omega arith in
      let fits = first_holds (is_connection (at.0).0) (link_holds at.0) read in
      let put = link_put w.links c.reading._link (at.0).0 (at.0).1 f.links_in_order fits at.1 in
      let drafted = c.in_ok-put_link.ensures ∙ (λ i. record (inv.1 i) { links = put_record (inv.1 i).links (entry.0.0 i) (Some (entry.0.1 i)) }) ∙ (λ i. record (c.args.draft.now) { links = put i }) in (
        subst (λ i. Left c.next_link.new.lines (link_lines (drop i w.links) ++ rest)) next entry.1,
        drafted ∙ (λ i. record (c.args.draft.now) { links = take (next i) w.links }),
      ),
  one_of_them c.args.lines.now c.reading.lines c.next_link.new.lines c.args.count c.reading._link awaited.each_link (omega arith) c.reading.invariant.1 c.in_ok-entry.ensures.tells,
)

pub returns : goal.returns
returns c = record {
  reads = λ w rest f h none n l.
      let inv = c.reading.invariant.0 w rest f h none n l in
      let past : length w.links ≤ c.reading._link = omega arith in
      let left : Left c.reading.lines rest = subst (λ us. Left c.reading.lines (link_lines us ++ rest)) (drop_of_length-le w.links past) inv.0 in
      let all = take_all c.reading._link w.links past in
      (inv.1 ∙ (λ i. record (c.args.draft.now) { links = all i }), left);
  tells = all_of_them c.args.lines.now c.reading.lines c.args.count c.reading._link awaited.each_link (omega arith) c.reading.invariant.1;
}

pub returns-in_err-put_link-clause-tells : goal.returns-in_err-put_link-clause-tells
returns-in_err-put_link-clause-tells c = let passed = err_from_is_err_and c.from_residual-in_err-put_link.result c.from_residual-in_err-put_link.ensures.1 in no_memory c.from_residual-in_err-put_link.result passed.0 c.args.lines.now _ (again c.args.count awaited.each_link ∷ []) (λ _. []) passed.1 passed.2
