use Rattle.std.proofs.Common.{◌≡◌, Some, None, sym, ◌∙◌}
use Rattle.moo_code.specs.Resuming.{waiting_kept}
use Rattle.task_lines.proofs.Standing.{place_is}
use Rattle.task_lines.proofs.CallPlaces.{place_there}
use Rattle.task_lines.proofs.stand.placed.Goals as goal

pub returns-in-Some : goal.returns-in-Some
returns-in-Some c = record {
  reads = λ f stands fit compiled along wanted.
      let both : Some c.in-Some.place ≡ Some (waiting_kept f).place = sym c.in-Some.is ∙ c.in_ok-found.ensures ∙ place_is f c.args.program.now c.args.path.now stands fit compiled along in
      (cc, wanted);
  tells = λ hs down is. (hs, down, is);
}

pub returns-in-None : goal.returns-in-None
returns-in-None c = record {
  reads = λ f stands fit compiled along wanted.
      let both : None ≡ Some (waiting_kept f).place = sym c.in-None.is ∙ c.in_ok-found.ensures ∙ place_is f c.args.program.now c.args.path.now stands fit compiled along in
      cc;
  tells = λ hs down is. absurd (place_there c.args.program.now c.args.path.now hs down (sym c.in_ok-found.ensures ∙ c.in-None.is));
}
