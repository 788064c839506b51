use Rattle.std.proofs.Common.{◌≡◌, ◌==◌, Some, None, ◌∷◌, ◌++◌, length, take, ap, sym, ◌∙◌, ◌+◌}
use Rattle.std.proofs.lemmas.List.{take_rest}
use Rattle.std.specs.List.{position}
use Rattle.line_fields.proofs.Stops.{stop_found, no_stop, none_stops, some_stops}
use Rattle.line_fields.proofs.Seams.{before_seam, behind_seam}
use Rattle.line_fields.proofs.cut.cut_at.Goals as goal

pub returns-in_default-clause-between : goal.returns-in_default-clause-between
returns-in_default-clause-between c t r h e =
    let found = c.in_default.ensures.value ∙ ap (position (λ d. d == c.args.stop)) e ∙ stop_found c.args.stop t r h in absurd (cc (found, c.in_default.is))

pub returns-clause-between : goal.returns-clause-between
returns-clause-between c t r h e =
    let found : Some c.in-Some.end ≡ Some (length t) = c.in-Some.ensures.value ∙ ap (position (λ d. d == c.args.stop)) e ∙ stop_found c.args.stop t r h in
    let at : c.in-Some.end ≡ length t = cc in
    (before_seam c.args.text.now t c.args.stop r c.in-Some.end e at, take_rest c.args.text.now (c.in-Some.end + 1) ∙ behind_seam c.args.text.now t c.args.stop r c.in-Some.end e at)

pub returns-clause-last : goal.returns-clause-last
returns-clause-last c t h e =
    let none : Some c.in-Some.end ≡ None = c.in-Some.ensures.value ∙ ap (position (λ d. d == c.args.stop)) e ∙ no_stop c.args.stop t h in absurd (cc)

pub returns-in_default-clause-cuts : goal.returns-in_default-clause-cuts
returns-in_default-clause-cuts c = none_stops (λ d. d == c.args.stop) c.args.text.now (sym c.in_default.ensures.value)

pub returns-clause-cuts : goal.returns-clause-cuts
returns-clause-cuts c =
    let cut = some_stops c.args.stop c.args.text.now c.in-Some.end (sym c.in-Some.ensures.value) in
    (cut.0, cut.1 ∙ ap (λ u. take c.in-Some.end c.args.text.now ++ c.args.stop ∷ u) (sym (take_rest c.args.text.now (c.in-Some.end + 1))))
