use Rattle.std.proofs.Common.{◌≡◌, Some, None, length, ◌∙◌, ◌+◌}
use Rattle.std.proofs.lemmas.List.{take_rest}
use Rattle.line_fields.specs.Fields.{spelled}
use Rattle.line_fields.proofs.Seams.{before_seam, behind_seam}
use Rattle.line_fields.proofs.fields.first_field.Goals as goal

pub returns-clause-between : goal.returns-clause-between
returns-clause-between c f r h e =
    let found : Some c.in-Some.end ≡ Some (length (spelled f)) = c.in-Some.ensures.between f r h e in
    let at : c.in-Some.end ≡ length (spelled f) = cc in
    (before_seam c.args.line.now (spelled f) 32 r c.in-Some.end e at, take_rest c.args.line.now (c.in-Some.end + 1) ∙ behind_seam c.args.line.now (spelled f) 32 r c.in-Some.end e at)

pub returns-clause-last : goal.returns-clause-last
returns-clause-last c f h e = let none : Some c.in-Some.end ≡ None = c.in-Some.ensures.last f h e in absurd (cc)
