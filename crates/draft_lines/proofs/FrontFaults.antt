-- What the first line of a text tells.
use Rattle.std.proofs.Common.{◌≡◌, suc, [], ◌∷◌, codes, refl, ap, sym, subst}
use Rattle.spec_value.specs.Datum.{Text}
use Rattle.spec_world.specs.Checkpoint as fault
use Rattle.spec_faults.specs.Awaited.{first_line, only_if, told}
use Rattle.spec_faults.specs.Faults.{fault_among}
use Rattle.checkpoint_lines.specs.declared.fault.DecodeError.{DecodeError}
use Rattle.checkpoint_lines.specs.declared.fault.DecodeError.TheVariants.{Line}
use Rattle.checkpoint_lines.specs.declared.fault.FaultKind.TheVariants as kind
use Rattle.checkpoint_lines.specs.declared.lines.Lines.{Lines}
use Rattle.checkpoint_lines.specs.Told.{IsFault, fault_left, GoesOn, TellsFault, IsNext, IsOver}
use Rattle.checkpoint_lines.proofs.Telling.{line_goes, line_faulty}
use Rattle.object_lines.proofs.FieldKinds.{not_same}

-- it is not there
pub header_over : (e : DecodeError) (l : Lines) → IsOver e l → TellsFault e l (first_line ∷ [])
header_over e l o more =
    subst (λ d. IsFault d (fault_left l (first_line ∷ more))) (sym o.error) (ap (λ k. fault_among k.lines k.rest (suc l.count) (first_line ∷ more)) o.cut)

pub header_stands : (l m : Lines) (line : Text) → IsNext line l m → line ≡ codes "MOO-CHECKPOINT 1" → GoesOn l m (first_line ∷ []) []
header_stands l m line n e = line_goes l m line first_line [] n (λ more. refl) (ap (λ t. told first_line t) e)

-- it is another
pub header_fails : (e : DecodeError) (l m : Lines) (line : Text) → IsNext line l m → e ≡ Line m.count kind.Header → (line ≡ codes "MOO-CHECKPOINT 1" → ⊥) → TellsFault e l (first_line ∷ [])
header_fails e l m line n is h =
    subst (λ d. TellsFault d l (first_line ∷ [])) (sym is)
    (line_faulty l m line first_line kind.Header n (λ more. refl) (ap (λ b. only_if b fault.header []) (not_same line (codes "MOO-CHECKPOINT 1") h)))
