-- A text has one first fault at most.
use Rattle.std.proofs.Common.{◌≡◌, inl, inr, Option, Some, None, sym, ◌∙◌}
use Rattle.spec_value.specs.Datum.{Text}
use Rattle.spec_faults.specs.Faults.{LineFault, IsWorldFault}
use Rattle.spec_faults.specs.TextLaws.{OneFault}

one_some : (f g : LineFault) → Some f ≡ Some g → f ≡ g
one_some f g e = cc

no_some : (f : LineFault) → ◌≡◌ {A = Option LineFault} None (Some f) → ⊥
no_some f e = cc

same_world : (t : Text) (f g : LineFault) → IsWorldFault t f → IsWorldFault t g → f ≡ g
same_world t f g h k =
    let line = h.line ∙ sym k.line in
    let kind = h.kind ∙ sym k.kind in
    λ i. record { line = line i; kind = kind i }

pub one_fault : OneFault
one_fault t f g (inl h) (inl k) = one_some f g (sym h ∙ k)
one_fault t f g (inl h) (inr k) = absurd (no_some f (sym k.none ∙ h))
one_fault t f g (inr h) (inl k) = absurd (no_some g (sym h.none ∙ k))
one_fault t f g (inr h) (inr k) = same_world t f g h k
