-- Lines behind lines.
use Rattle.std.proofs.Common.{◌≡◌, List, [], ◌∷◌, ◌++◌, refl, sym, ap, ◌∙◌, append_assoc}
use Rattle.spec_value.specs.Datum.{Text}
use Rattle.spec_world.specs.Checkpoint.{with_line_ends}

pub lines_behind : (ts us : List Text) → with_line_ends (ts ++ us) ≡ with_line_ends ts ++ with_line_ends us
lines_behind [] us = refl
lines_behind (t ∷ ts) us = ap (λ rest. t ++ 10 ∷ rest) (lines_behind ts us) ∙ sym (append_assoc t (10 ∷ with_line_ends ts) (with_line_ends us))

-- what was written, and then more
pub written_more : (old new newer t u : Text) → new ≡ old ++ t → newer ≡ new ++ u → newer ≡ old ++ (t ++ u)
written_more old new newer t u e f = f ∙ ap (λ bs. bs ++ u) e ∙ append_assoc old t u

pub lines_more : (old new newer : Text) (ts us : List Text) → new ≡ old ++ with_line_ends ts → newer ≡ new ++ with_line_ends us → newer ≡ old ++ with_line_ends (ts ++ us)
lines_more old new newer ts us e f =
    written_more old new newer (with_line_ends ts) (with_line_ends us) e f ∙ ap (λ bs. old ++ bs) (sym (lines_behind ts us))
