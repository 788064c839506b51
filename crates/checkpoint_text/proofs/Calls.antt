-- The line of a call, part by part.
use Rattle.std.proofs.Common.{◌≡◌, [], ◌∷◌, ◌++◌, append_assoc}
use Rattle.spec_value.specs.Datum.{Text}

call_shape : (old word a b c d v f n : Text)
    → (((old ++ word) ++ (a ++ 32 ∷ (b ++ 32 ∷ []))) ++ (c ++ 32 ∷ (d ++ 32 ∷ []))) ++ (v ++ 32 ∷ (f ++ 32 ∷ (n ++ 10 ∷ [])))
    ≡ old ++ ((word ++ (a ++ 32 ∷ (b ++ 32 ∷ (c ++ 32 ∷ (d ++ 32 ∷ (v ++ 32 ∷ (f ++ 32 ∷ n))))))) ++ 10 ∷ [])
call_shape old word a b c d v f n = simp append_assoc

-- two objects and two more behind a word, and then the verb, a flag and a count
pub call_joined : (old word a b c d v f n p q r s : Text) → p ≡ old ++ word → q ≡ p ++ (a ++ 32 ∷ (b ++ 32 ∷ [])) → r ≡ q ++ (c ++ 32 ∷ (d ++ 32 ∷ []))
    → s ≡ r ++ (v ++ 32 ∷ (f ++ 32 ∷ (n ++ 10 ∷ [])))
    → s ≡ old ++ ((word ++ (a ++ 32 ∷ (b ++ 32 ∷ (c ++ 32 ∷ (d ++ 32 ∷ (v ++ 32 ∷ (f ++ 32 ∷ n))))))) ++ 10 ∷ [])
call_joined old word a b c d v f n p q r s e1 e2 e3 e4 = cc (call_shape old word a b c d v f n)
