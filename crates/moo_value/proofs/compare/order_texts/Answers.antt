use Rattle.std.proofs.Common.{◌≡◌, ℕ, List, [], ◌∷◌, ◌<◌, length, drop-cons, refl, arith}
use Rattle.moo_value.proofs.compare.order_texts.Goals as goal

no_bytes : (s : List ℕ) → length s ≡ 0 → s ≡ []
no_bytes [] h = refl
no_bytes (c ∷ s) h = absurd (omega arith)

pub returns-in-None : goal.returns-in-None
returns-in-None c =
    let here : c.loop-byte.byte-index < length c.args.x.now = c.loop-byte-test.true in
    let none = no_bytes c.loop-byte.rest.now c.in-None.ensures.cases in
    rw (← c.loop-byte.invariant, drop-cons c.args.x.now c.loop-byte.byte-index 0 here, none)
