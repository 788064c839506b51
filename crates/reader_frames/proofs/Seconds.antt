-- Of fewer than two tokens none is the second.
use Rattle.std.proofs.Common.{◌≡◌, ◌≤◌, false, List, [], ◌∷◌, length, refl, arith}
use Rattle.moo_token.specs.declared.token.Placed.{Placed}
use Rattle.moo_token.specs.Tokens.{Ending, whole, faulty}
use Rattle.moo_token.specs.Views.{places}
use Rattle.moo_token.specs.Meaning.{all_meant}
use Rattle.reader_frames.specs.LeftView.{second_ends_item}

pub no_second : (ps : List Placed) (e : Ending) → length ps ≤ 1 → false ≡ second_ends_item (all_meant (places ps) e)
no_second [] whole h = refl
no_second [] (faulty k line) h = refl
no_second (p ∷ []) whole h = refl
no_second (p ∷ []) (faulty k line) h = refl
no_second (p ∷ q ∷ ps) e h = absurd (omega (arith, h))
