-- Letters of bits that are set begin as no letter before them, and as no dash.
use Rattle.std.proofs.Common.{◌≡◌, ℕ, [], ◌∷◌, ◌++◌, IsTrue, Bool, true, false, not, ◌==◌, refl, subst, codes}
use Rattle.spec_value.specs.Datum.{Text}
use Rattle.spec_world.specs.World.{Slot, Verb}
use Rattle.spec_world.specs.Checkpoint.{letter_if}
use Rattle.line_fields.specs.Bits.{begins_otherwise}

pub other : (letter d : ℕ) (b : Bool) (t : Text) → IsTrue (not (d == letter)) → IsTrue (begins_otherwise letter t) → IsTrue (begins_otherwise letter (letter_if (d ∷ []) b ++ t))
other letter d true t h k = h
other letter d false t h k = k

pub last_other : (letter d : ℕ) (b : Bool) → IsTrue (not (d == letter)) → IsTrue (begins_otherwise letter (letter_if (d ∷ []) b))
last_other letter d true h = h
last_other letter d false h = refl

pub no_dash : (t : Text) → IsTrue (begins_otherwise 45 t) → t ≡ 45 ∷ [] → ⊥
no_dash t h e = let k : IsTrue (begins_otherwise 45 (45 ∷ [])) = subst (λ u. IsTrue (begins_otherwise 45 u)) e h in cc

-- ---- slots

abbrev pub behind_r : Slot → Text
behind_r s = letter_if (codes "w") s.writable ++ letter_if (codes "c") s.changeable

pub slot_r : (s : Slot) → IsTrue (begins_otherwise 114 (behind_r s))
slot_r s = other 114 119 s.writable (letter_if (codes "c") s.changeable) refl (last_other 114 99 s.changeable refl)

pub slot_w : (s : Slot) → IsTrue (begins_otherwise 119 (letter_if (codes "c") s.changeable))
slot_w s = last_other 119 99 s.changeable refl

pub slot_no_dash : (s : Slot) → letter_if (codes "r") s.readable ++ behind_r s ≡ 45 ∷ [] → ⊥
slot_no_dash s =
    no_dash (letter_if (codes "r") s.readable ++ behind_r s)
    (other 45 114 s.readable (behind_r s) refl (other 45 119 s.writable (letter_if (codes "c") s.changeable) refl (last_other 45 99 s.changeable refl)))

-- ---- verbs

abbrev pub behind_w : Verb → Text
behind_w v = letter_if (codes "x") v.callable ++ letter_if (codes "d") v.debug

abbrev pub behind_first : Verb → Text
behind_first v = letter_if (codes "w") v.writable ++ behind_w v

pub verb_r : (v : Verb) → IsTrue (begins_otherwise 114 (behind_first v))
verb_r v = other 114 119 v.writable (behind_w v) refl (other 114 120 v.callable (letter_if (codes "d") v.debug) refl (last_other 114 100 v.debug refl))

pub verb_w : (v : Verb) → IsTrue (begins_otherwise 119 (behind_w v))
verb_w v = other 119 120 v.callable (letter_if (codes "d") v.debug) refl (last_other 119 100 v.debug refl)

pub verb_x : (v : Verb) → IsTrue (begins_otherwise 120 (letter_if (codes "d") v.debug))
verb_x v = last_other 120 100 v.debug refl

pub verb_no_dash : (v : Verb) → letter_if (codes "r") v.readable ++ behind_first v ≡ 45 ∷ [] → ⊥
verb_no_dash v =
    no_dash (letter_if (codes "r") v.readable ++ behind_first v)
    (other 45 114 v.readable (behind_first v) refl
    (other 45 119 v.writable (behind_w v) refl (other 45 120 v.callable (letter_if (codes "d") v.debug) refl (last_other 45 100 v.debug refl))))
