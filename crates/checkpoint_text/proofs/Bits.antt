-- Letters of those that are set.
use Rattle.std.proofs.Common.{◌≡◌, ◌||◌, Bool, true, false, ◌++◌, refl}
use Rattle.std.specs.Prelude.{codes}
use Rattle.spec_value.specs.Datum.{Text}
use Rattle.spec_world.specs.Checkpoint.{letter_if, or_dash}

abbrev letters3 : Bool → Bool → Bool → Text
letters3 r w c = letter_if (codes "r") r ++ (letter_if (codes "w") w ++ letter_if (codes "c") c)

pub no_slot_bits : (r w c : Bool) → r ≡ false → w ≡ false → c ≡ false → or_dash (letters3 r w c) ≡ codes "-"
no_slot_bits false false false e f g = refl
no_slot_bits true w c e f g = cc
no_slot_bits false true c e f g = cc
no_slot_bits false false true e f g = cc

pub some_slot_bits : (r w c : Bool) → ((r || w) || c) ≡ true → or_dash (letters3 r w c) ≡ letters3 r w c
some_slot_bits true w c e = refl
some_slot_bits false true c e = refl
some_slot_bits false false true e = refl
some_slot_bits false false false e = cc

abbrev letters4 : Bool → Bool → Bool → Bool → Text
letters4 r w x d = letter_if (codes "r") r ++ (letter_if (codes "w") w ++ (letter_if (codes "x") x ++ letter_if (codes "d") d))

pub no_verb_bits : (r w x d : Bool) → r ≡ false → w ≡ false → x ≡ false → d ≡ false → or_dash (letters4 r w x d) ≡ codes "-"
no_verb_bits false false false false e f g h = refl
no_verb_bits true w x d e f g h = cc
no_verb_bits false true x d e f g h = cc
no_verb_bits false false true d e f g h = cc
no_verb_bits false false false true e f g h = cc

pub some_verb_bits : (r w x d : Bool) → (((r || w) || x) || d) ≡ true → or_dash (letters4 r w x d) ≡ letters4 r w x d
some_verb_bits true w x d e = refl
some_verb_bits false true x d e = refl
some_verb_bits false false true d e = refl
some_verb_bits false false false true e = refl
some_verb_bits false false false false e = cc
