-- Which texts are letters of bits that are set.
use Rattle.std.proofs.Common.{◌≡◌, ◌==◌, ◌||◌, pos, Bool, true, false, List, [], ◌∷◌, ◌++◌, length, None, refl, ap, sym, ◌∙◌, codes, map, eqb-true, arith}
use Rattle.std.proofs.lemmas.List.{append-nil}
use Rattle.spec_value.specs.Datum.{Text, same_text}
use Rattle.spec_value.proofs.Same.{same_texts}
use Rattle.spec_world.specs.World.{Slot, Verb, no_object, no_preposition}
use Rattle.spec_program.specs.Tree.{the_end}
use Rattle.spec_world.specs.Checkpoint.{letter_if, or_dash, slot_bits, verb_bits}
use Rattle.spec_faults.specs.Plain.{some_of, is_one_of, are_bits}
use Rattle.spec_faults.proofs.FieldsSuit.{slot_bits_suit, verb_bits_suit}

-- ---- none of some texts

abbrev IsNone : List Text → Text → Type 0
IsNone [] t = Unit {0}
IsNone (u ∷ us) t = (t ≡ u → ⊥) × IsNone us t

not_same : (t u : Text) → (t ≡ u → ⊥) → same_text t u ≡ false
not_same t u h = go (same_text t u) refl
  where
    go : (b : Bool) → same_text t u ≡ b → same_text t u ≡ false
    go true e = absurd (h (same_texts t u e))
    go false e = e

none_of : (us : List Text) (t : Text) → IsNone us t → is_one_of us t ≡ false
none_of [] t h = refl
none_of (u ∷ us) t h = ap (λ b. b || is_one_of us t) (not_same t u h.0) ∙ none_of us t h.1

-- ---- slots

abbrev slot_with : Bool → Bool → Bool → Slot
slot_with a b c = record { content = None; owner = pos 0; readable = a; writable = b; changeable = c }

pub no_slot_bits : (t : Text) → ((s : Slot) → t ≡ slot_bits s → ⊥) → are_bits (codes "rwc") t ≡ false
no_slot_bits t h =
    none_of (map or_dash (some_of (codes "rwc"))) t (
      h (slot_with true true true),
      (
        h (slot_with true true false),
        (
          h (slot_with true false true),
          (h (slot_with true false false), (h (slot_with false true true), (h (slot_with false true false), (h (slot_with false false true), (h (slot_with false false false), tt))))),
        ),
      ),
    )

pub some_slot_bits : (t l r w e : Text) (a b d : Bool) → t ≡ or_dash l → l ≡ letter_if (codes "r") a ++ r → r ≡ letter_if (codes "w") b ++ w → w ≡ letter_if (codes "c") d ++ e → e ≡ [] → are_bits (codes "rwc") t ≡ true
some_slot_bits t l r w e a b d h i j k z =
    let last : w ≡ letter_if (codes "c") d = k ∙ ap (λ u. letter_if (codes "c") d ++ u) z ∙ append-nil (letter_if (codes "c") d) in
    let whole : t ≡ slot_bits (slot_with a b d) = h ∙ ap or_dash (i ∙ ap (λ u. letter_if (codes "r") a ++ u) (j ∙ ap (λ u. letter_if (codes "w") b ++ u) last)) in
    ap (are_bits (codes "rwc")) whole ∙ (slot_bits_suit (slot_with a b d)).meets

-- ---- verbs

abbrev verb_with : Bool → Bool → Bool → Bool → Verb
verb_with a b c d =
    record {
      names = [];
      owner = pos 0;
      readable = a;
      writable = b;
      callable = c;
      debug = d;
      direct = no_object;
      preposition = no_preposition;
      indirect = no_object;
      program = the_end;
    }

pub no_verb_bits : (t : Text) → ((v : Verb) → t ≡ verb_bits v → ⊥) → are_bits (codes "rwxd") t ≡ false
no_verb_bits t h =
    none_of (map or_dash (some_of (codes "rwxd"))) t (
      h (verb_with true true true true),
      (
        h (verb_with true true true false),
        (
          h (verb_with true true false true),
          (
            h (verb_with true true false false),
            (
              h (verb_with true false true true),
              (
                h (verb_with true false true false),
                (
                  h (verb_with true false false true),
                  (
                    h (verb_with true false false false),
                    (
                      h (verb_with false true true true),
                      (
                        h (verb_with false true true false),
                        (
                          h (verb_with false true false true),
                          (
                            h (verb_with false true false false),
                            (h (verb_with false false true true), (h (verb_with false false true false), (h (verb_with false false false true), (h (verb_with false false false false), tt)))),
                          ),
                        ),
                      ),
                    ),
                  ),
                ),
              ),
            ),
          ),
        ),
      ),
    )

pub some_verb_bits : (t l r w x e : Text) (a b c d : Bool) → t ≡ or_dash l → l ≡ letter_if (codes "r") a ++ r → r ≡ letter_if (codes "w") b ++ w → w ≡ letter_if (codes "x") c ++ x
    → x ≡ letter_if (codes "d") d ++ e → e ≡ [] → are_bits (codes "rwxd") t ≡ true
some_verb_bits t l r w x e a b c d h i j k m z =
    let last : x ≡ letter_if (codes "d") d = m ∙ ap (λ u. letter_if (codes "d") d ++ u) z ∙ append-nil (letter_if (codes "d") d) in
    let whole : t ≡ verb_bits (verb_with a b c d) =
    h ∙ ap or_dash (i ∙ ap (λ u. letter_if (codes "r") a ++ u) (j ∙ ap (λ u. letter_if (codes "w") b ++ u) (k ∙ ap (λ u. letter_if (codes "x") c ++ u) last))) in
    ap (are_bits (codes "rwxd")) whole ∙ (verb_bits_suit (verb_with a b c d)).meets

pub empty_is : (t : Text) (b : Bool) → b ≡ (length t == 0) → b ≡ true → t ≡ []
empty_is [] b e h = refl
empty_is (c ∷ t) b e h = let none : length (c ∷ t) ≡ 0 = eqb-true (length (c ∷ t)) 0 (sym e ∙ h) in absurd (omega (arith, none))
