-- Texts in quotes: what stands behind the characters that a literal has as they are.
use Rattle.std.proofs.Common.{◌≡◌, ℕ, suc, ◌+◌, cond, ◌&&◌, List, [], ◌∷◌, ◌++◌, take, drop, IsTrue, Bool, true, false, ◌==◌, ◌||◌, not, if◌then◌else◌, Option, Some, None, refl, ap, sym, subst, ◌∙◌, arith, append_assoc}
use Rattle.std.proofs.lemmas.List.{append-nil}
use Rattle.spec_value.specs.Datum.{is_text, is_character}
use Rattle.spec_value.specs.Literal.{escape, escaped}
use Rattle.spec_value.proofs.Entries.{first_holds, second_holds, both_hold}
use Rattle.moo_value.proofs.EscapedTexts.{first_same, second_same}
use Rattle.std.specs.List.{position_or_len}
use Rattle.memchr.specs.Find.{is_byte2}
use Rattle.line_fields.specs.Quoted.{is_ordinary, ordinary_run, quote_mark}

abbrev pub is_mark : ℕ → Bool
is_mark c = c == 34 || c == 92

-- no character, or one behind a backslash
abbrev pub begins_marked : List ℕ → Bool
begins_marked [] = true
begins_marked (c ∷ t) = is_mark c

-- what is left of a text behind the first ordinary characters
pub record Past (s r bytes : List ℕ) (k : ℕ) : Type 0 where
  pub left : List ℕ
  pub is : s ≡ take k bytes ++ left
  pub back : drop k bytes ≡ escaped left ++ 34 ∷ r
  pub text : IsTrue (is_text left)
  pub marked : IsTrue (begins_marked left)

marked_escape : (c : ℕ) (t : List ℕ) → is_mark c ≡ true → escape c ++ t ≡ 92 ∷ c ∷ t
marked_escape c t e = rw e refl

plain_escape : (c : ℕ) (t : List ℕ) → is_mark c ≡ false → escape c ++ t ≡ c ∷ t
plain_escape c t e = rw e refl

ordinary_on : (c : ℕ) (t : List ℕ) → is_mark c ≡ false → IsTrue (is_character c) → ordinary_run (c ∷ t) ≡ suc (ordinary_run t)
ordinary_on c t e h = let k : is_character c ≡ true = h in rw (e, k) refl

never : (b : Bool) → (b && false) ≡ false
never true = refl
never false = refl

marked_run : (c : ℕ) (t : List ℕ) → is_mark c ≡ true → ordinary_run (c ∷ t) ≡ 0
marked_run c t e = rw (e, never (is_character c)) refl

pub past_run : (s r : List ℕ) → IsTrue (is_text s) → Past s r (escaped s ++ 34 ∷ r) (ordinary_run (escaped s ++ 34 ∷ r))
past_run [] r h = record { left = []; is = refl; back = refl; text = refl; marked = refl }
past_run (c ∷ t) r h = go (past_run t r (second_holds (is_character c) (is_text t) h)) (is_mark c) refl
  where
    rest : List ℕ
    rest = escaped t ++ 34 ∷ r

    cut : escaped (c ∷ t) ++ 34 ∷ r ≡ escape c ++ rest
    cut = append_assoc (escape c) (escaped t) (34 ∷ r)

    go : Past t r rest (ordinary_run rest) → (b : Bool) → is_mark c ≡ b → Past (c ∷ t) r (escaped (c ∷ t) ++ 34 ∷ r) (ordinary_run (escaped (c ∷ t) ++ 34 ∷ r))
    go more true e =
        subst (λ x. Past (c ∷ t) r x (ordinary_run x)) (sym (cut ∙ marked_escape c rest e)) (record {
          left = c ∷ t;
          is = refl;
          back = sym (cut ∙ marked_escape c rest e);
          text = h;
          marked = e;
        })
    go more false e =
        subst (λ x. Past (c ∷ t) r x (ordinary_run x)) (sym (cut ∙ plain_escape c rest e))
        (subst (λ n. Past (c ∷ t) r (c ∷ rest) n) (sym (ordinary_on c rest e (first_holds (is_character c) (is_text t) h))) (record {
          left = more.left;
          is = ap (λ x. c ∷ x) more.is;
          back = more.back;
          text = more.text;
          marked = more.marked;
        }))

pub run_text : (bytes : List ℕ) → IsTrue (is_text (take (ordinary_run bytes) bytes))
run_text [] = refl
run_text (c ∷ t) = go (run_text t) (is_ordinary c) refl
  where
    go : IsTrue (is_text (take (ordinary_run t) t)) → (b : Bool) → is_ordinary c ≡ b → IsTrue (is_text (take (if b then suc (ordinary_run t) else 0) (c ∷ t)))
    go more true e = both_hold (is_character c) (is_text (take (ordinary_run t) t)) (first_holds (is_character c) (not (is_mark c)) e) more
    go more false e = refl

-- where all characters before the first mark are a text's
pub run_through : (t : List ℕ) → IsTrue (is_text (take (position_or_len (is_byte2 34 92) t) t)) → position_or_len (is_byte2 34 92) t ≡ ordinary_run t
run_through [] h = refl
run_through (c ∷ t) h = go (run_through t) (is_mark c) refl h
  where
    n : ℕ
    n = position_or_len (is_byte2 34 92) t

    go : (IsTrue (is_text (take n t)) → n ≡ ordinary_run t) → (b : Bool) → is_mark c ≡ b → IsTrue (is_text (take (cond (not b) (1 + n) 0) (c ∷ t))) → cond (not b) (1 + n) 0 ≡ ordinary_run (c ∷ t)
    go more true e k = sym (marked_run c t e)
    go more false e k =
        let one : 1 + n ≡ suc n = omega arith in
        let l : IsTrue (is_text (take (suc n) (c ∷ t))) = subst (λ m. IsTrue (is_text (take m (c ∷ t)))) one k in
        one ∙ ap suc (more (second_holds (is_character c) (is_text (take n t)) l)) ∙ sym (ordinary_on c t e (first_holds (is_character c) (is_text (take n t)) l))

-- what a text has behind its ordinary characters: its end, or a character behind a backslash
marked_on : (c : ℕ) (t : List ℕ) → IsTrue (is_mark c) → quote_mark (92 ∷ c ∷ t) ≡ Some (Some c, t)
marked_on c t h = let k : is_mark c ≡ true = h in rw k refl

pub past_at : (s r bytes : List ℕ) (k : ℕ) → IsTrue (is_text s) → bytes ≡ escaped s ++ 34 ∷ r → k ≡ ordinary_run bytes → Past s r bytes k
past_at s r bytes k h e f = subst (λ n. Past s r bytes n) (sym f) (subst (λ x. Past s r x (ordinary_run x)) (sym e) (past_run s r h))

some_mark : (d : ℕ) (left r : List ℕ) → IsTrue (is_mark d) → quote_mark (escaped (d ∷ left) ++ 34 ∷ r) ≡ Some (Some d, escaped left ++ 34 ∷ r)
some_mark d left r h = ap quote_mark (append_assoc (escape d) (escaped left) (34 ∷ r) ∙ marked_escape d (escaped left ++ 34 ∷ r) h) ∙ marked_on d (escaped left ++ 34 ∷ r) h

module _ (r back : List ℕ) where
  pub mark_over : (left : List ℕ) → back ≡ escaped left ++ 34 ∷ r → IsTrue (begins_marked left) → (c : Option ℕ) (more : List ℕ) → Some (c, more) ≡ quote_mark back → c ≡ None → (left ≡ []) × (more ≡ r)
  mark_over [] e h c more f k = (refl, second_same c None more r (f ∙ ap quote_mark e))
  mark_over (d ∷ left) e h c more f k =
      let same : c ≡ Some d = first_same c (Some d) more (escaped left ++ 34 ∷ r) (f ∙ ap quote_mark e ∙ some_mark d left r h) in
      absurd (cc)

  pub mark_on : (left : List ℕ) → back ≡ escaped left ++ 34 ∷ r → IsTrue (begins_marked left) → IsTrue (is_text left) → (c : Option ℕ) (d : ℕ) (more : List ℕ) → Some (c, more) ≡ quote_mark back → c ≡ Some d
      → (rest : List ℕ) × IsTrue (is_text rest) × (left ≡ d ∷ rest) × (more ≡ escaped rest ++ 34 ∷ r)
  mark_on [] e h t c d more f k =
      let same : c ≡ None = first_same c None more r (f ∙ ap quote_mark e) in
      absurd (cc)
  mark_on (x ∷ left) e h t c d more f k =
      let same : c ≡ Some x = first_same c (Some x) more (escaped left ++ 34 ∷ r) (f ∙ ap quote_mark e ∙ some_mark x left r h) in
      let one : x ≡ d = cc in
      (left, second_holds (is_character x) (is_text left) t, ap (λ y. y ∷ left) one, second_same c (Some x) more (escaped left ++ 34 ∷ r) (f ∙ ap quote_mark e ∙ some_mark x left r h))

  pub mark_none : (left : List ℕ) → back ≡ escaped left ++ 34 ∷ r → IsTrue (begins_marked left) → ◌≡◌ {A = Option (Option ℕ × List ℕ)} None (quote_mark back) → ⊥
  mark_none [] e h f = let got = f ∙ ap quote_mark e in cc
  mark_none (d ∷ left) e h f = let got = f ∙ ap quote_mark e ∙ some_mark d left r h in cc

pub goes_on : (s items t front left rest : List ℕ) (c : ℕ) → s ≡ items ++ t → t ≡ front ++ left → left ≡ c ∷ rest → s ≡ ((items ++ front) ++ c ∷ []) ++ rest
goes_on s items t front left rest c a b d =
    a ∙ ap (λ x. items ++ x) (b ∙ ap (λ x. front ++ x) d) ∙ sym (append_assoc items front (c ∷ rest)) ∙ sym (append_assoc (items ++ front) (c ∷ []) rest)

pub is_over : (s items t front left : List ℕ) → s ≡ items ++ t → t ≡ front ++ left → left ≡ [] → s ≡ items ++ front
is_over s items t front left a b d = a ∙ ap (λ x. items ++ x) (b ∙ ap (λ x. front ++ x) d ∙ append-nil front)
