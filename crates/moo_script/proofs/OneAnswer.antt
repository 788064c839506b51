-- A line has one answer.
use Rattle.std.proofs.Common.{◌≡◌, ℕ, true, false, ◌==◌, IsTrue, List, ◌∷◌, ◌++◌, length, take, drop, position, unwrap_or, refl, sym, ap, ◌∙◌}
use Rattle.std.proofs.lemmas.List.{take_at, drop_at}
use Rattle.moo_script.specs.declared.fault.LineFault.{LineFault}
use Rattle.moo_script.specs.declared.fault.LineFault.TheVariants as fault
use Rattle.moo_script.specs.declared.script.Command.{Command}
use Rattle.moo_script.specs.Lines.{Line, numbered, input, is_field, is_short_text, number_fits, text_of, meaning, IsLine, Says, IsFaulty}
use Rattle.moo_script.proofs.Spaces.{after_field}
use Rattle.moo_script.proofs.Forms.{one_word, no_input}

one_split : (c t d u : List ℕ) → IsTrue (is_field c) → IsTrue (is_field d) → c ++ 32 ∷ t ≡ d ++ 32 ∷ u → (c ≡ d) × (t ≡ u)
one_split c t d u h k e =
    let n : length c ≡ length d = ap (λ o. unwrap_or o 0) (sym (after_field c t h) ∙ ap (position (λ b. b == 32)) e ∙ after_field d u k) in (
      sym (take_at c (32 ∷ t) (length d) n) ∙ ap (take (length d)) e ∙ take_at d (32 ∷ u) (length d) refl,
      ap (drop 1) (sym (drop_at c (32 ∷ t) (length d) n) ∙ ap (drop (length d)) e ∙ drop_at d (32 ∷ u) (length d) refl),
    )

one_line : (bs : List ℕ) (l m : Line) → IsLine bs l → IsLine bs m → l ≡ m
one_line bs (numbered v n) (numbered w p) h k = let s = one_word v w n p (sym h.0 ∙ k.0) in ap (λ u. numbered u n) s.0 ∙ ap (numbered w) s.1
one_line bs (numbered v n) (input d u) h k = absurd (no_input v n (d ++ 32 ∷ u) (sym h.0 ∙ k.0))
one_line bs (input c t) (numbered w p) h k = absurd (no_input w p (c ++ 32 ∷ t) (sym k.0 ∙ h.0))
one_line bs (input c t) (input d u) h k =
    let p = one_split c t d u h.1 k.1 (ap (drop 5) (sym h.0 ∙ k.0)) in
    ap (λ x. input x t) p.0 ∙ ap (λ y. input d y) p.1

pub one_command : (bs : List ℕ) (c d : Command) → Says bs c → Says bs d → c ≡ d
one_command bs c d h k = h.4 ∙ ap meaning (one_line bs h.0 k.0 h.1 k.1) ∙ sym k.4

number_test : (bs : List ℕ) (l m : Line) → IsLine bs l → IsLine bs m → number_fits l ≡ number_fits m
number_test bs l m h k = ap number_fits (one_line bs l m h k)

text_test : (bs : List ℕ) (l m : Line) → IsLine bs l → IsLine bs m → is_short_text (text_of l) ≡ is_short_text (text_of m)
text_test bs l m h k = ap (λ x. is_short_text (text_of x)) (one_line bs l m h k)

pub no_fault : (bs : List ℕ) (c : Command) (k : LineFault) → Says bs c → IsFaulty bs k → ⊥
no_fault bs c fault.Key h i = i
no_fault bs c fault.Word h i = i h.0 h.1
no_fault bs c fault.Number h i = let x : true ≡ false = sym h.2 ∙ number_test bs h.0 i.0 h.1 i.1 ∙ i.2 in cc
no_fault bs c fault.Text h i = let x : true ≡ false = sym h.3 ∙ text_test bs h.0 i.0 h.1 i.1 ∙ i.3 in cc

pub one_fault : (bs : List ℕ) (j k : LineFault) → IsFaulty bs j → IsFaulty bs k → j ≡ k
one_fault bs fault.Key k h i = absurd h
one_fault bs fault.Word fault.Key h i = absurd i
one_fault bs fault.Word fault.Word h i = refl
one_fault bs fault.Word fault.Number h i = absurd (h i.0 i.1)
one_fault bs fault.Word fault.Text h i = absurd (h i.0 i.1)
one_fault bs fault.Number fault.Key h i = absurd i
one_fault bs fault.Number fault.Word h i = absurd (i h.0 h.1)
one_fault bs fault.Number fault.Number h i = refl
one_fault bs fault.Number fault.Text h i = let x : true ≡ false = sym i.2 ∙ number_test bs i.0 h.0 i.1 h.1 ∙ h.2 in cc
one_fault bs fault.Text fault.Key h i = absurd i
one_fault bs fault.Text fault.Word h i = absurd (i h.0 h.1)
one_fault bs fault.Text fault.Number h i = let x : true ≡ false = sym h.2 ∙ number_test bs h.0 i.0 h.1 i.1 ∙ i.2 in cc
one_fault bs fault.Text fault.Text h i = refl
