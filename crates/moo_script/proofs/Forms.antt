-- What bytes say, from their parts.
use Rattle.std.proofs.Common.{◌≡◌, ℕ, ◌<◌, ◌≤◌, true, false, ◌&&◌, ◌==◌, if◌then◌else◌, nat_le, nat_eq, IsTrue, IsFalse, List, ◌∷◌, ◌++◌, length, take, drop, get_or, codes, IsUtf8, refl, sym, ap, ◌∙◌, subst, arith, Result, IfOk, IfErr, take-append-drop}
use Rattle.std.specs.Cmp.Lexicographic.{pointwise, same_text}
use Rattle.std.proofs.lemmas.Bool.Decides.{nat_tests}
use Rattle.std.proofs.lemmas.Str.{IsUtf8-from_ascii}
use Rattle.spec_value.specs.Datum.{is_text}
use Rattle.moo_value.proofs.Characters.{all_ascii}
use Rattle.task_step.specs.declared.step.Event.TheVariants as event
use Rattle.moo_script.specs.declared.fault.LineFault.TheVariants as fault
use Rattle.moo_script.specs.declared.script.Command.{Command}
use Rattle.moo_script.specs.declared.script.Command.TheVariants as command
use Rattle.moo_script.specs.declared.script.Refusal.{Refusal}
use Rattle.moo_script.specs.declared.script.Word.{Word}
use Rattle.moo_script.specs.declared.script.Word.TheVariants as word
use Rattle.moo_script.specs.Numbers.{is_number, number_value}
use Rattle.moo_script.specs.Lines.{letters, numbered, input, number_fits, word_meaning, is_field, Says, IsFaulty, IsRefused}

-- ---- words, by their first letters

word_at : ℕ → Word
word_at n = if n == 109 then word.Moment else (if n == 111 then word.Open else (if n == 99 then word.Close else word.Ready))

first_letter : (w : Word) (f : List ℕ) → word_at (get_or (letters w ++ f) 0 0) ≡ w
unfolding word_at
first_letter word.Moment f = refl
first_letter word.Open f = refl
first_letter word.Close f = refl
first_letter word.Ready f = refl

behind_letters : (w : Word) (f : List ℕ) → drop (length (letters w)) (letters w ++ f) ≡ f
behind_letters word.Moment f = refl
behind_letters word.Open f = refl
behind_letters word.Close f = refl
behind_letters word.Ready f = refl

-- a line begins with one word at most
pub one_word : (v w : Word) (f g : List ℕ) → letters v ++ f ≡ letters w ++ g → (v ≡ w) × (f ≡ g)
one_word v w f g e =
    let same : v ≡ w = sym (first_letter v f) ∙ ap (λ bs. word_at (get_or bs 0 0)) e ∙ first_letter w g in
    (same, sym (behind_letters v f) ∙ ap (drop (length (letters v))) e ∙ ap (λ u. drop (length (letters u)) (letters w ++ g)) same ∙ behind_letters w g)

not_line : (w : Word) (f : List ℕ) → (get_or (letters w ++ f) 0 0 == 108) ≡ false
not_line word.Moment f = refl
not_line word.Open f = refl
not_line word.Close f = refl
not_line word.Ready f = refl

pub no_input : (w : Word) (f r : List ℕ) → letters w ++ f ≡ codes "line " ++ r → ⊥
no_input w f r e = let x : true ≡ false = ap (λ bs. get_or bs 0 0 == 108) (sym e) ∙ not_line w f in cc

-- ---- a number behind its word

pub numbered_says : (w : Word) (f : List ℕ) (c : Command) → IsTrue (is_field f) → IsTrue (number_fits (numbered w f)) → c ≡ word_meaning w (number_value f) → Says (letters w ++ f) c
numbered_says w f c h k e = (numbered w f, (refl, h), k, refl, e)

pub numbered_number : (w : Word) (f : List ℕ) → IsTrue (is_field f) → IsFalse (number_fits (numbered w f)) → IsFaulty (letters w ++ f) fault.Number
numbered_number w f h k = (numbered w f, (refl, h), k)

pub numbered_word : (w : Word) (f : List ℕ) → is_field f ≡ false → IsFaulty (letters w ++ f) fault.Word
numbered_word w f k (numbered v n) h =
    let e : f ≡ n = (one_word w v f n h.0).1 in
    let x : true ≡ false = sym h.1 ∙ ap is_field (sym e) ∙ k in cc
numbered_word w f k (input c t) h = no_input w f (c ++ 32 ∷ t) h.0

-- where it is no number, whatever the word
pub no_number : (w : Word) (f : List ℕ) → IsFalse (is_number f) → IsFalse (number_fits (numbered w f))
no_number word.Moment f h = h
no_number word.Open f h = h
no_number word.Close f h = h
no_number word.Ready f h = ap (λ b. b && nat_le (number_value f) 2147483647) h

pub in_bounds : (f : List ℕ) (n : ℕ) → IsTrue (is_number f) → n ≡ number_value f → n ≤ 2147483647 → IsTrue (number_fits (numbered word.Ready f))
in_bounds f n h e l = let s : nat_le (number_value f) 2147483647 ≡ true = grind (arith, nat_tests) in ap (λ b. b && nat_le (number_value f) 2147483647) h ∙ s

pub too_great : (f : List ℕ) (n : ℕ) → IsTrue (is_number f) → n ≡ number_value f → 2147483647 < n → IsFalse (number_fits (numbered word.Ready f))
too_great f n h e l = let s : nat_le (number_value f) 2147483647 ≡ false = grind (arith, nat_tests) in ap (λ b. b && nat_le (number_value f) 2147483647) h ∙ s

-- ---- a line of input

pub input_says : (rest f t u : List ℕ) (n : ℕ) → IsTrue (is_field f) → rest ≡ f ++ 32 ∷ t → IsTrue (is_number f) → n ≡ number_value f → length t ≤ 4096 → IsTrue (is_text t) → u ≡ t → Says (codes "line " ++ rest) (command.Event (event.Line n u))
input_says rest f t u n h r k e l a v =
    let s : nat_le (length t) 4096 ≡ true = grind (arith, nat_tests) in
    (input f t, (ap (λ bs. codes "line " ++ bs) r, h), k, ap (λ b. b && is_text t) s ∙ a, ap (λ m. command.Event (event.Line m u)) e ∙ ap (λ w. command.Event (event.Line (number_value f) w)) v)

pub input_number : (rest f t : List ℕ) → IsTrue (is_field f) → rest ≡ f ++ 32 ∷ t → IsFalse (is_number f) → IsFaulty (codes "line " ++ rest) fault.Number
input_number rest f t h r k = (input f t, (ap (λ bs. codes "line " ++ bs) r, h), k)

pub input_long : (rest f t : List ℕ) → IsTrue (is_field f) → rest ≡ f ++ 32 ∷ t → IsTrue (is_number f) → 4096 < length t → IsFaulty (codes "line " ++ rest) fault.Text
input_long rest f t h r k l =
    let s : nat_le (length t) 4096 ≡ false = grind (arith, nat_tests) in
    (input f t, (ap (λ bs. codes "line " ++ bs) r, h), k, ap (λ b. b && is_text t) s)

pub input_text : (rest f t : List ℕ) → IsTrue (is_field f) → rest ≡ f ++ 32 ∷ t → IsTrue (is_number f) → length t ≤ 4096 → IsFalse (is_text t) → IsFaulty (codes "line " ++ rest) fault.Text
input_text rest f t h r k l a =
    let s : nat_le (length t) 4096 ≡ true = grind (arith, nat_tests) in
    (input f t, (ap (λ bs. codes "line " ++ bs) r, h), k, ap (λ b. b && is_text t) s ∙ a)

pub input_word : (rest : List ℕ) → ((f t : List ℕ) → IsTrue (is_field f) → rest ≡ f ++ 32 ∷ t → ⊥) → IsFaulty (codes "line " ++ rest) fault.Word
input_word rest k (numbered w n) h = no_input w n rest (sym h.0)
input_word rest k (input c t) h = k c t h.1 (ap (λ bs. drop 5 bs) h.0)

pub not_text : (bs : List ℕ) → (IsUtf8 bs → ⊥) → IsFalse (is_text bs)
not_text bs h = elim (is_text bs) as (λ b. is_text bs ≡ b → IsFalse b) [ true ↦ λ e. absurd (h (IsUtf8-from_ascii bs (all_ascii bs e))) | false ↦ λ e. refl ] refl

-- ---- the word that a line begins with

pub begins : (w bs f : List ℕ) → pointwise nat_eq (take (length w) bs) w ≡ true → f ≡ drop (length w) bs → bs ≡ w ++ f
begins w bs f h e = sym (take-append-drop (length w) bs) ∙ ap (λ x. x ++ drop (length w) bs) (same_text _ _ (sym h)) ∙ ap (λ x. w ++ x) (sym e)

pub no_word : (bs : List ℕ) → pointwise nat_eq (take 7 bs) (codes "moment ") ≡ false → pointwise nat_eq (take 5 bs) (codes "open ") ≡ false
    → pointwise nat_eq (take 6 bs) (codes "close ") ≡ false → pointwise nat_eq (take 6 bs) (codes "ready ") ≡ false → (w : Word) (f : List ℕ) → bs ≡ letters w ++ f → ⊥
no_word bs m o c r word.Moment f e = let x : true ≡ false = ap (λ b. pointwise nat_eq (take 7 b) (codes "moment ")) (sym e) ∙ m in cc
no_word bs m o c r word.Open f e = let x : true ≡ false = ap (λ b. pointwise nat_eq (take 5 b) (codes "open ")) (sym e) ∙ o in cc
no_word bs m o c r word.Close f e = let x : true ≡ false = ap (λ b. pointwise nat_eq (take 6 b) (codes "close ")) (sym e) ∙ c in cc
no_word bs m o c r word.Ready f e = let x : true ≡ false = ap (λ b. pointwise nat_eq (take 6 b) (codes "ready ")) (sym e) ∙ r in cc

pub other_word : (bs : List ℕ) → pointwise nat_eq (take 5 bs) (codes "line ") ≡ false → ((w : Word) (f : List ℕ) → bs ≡ letters w ++ f → ⊥) → IsFaulty bs fault.Word
other_word bs i k (numbered w n) h = k w n h.0
other_word bs i k (input c t) h = let x : true ≡ false = ap (λ b. pointwise nat_eq (take 5 b) (codes "line ")) (sym h.0) ∙ i in cc

pub says_so : (bs cs : List ℕ) (r : Result Command Refusal) → bs ≡ cs → IfOk r (λ c. Says cs c) → IfOk r (λ c. Says bs c)
says_so bs cs r e h = let P : List ℕ → Type 0 = λ x. IfOk r (λ c. Says x c) in subst P (sym e) h

pub refused_so : (bs cs : List ℕ) (r : Result Command Refusal) → bs ≡ cs → IfErr r (λ k. IsRefused cs k) → IfErr r (λ k. IsRefused bs k)
refused_so bs cs r e h = let P : List ℕ → Type 0 = λ x. IfErr r (λ k. IsRefused x k) in subst P (sym e) h
