-- What one more character does to the words of a line.
use Rattle.std.proofs.Common.{◌≡◌, arith, refl, ap, sym, ◌∙◌, ℕ, List, [], ◌∷◌, ◌++◌}
use Rattle.std.specs.Prelude.{Bool, true, false, ◌&&◌, IsTrue, ◌<◌, ◌+◌, suc, zero, length, slice_index_or, drop}
use Rattle.std.proofs.lemmas.List.{append_assoc, append-nil}
use Rattle.spec_value.specs.Datum.{Text, is_character, is_text}
use Rattle.moo_value.proofs.Characters.{is_text-append}
use Rattle.spec_world.specs.Words as meant
use Rattle.spec_world.specs.Words.{Reading, Readings, words, onto, as_words, read_sign, readings, at_the_end, sign}
use Rattle.player_commands.specs.declared.command_lines.cutting.Place.{Place}
use Rattle.player_commands.specs.declared.command_lines.cutting.Place.TheVariants.{Between, Bare, Quoted}
use Rattle.player_commands.proofs.Spaces.{here}
use Rattle.player_commands.specs.Cutting.{goes_on, pending, with_character}

pub one_more : {A : Type 0} (xs : List A) (x : A) (ys : List A) → (xs ++ x ∷ []) ++ ys ≡ xs ++ x ∷ ys
one_more xs x ys = append_assoc xs (x ∷ []) ys

pub goes_on_with : (w : Text) (c : ℕ) (r : Reading) → goes_on (w ++ c ∷ []) r ≡ goes_on w (onto c r)
goes_on_with w c r = ap (λ t. t ∷ r.1) (one_more w c r.0)

pub word_ends : (ws : List Text) (w : Text) (vs : List Text) → (ws ++ w ∷ []) ++ vs ≡ ws ++ w ∷ vs
word_ends ws w vs = one_more ws w vs

-- ---- characters

both : (a b : Bool) → IsTrue (a && b) → IsTrue a × IsTrue b
both true b h = (refl, h)
both false b h = cc

one_and : (a b : Bool) → IsTrue a → IsTrue b → IsTrue (a && b)
one_and true b h g = g
one_and false b h g = cc

pub text_grows : (w : Text) (c : ℕ) → IsTrue (is_text w) → IsTrue (is_character c) → IsTrue (is_text (w ++ c ∷ []))
text_grows w c h g = is_text-append w (c ∷ []) h (one_and (is_character c) true g refl)

pub character_at : (t : Text) (i : ℕ) → IsTrue (is_text t) → i < length t → IsTrue (is_character (slice_index_or t i 0))
character_at [] i h l = absurd (omega arith)
character_at (c ∷ t) zero h l = (both (is_character c) (is_text t) h).0
character_at (c ∷ t) (suc i) h l = character_at t i (both (is_character c) (is_text t) h).1 (omega arith)

-- behind a backslash
escaped_sign : (s : meant.Sign) (p : Place) (w : Text) (c : ℕ) (r : Readings) → pending p true w (read_sign s c r) ≡ with_character c p w r
escaped_sign meant.space Between w c r = refl
escaped_sign meant.space Bare w c r = refl
escaped_sign meant.space Quoted w c r = refl
escaped_sign meant.quote Between w c r = refl
escaped_sign meant.quote Bare w c r = refl
escaped_sign meant.quote Quoted w c r = refl
escaped_sign meant.backslash Between w c r = refl
escaped_sign meant.backslash Bare w c r = refl
escaped_sign meant.backslash Quoted w c r = refl
escaped_sign meant.other Between w c r = refl
escaped_sign meant.other Bare w c r = refl
escaped_sign meant.other Quoted w c r = refl

pub escaped_read : (p : Place) (w : Text) (c : ℕ) (t : Text) → pending p true w (readings (c ∷ t)) ≡ with_character c p w (readings t)
escaped_read p w c t = escaped_sign (sign c) p w c (readings t)

by_sign : (s : meant.Sign) (p : Place) (e : Bool) (w : Text) (c : ℕ) (t : Text) → s ≡ sign c → pending p e w (readings (c ∷ t)) ≡ pending p e w (read_sign s c (readings t))
by_sign s p e w c t h = ap (λ x. pending p e w (read_sign x c (readings t))) (sym h)

other_sign : (p : Place) (w : Text) (c : ℕ) (r : Readings) → pending p false w (read_sign meant.other c r) ≡ with_character c p w r
other_sign Between w c r = refl
other_sign Bare w c r = refl
other_sign Quoted w c r = refl

pub other_read : (p : Place) (w : Text) (c : ℕ) (t : Text) → meant.other ≡ sign c → pending p false w (readings (c ∷ t)) ≡ with_character c p w (readings t)
other_read p w c t h = by_sign meant.other p false w c t h ∙ other_sign p w c (readings t)

pub quoted_space : (w : Text) (c : ℕ) (t : Text) → meant.space ≡ sign c → pending Quoted false w (readings (c ∷ t)) ≡ with_character c Quoted w (readings t)
quoted_space w c t h = by_sign meant.space Quoted false w c t h

pub space_between : (w : Text) (c : ℕ) (t : Text) → meant.space ≡ sign c → pending Between false w (readings (c ∷ t)) ≡ pending Between false w (readings t)
space_between w c t h = by_sign meant.space Between false w c t h

pub space_behind : (w : Text) (c : ℕ) (t : Text) → meant.space ≡ sign c → pending Bare false w (readings (c ∷ t)) ≡ w ∷ (readings t).between
space_behind w c t h = by_sign meant.space Bare false w c t h ∙ ap (λ v. v ∷ (readings t).between) (append-nil w)

backslash_sign : (p : Place) (w : Text) (c : ℕ) (r : Readings) → pending p false w (read_sign meant.backslash c r) ≡ pending p true w r
backslash_sign Between w c r = refl
backslash_sign Bare w c r = refl
backslash_sign Quoted w c r = refl

pub backslash_read : (p : Place) (w : Text) (c : ℕ) (t : Text) → meant.backslash ≡ sign c → pending p false w (readings (c ∷ t)) ≡ pending p true w (readings t)
backslash_read p w c t h = by_sign meant.backslash p false w c t h ∙ backslash_sign p w c (readings t)

pub quote_opens : (w : Text) (c : ℕ) (t : Text) → w ≡ [] → meant.quote ≡ sign c → pending Between false w (readings (c ∷ t)) ≡ pending Quoted false w (readings t)
quote_opens w c t e h = by_sign meant.quote Between false w c t h ∙ ap (λ v. goes_on v (readings t).quoted) (sym e)

pub quote_within : (w : Text) (c : ℕ) (t : Text) → meant.quote ≡ sign c → pending Bare false w (readings (c ∷ t)) ≡ pending Quoted false w (readings t)
quote_within w c t h = by_sign meant.quote Bare false w c t h

pub quote_closes : (w : Text) (c : ℕ) (t : Text) → meant.quote ≡ sign c → pending Quoted false w (readings (c ∷ t)) ≡ pending Bare false w (readings t)
quote_closes w c t h = by_sign meant.quote Quoted false w c t h

-- ---- at the end

pub last_word : (p : Place) (e : Bool) (w : Text) → pending p e w at_the_end ≡ pending p false w at_the_end
last_word Between true w = refl
last_word Between false w = refl
last_word Bare true w = refl
last_word Bare false w = refl
last_word Quoted true w = refl
last_word Quoted false w = refl

pub last_bare : (w : Text) → pending Bare false w at_the_end ≡ w ∷ []
last_bare w = ap (λ v. v ∷ []) (append-nil w)

pub last_quoted : (w : Text) → pending Quoted false w at_the_end ≡ w ∷ []
last_quoted w = ap (λ v. v ∷ []) (append-nil w)

-- ---- along a line

pub words_are : (t : Text) → words t ≡ (readings t).between
unfolding words
words_are t = refl

pub next_character : (f : Readings → List Text) (t : Text) (i : ℕ) → i < length t → f (readings (drop i t)) ≡ f (readings (slice_index_or t i 0 ∷ drop (i + 1) t))
next_character f t i l = ap (λ x. f (readings x)) (here t i l)
