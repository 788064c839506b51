-- Words, numbers, objects and texts are cut as one token each.
use Rattle.std.proofs.Common.{◌≡◌, ℕ, Bool, true, false, not, ◌||◌, List, [], ◌∷◌, ◌++◌, map, IsTrue, refl, sym, ap, subst, ◌∙◌, if◌then◌else◌, codes, arith}
use Rattle.std.proofs.lemmas.Bool.Decides.{nat_tests}
use Rattle.std.proofs.lemmas.Bool.{cond-true}
use Rattle.std.specs.List.{list_all, list_any}
use Rattle.spec_value.specs.Datum.{Text, ErrorCode, no_error, type_mismatch, zero_division, permission_denied, property_not_found, verb_not_found, variable_not_found, invalid_indirection, recursive_move, too_many_calls, range_error, wrong_argument_count, move_refused, invalid_argument, limit_exceeded, float_error, fold_case, same_text}
use Rattle.spec_value.specs.Literal.{error_name}
use Rattle.spec_value.proofs.Entries.{first_holds, second_holds}
use Rattle.spec_value.proofs.Same.{same_texts, text_itself}
use Rattle.spec_program.specs.Names.{is_letter, is_word_character, is_word, is_keyword, is_identifier, keywords}
use Rattle.spec_program.specs.Tokens as t
use Rattle.spec_program.specs.Tokens.{Keyword, Token, reserved, looked_up, word_token, while_front, while_rest, value_from, greatest_integer, integer_token, greatest_object, object_token, StringEnd, closed, and_character, wrong_character, InString, in_string, First, first_is, first_string, object_behind, first_object, first_token, is_blank}
use Rattle.spec_program.specs.Trees.{begins_name, continues_name, is_name, is_lower_word}
use Rattle.spec_program.proofs.OperandsBack.{name_is_lower}
use Rattle.spec_program.proofs.ReadFits.{and_also}
use Rattle.spec_spelling.proofs.Pieces.{Clear, is_good, Piece, exact}

-- ---- as far as a test holds

pub front_all : (test : ℕ → Bool) (w u : Text) → IsTrue (list_all test w) → Clear test u → while_front test (w ++ u) ≡ w
front_all test [] [] h k = refl
front_all test [] (c ∷ u) h k = ap (λ b. if b then c ∷ while_front test u else []) k
front_all test (c ∷ w) u h k =
    ap (λ b. if b then c ∷ while_front test (w ++ u) else []) (first_holds (test c) (list_all test w) h)
    ∙ ap (λ v. c ∷ v) (front_all test w u (second_holds (test c) (list_all test w) h) k)

pub rest_all : (test : ℕ → Bool) (w u : Text) → IsTrue (list_all test w) → Clear test u → while_rest test (w ++ u) ≡ u
rest_all test [] [] h k = refl
rest_all test [] (c ∷ u) h k = ap (λ b. if b then while_rest test u else c ∷ u) k
rest_all test (c ∷ w) u h k =
    ap (λ b. if b then while_rest test (w ++ u) else c ∷ (w ++ u)) (first_holds (test c) (list_all test w) h)
    ∙ rest_all test w u (second_holds (test c) (list_all test w) h) k

-- ---- words

letter_continues : (c : ℕ) → is_letter c ≡ true → is_word_character c ≡ true
letter_continues c h = grind (arith, nat_tests)

letter_no_blank : (c : ℕ) → is_letter c ≡ true → is_blank c ≡ false
letter_no_blank c h = grind (arith, nat_tests)

word_read : (c : ℕ) (x u : Text) → is_letter c ≡ true → IsTrue (list_all is_word_character x) → Clear is_word_character u
    → first_token c (x ++ u) ≡ first_is (word_token (c ∷ x)) u
word_read c x u l h k =
    cond-true (is_letter c) _ _ l
    ∙ ap (λ w. first_is (word_token w) (while_rest is_word_character (x ++ u))) (front_all is_word_character (c ∷ x) u (and_also (letter_continues c l) h) k)
    ∙ ap (first_is (word_token (c ∷ x))) (rest_all is_word_character x u h k)

pub word_piece : (x : Text) (k : Token) → IsTrue (is_word x) → word_token x ≡ k → is_good k ≡ true → Piece is_word_character x (k ∷ [])
word_piece [] k h e g = absurd (cc h)
word_piece (c ∷ x) k h e g =
    let l = first_holds (is_letter c) (list_all is_word_character x) h in
    exact c x k (letter_no_blank c l) g
    (λ u clear. word_read c x u l (second_holds (is_letter c) (list_all is_word_character x) h) clear ∙ ap (λ z. first_is z u) e)

-- a word that is not reserved

same_turned : (s x : Text) → same_text s x ≡ true → same_text x s ≡ true
same_turned s x e = subst (λ y. same_text y s ≡ true) (same_texts s x e) (text_itself s)

not_looked : (rs : List (Text × Token)) (x : Text) (other : Token) → list_any (same_text x) (map (λ r. r.0) rs) ≡ false → looked_up rs x other ≡ other
unfolding looked_up
not_looked [] x other e = refl
not_looked (r ∷ rs) x other e = go (not_looked rs x other) (same_text r.0 x) (same_text x r.0) refl refl e
  where
    go : (list_any (same_text x) (map (λ r. r.0) rs) ≡ false → looked_up rs x other ≡ other) → (b d : Bool) → same_text r.0 x ≡ b → same_text x r.0 ≡ d → d || list_any (same_text x) (map (λ r. r.0) rs) ≡ false
        → (if b then r.1 else looked_up rs x other) ≡ other
    go later b true f g e = absurd (cc e)
    go later true false f g e = absurd (cc (sym (same_turned r.0 x f) ∙ g))
    go later false false f g e = later e

pub not_true_is : (b : Bool) → IsTrue (not b) → b ≡ false
not_true_is true h = absurd (cc h)
not_true_is false h = refl

free_word : (x : Text) → IsTrue (is_word x) → list_any (same_text (fold_case x)) keywords ≡ false → Piece is_word_character x (t.word x ∷ [])
free_word x h e = word_piece x (t.word x) h (not_looked reserved (fold_case x) (t.word x) e) refl

-- `identifier` is kept as it is written
pub identifier_piece : (x : Text) → IsTrue (is_identifier x) → Piece is_word_character x (t.word x ∷ [])
identifier_piece x h = free_word x (first_holds (is_word x) _ h) (not_true_is (is_keyword x) (second_holds (is_word x) _ h))

begins_letter : (c : ℕ) → IsTrue (begins_name c) → is_letter c ≡ true
begins_letter c h = grind (arith, nat_tests)

continues_word : (c : ℕ) → IsTrue (continues_name c) → is_word_character c ≡ true
continues_word c h = grind (arith, nat_tests)

all_word : (x : Text) → IsTrue (list_all continues_name x) → IsTrue (list_all is_word_character x)
all_word [] h = refl
all_word (c ∷ x) h =
    and_also (continues_word c (first_holds (continues_name c) (list_all continues_name x) h)) (all_word x (second_holds (continues_name c) (list_all continues_name x) h))

lower_is_word : (x : Text) → IsTrue (is_lower_word x) → IsTrue (is_word x)
lower_is_word [] h = h
lower_is_word (c ∷ x) h =
    and_also (begins_letter c (first_holds (begins_name c) (list_all continues_name x) h)) (all_word x (second_holds (begins_name c) (list_all continues_name x) h))

pub name_is_word : (x : Text) → IsTrue (is_name x) → IsTrue (is_word x)
name_is_word x h = lower_is_word x (first_holds (is_lower_word x) _ h)

pub name_piece : (x : Text) → IsTrue (is_name x) → Piece is_word_character x (t.word x ∷ [])
name_piece x h =
    free_word x (name_is_word x h)
    (ap (λ y. list_any (same_text y) keywords) (name_is_lower x h) ∙ not_true_is (list_any (same_text x) keywords) (second_holds (is_lower_word x) _ h))

-- ---- reserved words

abbrev pub keyword_text : Keyword → Text
keyword_text t.if_word = codes "if"
keyword_text t.else_word = codes "else"
keyword_text t.elseif_word = codes "elseif"
keyword_text t.endif_word = codes "endif"
keyword_text t.for_word = codes "for"
keyword_text t.in_word = codes "in"
keyword_text t.endfor_word = codes "endfor"
keyword_text t.while_word = codes "while"
keyword_text t.endwhile_word = codes "endwhile"
keyword_text t.break_word = codes "break"
keyword_text t.continue_word = codes "continue"
keyword_text t.return_word = codes "return"
keyword_text t.fork_word = codes "fork"
keyword_text t.endfork_word = codes "endfork"
keyword_text t.try_word = codes "try"
keyword_text t.except_word = codes "except"
keyword_text t.finally_word = codes "finally"
keyword_text t.endtry_word = codes "endtry"
keyword_text t.any_word = codes "ANY"

keyword_is : (k : Keyword) → word_token (keyword_text k) ≡ t.keyword k
unfolding looked_up
keyword_is t.if_word = refl
keyword_is t.else_word = refl
keyword_is t.elseif_word = refl
keyword_is t.endif_word = refl
keyword_is t.for_word = refl
keyword_is t.in_word = refl
keyword_is t.endfor_word = refl
keyword_is t.while_word = refl
keyword_is t.endwhile_word = refl
keyword_is t.break_word = refl
keyword_is t.continue_word = refl
keyword_is t.return_word = refl
keyword_is t.fork_word = refl
keyword_is t.endfork_word = refl
keyword_is t.try_word = refl
keyword_is t.except_word = refl
keyword_is t.finally_word = refl
keyword_is t.endtry_word = refl
keyword_is t.any_word = refl

keyword_word : (k : Keyword) → IsTrue (is_word (keyword_text k))
keyword_word t.if_word = refl
keyword_word t.else_word = refl
keyword_word t.elseif_word = refl
keyword_word t.endif_word = refl
keyword_word t.for_word = refl
keyword_word t.in_word = refl
keyword_word t.endfor_word = refl
keyword_word t.while_word = refl
keyword_word t.endwhile_word = refl
keyword_word t.break_word = refl
keyword_word t.continue_word = refl
keyword_word t.return_word = refl
keyword_word t.fork_word = refl
keyword_word t.endfork_word = refl
keyword_word t.try_word = refl
keyword_word t.except_word = refl
keyword_word t.finally_word = refl
keyword_word t.endtry_word = refl
keyword_word t.any_word = refl

pub keyword_piece : (k : Keyword) → Piece is_word_character (keyword_text k) (t.keyword k ∷ [])
keyword_piece k = word_piece (keyword_text k) (t.keyword k) (keyword_word k) (keyword_is k) refl

error_is : (e : ErrorCode) → word_token (error_name e) ≡ t.error_name e
unfolding looked_up
error_is no_error = refl
error_is type_mismatch = refl
error_is zero_division = refl
error_is permission_denied = refl
error_is property_not_found = refl
error_is verb_not_found = refl
error_is variable_not_found = refl
error_is invalid_indirection = refl
error_is recursive_move = refl
error_is too_many_calls = refl
error_is range_error = refl
error_is wrong_argument_count = refl
error_is move_refused = refl
error_is invalid_argument = refl
error_is limit_exceeded = refl
error_is float_error = refl

pub error_word : (e : ErrorCode) → IsTrue (is_word (error_name e))
error_word no_error = refl
error_word type_mismatch = refl
error_word zero_division = refl
error_word permission_denied = refl
error_word property_not_found = refl
error_word verb_not_found = refl
error_word variable_not_found = refl
error_word invalid_indirection = refl
error_word recursive_move = refl
error_word too_many_calls = refl
error_word range_error = refl
error_word wrong_argument_count = refl
error_word move_refused = refl
error_word invalid_argument = refl
error_word limit_exceeded = refl
error_word float_error = refl

pub error_piece : (e : ErrorCode) → Piece is_word_character (error_name e) (t.error_name e ∷ [])
error_piece e = word_piece (error_name e) (t.error_name e) (error_word e) (error_is e) refl
