-- Each construct in its turn: the canonical spelling of an expression is cut into its tokens.
use Rattle.std.proofs.Common.{Bool, true, ◌&&◌, List, [], ◌∷◌, ◌++◌, IsTrue, refl, codes}
use Rattle.spec_value.specs.Datum.{Text}
use Rattle.spec_value.proofs.Entries.{first_holds, second_holds}
use Rattle.spec_program.specs.Tree.{Expr, literal, variable, own_length, unary, binary, both, either, conditional, listing, call, property, verb_call, index, range, caught, assignment, scatter, Arguments, no_arguments, argument, splice, Codes, any_code, codes_in, Fallback, the_code, instead, Target, to_variable, to_property, to_index, to_range, Items, no_items, required, optional, remaining, defaulted}
use Rattle.spec_program.specs.Names.{is_word_character}
use Rattle.spec_program.specs.Tokens as t
use Rattle.spec_program.specs.Tokens.{Token}
use Rattle.spec_program.specs.Spelling as spell
use Rattle.spec_program.specs.Spelling.{level, left_level, right_level, is_system, expression_text, arguments_text, codes_text, fallback_text, target_text, items_text}
use Rattle.spec_program.specs.CanonicalTokens as tokens
use Rattle.spec_program.specs.CanonicalTokens.{expression_tokens, arguments_tokens, codes_tokens, fallback_tokens, target_tokens, items_tokens}
use Rattle.spec_program.specs.Trees.{is_name, goes_on, has_item, rest_once, has_argument, expr_fits, arguments_fit, codes_fit, fallback_fits, target_fits, items_fit}
use Rattle.spec_spelling.proofs.Pieces.{Clear, never, Piece, empty, any, space, joined, followed}
use Rattle.spec_spelling.proofs.WordsCut.{keyword_piece}
use Rattle.spec_spelling.proofs.SignsCut as sign
use Rattle.spec_spelling.proofs.PartsCut.{Spelled, braces, at_level, infixed, binary_spelled, and_between, or_between, question_between, bar_between, not_between, arrow_between, assign_between, ends, indexed, called, unary_spelled, name_spelled, property_spelled, verb_spelled}
use Rattle.spec_spelling.proofs.NumbersCut.{literal_spelled}

-- ---- no word goes on over what stands behind

further_clear : (es : Arguments) (u : Text) → Clear is_word_character u → Clear is_word_character (spell.further_arguments es ++ u)
further_clear no_arguments u h = h
further_clear (argument e es) u h = refl
further_clear (splice e es) u h = refl

items_clear : (xs : Items) (u : Text) → Clear is_word_character u → Clear is_word_character (spell.further_items xs ++ u)
items_clear no_items u h = h
items_clear (required x xs) u h = refl
items_clear (optional x xs) u h = refl
items_clear (remaining x xs) u h = refl
items_clear (defaulted x e xs) u h = refl

fallback_clear : (d : Fallback) (u : Text) → Clear is_word_character u → Clear is_word_character (fallback_text d ++ u)
fallback_clear the_code u h = h
fallback_clear (instead e) u h = refl

-- ---- commas

comma_space : Piece never (codes ", ") (t.sign t.comma ∷ [])
comma_space = followed sign.comma space

comma_at : Piece never (codes ", @") (t.sign t.comma ∷ t.sign t.at_sign ∷ [])
comma_at = followed comma_space sign.at_sign

comma_question : Piece never (codes ", ?") (t.sign t.comma ∷ t.sign t.question ∷ [])
comma_question = followed comma_space sign.question

caught_piece : {w v : Text} {ks js : List Token} → Spelled w ks → Piece is_word_character v js
    → Spelled (spell.within (codes "`") (spell.within w (codes " ! ") v) (codes "'")) (tokens.between t.backquote (ks ++ (t.sign t.not_sign ∷ js)) t.quote)
caught_piece a p =
    record {
      piece = any (followed sign.backquote (joined (joined a.piece (followed not_between p) (λ u h. refl)) sign.quote (λ u h. refl)));
      begins = refl;
    }

-- a default of an item
default_piece : {w : Text} {ks : List Token} (x : Text) → IsTrue (is_name x) → Spelled w ks → Piece is_word_character (spell.within x (codes " = ") w) (t.word x ∷ t.sign t.assign ∷ ks)
default_piece x h a = (infixed (name_spelled x h) assign_between refl a).piece

mutual
  pub cut : (e : Expr) (b : Bool) → IsTrue (expr_fits b e) → Spelled (expression_text e) (expression_tokens e)
  cut (literal v) b h = literal_spelled v h
  cut (variable x) b h = name_spelled x h
  cut own_length b h = record { piece = any sign.dollar; begins = refl }
  cut (unary op a) b h = unary_spelled op (at_level 7 (level a) (cut a b h))
  cut (binary op a c) b h =
      binary_spelled op (at_level (left_level op) (level a) (cut a b (first_holds _ _ h))) (at_level (right_level op) (level c) (cut c b (second_holds _ _ h)))
  cut (both a c) b h = infixed (at_level 2 (level a) (cut a b (first_holds _ _ h))) and_between refl (at_level 3 (level c) (cut c b (second_holds _ _ h)))
  cut (either a c) b h = infixed (at_level 2 (level a) (cut a b (first_holds _ _ h))) or_between refl (at_level 3 (level c) (cut c b (second_holds _ _ h)))
  cut (conditional c x y) b h =
      let k = second_holds (expr_fits b c) (expr_fits b x && expr_fits b y) h in
      infixed (at_level 2 (level c) (cut c b (first_holds _ _ h))) question_between refl
      (infixed (cut x b (first_holds _ _ k)) bar_between refl (at_level 1 (level y) (cut y b (second_holds _ _ k))))
  cut (listing es) b h = braces (arguments_cut es b h)
  cut (call f es) b h = called (name_spelled f (first_holds _ _ h)) (arguments_cut es b (second_holds _ _ h))
  cut (property o p) b h = property_spelled (is_system o) p (at_level 8 (level o) (cut o b (first_holds _ _ h))) (cut p b (second_holds _ _ h))
  cut (verb_call o v es) b h =
      let k = second_holds (expr_fits b o) (expr_fits b v && arguments_fit b es) h in
      called (verb_spelled (is_system o) v (at_level 8 (level o) (cut o b (first_holds _ _ h))) (cut v b (first_holds _ _ k))) (arguments_cut es b (second_holds _ _ k))
  cut (index x i) b h = indexed (at_level 8 (level x) (cut x b (first_holds _ _ h))) (cut i true (second_holds _ _ h)).piece
  cut (range x i j) b h =
      let k = second_holds (expr_fits b x) (expr_fits true i && expr_fits true j) h in
      indexed (at_level 8 (level x) (cut x b (first_holds _ _ h))) (ends (cut i true (first_holds _ _ k)) (cut j true (second_holds _ _ k)))
  cut (caught e c d) b h =
      let k = second_holds (expr_fits b e) (codes_fit b c && fallback_fits b d) h in
      caught_piece (cut e b (first_holds _ _ h)) (joined (codes_cut c b (first_holds _ _ k)) (fallback_cut d b (second_holds _ _ k)) (fallback_clear d))
  cut (assignment x e) b h = infixed (target_cut x b (first_holds _ _ h)) assign_between refl (cut e b (second_holds _ _ h))
  cut (scatter xs e) b h =
      let k = second_holds (has_item xs && rest_once xs) (items_fit b xs && expr_fits b e) h in
      infixed (braces (items_cut xs b (first_holds _ _ k))) assign_between refl (cut e b (second_holds _ _ k))

  pub arguments_cut : (es : Arguments) (b : Bool) → IsTrue (arguments_fit b es) → Piece is_word_character (arguments_text es) (arguments_tokens es)
  arguments_cut no_arguments b h = empty
  arguments_cut (argument e es) b h = joined (cut e b (first_holds _ _ h)).piece (further_cut es b (second_holds _ _ h)) (further_clear es)
  arguments_cut (splice e es) b h =
      followed sign.at_sign (joined (cut e b (first_holds _ _ h)).piece (further_cut es b (second_holds _ _ h)) (further_clear es))

  further_cut : (es : Arguments) (b : Bool) → IsTrue (arguments_fit b es) → Piece is_word_character (spell.further_arguments es) (tokens.further_arguments es)
  further_cut no_arguments b h = empty
  further_cut (argument e es) b h =
      followed comma_space (joined (cut e b (first_holds _ _ h)).piece (further_cut es b (second_holds _ _ h)) (further_clear es))
  further_cut (splice e es) b h = followed comma_at (joined (cut e b (first_holds _ _ h)).piece (further_cut es b (second_holds _ _ h)) (further_clear es))

  pub codes_cut : (c : Codes) (b : Bool) → IsTrue (codes_fit b c) → Piece is_word_character (codes_text c) (codes_tokens c)
  codes_cut any_code b h = keyword_piece t.any_word
  codes_cut (codes_in es) b h = arguments_cut es b (second_holds (has_argument es) (arguments_fit b es) h)

  fallback_cut : (d : Fallback) (b : Bool) → IsTrue (fallback_fits b d) → Piece is_word_character (fallback_text d) (fallback_tokens d)
  fallback_cut the_code b h = empty
  fallback_cut (instead e) b h = followed arrow_between (cut e b h).piece

  target_cut : (x : Target) (b : Bool) → IsTrue (target_fits b x) → Spelled (target_text x) (target_tokens x)
  target_cut (to_variable x) b h = name_spelled x h
  target_cut (to_property o p) b h =
      property_spelled (is_system o) p (at_level 8 (level o) (cut o b (first_holds _ _ h))) (cut p b (second_holds _ _ h))
  target_cut (to_index x i) b h =
      let k = first_holds (goes_on x && target_fits b x) (expr_fits true i) h in
      indexed (target_cut x b (second_holds (goes_on x) (target_fits b x) k)) (cut i true (second_holds (goes_on x && target_fits b x) (expr_fits true i) h)).piece
  target_cut (to_range x i j) b h =
      let k = first_holds (goes_on x && target_fits b x) (expr_fits true i && expr_fits true j) h in
      let l = second_holds (goes_on x && target_fits b x) (expr_fits true i && expr_fits true j) h in
      indexed (target_cut x b (second_holds (goes_on x) (target_fits b x) k)) (ends (cut i true (first_holds _ _ l)) (cut j true (second_holds _ _ l)))

  items_cut : (xs : Items) (b : Bool) → IsTrue (items_fit b xs) → Piece is_word_character (items_text xs) (items_tokens xs)
  items_cut no_items b h = empty
  items_cut (required x xs) b h = joined (name_spelled x (first_holds _ _ h)).piece (more_items_cut xs b (second_holds _ _ h)) (items_clear xs)
  items_cut (optional x xs) b h =
      followed sign.question (joined (name_spelled x (first_holds _ _ h)).piece (more_items_cut xs b (second_holds _ _ h)) (items_clear xs))
  items_cut (remaining x xs) b h =
      followed sign.at_sign (joined (name_spelled x (first_holds _ _ h)).piece (more_items_cut xs b (second_holds _ _ h)) (items_clear xs))
  items_cut (defaulted x e xs) b h =
      let k = second_holds (is_name x) (expr_fits b e && items_fit b xs) h in
      followed sign.question (joined (default_piece x (first_holds _ _ h) (cut e b (first_holds _ _ k))) (more_items_cut xs b (second_holds _ _ k)) (items_clear xs))

  more_items_cut : (xs : Items) (b : Bool) → IsTrue (items_fit b xs) → Piece is_word_character (spell.further_items xs) (tokens.further_items xs)
  more_items_cut no_items b h = empty
  more_items_cut (required x xs) b h =
      followed comma_space (joined (name_spelled x (first_holds _ _ h)).piece (more_items_cut xs b (second_holds _ _ h)) (items_clear xs))
  more_items_cut (optional x xs) b h =
      followed comma_question (joined (name_spelled x (first_holds _ _ h)).piece (more_items_cut xs b (second_holds _ _ h)) (items_clear xs))
  more_items_cut (remaining x xs) b h =
      followed comma_at (joined (name_spelled x (first_holds _ _ h)).piece (more_items_cut xs b (second_holds _ _ h)) (items_clear xs))
  more_items_cut (defaulted x e xs) b h =
      let k = second_holds (is_name x) (expr_fits b e && items_fit b xs) h in
      followed comma_question (joined (default_piece x (first_holds _ _ h) (cut e b (first_holds _ _ k))) (more_items_cut xs b (second_holds _ _ k)) (items_clear xs))
