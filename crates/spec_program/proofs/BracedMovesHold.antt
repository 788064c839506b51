-- Within braces, between a back quote and a quote, and behind `$`: each move over frames keeps what they mean.
use Rattle.std.proofs.Common.{◌≡◌, Bool, true, false, List, [], ◌∷◌, ap, ◌∙◌}
use Rattle.spec_program.specs.Tokens as t
use Rattle.spec_program.specs.Tokens.{Keyword, Placed}
use Rattle.spec_program.specs.Tree.{listing, no_arguments, instead, the_code}
use Rattle.spec_program.specs.Reading.{Read, got, stuck, and_then, chosen, if_keyword, past_sign, is_keyword}
use Rattle.spec_program.specs.ReadExpressions as by
use Rattle.spec_program.specs.ReadExpressions.{Found, Operand, FoundItems, FoundCodes, Allowed, some_arguments, items_from, expression}
use Rattle.spec_program.specs.Frames as f
use Rattle.spec_program.specs.Frames.{an_operand, some_items_read, some_codes_read, Frames, push, resume, means}
use Rattle.spec_program.specs.BracedMoves.{all_allowed, all_codes, BraceMovesHold, ItemMovesHold, CodeMovesHold, CatchMovesHold, SystemMovesHold}
use Rattle.spec_program.proofs.MovesHold.{pushed, sign_there, sign_absent}

pub brace_moves : BraceMovesHold
brace_moves n b k line fs =
    record {
      empty = λ p ts e. ap (λ r. means n fs r) (sign_there t.close_brace (got nothing) some p ts e);
      items = λ ts e.
          ap (λ r. means n fs r) (sign_absent t.close_brace (got nothing) some ts e)
          ∙ pushed n (f.in_braces line) fs (items_from n (expression n) b (all_allowed k) ts);
    }
  where
    nothing : Operand
    nothing = by.whole (by.found_at line (listing no_arguments) [])

    some : List Placed → Read Operand
    some us = and_then (items_from n (expression n) b (all_allowed k) us) (resume n (f.in_braces line))

pub item_moves : ItemMovesHold
item_moves n b a i p ts fs =
    record {
      another = λ e.
          ap (λ r. means n fs (and_then r (resume n (f.item_before i)))) (sign_there t.comma (items_from n (expression n) b a) closed p ts e)
          ∙ pushed n (f.item_before i) fs (items_from n (expression n) b a ts);
      last = λ d e.
          ap (λ r. means n fs (and_then r (resume n (f.item_before i))))
          (sign_absent t.comma (items_from n (expression n) b a) closed (p ∷ ts) d ∙ sign_there t.close_brace (got (by.no_more a)) stuck p ts e);
    }
  where
    closed : List Placed → Read FoundItems
    closed us = past_sign t.close_brace us (got (by.no_more a))

word_there : {X : Type 0} (w : Keyword) (c : Bool) (f g : List Placed → Read X) (p : Placed) (ts : List Placed)
    → is_keyword w p.token ≡ c → if_keyword w f g (p ∷ ts) ≡ chosen c f g ts (p ∷ ts)
word_there w c f g p ts e = ap (λ d. chosen d f g ts (p ∷ ts)) e

pub code_moves : CodeMovesHold
code_moves n b p ts fs =
    record {
      any = λ e. ap (λ r. means n fs r) (word_there t.any_word true (got all_codes) listed p ts e);
      listed = λ e.
          ap (λ r. means n fs r) (word_there t.any_word false (got all_codes) listed p ts e) ∙ pushed n f.as_codes fs (some_arguments n (expression n) b (p ∷ ts));
    }
  where
    listed : List Placed → Read FoundCodes
    listed us = and_then (some_arguments n (expression n) b us) (resume n f.as_codes)

pub catch_moves : CatchMovesHold
catch_moves n b line e p ts fs =
    record {
      codes_follow = λ d.
          ap (λ r. means n fs r) (sign_there t.not_sign (λ vs. and_then (by.error_codes n (expression n) b vs) (resume n (f.caught_codes b line e))) stuck p ts d)
          ∙ pushed n (f.caught_codes b line e) fs (by.error_codes n (expression n) b ts);
      value_follows = λ c d.
          ap (λ r. means n fs r) (sign_there t.arrow (valued c) (alone c) p ts d) ∙ pushed n (f.caught_instead line e c) fs (expression n b 0 ts);
      code_itself = λ c d q.
          ap (λ r. means n fs r)
          (sign_absent t.arrow (valued c) (alone c) (p ∷ ts) d ∙ sign_there t.quote (got (by.caught_with line e c the_code [])) stuck p ts q);
      closed = λ c d q. ap (λ r. means n fs r) (sign_there t.quote (got (by.caught_with line e c (instead d.tree) d.nodes)) stuck p ts q);
    }
  where
    valued : FoundCodes → List Placed → Read Operand
    valued c xs = and_then (expression n b 0 xs) (resume n (f.caught_instead line e c))

    alone : FoundCodes → List Placed → Read Operand
    alone c xs = past_sign t.quote xs (got (by.caught_with line e c the_code []))

pub system_moves : SystemMovesHold
system_moves n b line x fs =
    record {
      verb = λ p ts e.
          ap (λ r. means n fs r)
          (sign_there t.open_parenthesis (λ us. by.verb_of n (expression n) b (by.system_at line) x (p ∷ ts)) (got (by.property_of (by.system_at line) x)) p ts e
          ∙ sign_there t.open_parenthesis arguments stuck p ts e)
          ∙ pushed n (f.verb_arguments (by.system_at line) x) fs (by.arguments_to t.close_parenthesis n (expression n) b ts);
      property = λ ts e.
          ap (λ r. means n fs r)
          (sign_absent t.open_parenthesis (λ us. by.verb_of n (expression n) b (by.system_at line) x ts) (got (by.property_of (by.system_at line) x)) ts e);
    }
  where
    arguments : List Placed → Read Operand
    arguments us = and_then (by.arguments_to t.close_parenthesis n (expression n) b us) (resume n (f.verb_arguments (by.system_at line) x))
