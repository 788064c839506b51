-- What ends with a token that must be there, and parts that several frames share.
use Rattle.std.specs.Prelude.{ℕ, Bool, false, List}
use Rattle.spec_program.specs.Tokens as t
use Rattle.spec_program.specs.Tokens.{Sign, Keyword, Placed}
use Rattle.spec_program.specs.ReadExpressions as by
use Rattle.spec_program.specs.ReadExpressions.{Allowed}
use Rattle.spec_program.specs.ReadPrograms.{FoundStatement}
use Rattle.spec_program.specs.Frames as f
use Rattle.spec_program.specs.Frames.{some_arguments_read, some_items_read, some_codes_read, a_statement, Item, Head, Body, Frames, push}
use Rattle.spec_program.specs.BracedMoves.{all_codes}
use Rattle.spec_reader.specs.Next.{Next, found, reads_expression, reads_arguments, reads_items, reads_block, State, goes, stops, on_sign, on_keyword}

-- past a sign or a keyword, which must be there
abbrev pub past_sign : Sign → Next → List Placed → State
past_sign s x ts = on_sign s (goes x) stops ts

abbrev pub past_keyword : Keyword → Next → List Placed → State
past_keyword k x ts = on_keyword k (goes x) stops ts

-- arguments up to this sign
abbrev pub arguments_to : Sign → Bool → Frames some_arguments_read → List Placed → State
arguments_to s b fs ts = on_sign s (goes (found fs by.none_found)) (goes (reads_arguments b (push (f.to_sign s) fs))) ts

-- behind an item of braces
abbrev pub items_on : Bool → Allowed → Item → Frames some_items_read → List Placed → State
items_on b a i fs ts =
    on_sign t.comma (goes (reads_items b a (push (f.item_before i) fs))) (past_sign t.close_brace (found fs (f.with_item i (by.no_more a)))) ts

abbrev pub codes_begin : Bool → Frames some_codes_read → List Placed → State
codes_begin b fs ts = on_keyword t.any_word (goes (found fs all_codes)) (goes (reads_arguments b (push f.as_codes fs))) ts

abbrev pub statement_ended : FoundStatement → Frames a_statement → List Placed → State
statement_ended s fs ts = past_sign t.semicolon (found fs s) ts

-- the expression of a head in its parentheses, and its body
abbrev pub head_begins : ℕ → Head → Frames a_statement → List Placed → State
head_begins line h fs ts = past_sign t.open_parenthesis (reads_expression false 0 (push f.in_head (push (f.head_of line h) fs))) ts

abbrev pub body_begins : ℕ → Body → Frames a_statement → Next
body_begins line b fs = reads_block (push (f.to_word (f.end_word b)) (push (f.block_of_body line b) fs))
