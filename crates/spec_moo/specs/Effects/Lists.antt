-- Lists, indexes and ranges (Programmer's Manual, "Constructing Lists", "Indexing into Lists and Strings", "Extracting a Subsequence").
use Rattle.std.specs.Prelude.{ℕ, suc, List, [], ◌∷◌, Option, Some, None}
use Rattle.spec_value.specs.Datum.{Datum, type_mismatch}
use Rattle.spec_value.specs.Answer.{Answer, gives, raises, limited}
use Rattle.spec_value.specs.Indexing.{index_value, range_value}
use Rattle.spec_value.specs.PureBuiltins.{length_of}
use Rattle.spec_program.specs.Tree.{index, range, to_index, to_range}
use Rattle.spec_program.specs.Construct.{Construct, of_expr, of_target, Piece}
use Rattle.spec_moo.specs.Scene.{Scene}
use Rattle.spec_moo.specs.Pending.{Pending}
use Rattle.spec_moo.specs.Effect.{Effect, answered, on_one, on_two, on_three}
use Rattle.spec_moo.specs.Effects.Access.{target_value}

abbrev pub list_effect : Scene → List Datum → Effect
list_effect s vs = on_one s (λ l. answered s (limited l)) vs

abbrev pub index_effect : Scene → List Datum → Effect
index_effect s vs = on_two s (λ x i. answered s (index_value x i)) vs

abbrev pub range_effect : Scene → List Datum → Effect
range_effect s vs = on_three s (λ x a b. answered s (range_value x a b)) vs

-- ---- `$` in brackets

abbrev pub first_held : List Datum → Answer
first_held [] = raises type_mismatch
first_held (v ∷ vs) = gives v

-- what the brackets index that a part under way stands in; a target is read there and then
abbrev pub indexed_by : Scene → Pending → Construct → ℕ → List Datum → Option Answer
indexed_by s p (of_expr (index x i)) (suc (suc n)) vs = Some (first_held vs)
indexed_by s p (of_expr (range x a b)) (suc (suc n)) vs = Some (first_held vs)
indexed_by s p (of_target (to_index t i)) (suc (suc n)) vs = Some (target_value s.world p.frame.call.programmer p.frame.variables t vs)
indexed_by s p (of_target (to_range t a b)) (suc (suc n)) vs = Some (target_value s.world p.frame.call.programmer p.frame.variables t vs)
indexed_by s p _ _ vs = None

abbrev pub or_around : Option Answer → Answer → Answer
or_around (Some a) outer = a
or_around None outer = outer

-- the nearest brackets around
abbrev pub indexed_in : Scene → Pending → List Piece → Answer
indexed_in s p [] = raises type_mismatch
indexed_in s p (q ∷ ps) = or_around (indexed_by s p q.construct q.part q.held) (indexed_in s p ps)

abbrev pub length_in : Answer → Answer
length_in (raises e) = raises e
length_in (gives v) = length_of v

abbrev pub length_effect : Scene → Pending → Effect
length_effect s p = answered s (length_in (indexed_in s p p.frame.pieces))
