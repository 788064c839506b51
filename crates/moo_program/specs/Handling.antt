-- The codes of a handler, by the number of its program's part: after the last one the codes of later handlers are begun, or the body.
use Rattle.std.specs.Prelude.{ℕ, suc, [], ◌∷◌}
use Rattle.spec_value.specs.Datum.{Datum}
use Rattle.spec_moo.specs.Effects.Handlers.{all_codes, no_codes}
use Rattle.spec_program.specs.Tree.{Codes, any_code, codes_in, no_arguments, argument, splice, Arms}
use Rattle.moo_code.specs.Instruction.{begin_part, never}
use Rattle.moo_code.specs.Layout.{Around, Layout, own, above, arguments_layout, next_part, next_held}

abbrev pub held_codes_layout : Around → ℕ → ℕ → Codes → Arms → Layout → Layout
held_codes_layout x k m any_code later l = l
held_codes_layout x k m (codes_in no_arguments) later l = l
held_codes_layout x k m (codes_in (argument e es)) later l =
    arguments_layout (above x (suc k)) (suc k) never (argument e es) (own (begin_part 0 (suc k) (next_part m later) (next_held later)) (next_part m later ∷ []) l)
held_codes_layout x k m (codes_in (splice e es)) later l =
    arguments_layout (above x (suc k)) (suc k) never (splice e es) (own (begin_part 0 (suc k) (next_part m later) (next_held later)) (next_part m later ∷ []) l)

-- what is known of a handler's codes before any is computed
abbrev pub known_codes_of : Codes → Datum
known_codes_of any_code = all_codes
known_codes_of (codes_in es) = no_codes
