-- Handling of errors (Programmer's Manual, "Catching Errors in Expressions", "Handling Errors in Statements", "Cleaning Up After Errors").
use Rattle.std.specs.Prelude.{ℕ, zero, suc, ◌+◌, ◌==◌, ◌||◌, pos, List, [], ◌∷◌, ◌++◌, Bool, true, false, if◌then◌else◌, Option, Some, None}
use Rattle.spec_value.specs.Datum.{Datum, integer, list, no_data}
use Rattle.spec_program.specs.Tree.{Arguments, no_arguments, argument, splice, Codes, any_code, codes_in, Fallback, the_code, instead, Arms, no_arms, except}
use Rattle.spec_moo.specs.Scene.{Scene}
use Rattle.spec_moo.specs.Leaving.{Leaving, failed, Failure, failure_value, BodyLeft, ended, left_by, held_as, read_left, takes_code}
use Rattle.spec_moo.specs.Effect.{Effect, hands, takes, ends, leaves, sets_named, on_one, on_two}

abbrev pub argument_count : Arguments → ℕ
argument_count no_arguments = 0
argument_count (argument e more) = suc (argument_count more)
argument_count (splice e more) = suc (argument_count more)

abbrev pub code_count : Codes → ℕ
code_count any_code = 0
code_count (codes_in es) = argument_count es

-- all codes, and no list of codes yet
abbrev pub all_codes : Datum
all_codes = integer (pos 0)

abbrev pub no_codes : Datum
no_codes = list no_data

-- ---- a caught expression: first its codes, then the expression, then perhaps the default

-- after so many parts its codes are known
abbrev pub codes_known : Codes → ℕ
codes_known any_code = 0
codes_known (codes_in no_arguments) = 0
codes_known (codes_in es) = suc (argument_count es)

abbrev pub caught_step : Codes → ℕ → Bool
caught_step codes n = (n == 0) || (n == 1) || (n == codes_known codes)

abbrev pub codes_held : Codes → List Datum → List Datum
codes_held any_code vs = all_codes ∷ []
codes_held (codes_in no_arguments) vs = no_codes ∷ []
codes_held (codes_in es) vs = vs

-- the first code is begun, or the expression has its value
abbrev pub without_codes : Scene → ℕ → List Datum → Effect
without_codes s zero vs = takes 2 (no_codes ∷ [])
without_codes s (suc n) vs = on_two s (λ c v. hands s v) vs

abbrev pub caught_effect : Scene → Codes → ℕ → List Datum → Effect
caught_effect s codes n vs = if n == codes_known codes then takes 1 (codes_held codes vs) else without_codes s n vs

-- without a default the code is the value
abbrev pub fallback_effect : Scene → ℕ → Fallback → Datum → Effect
fallback_effect s n the_code c = hands s c
fallback_effect s n (instead e) c = takes n []

abbrev pub expression_catches : Scene → Codes → Fallback → List Datum → Leaving → Option Effect
expression_catches s codes d (c ∷ []) (failed f) = if takes_code c f.code then Some (fallback_effect s (suc (suc (code_count codes))) d f.code) else None
expression_catches s codes d vs l = None

-- ---- `try` with handlers: first the codes of each, then the body, then perhaps one handler

-- what was done last
pub data ArmPoint : Type 0 where
  one_code : ArmPoint  -- more of the same handler come
  last_code : Arms → ArmPoint  -- of a handler that stands before these
  one_program : ArmPoint

abbrev pub code_points : Arguments → Arms → List ArmPoint
code_points no_arguments later = []
code_points (argument e no_arguments) later = last_code later ∷ []
code_points (splice e no_arguments) later = last_code later ∷ []
code_points (argument e more) later = one_code ∷ code_points more later
code_points (splice e more) later = one_code ∷ code_points more later

abbrev pub arm_points : Arms → List ArmPoint
arm_points no_arms = []
arm_points (except x any_code p later) = one_program ∷ arm_points later
arm_points (except x (codes_in es) p later) = code_points es later ++ one_program ∷ arm_points later

abbrev pub nth_point : List ArmPoint → ℕ → ArmPoint
nth_point [] n = one_program
nth_point (a ∷ as_) zero = a
nth_point (a ∷ as_) (suc n) = nth_point as_ n

-- after so many parts; the body is the first
abbrev pub guarded_point : Arms → ℕ → ArmPoint
guarded_point arms zero = last_code arms
guarded_point arms (suc zero) = one_program
guarded_point arms (suc (suc n)) = nth_point (arm_points arms) n

abbrev pub is_step : ArmPoint → Bool
is_step one_code = false
is_step (last_code later) = true
is_step one_program = true

-- on to the next codes that are to be computed, or to the body; so many parts stand before the codes of the next handler
abbrev pub codes_from : ℕ → List Datum → Arms → Effect
codes_from n held no_arms = takes 1 held
codes_from n held (except x any_code p later) = codes_from (suc n) (held ++ all_codes ∷ []) later
codes_from n held (except x (codes_in no_arguments) p later) = codes_from (suc n) (held ++ no_codes ∷ []) later
codes_from n held (except x (codes_in es) p later) = takes (suc n) (held ++ no_codes ∷ [])

abbrev pub point_effect : Scene → ℕ → List Datum → ArmPoint → Effect
point_effect s n vs (last_code later) = codes_from n vs later
point_effect s n vs a = ends s

abbrev pub guarded_effect : Scene → Arms → ℕ → List Datum → Effect
guarded_effect s arms zero vs = codes_from 1 vs arms
guarded_effect s arms n vs = point_effect s (suc n) vs (guarded_point arms n)

-- the first handler that takes the code; so many parts stand before the codes of the next
abbrev pub handler_for : ℕ → Arms → List Datum → Failure → Option Effect
handler_for n no_arms held f = None
handler_for n (except x codes p later) [] f = None
handler_for n (except x codes p later) (c ∷ held) f =
    if takes_code c f.code then Some (sets_named x (failure_value f) (takes (suc (n + code_count codes)) [])) else handler_for (suc (n + code_count codes)) later held f

abbrev pub body_catches : Arms → List Datum → Leaving → Option Effect
body_catches arms held (failed f) = handler_for 1 arms held f
body_catches arms held l = None

-- ---- `try` with a finally part, which runs however the body is left

abbrev pub go_on_leaving : Scene → Option BodyLeft → Effect
go_on_leaving s (Some (left_by l)) = leaves l
go_on_leaving s _ = ends s

abbrev pub finally_effect : Scene → ℕ → List Datum → Effect
finally_effect s zero vs = takes 1 []
finally_effect s (suc zero) vs = takes 2 (held_as ended ∷ [])
finally_effect s n vs = on_one s (λ d. go_on_leaving s (read_left d)) vs

abbrev pub finally_catches : Leaving → Option Effect
finally_catches l = Some (takes 2 (held_as (left_by l) ∷ []))
