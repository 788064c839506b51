-- Scattering assignment (Programmer's Manual, "Spreading List Elements Among Variables"): first the right side, then what is given, then the defaults of what is missing.
use Rattle.std.specs.Prelude.{ℕ, zero, suc, ◌==◌, List, [], ◌∷◌, if◌then◌else◌, Option, Some, None, option_map}
use Rattle.spec_value.specs.Datum.{Datum, Text}
use Rattle.spec_value.specs.Scatter.{TargetKind, required_target, optional_target, rest_target, Scattering, gets, refuses, scattered}
use Rattle.spec_program.specs.Tree.{Items, no_items, required, optional, remaining, defaulted}
use Rattle.spec_moo.specs.Scene.{Scene}
use Rattle.spec_moo.specs.Effect.{Effect, hands, takes, ends, sets, erring, on_one}

abbrev pub item_kinds : Items → List TargetKind
item_kinds no_items = []
item_kinds (required x more) = required_target ∷ item_kinds more
item_kinds (optional x more) = optional_target ∷ item_kinds more
item_kinds (remaining x more) = rest_target ∷ item_kinds more
item_kinds (defaulted x e more) = optional_target ∷ item_kinds more

abbrev pub item_count : Items → ℕ
item_count no_items = 0
item_count (required x more) = suc (item_count more)
item_count (optional x more) = suc (item_count more)
item_count (remaining x more) = suc (item_count more)
item_count (defaulted x e more) = suc (item_count more)

abbrev pub given : Text → Option Datum → Effect → Effect
given x None e = e
given x (Some v) e = sets x v e

-- each variable gets what is there for it
abbrev pub all_given : Items → List (Option Datum) → Effect → Effect
all_given no_items vs e = e
all_given items [] e = e
all_given (required x more) (v ∷ vs) e = given x v (all_given more vs e)
all_given (optional x more) (v ∷ vs) e = given x v (all_given more vs e)
all_given (remaining x more) (v ∷ vs) e = given x v (all_given more vs e)
all_given (defaulted x d more) (v ∷ vs) e = given x v (all_given more vs e)

-- the first item with a default that got nothing, among those behind the first n: how many stand before it
abbrev pub missing : ℕ → Items → List (Option Datum) → Option ℕ
missing n no_items vs = None
missing n items [] = None
missing zero (defaulted x d more) (None ∷ vs) = Some 0
missing zero (defaulted x d more) (Some v ∷ vs) = option_map suc (missing zero more vs)
missing zero (required x more) (v ∷ vs) = option_map suc (missing zero more vs)
missing zero (optional x more) (v ∷ vs) = option_map suc (missing zero more vs)
missing zero (remaining x more) (v ∷ vs) = option_map suc (missing zero more vs)
missing (suc n) (required x more) (v ∷ vs) = option_map suc (missing n more vs)
missing (suc n) (optional x more) (v ∷ vs) = option_map suc (missing n more vs)
missing (suc n) (remaining x more) (v ∷ vs) = option_map suc (missing n more vs)
missing (suc n) (defaulted x d more) (v ∷ vs) = option_map suc (missing n more vs)

-- the list is the value
abbrev pub default_or_end : Scene → Datum → Option ℕ → Effect
default_or_end s l None = hands s l
default_or_end s l (Some n) = takes (suc n) (l ∷ [])

abbrev pub assigned : Scene → Items → Datum → Scattering → Effect
assigned s items l (refuses e) = erring s e
assigned s items l (gets vs) = all_given items vs (default_or_end s l (missing 0 items vs))

-- after the default of the n-th item
abbrev pub defaults_after : Scene → Items → ℕ → Datum → Scattering → Effect
defaults_after s items n l (refuses e) = erring s e
defaults_after s items n l (gets vs) = default_or_end s l (missing n items vs)

abbrev pub scattered_effect : Scene → Items → ℕ → Datum → Effect
scattered_effect s items n l =
    if n == suc (item_count items) then assigned s items l (scattered (item_kinds items) l) else defaults_after s items n l (scattered (item_kinds items) l)

abbrev pub scatter_effect : Scene → Items → ℕ → List Datum → Effect
scatter_effect s items zero vs = takes (suc (item_count items)) []
scatter_effect s items n vs = on_one s (λ l. scattered_effect s items n l) vs

-- a default is its variable's value
abbrev pub default_effect : Scene → Text → List Datum → Effect
default_effect s x vs = on_one s (λ v. sets x v (ends s)) vs
