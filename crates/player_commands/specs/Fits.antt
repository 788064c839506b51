-- How a text fits names, and which objects it fits.
use Rattle.std.specs.Prelude.{ℤ, Bool, true, ◌||◌, List, [], ◌∷◌, if◌then◌else◌, Option, Some, None}
use Rattle.std.specs.List.{list_any}
use Rattle.spec_value.specs.Datum.{Datum, text, Text, fold_case, same_text}
use Rattle.spec_value.specs.TextSearch.{begins}
use Rattle.spec_world.specs.World.{World, Header}
use Rattle.spec_world.specs.Naming.{ambiguous, failed_match, is_named, begins_a_name}
use Rattle.player_commands.specs.declared.object_match.fit.Fit.{Fit}
use Rattle.player_commands.specs.declared.object_match.tally.Tally.{Tally}
use Rattle.player_commands.specs.declared.object_match.tally.Tally.TheVariants.{Nobody, One, Several}
use Rattle.player_commands.specs.declared.object_match.tally.Matches.{Matches}

-- ---- names

abbrev pub fit_of : Text → Text → Fit
fit_of n t = record { exact = same_text (fold_case n) (fold_case t); beginning = begins true (fold_case n) (fold_case t) }

abbrev pub some_fit : List Text → Text → Fit
some_fit ns t = record {
  exact = list_any (λ n. same_text (fold_case n) (fold_case t)) ns;
  beginning = list_any (λ n. begins true (fold_case n) (fold_case t)) ns;
}

abbrev pub either_fit : Fit → Fit → Fit
either_fit a b = record { exact = a.exact || b.exact; beginning = a.beginning || b.beginning }

-- the text that an item is, if it is one
abbrev pub text_in : Datum → List Text
text_in (text t) = t ∷ []
text_in _ = []

-- the name in a header
abbrev pub named_in : Option Header → List Text
named_in None = []
named_in (Some h) = h.name ∷ []

-- an object by its names
abbrev pub object_fit : World → Text → ℤ → Fit
object_fit w t o = record { exact = is_named w t o; beginning = begins_a_name w t o }

-- ---- how many objects

abbrev pub one_more : Tally → ℤ → Tally
one_more Nobody o = One o
one_more (One p) o = Several
one_more Several o = Several

abbrev pub counted : Tally → ℤ → Bool → Tally
counted n o counts = if counts then one_more n o else n

abbrev pub one_of : Tally → ℤ
one_of Nobody = failed_match
one_of (One o) = o
one_of Several = ambiguous

abbrev pub answer_by : Tally → Tally → ℤ
answer_by Nobody beginning = one_of beginning
answer_by (One o) beginning = o
answer_by Several beginning = ambiguous

abbrev pub answer_of : Matches → ℤ
answer_of m = answer_by m.exact m.beginning

abbrev pub with_object : Matches → ℤ → Fit → Matches
with_object m o f = record { exact = counted m.exact o f.exact; beginning = counted m.beginning o f.beginning }

abbrev pub no_matches : Matches
no_matches = record { exact = Nobody; beginning = Nobody }

-- with those of further objects that a text fits
abbrev pub with_objects : World → Text → Matches → List ℤ → Matches
with_objects w t m [] = m
with_objects w t m (o ∷ os) = with_objects w t (with_object m o (object_fit w t o)) os
