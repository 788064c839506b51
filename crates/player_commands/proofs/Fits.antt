-- Names one after the other.
use Rattle.std.proofs.Common.{◌≡◌, Bool, true, false, ◌||◌, List, [], ◌∷◌, refl}
use Rattle.spec_value.specs.Datum.{Datum, integer, object, text, error, list, of_list, Text, fold_case, same_text}
use Rattle.spec_value.specs.TextSearch.{begins}
use Rattle.spec_world.specs.Naming.{texts_in}
use Rattle.player_commands.specs.Fits.{either_fit, some_fit, text_in}
use Rattle.player_commands.specs.declared.object_match.fit.Fit.{Fit}

or_nothing : (a : Bool) → (a || false) ≡ a
or_nothing true = refl
or_nothing false = refl

or_one : (a b c : Bool) → ((a || (b || false)) || c) ≡ (a || (b || c))
or_one true b c = refl
or_one false true c = refl
or_one false false c = refl

or_none : (a c : Bool) → ((a || false) || c) ≡ (a || c)
or_none true c = refl
or_none false c = refl

both : (a b c d : Bool) → a ≡ b → c ≡ d → ◌≡◌ {A = Fit} (record { exact = a; beginning = c }) (record { exact = b; beginning = d })
both a b c d e f = λ i. record { exact = e i; beginning = f i }

pub fits_none : (f : Fit) → f ≡ either_fit (record { exact = false; beginning = false }) f
fits_none f = refl

pub fits_all : (f : Fit) (t : Text) → either_fit f (some_fit [] t) ≡ f
fits_all f t = both _ _ _ _ (or_nothing f.exact) (or_nothing f.beginning)

passed : (f g : Fit) → either_fit (either_fit f (record { exact = false; beginning = false })) g ≡ either_fit f g
passed f g = both _ _ _ _ (or_none f.exact g.exact) (or_none f.beginning g.beginning)

pub fits_on : (x : Datum) (xs : List Datum) (t : Text) (f : Fit)
    → either_fit (either_fit f (some_fit (text_in x) t)) (some_fit (texts_in (of_list xs)) t) ≡ either_fit f (some_fit (texts_in (of_list (x ∷ xs))) t)
fits_on (text n) xs t f =
    let rest = some_fit (texts_in (of_list xs)) t in
    both _ _ _ _ (or_one f.exact (same_text (fold_case n) (fold_case t)) rest.exact) (or_one f.beginning (begins true (fold_case n) (fold_case t)) rest.beginning)
fits_on (integer z) xs t f = passed f (some_fit (texts_in (of_list xs)) t)
fits_on (object z) xs t f = passed f (some_fit (texts_in (of_list xs)) t)
fits_on (error e) xs t f = passed f (some_fit (texts_in (of_list xs)) t)
fits_on (list ys) xs t f = passed f (some_fit (texts_in (of_list xs)) t)
