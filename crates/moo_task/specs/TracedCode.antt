-- How the logic stores the verbs of a traceback.
use Rattle.std.specs.Prelude.{ℤ, refl}
use Rattle.std.specs.Coded.{Coded, code_by, coded×, coded_ℤ, coded_list, coded_ℕ}
use Rattle.spec_value.specs.Datum.{Text}
use Rattle.spec_moo.specs.Leaving.{Traced}

abbrev pub traced_code : Coded Traced
traced_code =
    code_by (ℤ × (Text × (ℤ × (ℤ × ℤ)))) (coded× coded_ℤ (coded× (coded_list coded_ℕ) (coded× coded_ℤ (coded× coded_ℤ coded_ℤ))))
    (λ t. (t.this, (t.verb, (t.programmer, (t.definer, t.player)))))
    (λ p. record { this = p.0; verb = p.1.0; programmer = p.1.1.0; definer = p.1.1.1.0; player = p.1.1.1.1 }) (λ _. refl)
