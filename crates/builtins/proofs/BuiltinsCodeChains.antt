-- The verb is there, and may be programmed.
use Rattle.std.proofs.Common.{◌≡◌, ◌∙◌, ℕ, List, true, [], ◌∷◌, Option, Some, None, ap, ℤ, if◌then◌else◌}
use Rattle.std.specs.Prelude.{option_map}
use Rattle.spec_value.specs.Datum.{Datum, Data, object, list, invalid_argument, verb_not_found, permission_denied}
use Rattle.spec_program.specs.ReadPrograms.{parsed_lines}
use Rattle.spec_world.specs.World.{Object, Verb, object_at}
use Rattle.spec_world.specs.Permissions.{in_place, may, program_verb}
use Rattle.spec_world.specs.Questions.{verbs_at}
use Rattle.spec_moo.specs.Scene.{Scene}
use Rattle.spec_moo.specs.NativeEffect.{Caller, NativeEffect, refuses}
use Rattle.spec_moo.specs.Natives.Rows.{if_there}
use Rattle.spec_moo.specs.Natives.Verbs.{verb_place, texts_of, programmed, set_verb_code_row}
use Rattle.spec_world.proofs.Trees.{some_same}

pub verb_is_programmed : (s : Scene) (k : Caller) (o : ℤ) (d : Datum) (lines : Data) (vs : List Verb) (n : ℕ) (v : Verb) → verbs_at s.world o ≡ Some vs → verb_place vs d ≡ Some n
    → in_place vs n ≡ Some v → may s.world k.call.programmer (program_verb o n) ≡ true
    → set_verb_code_row s k (object o ∷ d ∷ list lines ∷ []) ≡ programmed s o n (parsed_lines (texts_of lines))
verb_is_programmed s k o d lines vs n v is place there allowed =
    found (object_at s.world o) is ∙ ap (λ z. if_there s verb_not_found z (among vs)) place ∙ ap (λ z. if_there s verb_not_found z (whole n)) there
    ∙ ap (λ z. if z then programmed s o n (parsed_lines (texts_of lines)) else refuses s permission_denied) allowed
  where
    whole : ℕ → Verb → NativeEffect
    whole j u = if may s.world k.call.programmer (program_verb o j) then programmed s o j (parsed_lines (texts_of lines)) else refuses s permission_denied

    among : List Verb → ℕ → NativeEffect
    among us j = if_there s verb_not_found (in_place us j) (whole j)

    found : (m : Option Object) → option_map (λ x. x.verbs) m ≡ Some vs
        → if_there s invalid_argument m (λ x. if_there s verb_not_found (verb_place x.verbs d) (among x.verbs)) ≡ if_there s verb_not_found (verb_place vs d) (among vs)
    found None e = cc
    found (Some x) e = ap (λ us. if_there s verb_not_found (verb_place us d) (among us)) (some_same e)
