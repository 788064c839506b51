-- `.program`: lines that a player types for a verb's code (Programmer's Manual, "Built-in Commands").
use Rattle.std.specs.Prelude.{ℕ, ℤ, ◌++◌, List, [], ◌∷◌, if◌then◌else◌, Option, Some, None, codes}
use Rattle.std.specs.Fmt.{signed_decimal}
use Rattle.spec_value.specs.Datum.{list, of_list, Text, same_text}
use Rattle.spec_value.specs.Answer.{is_allowed}
use Rattle.spec_program.specs.ReadPrograms.{Parsed, program, faulty, parsed_lines, fault_text}
use Rattle.spec_world.specs.World.{World, Object, Link, Programming, object_at}
use Rattle.spec_world.specs.Permissions.{program_verb, may}
use Rattle.spec_world.specs.Naming.{name_object}
use Rattle.spec_world.specs.Members.{verb_changed}
use Rattle.spec_world.specs.Links.{open_link}
use Rattle.spec_world.specs.CommandLines as line
use Rattle.spec_world.specs.CommandLines.{Request, other_form}
use Rattle.spec_moo.specs.Scene.{Scene, in_world}
use Rattle.spec_moo.specs.Natives.Properties.{as_texts}
use Rattle.spec_moo.specs.Natives.Verbs.{place_of_word}
use Rattle.spec_world.specs.Outcome.{Outcome, none}
use Rattle.spec_moo.specs.Steps.Outcomes.{comes_to}
use Rattle.spec_moo.specs.Steps.Running.{told_on}

-- the link says what it is told, and nothing has run
abbrev pub says : Scene → ℤ → Text → World × Outcome
says s c t = comes_to (told_on s (Some c) (t ∷ [])) none 0

abbrev pub with_link : Scene → ℤ → Link → Scene
with_link s c k = in_world s (open_link s.world c k)

-- ---- the verb: one of the object itself that the player may program

abbrev pub own_place : Option Object → Text → Option ℕ
own_place None v = None
own_place (Some x) v = place_of_word v x.verbs

abbrev pub programmable_at : World → ℤ → ℤ → Option ℕ → Option ℕ
programmable_at w who o None = None
programmable_at w who o (Some n) = if may w who (program_verb o n) then Some n else None

abbrev pub programmable : World → ℤ → ℤ → Text → Option ℕ
programmable w who o v = programmable_at w who o (own_place (object_at w o) v)

abbrev pub not_allowed : Text
not_allowed = codes "You can't program that verb."

-- ---- the first line

abbrev pub begins : Scene → ℤ → ℤ → ℤ → Text → Option ℕ → World × Outcome
begins s c who o v None = says s c not_allowed
begins s c who o v (Some n) =
    says (with_link s c (record { person = who; programming = Some (record { object = o; verb = v; lines = Some [] }) })) c
    (codes "Now programming #" ++ (signed_decimal o ++ (codes ":" ++ (v ++ codes "."))))

abbrev pub opens : Scene → ℤ → ℤ → ℤ → Text → Option Object → World × Outcome
opens s c who o v None = says s c (codes "I don't see that here.")
opens s c who o v (Some x) = begins s c who o v (programmable s.world who o v)

abbrev pub requested : Scene → ℤ → ℤ → Request → World × Outcome
requested s c who other_form = says s c (codes "Usage: .program object:verb")
requested s c who (line.program_verb t v) = opens s c who (name_object s.world who t) v (object_at s.world (name_object s.world who t))

-- ---- the lines, kept until they are too long

abbrev pub fits_still : List Text → Option (List Text)
fits_still ts = if is_allowed (list (of_list (as_texts ts))) then Some ts else None

abbrev pub with_line : Option (List Text) → Text → Option (List Text)
with_line None t = None
with_line (Some ts) t = fits_still (ts ++ t ∷ [])

-- ---- the line that ends it

abbrev pub written : Scene → ℤ → ℤ → ℕ → Parsed → World × Outcome
written s c o n (program p) = says (in_world s (verb_changed s.world o n (λ v. record v { program = p }))) c (codes "Verb programmed.")
written s c o n (faulty f) = says s c (fault_text f)

abbrev pub ends_with : Scene → ℤ → ℤ → ℕ → Option (List Text) → World × Outcome
ends_with s c o n None = says s c (codes "Not programmed: too long.")
ends_with s c o n (Some ts) = written s c o n (parsed_lines ts)

abbrev pub ends_at : Scene → ℤ → Programming → Option ℕ → World × Outcome
ends_at s c g None = says s c not_allowed
ends_at s c g (Some n) = ends_with s c g.object n g.lines

abbrev pub ends : Scene → ℤ → Link → Programming → World × Outcome
ends s c k g = ends_at (with_link s c (record k { programming = None })) c g (programmable s.world k.person g.object g.verb)

abbrev pub goes_on : Scene → ℤ → Link → Programming → Text → World × Outcome
goes_on s c k g t = comes_to (with_link s c (record k { programming = Some (record g { lines = with_line g.lines t }) })) none 0

abbrev pub collected : Scene → ℤ → Link → Programming → Text → World × Outcome
collected s c k g t = if same_text t (codes ".") then ends s c k g else goes_on s c k g t
