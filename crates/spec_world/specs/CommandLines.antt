-- What a player's line asks for (Programmer's Manual, "The Built-in Command Parser"): its parts, and the verb that it means.
use Rattle.std.specs.Prelude.{ℕ, ℤ, Bool, ◌&&◌, ◌+◌, ◌==◌, List, [], ◌∷◌, take, drop, if◌then◌else◌, Option, Some, None, option_map, codes}
use Rattle.spec_value.specs.Datum.{Text, same_text}
use Rattle.spec_world.specs.World.{World, object_at}
use Rattle.spec_world.specs.Permissions.{is_programmer}
use Rattle.spec_world.specs.Words.{words, after_first, spaced, expanded}
use Rattle.spec_world.specs.Prepositions.{Preposition, find_preposition}
use Rattle.spec_world.specs.Naming.{location_of, name_object}
use Rattle.spec_world.specs.VerbsSought.{Sought, Named, find_verb, find_command_verb}

-- ---- the parts of a line

pub record Parts : Type 0 where
  pub verb : Text
  pub args : List Text  -- the words behind the verb
  pub argstr : Text  -- what was typed there
  pub preposition : Option ℕ  -- the set
  pub dobjstr : Text
  pub prepstr : Text
  pub iobjstr : Text

-- the words before a preposition, its own, and those behind it; without one all of them are before
abbrev pub parts_at : Text → List Text → Text → Option Preposition → Parts
parts_at verb args argstr None =
    record { verb = verb; args = args; argstr = argstr; preposition = None; dobjstr = spaced args; prepstr = []; iobjstr = [] }
parts_at verb args argstr (Some p) = record {
  verb = verb;
  args = args;
  argstr = argstr;
  preposition = Some p.set;
  dobjstr = spaced (take p.start args);
  prepstr = spaced (take p.size (drop p.start args));
  iobjstr = spaced (drop (p.start + p.size) args);
}

abbrev pub parts_of_words : Text → List Text → Option Parts
parts_of_words line [] = None
parts_of_words line (t ∷ ts) = Some (parts_at t ts (after_first line) (find_preposition ts))

-- of a line with its sign spelled out; none where it has no words
unfoldable pub line_parts : Text → Option Parts
line_parts line = parts_of_words (expanded line) (words (expanded line))

-- ---- the verb that is meant

abbrev pub named_by : World → ℤ → Parts → Named
named_by w player p =
    record { direct = name_object w player p.dobjstr; preposition = p.preposition; indirect = name_object w player p.iobjstr }

-- the object that was searched, which is `this`, and the verb
pub record Meant : Type 0 where
  pub this : ℤ
  pub sought : Sought

abbrev pub meant_on : World → Text → Named → ℤ → Option Meant
meant_on w word n o = option_map (λ s. record { this = o; sought = s }) (find_command_verb w o word n)

abbrev pub or_then : Option Meant → Option Meant → Option Meant
or_then None later = later
or_then (Some m) later = Some m

-- sought on the player, the room, the direct and the indirect object, in this order
abbrev pub verb_meant : World → ℤ → Text → Named → Option Meant
verb_meant w player word n =
    or_then (meant_on w word n player)
    (or_then (meant_on w word n (location_of (object_at w player)))
    (or_then (meant_on w word n n.direct) (meant_on w word n n.indirect)))

-- ---- `.program`

-- an object and a verb, cut at the first colon
abbrev pub cut_at_colon : Text → Option (Text × Text)
cut_at_colon [] = None
cut_at_colon (c ∷ t) = if c == 58 then Some ([], t) else option_map (λ r. (c ∷ r.0, r.1)) (cut_at_colon t)

pub data Request : Type 0 where
  program_verb : Text → Text → Request  -- the object's text and the verb's
  other_form : Request

abbrev pub request_of : List Text → Request
request_of (t ∷ []) = from_colon (cut_at_colon t)
  where
    from_colon : Option (Text × Text) → Request
    from_colon None = other_form
    from_colon (Some r) = program_verb r.0 r.1
request_of _ = other_form

abbrev pub asks_to_program : World → ℤ → Parts → Bool
asks_to_program w player p = same_text p.verb (codes ".program") && is_programmer w player

-- ---- what a line is

pub data Command : Type 0 where
  nothing_said : Command
  programming : Request → Command
  calls_verb : Parts → Named → Meant → Command
  calls_huh : Parts → Named → Sought → Command  -- the room's verb `huh`
  not_understood : Command

abbrev pub huh_or_not : Parts → Named → Option Sought → Command
huh_or_not p n None = not_understood
huh_or_not p n (Some s) = calls_huh p n s

abbrev pub verb_or_huh : World → ℤ → Parts → Named → Option Meant → Command
verb_or_huh w player p n (Some m) = calls_verb p n m
verb_or_huh w player p n None = huh_or_not p n (find_verb w (location_of (object_at w player)) (codes "huh"))

abbrev pub command_of : World → ℤ → Parts → Named → Command
command_of w player p n = verb_or_huh w player p n (verb_meant w player p.verb n)

abbrev pub command_or_program : World → ℤ → Option Parts → Command
command_or_program w player None = nothing_said
command_or_program w player (Some p) =
    if asks_to_program w player p then programming (request_of p.args) else command_of w player p (named_by w player p)

unfoldable pub command_said : World → ℤ → Text → Command
command_said w player line = command_or_program w player (line_parts line)
