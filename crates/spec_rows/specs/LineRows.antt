-- Worked rows, true by computation: words of a line, names of verbs, prepositions, and what players mean.
use Rattle.std.specs.Prelude.{◌≡◌, ℤ, pos, neg_ℤ, [], ◌∷◌, true, false, Some, None, codes}
use Rattle.spec_value.specs.Datum.{text, list, no_data, item, Text}
use Rattle.spec_value.specs.Table.{with}
use Rattle.spec_world.specs.World.{World, Object}
use Rattle.spec_world.specs.VerbNames.{spells, names_in, any_spells}
use Rattle.spec_world.specs.Words.{words, after_first, expanded}
use Rattle.spec_world.specs.Prepositions.{find_preposition}
use Rattle.spec_world.specs.Naming.{name_object}
use Rattle.spec_world.specs.CommandLines.{Parts, line_parts, Command, nothing_said, programming, calls_verb, not_understood, other_form, program_verb, command_said}
use Rattle.spec_fixture.specs.Fixture.{fixture, look_verb, box_look_verb, box, room, room_verbs}

-- ---- words

-- spaces cut, however many, and those at either end are nothing
abbrev pub CutAtSpaces : Type 0
CutAtSpaces = words (codes "  put  ball in box ") ≡ codes "put" ∷ codes "ball" ∷ codes "in" ∷ codes "box" ∷ []

abbrev pub NoWords : Type 0
NoWords = (words [] ≡ []) × (words (codes "   ") ≡ [])

abbrev pub QuotesGroup : Type 0
QuotesGroup = words (codes "put \"red ball\" in b\"o\"x") ≡ codes "put" ∷ codes "red ball" ∷ codes "in" ∷ codes "box" ∷ []

-- an empty pair is an empty word, also one that the end of the line closes
abbrev pub EmptyWords : Type 0
EmptyWords = (words (codes "go \"\" x") ≡ codes "go" ∷ [] ∷ codes "x" ∷ []) × (words (codes "go \"") ≡ codes "go" ∷ [] ∷ [])

abbrev pub OpenQuote : Type 0
OpenQuote = words (codes "say \"hi  there") ≡ codes "say" ∷ codes "hi  there" ∷ []

-- a backslash takes the next character, in quotes too; a last one is nothing
abbrev pub Backslashes : Type 0
Backslashes =
    (words (codes "a\\ b \\\"c \"d\\\"e\"") ≡ codes "a b" ∷ codes "\"c" ∷ codes "d\"e" ∷ []) × (words (codes "x\\") ≡ codes "x" ∷ [])
    × (words (codes "x \\") ≡ codes "x" ∷ [])

-- what was typed behind the first word stays as it was typed
abbrev pub RawRest : Type 0
RawRest =
    (after_first (codes "  put   \"red  ball\" in box ") ≡ codes "\"red  ball\" in box ") × (after_first (codes "\"a b\"c  d") ≡ codes "d")
    × (after_first (codes "look") ≡ [])

abbrev pub Signs : Type 0
Signs =
    (expanded (codes " \"hello") ≡ codes "say hello") × (expanded (codes ":waves") ≡ codes "emote waves") × (expanded (codes ";1 + 1") ≡ codes "eval 1 + 1")
    × (expanded (codes "  look") ≡ codes "look")

-- ---- names of verbs

abbrev pub PlainName : Type 0
PlainName = (spells (codes "Count") (codes "counT") ≡ true) × (spells (codes "count") (codes "coun") ≡ false) × (spells (codes "count") (codes "counts") ≡ false)

abbrev pub StarredName : Type 0
StarredName =
    (spells (codes "l*ook") (codes "l") ≡ true) × (spells (codes "l*ook") (codes "loo") ≡ true) × (spells (codes "l*ook") (codes "look") ≡ true)
    × (spells (codes "l*ook") (codes "looks") ≡ false) × (spells (codes "l*ook") [] ≡ false) × (spells (codes "l*ook") (codes "lk") ≡ false)

-- a star at the end
abbrev pub OpenName : Type 0
OpenName =
    (spells (codes "get*") (codes "getting") ≡ true) × (spells (codes "get*") (codes "get") ≡ true) × (spells (codes "get*") (codes "ge") ≡ false)
    × (spells (codes "*") [] ≡ true)

-- a later star stands for itself
abbrev pub LaterStar : Type 0
LaterStar = (spells (codes "a*b*c") (codes "ab*") ≡ true) × (spells (codes "a*b*c") (codes "abc") ≡ false)

abbrev pub SeveralNames : Type 0
SeveralNames =
    (names_in (codes " get  t*ake ") ≡ codes "get" ∷ codes "t*ake" ∷ []) × (any_spells (codes "get t*ake") (codes "tak") ≡ true)
    × (any_spells (codes "get t*ake") (codes "get t") ≡ false)

-- ---- prepositions

-- the earliest one, and of two at one place the longest
abbrev pub InFrontOf : Type 0
InFrontOf =
    find_preposition (codes "box" ∷ codes "In" ∷ codes "front" ∷ codes "of" ∷ codes "me" ∷ codes "with" ∷ [])
    ≡ Some (record { start = 1; size = 3; set = 2 })

abbrev pub OffOf : Type 0
OffOf = find_preposition (codes "off" ∷ codes "of" ∷ codes "it" ∷ []) ≡ Some (record { start = 0; size = 2; set = 14 })

abbrev pub NoPreposition : Type 0
NoPreposition = (find_preposition (codes "inn" ∷ codes "front" ∷ []) ≡ None) × (find_preposition [] ≡ None)

-- ---- objects

-- with Ann of the fixture
abbrev pub meant : Text → ℤ
meant t = name_object fixture (pos 4) t

abbrev pub Named : Type 0
Named = (meant (codes "BOX") ≡ pos 6) × (meant (codes "bo") ≡ pos 6) × (meant (codes "Be") ≡ pos 5) × (meant (codes "ann") ≡ pos 4)

abbrev pub NotNamed : Type 0
NotNamed = (meant [] ≡ neg_ℤ (pos 1)) × (meant (codes "b") ≡ neg_ℤ (pos 2)) × (meant (codes "lamp") ≡ neg_ℤ (pos 3)) × (meant (codes "Room") ≡ neg_ℤ (pos 3))

abbrev pub Numbered : Type 0
Numbered =
    (meant (codes "#7") ≡ pos 7) × (meant (codes "#007") ≡ pos 7) × (meant (codes "#8") ≡ neg_ℤ (pos 3)) × (meant (codes "#-1") ≡ neg_ℤ (pos 3))
    × (meant (codes "#99999999999") ≡ neg_ℤ (pos 3)) × (meant (codes "#") ≡ neg_ℤ (pos 3))

abbrev pub MeAndHere : Type 0
MeAndHere = (meant (codes "Me") ≡ pos 4) × (meant (codes "HERE") ≡ pos 3) × (name_object fixture (pos 2) (codes "here") ≡ neg_ℤ (pos 1))

-- a second thing whose name begins with that of the box
abbrev pub boxer : Object
boxer = record box { header = record (box.header) { name = codes "boxer" }; verbs = []; defines = codes "Aliases" ∷ []; slots = (codes "aliases", record { content = Some (list (item (text (codes "dog")) no_data)); owner = pos 2; readable = false; writable = false; changeable = false }) ∷ [] }

abbrev pub with_boxer : World
with_boxer = record fixture {
  objects = with (with fixture.objects (pos 8) boxer) (pos 3) (record (room (pos 0) room_verbs) { contents = pos 4 ∷ pos 5 ∷ pos 6 ∷ pos 8 ∷ [] });
  greatest = pos 8;
}

-- what matches exactly counts alone; aliases are read without permission
abbrev pub ExactlyOrByBeginning : Type 0
ExactlyOrByBeginning =
    (name_object with_boxer (pos 4) (codes "box") ≡ pos 6) × (name_object with_boxer (pos 4) (codes "boxe") ≡ pos 8)
    × (name_object with_boxer (pos 4) (codes "bo") ≡ neg_ℤ (pos 2)) × (name_object with_boxer (pos 4) (codes "DO") ≡ pos 8)

-- ---- lines

abbrev pub no_parts : Parts
no_parts = record { verb = []; args = []; argstr = []; preposition = None; dobjstr = []; prepstr = []; iobjstr = [] }

abbrev pub PartsOfALine : Type 0
PartsOfALine =
    line_parts (codes "put \"red ball\" in front of  my box")
    ≡ Some (record no_parts {
      verb = codes "put";
      args = codes "red ball" ∷ codes "in" ∷ codes "front" ∷ codes "of" ∷ codes "my" ∷ codes "box" ∷ [];
      argstr = codes "\"red ball\" in front of  my box";
      preposition = Some 2;
      dobjstr = codes "red ball";
      prepstr = codes "in front of";
      iobjstr = codes "my box";
    })

-- all words are the direct object's where there is no preposition
abbrev pub PartsWithoutPreposition : Type 0
PartsWithoutPreposition =
    (line_parts (codes ":waves  wildly") ≡ Some (record no_parts {
      verb = codes "emote";
      args = codes "waves" ∷ codes "wildly" ∷ [];
      argstr = codes "waves  wildly";
      dobjstr = codes "waves wildly";
    })) × (line_parts (codes "  ") ≡ None)

-- ---- commands, of Ann of the fixture

abbrev pub said : Text → Command
said t = command_said fixture (pos 4) t

abbrev pub RoomsLook : Type 0
RoomsLook =
    said (codes "loo")
    ≡ calls_verb (record no_parts { verb = codes "loo" }) (record { direct = neg_ℤ (pos 1); preposition = None; indirect = neg_ℤ (pos 1) })
    (record { this = pos 3; sought = record { definer = pos 3; verb = look_verb } })

-- the room's verb wants no object, so the box's is meant
abbrev pub BoxesLook : Type 0
BoxesLook =
    said (codes "look in front of box")
    ≡ calls_verb
    (record no_parts {
      verb = codes "look";
      args = codes "in" ∷ codes "front" ∷ codes "of" ∷ codes "box" ∷ [];
      argstr = codes "in front of box";
      preposition = Some 2;
      prepstr = codes "in front of";
      iobjstr = codes "box";
    })
    (record { direct = neg_ℤ (pos 1); preposition = Some 2; indirect = pos 6 })
    (record { this = pos 6; sought = record { definer = pos 6; verb = box_look_verb } })

abbrev pub NotUnderstood : Type 0
NotUnderstood = (said (codes "looks") ≡ not_understood) × (said (codes "look box") ≡ not_understood) × (said (codes "accept") ≡ not_understood) × (said (codes "  ") ≡ nothing_said)

-- of a player without the flag `.program` is a command like any other; the wizard of the fixture has it
abbrev pub Programs : Type 0
Programs =
    (said (codes ".program #3:sum") ≡ not_understood)
    × (command_said fixture (pos 2) (codes ".program #3:a:b") ≡ programming (program_verb (codes "#3") (codes "a:b")))
    × (command_said fixture (pos 2) (codes ".program #3") ≡ programming other_form)
    × (command_said fixture (pos 2) (codes ".program #3:sum now") ≡ programming other_form)
    × (command_said fixture (pos 2) (codes ".Program #3:sum") ≡ not_understood)
