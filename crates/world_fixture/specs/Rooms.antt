-- The fixture with more rooms, in each of which a player with a link is alone.
use Rattle.std.specs.Prelude.{ℕ, zero, suc, ◌+◌, ◌*◌, ℤ, pos, List, [], ◌∷◌, true, None, codes}
use Rattle.spec_value.specs.Table.{with}
use Rattle.spec_world.specs.World.{World, Object, Verb, with_object}
use Rattle.spec_world.specs.Families.{nowhere}
use Rattle.spec_value.specs.Datum.{integer}
use Rattle.spec_program.specs.Tree.{Expr, literal, binary, evaluate, Program, seq}
use Rattle.spec_value.specs.Operators.{plus}
use Rattle.spec_fixture.specs.Fixture.{plain_header, bare, plain_verb, room, count_verb}
use Rattle.spec_fixture.specs.Programs.{returning}

abbrev pub one : Expr
one = literal (integer (pos 1))

-- so many times 1 + 1; and then return 1;
unfoldable pub adding : ℕ → Program
adding zero = returning one
adding (suc n) = seq (evaluate (binary plus one one)) (adding n)

-- a verb that takes 1,000 ticks
abbrev pub total_verb : Verb
total_verb = plain_verb (codes "total") (adding 999)

abbrev pub counting_verbs : List Verb
counting_verbs = count_verb ∷ total_verb ∷ []

-- one for which a command's 30,000 ticks do not suffice
abbrev pub endless_verb : Verb
endless_verb = plain_verb (codes "endless") (adding 30000)

-- a room with a counter as that of the fixture, which has no parent, with one player in it and these verbs
abbrev pub lone_room : ℤ → List Verb → Object
lone_room player verbs = record (room (pos 0) verbs) { header = record (plain_header (codes "Room")) { parent = nowhere }; contents = player ∷ [] }

abbrev pub guest : ℤ → Object
guest place = bare (record (plain_header (codes "Guest")) { parent = nowhere; is_player = true; location = place })

-- room 8 + 2n with player 9 + 2n and link 3 + n
abbrev pub with_room : List Verb → ℕ → World → World
with_room verbs n w = record (with_object (with_object w (pos (8 + 2 * n)) (lone_room (pos (9 + 2 * n)) verbs)) (pos (9 + 2 * n)) (guest (pos (8 + 2 * n)))) {
  links = with w.links (pos (3 + n)) (record { person = pos (9 + 2 * n); programming = None });
  greatest = pos (9 + 2 * n);
}

unfoldable pub with_rooms : ℕ → World → World
with_rooms zero w = w
with_rooms (suc n) w = with_room counting_verbs n (with_rooms n w)

abbrev pub with_endless_verb : World → World
with_endless_verb w = with_room (endless_verb ∷ []) 0 w
