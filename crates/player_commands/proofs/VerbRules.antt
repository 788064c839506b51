-- The verb that is meant, one object after the other.
use Rattle.std.proofs.Common.{◌≡◌, ℤ, Option, Some, None, ap, ◌∙◌}
use Rattle.std.specs.Prelude.{codes}
use Rattle.spec_value.specs.Datum.{Text}
use Rattle.spec_world.specs.World.{World, object_at}
use Rattle.spec_world.specs.Naming.{location_of}
use Rattle.spec_world.specs.VerbsSought.{Sought, Named, find_verb, find_command_verb}
use Rattle.spec_world.specs.CommandLines as line
use Rattle.spec_world.specs.CommandLines.{Parts, Command, meant_on, verb_meant, command_of, verb_or_huh, huh_or_not, calls_verb}
use Rattle.player_commands.specs.Meanings.{on_object, meant_by_objects, meant_in_room}

pub found_on : (w : World) (word : Text) (n : Named) (o : ℤ) (f : Option Sought) → find_command_verb w o word n ≡ f → meant_on w word n o ≡ on_object o f
found_on w word n o f is = ap (on_object o) is

-- ---- on the objects that are named

pub by_direct : (w : World) (word : Text) (n : Named) (m : line.Meant) → meant_on w word n n.direct ≡ Some m → meant_by_objects w word n ≡ Some m
by_direct w word n m is = ap (λ f. line.or_then f (meant_on w word n n.indirect)) is

pub by_indirect : (w : World) (word : Text) (n : Named) (m : Option line.Meant) → meant_on w word n n.direct ≡ None → meant_on w word n n.indirect ≡ m → meant_by_objects w word n ≡ m
by_indirect w word n m none is = ap (λ f. line.or_then f (meant_on w word n n.indirect)) none ∙ is

-- ---- in the room

pub by_room : (w : World) (player room : ℤ) (word : Text) (n : Named) (m : line.Meant) → location_of (object_at w player) ≡ room → meant_on w word n room ≡ Some m → meant_in_room w player word n ≡ Some m
by_room w player room word n m there is =
    ap (λ o. line.or_then (meant_on w word n o) (meant_by_objects w word n)) there ∙ ap (λ f. line.or_then f (meant_by_objects w word n)) is

pub beyond_room : (w : World) (player room : ℤ) (word : Text) (n : Named) (m : Option line.Meant) → location_of (object_at w player) ≡ room → meant_on w word n room ≡ None → meant_by_objects w word n ≡ m
    → meant_in_room w player word n ≡ m
beyond_room w player room word n m there none is =
    ap (λ o. line.or_then (meant_on w word n o) (meant_by_objects w word n)) there ∙ ap (λ f. line.or_then f (meant_by_objects w word n)) none ∙ is

-- ---- on the player

pub by_player : (w : World) (player : ℤ) (word : Text) (n : Named) (m : line.Meant) → meant_on w word n player ≡ Some m → verb_meant w player word n ≡ Some m
by_player w player word n m is = ap (λ f. line.or_then f (meant_in_room w player word n)) is

pub beyond_player : (w : World) (player : ℤ) (word : Text) (n : Named) (m : Option line.Meant) → meant_on w word n player ≡ None → meant_in_room w player word n ≡ m → verb_meant w player word n ≡ m
beyond_player w player word n m none is = ap (λ f. line.or_then f (meant_in_room w player word n)) none ∙ is

-- ---- the command

pub verb_is : (w : World) (player : ℤ) (p : Parts) (n : Named) (m : line.Meant) → verb_meant w player p.verb n ≡ Some m → command_of w player p n ≡ calls_verb p n m
verb_is w player p n m is = ap (verb_or_huh w player p n) is

pub no_verb : (w : World) (player : ℤ) (p : Parts) (n : Named) (c : Command) → verb_meant w player p.verb n ≡ None → huh_or_not p n (find_verb w (location_of (object_at w player)) (codes "huh")) ≡ c
    → command_of w player p n ≡ c
no_verb w player p n c none is = ap (verb_or_huh w player p n) none ∙ is

pub huh_is : (w : World) (player room : ℤ) (p : Parts) (n : Named) (f : Option Sought) → location_of (object_at w player) ≡ room → find_verb w room (codes "huh") ≡ f
    → huh_or_not p n (find_verb w (location_of (object_at w player)) (codes "huh")) ≡ huh_or_not p n f
huh_is w player room p n f there is = ap (λ o. huh_or_not p n (find_verb w o (codes "huh"))) there ∙ ap (huh_or_not p n) is
