-- What comes of a `.program` line, from what was asked.
use Rattle.std.proofs.Common.{◌≡◌, ℕ, zero, suc, ◌+◌, ◌<◌, ◌≤◌, ℤ, Bool, true, false, List, ◌∷◌, length, get_or, drop, drop-cons, Option, Some, None, refl, sym, ap, ◌∙◌, arith, if◌then◌else◌}
use Rattle.std.specs.Prelude.{option_map, is_none}
use Rattle.std.proofs.lemmas.List.{drop_all}
use Rattle.spec_value.specs.Datum.{Text}
use Rattle.spec_world.specs.World.{World, Object, Verb, object_at}
use Rattle.spec_world.specs.Permissions.{may, program_verb}
use Rattle.spec_world.specs.Naming.{name_object}
use Rattle.spec_world.specs.Questions.{verbs_at}
use Rattle.spec_world.specs.VerbNames.{any_spells}
use Rattle.spec_world.specs.CommandLines as line
use Rattle.spec_moo.specs.Scene.{Scene}
use Rattle.spec_moo.specs.Natives.Verbs.{place_of_word}
use Rattle.spec_moo.specs.Steps.Programming.{requested, opens, begins, own_place, programmable, programmable_at}
use Rattle.player_commands.specs.Openings.{opened, begun, place_among}
use Rattle.player_commands.specs.declared.command_parser.programming.Opening.{Opening}
use Rattle.player_commands.specs.declared.command_parser.programming.Opening.TheVariants.{NotSeen}

-- ---- the place of a verb

pub place_here : (vs : List Verb) (i : ℕ) (v : Verb) (word : Text) → i < length vs → v ≡ get_or vs i v → any_spells v.names word ≡ true → place_of_word word (drop i vs) ≡ Some 0
place_here vs i v word inside is spells =
    ap (place_of_word word) (drop-cons vs i v inside ∙ ap (λ u. u ∷ drop (suc i) vs) (sym is)) ∙ ap (λ b. if b then Some zero else option_map suc (place_of_word word (drop (suc i) vs))) spells

pub place_later : (vs : List Verb) (i : ℕ) (v : Verb) (word : Text) → i < length vs → v ≡ get_or vs i v → any_spells v.names word ≡ false
    → place_of_word word (drop i vs) ≡ option_map suc (place_of_word word (drop (suc i) vs))
place_later vs i v word inside is other =
    ap (place_of_word word) (drop-cons vs i v inside ∙ ap (λ u. u ∷ drop (suc i) vs) (sym is)) ∙ ap (λ b. if b then Some zero else option_map suc (place_of_word word (drop (suc i) vs))) other

one_on : (i : ℕ) → suc i ≡ i + 1
one_on i = omega arith

from_here : (i : ℕ) → Some (0 + i) ≡ Some i
from_here i = ap Some (omega arith)

moved_on : (i : ℕ) (n : Option ℕ) → option_map (λ k. k + i) (option_map suc n) ≡ option_map (λ k. k + (i + 1)) n
moved_on i None = refl
moved_on i (Some n) = ap Some (omega arith)

pub place_found : (vs : List Verb) (i : ℕ) (v : Verb) (word : Text) → i < length vs → v ≡ get_or vs i v → any_spells v.names word ≡ true
    → place_of_word word vs ≡ option_map (λ k. k + i) (place_of_word word (drop i vs)) → Some i ≡ place_of_word word vs
place_found vs i v word inside is spells so = sym (so ∙ ap (option_map (λ k. k + i)) (place_here vs i v word inside is spells) ∙ from_here i)

pub place_on : (vs : List Verb) (i : ℕ) (v : Verb) (word : Text) → i < length vs → v ≡ get_or vs i v → any_spells v.names word ≡ false
    → place_of_word word vs ≡ option_map (λ k. k + i) (place_of_word word (drop i vs)) → place_of_word word vs ≡ option_map (λ k. k + (i + 1)) (place_of_word word (drop (i + 1) vs))
place_on vs i v word inside is other so =
    so
    ∙ ap (option_map (λ k. k + i)) (place_later vs i v word inside is other)
    ∙ moved_on i (place_of_word word (drop (suc i) vs))
    ∙ ap (λ n. option_map (λ k. k + (i + 1)) (place_of_word word (drop n vs))) (one_on i)

pub place_nowhere : (vs : List Verb) (i : ℕ) (word : Text) → length vs ≤ i → place_of_word word vs ≡ option_map (λ k. k + i) (place_of_word word (drop i vs)) → None ≡ place_of_word word vs
place_nowhere vs i word end so = sym (so ∙ ap (λ us. option_map (λ k. k + i) (place_of_word word us)) (drop_all i vs end))

pub at_the_front : (vs : List Verb) (word : Text) → place_of_word word vs ≡ option_map (λ k. k + 0) (place_of_word word vs)
at_the_front vs word = go (place_of_word word vs)
  where
    go : (n : Option ℕ) → n ≡ option_map (λ k. k + 0) n
    go None = refl
    go (Some n) = ap Some (omega arith)

-- ---- a verb of an object

pub own_among : (w : World) (o : ℤ) (vs : Option (List Verb)) (word : Text) → verbs_at w o ≡ vs → own_place (object_at w o) word ≡ place_among vs word
own_among w o vs word is = go (object_at w o) ∙ ap (λ u. place_among u word) is
  where
    go : (x : Option Object) → own_place x word ≡ place_among (option_map (λ y. y.verbs) x) word
    go None = refl
    go (Some x) = refl

pub place_if : (w : World) (who o : ℤ) (n : ℕ) (b : Bool) (place : Option ℕ) → place ≡ Some n → may w who (program_verb o n) ≡ b → programmable_at w who o place ≡ (if b then Some n else None)
place_if w who o n b place at is = ap (programmable_at w who o) at ∙ ap (λ (c : Bool). if c then Some n else None) is

pub programmable_is : (w : World) (who o : ℤ) (vs : Option (List Verb)) (word : Text) (n : Option ℕ) → verbs_at w o ≡ vs → programmable_at w who o (place_among vs word) ≡ n → programmable w who o word ≡ n
programmable_is w who o vs word n is so = ap (programmable_at w who o) (own_among w o vs word is) ∙ so

pub not_there : (w : World) (s : Scene) (c who o : ℤ) (vs : Option (List Verb)) (word : Text) → verbs_at w o ≡ vs → is_none vs ≡ true → opens s c who o word (object_at w o) ≡ opened s c who NotSeen
not_there w s c who o vs word is none = go (object_at w o) (ap is_none is ∙ none)
  where
    go : (x : Option Object) → is_none (option_map (λ y. y.verbs) x) ≡ true → opens s c who o word x ≡ opened s c who NotSeen
    go None e = refl
    go (Some x) e = cc

as_begun : (s : Scene) (c who o : ℤ) (word : Text) (n : Option ℕ) → begins s c who o word n ≡ opened s c who (begun o word n)
as_begun s c who o word None = refl
as_begun s c who o word (Some n) = refl

pub there : (w : World) (s : Scene) (c who o : ℤ) (vs : Option (List Verb)) (word : Text) (n : Option ℕ) → s.world ≡ w → verbs_at w o ≡ vs → is_none vs ≡ false
    → programmable_at w who o (place_among vs word) ≡ n → opens s c who o word (object_at w o) ≡ opened s c who (begun o word n)
there w s c who o vs word n same is some so = go (object_at w o) refl ∙ as_begun s c who o word n
  where
    go : (x : Option Object) → object_at w o ≡ x → opens s c who o word x ≡ begins s c who o word n
    go None e = let none : is_none vs ≡ true = ap is_none (sym is ∙ ap (option_map (λ y. y.verbs)) e) in cc
    go (Some x) e = ap (λ u. begins s c who o word (programmable u who o word)) same ∙ ap (begins s c who o word) (programmable_is w who o vs word n is so)

pub named_first : (w : World) (s : Scene) (c who o : ℤ) (t word : Text) (p : Opening) → s.world ≡ w → name_object w who t ≡ o → opens s c who o word (object_at w o) ≡ opened s c who p
    → requested s c who (line.program_verb t word) ≡ opened s c who p
named_first w s c who o t word p same is so =
    ap (λ u. opens s c who (name_object u who t) word (object_at u (name_object u who t))) same ∙ ap (λ q. opens s c who q word (object_at w q)) is ∙ so

pub ruleset the_places = (place_found, place_on, place_nowhere, at_the_front)
