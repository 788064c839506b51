-- Which object is meant, from what was asked.
use Rattle.std.proofs.Common.{◌≡◌, ℕ, ◌<◌, ◌≤◌, ℤ, pos, negsuc, Bool, true, false, ◌&&◌, ◌||◌, List, [], ◌∷◌, ◌++◌, length, Option, Some, None, IsTrue, refl, sym, ap, ◌∙◌, arith, codes, is_some, get_or, drop, drop-cons, add-one, ◌+◌, if◌then◌else◌}
use Rattle.std.specs.Prelude.{option_map, int_le, unwrap_or}
use Rattle.std.proofs.lemmas.Bool.{true≢false}
use Rattle.std.proofs.lemmas.Bool.Decides.{nat_tests}
use Rattle.std.proofs.lemmas.List.{drop_all}
use Rattle.std.proofs.lemmas.List.Folds.{list_any-append}
use Rattle.spec_value.specs.Datum.{Datum, Text, fold_case, same_text}
use Rattle.spec_value.specs.TextSearch.{begins}
use Rattle.spec_value.proofs.Entries.{first_holds, second_holds, both_hold}
use Rattle.spec_world.specs.World.{World, Object, Header, object_at}
use Rattle.spec_world.specs.Inherit.{property_value}
use Rattle.spec_world.specs.Questions.{header_at, contents_at}
use Rattle.spec_world.specs.Agreeing.{ObjectsAgree}
use Rattle.spec_world.specs.Naming.{object_number, name_object, by_number, by_words, by_name, contents_of, location_of, name_of, aliases_in, within_reach}
use Rattle.player_commands.specs.Numbers.{IsNoObject, IsNumberOf}
use Rattle.player_commands.specs.Fits.{some_fit, either_fit, named_in, object_fit, answer_of, with_object, with_objects, no_matches}
use Rattle.player_commands.specs.declared.object_match.fit.Fit.{Fit}
use Rattle.player_commands.specs.declared.object_match.tally.Matches.{Matches}
use Rattle.player_commands.proofs.Tallies.{objects_answered, objects_joined}

-- ---- by a number

-- objects are numbered from 0 to 999,999 at most
least_than : (k : ℕ) (z : ℤ) → IsTrue (int_le (pos k) z) → IsTrue (int_le z (pos 999999)) → IsTrue (int_le (pos k) (pos 2147483647))
least_than k (pos n) low high = grind (arith, nat_tests)
least_than k (negsuc n) low high = cc

beyond : (n g : ℤ) → IsTrue (int_le (pos 0) n && int_le n g) → IsTrue (int_le (negsuc 0) g && int_le g (pos 999999)) → IsTrue (int_le (pos 0) n && int_le n (pos 2147483647))
beyond (pos k) g fits range =
    both_hold (int_le (pos 0) (pos k)) (int_le (pos k) (pos 2147483647)) (first_holds (int_le (pos 0) (pos k)) (int_le (pos k) g) fits)
    (least_than k g (second_holds (int_le (pos 0) (pos k)) (int_le (pos k) g) fits) (second_holds (int_le (negsuc 0) g) (int_le g (pos 999999)) range))
beyond (negsuc k) g fits range = let low : IsTrue (int_le (pos 0) (negsuc k)) = first_holds (int_le (pos 0) (negsuc k)) (int_le (negsuc k) g) fits in cc

no_object_has : (w : World) (n : ℤ) → ObjectsAgree w → IsNoObject n → object_at w n ≡ None
no_object_has w n sound far = go (object_at w n) refl
  where
    go : (x : Option Object) → object_at w n ≡ x → x ≡ None
    go None e = refl
    go (Some x) e = absurd (true≢false (sym (beyond n w.greatest (sound.numbers n x e) sound.greatest_in_range) ∙ far))

by_far_number : (w : World) (player : ℤ) (t : Text) → ObjectsAgree w → IsNumberOf (object_number t) None → by_number w player t (object_number t) ≡ by_words w player t
by_far_number w player t sound = go (object_number t)
  where
    go : (n : Option ℤ) → IsNumberOf n None → by_number w player t n ≡ by_words w player t
    go None far = refl
    go (Some n) far = ap (λ x. if is_some x then n else by_words w player t) (no_object_has w n sound far)

by_near_number : (w : World) (player : ℤ) (t : Text) (o : ℤ) → IsNumberOf (object_number t) (Some o) → by_number w player t (object_number t) ≡ by_number w player t (Some o)
by_near_number w player t o = go (object_number t)
  where
    go : (n : Option ℤ) → IsNumberOf n (Some o) → by_number w player t n ≡ by_number w player t (Some o)
    go None e = cc
    go (Some n) e = ap (λ m. by_number w player t (Some m)) (sym e)

pub numbered_there : (w : World) (player : ℤ) (t : Text) (o : ℤ) (h : Option Header) → header_at w o ≡ h → is_some h ≡ true → by_number w player t (Some o) ≡ o
numbered_there w player t o h is some = go (object_at w o) (ap is_some is ∙ some)
  where
    go : (x : Option Object) → is_some (option_map (λ y. y.header) x) ≡ true → (if is_some x then o else by_words w player t) ≡ o
    go None e = cc
    go (Some x) e = refl

pub numbered_gone : (w : World) (player : ℤ) (t : Text) (o n : ℤ) (h : Option Header) → header_at w o ≡ h → is_some h ≡ false → by_words w player t ≡ n → by_number w player t (Some o) ≡ n
numbered_gone w player t o n h is none so = go (object_at w o) (ap is_some is ∙ none) ∙ so
  where
    go : (x : Option Object) → is_some (option_map (λ y. y.header) x) ≡ false → (if is_some x then o else by_words w player t) ≡ by_words w player t
    go None e = refl
    go (Some x) e = cc

pub name_of_none : (w : World) (player : ℤ) (t : Text) → length t ≡ 0 → name_object w player t ≡ negsuc 0
unfolding name_object
name_of_none w player [] none = refl
name_of_none w player (c ∷ t) none = absurd (omega arith)

name_of_some : (w : World) (player : ℤ) (t : Text) → 0 < length t → name_object w player t ≡ by_number w player t (object_number t)
unfolding name_object
name_of_some w player [] some = absurd (omega arith)
name_of_some w player (c ∷ t) some = refl

pub name_by_number : (w : World) (player : ℤ) (t : Text) (o n : ℤ) → 0 < length t → IsNumberOf (object_number t) (Some o) → by_number w player t (Some o) ≡ n → name_object w player t ≡ n
name_by_number w player t o n some is so = name_of_some w player t some ∙ by_near_number w player t o is ∙ so

pub name_by_words : (w : World) (player : ℤ) (t : Text) (n : ℤ) → ObjectsAgree w → 0 < length t → IsNumberOf (object_number t) None → by_words w player t ≡ n → name_object w player t ≡ n
name_by_words w player t n sound some is so = name_of_some w player t some ∙ by_far_number w player t sound is ∙ so

-- ---- by words

pub location_there : (w : World) (o : ℤ) (h : Header) → header_at w o ≡ Some h → location_of (object_at w o) ≡ h.location
location_there w o h is = go (object_at w o) is
  where
    go : (x : Option Object) → option_map (λ y. y.header) x ≡ Some h → location_of x ≡ h.location
    go None e = cc
    go (Some x) e = let same : x.header ≡ h = cc in ap (λ (k : Header). k.location) same

held_in : (w : World) (o : ℤ) (os : Option (List ℤ)) → contents_at w o ≡ os → contents_of (object_at w o) ≡ unwrap_or os []
held_in w o os is = go (object_at w o) ∙ ap (λ ps. unwrap_or ps []) is
  where
    go : (x : Option Object) → contents_of x ≡ unwrap_or (option_map (λ y. y.contents) x) []
    go None = refl
    go (Some x) = refl

pub each_within : (w : World) (o : ℤ) (t : Text) (m n : Matches) (os : List ℤ) → contents_at w o ≡ Some os → with_objects w t m os ≡ n → with_objects w t m (contents_of (object_at w o)) ≡ n
each_within w o t m n os is so = ap (with_objects w t m) (held_in w o (Some os) is) ∙ so

pub found_by_name : (w : World) (player room : ℤ) (t : Text) (held m : Matches) → with_objects w t no_matches (contents_of (object_at w player)) ≡ held
    → location_of (object_at w player) ≡ room → with_objects w t held (contents_of (object_at w room)) ≡ m → by_name w player t ≡ answer_of m
found_by_name w player room t held m held_is room_is m_is =
    sym (objects_answered w t (within_reach w player))
    ∙ ap answer_of
    (objects_joined w t no_matches (contents_of (object_at w player)) (contents_of (object_at w (location_of (object_at w player))))
    ∙ ap (λ n. with_objects w t n (contents_of (object_at w (location_of (object_at w player))))) held_is
    ∙ ap (λ o. with_objects w t held (contents_of (object_at w o))) room_is
    ∙ m_is)

-- `me` and `here`
pub the_player : (w : World) (player : ℤ) (t : Text) → same_text (fold_case t) (codes "me") ≡ true → by_words w player t ≡ player
the_player w player t is =
    ap (λ b. if b then player else if same_text (fold_case t) (codes "here") then location_of (object_at w player) else by_name w player t) is

-- ---- one object's names

both : (a b c d : Bool) → a ≡ b → c ≡ d → ◌≡◌ {A = Fit} (record { exact = a; beginning = c }) (record { exact = b; beginning = d })
both a b c d e f = λ i. record { exact = e i; beginning = f i }

fits_joined : (ns ms : List Text) (t : Text) → some_fit (ns ++ ms) t ≡ either_fit (some_fit ns t) (some_fit ms t)
fits_joined ns ms t =
    both _ _ _ _ (list_any-append (λ n. same_text (fold_case n) (fold_case t)) ns ms) (list_any-append (λ n. begins true (fold_case n) (fold_case t)) ns ms)

pub object_fits : (w : World) (o : ℤ) (t : Text) (h : Option Header) (v : Option Datum) → header_at w o ≡ h → property_value w o (codes "aliases") ≡ v
    → object_fit w t o ≡ either_fit (some_fit (named_in h) t) (some_fit (aliases_in v) t)
object_fits w o t h v is value =
    ap (λ ns. some_fit ns t) (ap (λ ns. ns ++ aliases_in (property_value w o (codes "aliases"))) (go (object_at w o) ∙ ap named_in is) ∙ ap (λ x. named_in h ++ aliases_in x) value)
    ∙ fits_joined (named_in h) (aliases_in v) t
  where
    go : (x : Option Object) → name_of x ≡ named_in (option_map (λ y. y.header) x)
    go None = refl
    go (Some x) = refl

each_fits : (w : World) (t : Text) (m : Matches) (o : ℤ) (f : Fit) (os : List ℤ) (goal : Matches) → with_objects w t m (o ∷ os) ≡ goal → object_fit w t o ≡ f → with_objects w t (with_object m o f) os ≡ goal
each_fits w t m o f os goal so is = ap (λ g. with_objects w t (with_object m o g) os) (sym is) ∙ so

-- a text that is the name fits whatever aliases there are
pub name_fits : (w : World) (o : ℤ) (t : Text) (h : Option Header) → header_at w o ≡ h → (some_fit (named_in h) t).exact ≡ true → (some_fit (named_in h) t).beginning ≡ true
    → object_fit w t o ≡ some_fit (named_in h) t
name_fits w o t h is exact beginning =
    let rest : Fit = some_fit (aliases_in (property_value w o (codes "aliases"))) t in
    object_fits w o t h (property_value w o (codes "aliases")) is refl
    ∙ both _ _ _ _ (ap (λ b. b || rest.exact) exact ∙ sym exact) (ap (λ b. b || rest.beginning) beginning ∙ sym beginning)

-- one object further
pub each_next : (w : World) (t : Text) (m n : Matches) (f : Fit) (os : List ℤ) (i : ℕ) (goal : Matches) → i < length os → n ≡ with_object m (get_or os i (pos 0)) f
    → with_objects w t m (drop i os) ≡ goal → object_fit w t (get_or os i (pos 0)) ≡ f → with_objects w t n (drop (i + 1) os) ≡ goal
each_next w t m n f os i goal inside e so is =
    let split : drop i os ≡ get_or os i (pos 0) ∷ drop (i + 1) os = rw (add-one, drop-cons os i (pos 0)) refl in
    ap (λ x. with_objects w t x (drop (i + 1) os)) e ∙ each_fits w t m (get_or os i (pos 0)) f (drop (i + 1) os) goal (ap (with_objects w t m) (sym split) ∙ so) is

pub each_done : (w : World) (t : Text) (m : Matches) (os : List ℤ) (i : ℕ) (goal : Matches) → length os ≤ i → with_objects w t m (drop i os) ≡ goal → goal ≡ m
each_done w t m os i goal end so = sym so ∙ ap (with_objects w t m) (drop_all i os end)
