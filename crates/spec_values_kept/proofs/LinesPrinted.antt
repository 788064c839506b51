-- What is read in a player's line has printed characters alone, and the objects that it names have numbers in their range.
use Rattle.std.proofs.Common.{◌≡◌, ◌≤◌, ◌<◌, ◌^◌, ℕ, zero, suc, ◌+◌, ◌==◌, length, sym, ap, subst, arith, ℤ, Bool, true, false, List, [], ◌∷◌, ◌++◌, filter, take, drop, Option, Some, None, option_map, IsTrue, refl, if◌then◌else◌, codes, is_some}
use Rattle.spec_value.specs.Datum.{text, list, of_list, Text, fold_case, same_text, is_character}
use Rattle.spec_world.specs.World.{World, Object, object_at}
use Rattle.spec_world.specs.WellFormed.{count}
use Rattle.spec_world.specs.Naming.{contents_of, location_of, within_reach, one_of, by_sets, is_named, begins_a_name, by_name, by_words, by_number, object_number, name_object}
use Rattle.spec_world.specs.Words.{Sign, space, quote, backslash, other, sign, Reading, onto, as_words, Readings, taken, read_sign, readings, words, without_spaces, Remainders, leaving, leave_sign, remainders, after_first, expanded_front, expanded}
use Rattle.spec_world.specs.Prepositions.{Preposition, find_preposition}
use Rattle.spec_world.specs.VerbsSought.{Sought, Named, find_verb, find_command_verb}
use Rattle.spec_world.specs.CommandLines as line
use Rattle.spec_world.specs.CommandLines.{Parts, parts_at, parts_of_words, line_parts, named_by, Meant, meant_on, or_then, verb_meant, cut_at_colon, Command, nothing_said, programming, calls_verb, calls_huh, not_understood, huh_or_not, verb_or_huh, asks_to_program, command_or_program, command_said}
use Rattle.spec_moo.specs.Natives.Properties.{as_texts}
use Rattle.spec_moo.specs.Steps.Events.{words_value}
use Rattle.spec_values_kept.specs.Values.{InRange, IsPrinted, AreData, IsKept, Each, IfThere}
use Rattle.spec_values_kept.specs.WorldValues.{ObjectHolds, WorldHolds}
use Rattle.spec_values_kept.proofs.Texts.{text_onto, text_then, first_character, later_text}
use Rattle.spec_values_kept.proofs.Nesting.{Shallow, ShortItems, list_kept}
use Rattle.spec_values_kept.proofs.ValuesGiven.{onto_data}
use Rattle.spec_values_kept.proofs.Tables.{each_together, each_filtered}
use Rattle.spec_values_kept.proofs.WorldChanges.{object_there, objects_there, place_in_range, SoughtHolds, sought_on, verb_sought}
use Rattle.spec_values_kept.proofs.BuiltinsHold.{spaced_printed}

-- ---- words

abbrev ReadingHolds : Reading → Type 0
ReadingHolds r = IsPrinted r.0 × Each IsPrinted r.1

abbrev ReadingsHold : Readings → Type 0
ReadingsHold r =
    Each IsPrinted r.between × (ReadingHolds r.bare × (ReadingHolds r.quoted × (Each IsPrinted r.between_escaped × (ReadingHolds r.bare_escaped × ReadingHolds r.quoted_escaped))))

onto_holds : (c : ℕ) (r : Reading) → IsTrue (is_character c) → ReadingHolds r → ReadingHolds (onto c r)
onto_holds c r i h = (text_onto c r.0 i h.0, h.1)

taken_holds : (c : ℕ) (r : Readings) (b : List Text) (s q : Reading) → IsTrue (is_character c) → ReadingsHold r → Each IsPrinted b → ReadingHolds s → ReadingHolds q
    → ReadingsHold (taken c r b s q)
taken_holds c r b s q i h k l m =
    let bare = onto_holds c r.bare i (h.1).0 in (k, (l, (m, ((bare.0, bare.1), (bare, onto_holds c r.quoted i ((h.1).1).0)))))

sign_holds : (g : Sign) (c : ℕ) (r : Readings) → IsTrue (is_character c) → ReadingsHold r → ReadingsHold (read_sign g c r)
sign_holds space c r i h = taken_holds c r r.between ([], r.between) (onto c r.quoted) i h h.0 (refl, h.0) (onto_holds c r.quoted i ((h.1).1).0)
sign_holds quote c r i h = taken_holds c r (as_words r.quoted) r.quoted r.bare i h ((((h.1).1).0).0, (((h.1).1).0).1) ((h.1).1).0 (h.1).0
sign_holds backslash c r i h =
    taken_holds c r r.between_escaped r.bare_escaped r.quoted_escaped i h ((((h.1).1).1).0) (((((h.1).1).1).1).0) (((((h.1).1).1).1).1)
sign_holds other c r i h =
    let bare = onto_holds c r.bare i (h.1).0 in taken_holds c r (as_words (onto c r.bare)) (onto c r.bare) (onto c r.quoted) i h (bare.0, bare.1) bare (onto_holds c r.quoted i ((h.1).1).0)

readings_hold : (t : Text) → IsPrinted t → ReadingsHold (readings t)
readings_hold [] h = (tt, ((refl, tt), ((refl, tt), (tt, ((refl, tt), (refl, tt))))))
readings_hold (c ∷ t) h = sign_holds (sign c) c (readings t) (first_character c t h) (readings_hold t (later_text c t h))

pub words_printed : (t : Text) → IsPrinted t → Each IsPrinted (words t)
unfolding words
words_printed t h = (readings_hold t h).0

-- ---- what stands behind the first word

spaceless : (t : Text) → IsPrinted t → IsPrinted (without_spaces t)
unfolding without_spaces
spaceless [] h = refl
spaceless (c ∷ t) h = go (c == 32) (spaceless t (later_text c t h))
  where
    go : (b : Bool) → IsPrinted (without_spaces t) → IsPrinted (if b then without_spaces t else c ∷ t)
    go true later = later
    go false later = h

abbrev RemaindersHold : Remainders → Type 0
RemaindersHold r = IsPrinted r.before × (IsPrinted r.bare × (IsPrinted r.quoted × (IsPrinted r.bare_escaped × IsPrinted r.quoted_escaped)))

leaving_holds : (r : Remainders) (b s q : Text) → RemaindersHold r → IsPrinted b → IsPrinted s → IsPrinted q → RemaindersHold (leaving r b s q)
leaving_holds r b s q h i j k = (i, (j, (k, ((h.1).0, ((h.1).1).0))))

leave_holds : (g : Sign) (t : Text) (r : Remainders) → IsPrinted t → RemaindersHold r → RemaindersHold (leave_sign g t r)
leave_holds space t r i h = leaving_holds r r.before (without_spaces t) r.quoted h h.0 (spaceless t i) ((h.1).1).0
leave_holds quote t r i h = leaving_holds r r.quoted r.quoted r.bare h ((h.1).1).0 ((h.1).1).0 (h.1).0
leave_holds backslash t r i h =
    leaving_holds r r.bare_escaped r.bare_escaped r.quoted_escaped h ((((h.1).1).1).0) ((((h.1).1).1).0) ((((h.1).1).1).1)
leave_holds other t r i h = leaving_holds r r.bare r.bare r.quoted h (h.1).0 (h.1).0 ((h.1).1).0

remainders_hold : (t : Text) → IsPrinted t → RemaindersHold (remainders t)
remainders_hold [] h = (refl, (refl, (refl, (refl, refl))))
remainders_hold (c ∷ t) h = leave_holds (sign c) t (remainders t) (later_text c t h) (remainders_hold t (later_text c t h))

after_printed : (t : Text) → IsPrinted t → IsPrinted (after_first t)
unfolding after_first
after_printed t h = (remainders_hold t h).0

-- ---- signs at the front

pub expanded_printed : (t : Text) → IsPrinted t → IsPrinted (expanded t)
unfolding expanded
expanded_printed t h = front (without_spaces t) (spaceless t h)
  where
    spelled : (c : ℕ) (u : Text) → IsPrinted (c ∷ u) → (a b d : Bool)
        → IsPrinted (if a then codes "say " ++ u else if b then codes "emote " ++ u else if d then codes "eval " ++ u else c ∷ u)
    spelled c u k true b d = text_then (codes "say ") u refl (later_text c u k)
    spelled c u k false true d = text_then (codes "emote ") u refl (later_text c u k)
    spelled c u k false false true = text_then (codes "eval ") u refl (later_text c u k)
    spelled c u k false false false = k

    front : (u : Text) → IsPrinted u → IsPrinted (expanded_front u)
    front [] k = refl
    front (c ∷ u) k = spelled c u k (c == 34) (c == 58) (c == 59)

texts_listed : (ts : List Text) → Each IsPrinted ts → AreData (of_list (as_texts ts))
texts_listed [] h = refl
texts_listed (t ∷ ts) h = onto_data (text t) (of_list (as_texts ts)) h.0 (texts_listed ts h.1)

texts_nest : (ts : List Text) → Shallow (of_list (as_texts ts))
texts_nest [] = refl
texts_nest (t ∷ ts) = texts_nest ts

texts_are_short : (ts : List Text) → ShortItems (of_list (as_texts ts))
texts_are_short [] = refl
texts_are_short (t ∷ ts) = texts_are_short ts

texts_counted : (ts : List Text) → count (of_list (as_texts ts)) ≡ length ts
texts_counted [] = refl
texts_counted (t ∷ ts) = ap suc (texts_counted ts)

-- fewer words than there are numbers
abbrev pub WordsHold : List Text → Type 0
WordsHold ts = Each IsPrinted ts × (length ts < 2 ^ 31)

pub listed_words : (ts : List Text) → WordsHold ts → IsKept (list (of_list (as_texts ts)))
listed_words ts h =
    list_kept (of_list (as_texts ts)) (texts_nest ts) (subst (λ n. n < 2 ^ 31) (sym (texts_counted ts)) h.1) (texts_are_short ts) (texts_listed ts h.0)

-- a line has no more words than characters

record FewWords (r : Readings) (n : ℕ) : Type 0 where
  between : length r.between ≤ n
  bare : length (r.bare).1 ≤ n
  quoted : length (r.quoted).1 ≤ n
  between_escaped : length r.between_escaped ≤ n
  bare_escaped : length (r.bare_escaped).1 ≤ n
  quoted_escaped : length (r.quoted_escaped).1 ≤ n

few_read : (g : Sign) (c n : ℕ) (r : Readings) → FewWords r n → FewWords (read_sign g c r) (suc n)
few_read space c n r f =
    let a = f.between in let b = f.bare in let q = f.quoted in
    record { between = omega (arith, a); bare = omega (arith, a); quoted = omega (arith, q); between_escaped = omega (arith, b); bare_escaped = omega (arith, b); quoted_escaped = omega (arith, q) }
few_read quote c n r f =
    let b = f.bare in let q = f.quoted in
    record { between = omega (arith, q); bare = omega (arith, q); quoted = omega (arith, b); between_escaped = omega (arith, b); bare_escaped = omega (arith, b); quoted_escaped = omega (arith, q) }
few_read backslash c n r f =
    let b = f.bare in let q = f.quoted in let x = f.between_escaped in let y = f.bare_escaped in let z = f.quoted_escaped in
    record { between = omega (arith, x); bare = omega (arith, y); quoted = omega (arith, z); between_escaped = omega (arith, b); bare_escaped = omega (arith, b); quoted_escaped = omega (arith, q) }
few_read other c n r f =
    let b = f.bare in let q = f.quoted in
    record { between = omega (arith, b); bare = omega (arith, b); quoted = omega (arith, q); between_escaped = omega (arith, b); bare_escaped = omega (arith, b); quoted_escaped = omega (arith, q) }

few_readings : (t : Text) → FewWords (readings t) (length t)
few_readings [] = record { between = omega arith; bare = omega arith; quoted = omega arith; between_escaped = omega arith; bare_escaped = omega arith; quoted_escaped = omega arith }
few_readings (c ∷ t) = few_read (sign c) c (length t) (readings t) (few_readings t)

words_few : (t : Text) → length (words t) ≤ length t
unfolding words
words_few t = (few_readings t).between

without_fewer : (t : Text) → length (without_spaces t) ≤ length t
unfolding without_spaces
without_fewer [] = omega arith
without_fewer (c ∷ t) = go (c == 32) (without_fewer t)
  where
    go : (b : Bool) → length (without_spaces t) ≤ length t → length (if b then without_spaces t else c ∷ t) ≤ suc (length t)
    go true l = omega (arith, l)
    go false l = omega arith

expanded_short : (t : Text) → length (expanded t) ≤ length t + 5
unfolding expanded
expanded_short t = front (without_spaces t) (without_fewer t)
  where
    spelled : (c : ℕ) (u : Text) → suc (length u) ≤ length t → (a b d : Bool)
        → length (if a then codes "say " ++ u else if b then codes "emote " ++ u else if d then codes "eval " ++ u else c ∷ u) ≤ length t + 5
    spelled c u l true b d = omega (arith, l)
    spelled c u l false true d = omega (arith, l)
    spelled c u l false false true = omega (arith, l)
    spelled c u l false false false = omega (arith, l)

    front : (u : Text) → length u ≤ length t → length (expanded_front u) ≤ length t + 5
    front [] l = omega arith
    front (c ∷ u) l = spelled c u l (c == 34) (c == 58) (c == 59)

line_words : (t : Text) → IsPrinted t → length t ≤ 4096 → WordsHold (words (expanded t))
line_words t h l =
    let few : length (words (expanded t)) ≤ length (expanded t) = words_few (expanded t) in let short : length (expanded t) ≤ length t + 5 = expanded_short t in
    (words_printed (expanded t) (expanded_printed t h), omega (arith, l, few, short))

pub words_are_values : (t : Text) → IsPrinted t → length t ≤ 4096 → IsKept (list (words_value t))
words_are_values t h l = listed_words (words (expanded t)) (line_words t h l)

-- ---- the parts of a line

abbrev pub PartsHold : Parts → Type 0
PartsHold p = IsPrinted p.verb × (WordsHold p.args × (IsPrinted p.argstr × (IsPrinted p.dobjstr × (IsPrinted p.prepstr × IsPrinted p.iobjstr))))

taken_words : (n : ℕ) (ts : List Text) → Each IsPrinted ts → Each IsPrinted (take n ts)
taken_words zero ts h = tt
taken_words (suc n) [] h = tt
taken_words (suc n) (t ∷ ts) h = (h.0, taken_words n ts h.1)

dropped_words : (n : ℕ) (ts : List Text) → Each IsPrinted ts → Each IsPrinted (drop n ts)
dropped_words zero ts h = h
dropped_words (suc n) [] h = tt
dropped_words (suc n) (t ∷ ts) h = dropped_words n ts h.1

parts_at_hold : (verb : Text) (args : List Text) (argstr : Text) (m : Option Preposition) → IsPrinted verb → WordsHold args → IsPrinted argstr
    → PartsHold (parts_at verb args argstr m)
parts_at_hold verb args argstr None h k l = (h, (k, (l, (spaced_printed args k.0, (refl, refl)))))
parts_at_hold verb args argstr (Some p) h k l = (
  h,
  (
    k,
    (
      l,
      (
        spaced_printed (take p.start args) (taken_words p.start args k.0),
        (spaced_printed (take p.size (drop p.start args)) (taken_words p.size (drop p.start args) (dropped_words p.start args k.0)), spaced_printed (drop (p.start + p.size) args) (dropped_words (p.start + p.size) args k.0)),
      ),
    ),
  ),
)

line_parts_hold : (t : Text) → IsPrinted t → length t ≤ 4096 → IfThere PartsHold (line_parts t)
unfolding line_parts
line_parts_hold t h l = go (words (expanded t)) (line_words t h l)
  where
    go : (ts : List Text) → WordsHold ts → IfThere PartsHold (parts_of_words (expanded t) ts)
    go [] k = tt
    go (u ∷ us) k =
        let n : suc (length us) < 2 ^ 31 = k.1 in
        parts_at_hold u us (after_first (expanded t)) (find_preposition us) (k.0).0 ((k.0).1, omega (arith, n)) (after_printed (expanded t) (expanded_printed t h))

-- ---- objects that are named

contents_in_range : (m : Option Object) → IfThere ObjectHolds m → Each InRange (contents_of m)
contents_in_range None h = tt
contents_in_range (Some x) h = ((h.1).1).0

reach_in_range : (w : World) (who : ℤ) → WorldHolds w → Each InRange (within_reach w who)
reach_in_range w who h =
    each_together InRange (contents_of (object_at w who)) _ (contents_in_range (object_at w who) (objects_there w who h))
    (contents_in_range (object_at w (location_of (object_at w who))) (objects_there w (location_of (object_at w who)) h))

one_in_range : (os : List ℤ) → Each InRange os → InRange (one_of os)
one_in_range [] h = refl
one_in_range (o ∷ []) h = h.0
one_in_range (o ∷ p ∷ os) h = refl

sets_in_range : (os ps : List ℤ) → Each InRange os → Each InRange ps → InRange (by_sets os ps)
sets_in_range [] ps h k = one_in_range ps k
sets_in_range (o ∷ os) ps h k = one_in_range (o ∷ os) h

words_in_range : (w : World) (who : ℤ) (t : Text) → InRange who → WorldHolds w → InRange (by_words w who t)
words_in_range w who t i h = go (same_text (fold_case t) (codes "me")) (same_text (fold_case t) (codes "here"))
  where
    go : (a b : Bool) → InRange (if a then who else if b then location_of (object_at w who) else by_name w who t)
    go true b = i
    go false true = place_in_range w who h
    go false false =
        sets_in_range (filter (is_named w t) (within_reach w who)) (filter (begins_a_name w t) (within_reach w who))
        (each_filtered InRange (is_named w t) (within_reach w who) (reach_in_range w who h)) (each_filtered InRange (begins_a_name w t) (within_reach w who) (reach_in_range w who h))

number_in_range : (w : World) (who : ℤ) (t : Text) (m : Option ℤ) → InRange who → WorldHolds w → InRange (by_number w who t m)
number_in_range w who t None i h = words_in_range w who t i h
number_in_range w who t (Some o) i h = go (object_at w o) refl
  where
    go : (m : Option Object) → object_at w o ≡ m → InRange (if is_some m then o else by_words w who t)
    go None e = words_in_range w who t i h
    go (Some x) e = (object_there w o x h e).0

pub named_in_range : (w : World) (who : ℤ) (t : Text) → InRange who → WorldHolds w → InRange (name_object w who t)
unfolding name_object
named_in_range w who [] i h = refl
named_in_range w who (c ∷ t) i h = number_in_range w who (c ∷ t) (object_number (c ∷ t)) i h

abbrev pub NamedHolds : Named → Type 0
NamedHolds n = InRange n.direct × InRange n.indirect

named_holds : (w : World) (who : ℤ) (p : Parts) → InRange who → WorldHolds w → NamedHolds (named_by w who p)
named_holds w who p i h = (named_in_range w who p.dobjstr i h, named_in_range w who p.iobjstr i h)

-- ---- the verb that is meant

abbrev pub MeantHolds : Meant → Type 0
MeantHolds m = InRange m.this × SoughtHolds m.sought

meant_holds : (w : World) (word : Text) (n : Named) (o : ℤ) → InRange o → WorldHolds w → IfThere MeantHolds (meant_on w word n o)
unfolding find_command_verb
meant_holds w word n o i h = go (find_command_verb w o word n) (sought_on w _ _ h)
  where
    go : (f : Option Sought) → IfThere SoughtHolds f → IfThere MeantHolds (option_map (λ s. record { this = o; sought = s }) f)
    go None k = tt
    go (Some f) k = (i, k)

one_meant : (a b : Option Meant) → IfThere MeantHolds a → IfThere MeantHolds b → IfThere MeantHolds (or_then a b)
one_meant None b h k = k
one_meant (Some m) b h k = h

-- ---- commands

abbrev pub RequestHolds : line.Request → Type 0
RequestHolds (line.program_verb t v) = IsPrinted t × IsPrinted v
RequestHolds line.other_form = Unit {0}

cut_holds : (t : Text) → IsPrinted t → IfThere (λ (r : Text × Text). IsPrinted r.0 × IsPrinted r.1) (cut_at_colon t)
cut_holds [] h = tt
cut_holds (c ∷ t) h = go (c == 58) (cut_at_colon t) (cut_holds t (later_text c t h))
  where
    go : (b : Bool) (o : Option (Text × Text)) → IfThere (λ (r : Text × Text). IsPrinted r.0 × IsPrinted r.1) o
        → IfThere (λ (r : Text × Text). IsPrinted r.0 × IsPrinted r.1) (if b then Some ([], t) else option_map (λ r. (c ∷ r.0, r.1)) o)
    go true o k = (refl, later_text c t h)
    go false None k = tt
    go false (Some r) k = (text_onto c r.0 (first_character c t h) k.0, k.1)

request_holds : (ts : List Text) → Each IsPrinted ts → RequestHolds (line.request_of ts)
request_holds [] h = tt
request_holds (t ∷ []) h = go (cut_at_colon t) refl (cut_holds t h.0)
  where
    go : (o : Option (Text × Text)) → cut_at_colon t ≡ o → IfThere (λ (r : Text × Text). IsPrinted r.0 × IsPrinted r.1) o → RequestHolds (line.request_of (t ∷ []))
    go None e k = rw e tt
    go (Some r) e k = rw e k
request_holds (t ∷ u ∷ ts) h = tt

abbrev pub CommandHolds : Command → Type 0
CommandHolds nothing_said = Unit {0}
CommandHolds (programming r) = RequestHolds r
CommandHolds (calls_verb p n m) = PartsHold p × (NamedHolds n × MeantHolds m)
CommandHolds (calls_huh p n f) = PartsHold p × (NamedHolds n × SoughtHolds f)
CommandHolds not_understood = Unit {0}

pub command_holds : (w : World) (who : ℤ) (t : Text) → InRange who → IsPrinted t → length t ≤ 4096 → WorldHolds w → CommandHolds (command_said w who t)
unfolding command_said
command_holds w who t i j l h = go (line_parts t) (line_parts_hold t j l)
  where
    huh : (p : Parts) (n : Named) (f : Option Sought) → PartsHold p → NamedHolds n → IfThere SoughtHolds f → CommandHolds (huh_or_not p n f)
    huh p n None a b k = tt
    huh p n (Some f) a b k = (a, (b, k))

    verb : (p : Parts) (n : Named) (m : Option Meant) → PartsHold p → NamedHolds n → IfThere MeantHolds m → CommandHolds (verb_or_huh w who p n m)
    verb p n (Some m) a b k = (a, (b, k))
    verb p n None a b k = huh p n (find_verb w (location_of (object_at w who)) (codes "huh")) a b (verb_sought w (location_of (object_at w who)) (codes "huh") h)

    meant : (word : Text) (n : Named) → NamedHolds n → IfThere MeantHolds (verb_meant w who word n)
    meant word n b =
        one_meant _ _ (meant_holds w word n who i h) (one_meant _ _ (meant_holds w word n (location_of (object_at w who)) (place_in_range w who h) h)
        (one_meant _ _ (meant_holds w word n n.direct b.0 h) (meant_holds w word n n.indirect b.1 h)))

    asks : (p : Parts) (b : Bool) → PartsHold p → CommandHolds (if b then programming (line.request_of p.args) else verb_or_huh w who p (named_by w who p) (verb_meant w who p.verb (named_by w who p)))
    asks p true a = request_holds p.args ((a.1).0).0
    asks p false a =
        let n = named_holds w who p i h in verb p (named_by w who p) (verb_meant w who p.verb (named_by w who p)) a n (meant p.verb (named_by w who p) n)

    go : (o : Option Parts) → IfThere PartsHold o → CommandHolds (command_or_program w who o)
    go None a = tt
    go (Some p) a = asks p (asks_to_program w who p) a
