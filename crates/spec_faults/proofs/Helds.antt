-- Where a verb stands that waits, and the values that it holds, outermost first.
use Rattle.std.proofs.Common.{◌≡◌, ℕ, zero, suc, ◌+◌, ◌<◌, ◌^◌, ◌==◌, ◌&&◌, ◌||◌, nat_le, pos, Bool, true, false, List, [], ◌∷◌, ◌++◌, map, length, take, codes, if◌then◌else◌, Option, Some, None, IsTrue, refl, ap, sym, subst, ◌∙◌, arith, append_assoc, length-append}
use Rattle.std.specs.Prelude.{option_map}
use Rattle.std.proofs.lemmas.Bool.Decides.{nat_tests}
use Rattle.std.proofs.lemmas.List.{append-nil}
use Rattle.std.specs.List.{list_all}
use Rattle.std.specs.Fmt.{decimal, digits}
use Rattle.std.proofs.lemmas.Fmt.{decimal_nonempty}
use Rattle.spec_value.specs.Datum.{Text, same_text, Datum, integer, object, list, Data, no_data, item, is_value}
use Rattle.spec_value.specs.Literal.{literal}
use Rattle.spec_value.proofs.Entries.{first_holds, second_holds, both_hold}
use Rattle.spec_program.specs.Names.{is_digit}
use Rattle.spec_program.specs.Construct.{Construct, of_program, Piece}
use Rattle.spec_program.specs.Place.{Kind, Holds, holds, walks_list, walks_range, why_left, Part, part_at, tree_of, Linked, held_count, is_call}
use Rattle.spec_world.specs.World.{Frame}
use Rattle.spec_world.specs.WellFormed.{nonempty, count, kind_fits, kinds_fit, held_fits, is_loop, loops, part_fits, pieces_fit, StandsAtCall}
use Rattle.spec_world.specs.Checkpoint.{fields, with_dots, path, part_numbers, values_held, literal_lines}
use Rattle.spec_checkpoint.specs.Holding.{piece_holds}
use Rattle.spec_checkpoint.proofs.Numbers.{are_digits, decimal_digits}
use Rattle.spec_checkpoint.proofs.CodeLines.{all_both}
use Rattle.spec_checkpoint.proofs.Turned.{turned, turned_holds}
use Rattle.spec_checkpoint.proofs.Paths.{parts_of, is_place}
use Rattle.spec_faults.specs.Cutting.{field_at, onto_first}
use Rattle.spec_faults.specs.Plain as plain
use Rattle.spec_faults.specs.Plain.{number_in, with_dot, between_dots, is_path, beginning, path_in}
use Rattle.spec_faults.specs.Literals.{value_of, any}
use Rattle.spec_faults.specs.Codes.{in_tree, in_part, holds_down, total, begins_held}
use Rattle.spec_faults.specs.Forms as form
use Rattle.spec_faults.specs.Forms.{Wanted, word, other, value}
use Rattle.spec_faults.specs.Awaited.{Awaited, values, each_held, with_value, one_value, only_if, goes_on, told, holds_at}
use Rattle.spec_world.specs.Checkpoint as fault
use Rattle.spec_faults.specs.FieldLaws.{is_unmarked, unmarked}
use Rattle.spec_faults.specs.Reach.{is_near}
use Rattle.spec_faults.proofs.Spelling.{numbers_told}
use Rattle.spec_faults.proofs.LiteralsBack.{values_told}
use Rattle.spec_faults.proofs.FieldsBack.{decimal_unmarked}
use Rattle.spec_faults.proofs.Suiting.{Suits, form_told}
use Rattle.spec_faults.proofs.FieldsSuit.{filled, a_number, a_value}
use Rattle.spec_faults.proofs.Fine.{Fine, fine_same, fine_line}

-- ---- places

abbrev places : List ℕ → Bool
places ns = list_all is_place ns

place_small : (n : ℕ) → IsTrue (is_place n) → n < 2 ^ 64
place_small n h = grind (arith, nat_tests)

place_counted : (n : ℕ) → IsTrue (is_place n) → IsTrue (nat_le 1 n && nat_le n 9223372036854775807)
place_counted n h = grind (arith, nat_tests)

no_dot : (c : ℕ) → IsTrue (is_digit c) → (c == 46) ≡ false
no_dot c h = grind (arith, nat_tests)

digits_whole : (ds : Text) → IsTrue (are_digits ds) → between_dots ds ≡ ds ∷ []
digits_whole [] h = refl
digits_whole (d ∷ ds) h =
    ap (λ b. with_dot b d (between_dots ds)) (no_dot d (first_holds (is_digit d) (are_digits ds) h)) ∙ ap (onto_first d) (digits_whole ds (second_holds (is_digit d) (are_digits ds) h))

digits_dot : (ds r : Text) → IsTrue (are_digits ds) → between_dots (ds ++ 46 ∷ r) ≡ ds ∷ between_dots r
digits_dot [] r h = refl
digits_dot (d ∷ ds) r h =
    ap (λ b. with_dot b d (between_dots (ds ++ 46 ∷ r))) (no_dot d (first_holds (is_digit d) (are_digits ds) h)) ∙ ap (onto_first d) (digits_dot ds r (second_holds (is_digit d) (are_digits ds) h))

dots_cut : (n : ℕ) (ns : List ℕ) → between_dots (with_dots (decimal n) (map decimal ns)) ≡ decimal n ∷ map decimal ns
dots_cut n [] = digits_whole (decimal n) (decimal_digits n)
dots_cut n (m ∷ ns) = digits_dot (decimal n) (with_dots (decimal m) (map decimal ns)) (decimal_digits n) ∙ ap (λ ts. decimal n ∷ ts) (dots_cut m ns)

dots_unmarked : (n : ℕ) (ns : List ℕ) → IsTrue (list_all is_unmarked (with_dots (decimal n) (map decimal ns)))
dots_unmarked n [] = decimal_unmarked n
dots_unmarked n (m ∷ ns) = all_both is_unmarked (decimal n) (46 ∷ with_dots (decimal m) (map decimal ns)) (decimal_unmarked n) (dots_unmarked m ns)

all_numbers : (ns : List ℕ) → IsTrue (places ns) → IsTrue (list_all (plain.is_number 1 9223372036854775807) (map decimal ns))
all_numbers [] h = refl
all_numbers (n ∷ ns) h =
    let here = first_holds (is_place n) (places ns) h in
    both_hold (plain.is_number 1 9223372036854775807 (decimal n)) _ (a_number 1 9223372036854775807 n (place_small n here) (place_counted n here)).meets (all_numbers ns (second_holds (is_place n) (places ns) h))

or_second : (a b : Bool) → IsTrue b → IsTrue (a || b)
or_second true b h = refl
or_second false b h = h

longer : (t u : Text) → 0 < length t → 0 < length (t ++ u)
longer t u h = omega (arith, length-append t u)

dots_filled : (n : ℕ) (ns : List ℕ) → IsTrue (is_place n) → 0 < length (with_dots (decimal n) (map decimal ns))
dots_filled n [] h = decimal_nonempty n (place_small n h)
dots_filled n (m ∷ ns) h = longer (decimal n) (46 ∷ with_dots (decimal m) (map decimal ns)) (decimal_nonempty n (place_small n h))

path_suits : (ns : List ℕ) → IsTrue (places ns) → Suits (other is_path) (path (map decimal ns))
path_suits [] h = record { field = unmarked (codes "0") refl; filled = refl; meets = refl }
path_suits (n ∷ ns) h =
    record {
      field = unmarked (with_dots (decimal n) (map decimal ns)) (dots_unmarked n ns);
      filled = filled (with_dots (decimal n) (map decimal ns)) (dots_filled n ns (first_holds (is_place n) (places ns) h));
      meets =
          or_second (same_text (with_dots (decimal n) (map decimal ns)) (codes "0")) _ (ap (list_all (plain.is_number 1 9223372036854775807)) (dots_cut n ns) ∙ all_numbers (n ∷ ns) h);
    }

numbers_back : (ns : List ℕ) → IsTrue (places ns) → map number_in (map decimal ns) ≡ ns
numbers_back [] h = refl
numbers_back (n ∷ ns) h =
    let e = ap plain.or_zero (numbers_told n (place_small n (first_holds (is_place n) (places ns) h))) in
    let es = numbers_back ns (second_holds (is_place n) (places ns) h) in
    λ i. e i ∷ es i

no_beginning : (n : ℕ) (ns : List ℕ) → IsTrue (is_place n) → beginning (n ∷ ns) ≡ n ∷ ns
no_beginning zero ns h = cc
no_beginning (suc n) ns h = refl

path_back : (ns : List ℕ) → IsTrue (places ns) → path_in (path (map decimal ns)) ≡ ns
unfolding digits
path_back [] h = refl
path_back (n ∷ ns) h =
    ap (λ ts. beginning (map number_in ts)) (dots_cut n ns) ∙ ap beginning (numbers_back (n ∷ ns) h) ∙ no_beginning n ns (first_holds (is_place n) (places ns) h)

-- ---- the parts of a path

map_more : (ns : List ℕ) (n : ℕ) → map decimal (ns ++ n ∷ []) ≡ map decimal ns ++ decimal n ∷ []
map_more [] n = refl
map_more (m ∷ ns) n = ap (λ ts. decimal m ∷ ts) (map_more ns n)

numbers_of : (ps : List Piece) → part_numbers ps ≡ map decimal (turned (parts_of ps))
numbers_of [] = refl
numbers_of (p ∷ ps) = ap (λ ts. ts ++ decimal p.part ∷ []) (numbers_of ps) ∙ sym (map_more (turned (parts_of ps)) p.part)

parts_place : (ps : List Piece) → IsTrue (list_all piece_holds ps) → IsTrue (places (parts_of ps))
parts_place [] h = refl
parts_place (p ∷ ps) h =
    both_hold (is_place p.part) (places (parts_of ps)) (first_holds (is_place p.part) (list_all is_value p.held) (first_holds (piece_holds p) (list_all piece_holds ps) h))
    (parts_place ps (second_holds (piece_holds p) (list_all piece_holds ps) h))

turned_place : (ps : List Piece) → IsTrue (list_all piece_holds ps) → IsTrue (places (turned (parts_of ps)))
turned_place ps h = turned_holds is_place (parts_of ps) (parts_place ps h)

pub place_suits : (ps : List Piece) → IsTrue (list_all piece_holds ps) → Suits (other is_path) (path (part_numbers ps))
place_suits ps h = subst (λ ts. Suits (other is_path) (path ts)) (sym (numbers_of ps)) (path_suits (turned (parts_of ps)) (turned_place ps h))

pub place_said : (ps : List Piece) → IsTrue (list_all piece_holds ps) → path_in (path (part_numbers ps)) ≡ turned (parts_of ps)
place_said ps h = ap (λ ts. path_in (path ts)) (numbers_of ps) ∙ path_back (turned (parts_of ps)) (turned_place ps h)

-- ---- what is held on a path

abbrev held_in : Option Part → Holds
held_in None = holds []
held_in (Some x) = x.held

abbrev pub holds_of : List Piece → List (ℕ × Holds)
holds_of [] = []
holds_of (p ∷ ps) = holds_of ps ++ (loops ps, held_in (part_at p.construct p.part)) ∷ []

part_down : (l : ℕ) (o : Option Part) (c : Construct) (go : Construct → Option (List (ℕ × Holds))) → tree_of o ≡ Some c → in_part l o go ≡ option_map (λ hs. (l, held_in o) ∷ hs) (go c)
part_down l None c go e = cc
part_down l (Some x) c go e = ap (λ t. in_tree (l, x.held) t go) e

mapped : (xs : List (ℕ × Holds)) (h : ℕ × Holds) (o : Option (List (ℕ × Holds)))
    → option_map (λ hs. xs ++ hs) (option_map (λ hs. h ∷ hs) o) ≡ option_map (λ hs. (xs ++ h ∷ []) ++ hs) o
mapped xs h None = refl
mapped xs h (Some hs) = ap Some (sym (append_assoc xs (h ∷ []) hs))

itself : (o : Option (List (ℕ × Holds))) → o ≡ option_map (λ hs. [] ++ hs) o
itself None = refl
itself (Some hs) = refl

down : (ps : List Piece) (c root : Construct) (path : List ℕ) → Linked c ps root
    → holds_down 0 root (turned (parts_of ps) ++ path) ≡ option_map (λ hs. holds_of ps ++ hs) (holds_down (loops ps) c path)
down [] c root path l = ap (λ d. holds_down 0 d path) (sym l) ∙ itself (holds_down 0 c path)
down (p ∷ ps) c root path l =
    ap (holds_down 0 root) (append_assoc (turned (parts_of ps)) (p.part ∷ []) path)
    ∙ down ps p.construct root (p.part ∷ path) l.1
    ∙ ap (option_map (λ hs. holds_of ps ++ hs)) (part_down (loops ps) (part_at p.construct p.part) c (λ d. holds_down (is_loop p.construct + loops ps) d path) l.0)
    ∙ mapped (holds_of ps) (loops ps, held_in (part_at p.construct p.part)) (holds_down (is_loop p.construct + loops ps) c path)

at_call : (c : Construct) (n : ℕ) → IsTrue (is_call c) → holds_down n c [] ≡ Some []
at_call c n h = go (is_call c) h
  where
    go : (b : Bool) → IsTrue b → ◌≡◌ {A = Option (List (ℕ × Holds))} (if b then Some [] else None) (Some [])
    go true k = refl
    go false k = cc

pub call_holds_at : (f : Frame) → StandsAtCall f → holds_at false f.program (turned (parts_of f.pieces)) ≡ Some (holds_of f.pieces)
call_holds_at f st =
    let ps : List Piece = f.pieces in
    ap (holds_down 0 (of_program f.program)) (sym (append-nil (turned (parts_of ps))))
    ∙ down ps st.0 (of_program f.program) [] st.2
    ∙ ap (option_map (λ hs. holds_of ps ++ hs)) (at_call st.0 (loops ps) st.1)
    ∙ ap Some (append-nil (holds_of ps))

-- ---- values, one by one

abbrev AllBegin : ℕ → Holds → List Datum → List Datum → Type 0
AllBegin around h before [] = Unit {0}
AllBegin around h before (v ∷ vs) = IsTrue (begins_held around h (before ++ v ∷ [])) × AllBegin around h (before ++ v ∷ []) vs

kinds_then : (ks js : List Kind) (vs us : List Datum) → IsTrue (kinds_fit ks vs) → IsTrue (kinds_fit js us) → IsTrue (kinds_fit (ks ++ js) (vs ++ us))
kinds_then [] js [] us h k = k
kinds_then [] js (v ∷ vs) us h k = cc
kinds_then (x ∷ ks) js [] us h k = cc
kinds_then (x ∷ ks) js (v ∷ vs) us h k = both_hold (kind_fits x v) (kinds_fit (ks ++ js) (vs ++ us)) (first_holds (kind_fits x v) (kinds_fit ks vs) h) (kinds_then ks js vs us (second_holds (kind_fits x v) (kinds_fit ks vs) h) k)

kinds_length : (ks : List Kind) (vs : List Datum) → IsTrue (kinds_fit ks vs) → length vs ≡ length ks
kinds_length [] [] h = refl
kinds_length [] (v ∷ vs) h = cc
kinds_length (k ∷ ks) [] h = cc
kinds_length (k ∷ ks) (v ∷ vs) h = ap suc (kinds_length ks vs (second_holds (kind_fits k v) (kinds_fit ks vs) h))

taken : (ks js : List Kind) (k : Kind) (vs : List Datum) (v : Datum) → length vs ≡ length ks → take (length (vs ++ v ∷ [])) (ks ++ k ∷ js) ≡ ks ++ k ∷ []
taken [] js k [] v e = refl
taken [] js k (u ∷ vs) v e = absurd (omega (arith, e))
taken (x ∷ ks) js k [] v e = absurd (omega (arith, e))
taken (x ∷ ks) js k (u ∷ vs) v e = ap (λ ys. x ∷ ys) (taken ks js k vs v (omega (arith, e)))

kinds_begin : (around : ℕ) (ks js : List Kind) (before vs : List Datum) → IsTrue (kinds_fit ks before) → IsTrue (kinds_fit js vs) → AllBegin around (holds (ks ++ js)) before vs
kinds_begin around ks js before [] h k = tt
kinds_begin around ks [] before (v ∷ vs) h k = cc
kinds_begin around ks (j ∷ js) before (v ∷ vs) h k =
    let one : IsTrue (kinds_fit (j ∷ []) (v ∷ [])) = both_hold (kind_fits j v) true (first_holds (kind_fits j v) (kinds_fit js vs) k) refl in
    let both = kinds_then ks (j ∷ []) before (v ∷ []) h one in (
      subst (λ xs. IsTrue (kinds_fit xs (before ++ v ∷ []))) (sym (taken ks js j before v (kinds_length ks before h))) both,
      subst (λ xs. AllBegin around (holds xs) (before ++ v ∷ []) vs) (append_assoc ks (j ∷ []) js) (kinds_begin around (ks ++ j ∷ []) js (before ++ v ∷ []) vs both (second_holds (kind_fits j v) (kinds_fit js vs) k)),
    )

some_turns : (k : ℕ) (xs : Data) → IsTrue (nat_le 1 k && nat_le k (count xs)) → IsTrue (nonempty xs)
some_turns k no_data h = grind (arith, nat_tests)
some_turns k (item x xs) h = refl

list_begins : (around : ℕ) (vs : List Datum) → IsTrue (held_fits around walks_list vs) → AllBegin around walks_list [] vs
list_begins around (list xs ∷ integer (pos k) ∷ []) h = (some_turns k xs h, (h, tt))
list_begins around _ h = cc

range_begins : (around : ℕ) (vs : List Datum) → IsTrue (held_fits around walks_range vs) → AllBegin around walks_range [] vs
range_begins around (integer a ∷ integer b ∷ []) h = (refl, (h, tt))
range_begins around (object a ∷ object b ∷ []) h = (refl, (h, tt))
range_begins around _ h = cc

reason_begins : (around : ℕ) (vs : List Datum) → IsTrue (held_fits around why_left vs) → AllBegin around why_left [] vs
reason_begins around (list xs ∷ []) h = (h, tt)
reason_begins around _ h = cc

all_begin : (around : ℕ) (x : Holds) (vs : List Datum) → IsTrue (held_fits around x vs) → AllBegin around x [] vs
all_begin around (holds ks) vs h = kinds_begin around [] ks [] vs refl h
all_begin around walks_list vs h = list_begins around vs h
all_begin around walks_range vs h = range_begins around vs h
all_begin around why_left vs h = reason_begins around vs h

list_length : (around : ℕ) (vs : List Datum) → IsTrue (held_fits around walks_list vs) → length vs ≡ 2
list_length around (list xs ∷ integer (pos k) ∷ []) h = refl
list_length around _ h = cc

range_length : (around : ℕ) (vs : List Datum) → IsTrue (held_fits around walks_range vs) → length vs ≡ 2
range_length around (integer a ∷ integer b ∷ []) h = refl
range_length around (object a ∷ object b ∷ []) h = refl
range_length around _ h = cc

reason_length : (around : ℕ) (vs : List Datum) → IsTrue (held_fits around why_left vs) → length vs ≡ 1
reason_length around (list xs ∷ []) h = refl
reason_length around _ h = cc

held_length : (around : ℕ) (x : Holds) (vs : List Datum) → IsTrue (held_fits around x vs) → length vs ≡ held_count x
held_length around (holds ks) vs h = kinds_length ks vs h
held_length around walks_list vs h = list_length around vs h
held_length around walks_range vs h = range_length around vs h
held_length around why_left vs h = reason_length around vs h

part_held : (around : ℕ) (vs : List Datum) (o : Option Part) → IsTrue (part_fits around vs o) → IsTrue (held_fits around (held_in o) vs)
part_held around vs None h = cc
part_held around vs (Some x) h = h

value_told : (more around : ℕ) (x : Holds) (before : List Datum) (v : Datum) → IsTrue (is_value v) → IsTrue (is_near v) → IsTrue (begins_held around x (before ++ v ∷ []))
    → told (values (suc more) around x before) (literal v) ≡ goes_on (values more around x (before ++ v ∷ []) ∷ [])
value_told more around x before v h k l =
    form_told form.held_form (literal v) [] (λ ts. one_value more around x (with_value before (value_of (field_at ts 0)))) (a_value any v h k refl, tt)
    ∙ ap (λ o. one_value more around x (with_value before o)) (values_told v h k)
    ∙ ap (λ b. only_if b fault.frame (values more around x (before ++ v ∷ []) ∷ [])) l

one_by_one : (around : ℕ) (x : Holds) (before vs : List Datum) (us : List Text) (more : List Awaited) → IsTrue (list_all is_value vs) → IsTrue (list_all is_near vs) → AllBegin around x before vs
    → Fine us more → Fine (literal_lines vs ++ us) (values (length vs) around x before ∷ more)
one_by_one around x before [] us more h k b f = fine_same (values zero around x before ∷ more) more us refl f
one_by_one around x before (v ∷ vs) us more h k b f =
    fine_line (values (suc (length vs)) around x before) (values (length vs) around x (before ++ v ∷ []) ∷ []) more (literal v) (literal_lines vs ++ us) refl
    (value_told (length vs) around x before v (first_holds (is_value v) (list_all is_value vs) h) (first_holds (is_near v) (list_all is_near vs) k) b.0)
    (one_by_one around x (before ++ v ∷ []) vs us more (second_holds (is_value v) (list_all is_value vs) h) (second_holds (is_near v) (list_all is_near vs) k) b.1 f)

-- ---- the values of all pieces

lines_then : (vs us : List Datum) → literal_lines (vs ++ us) ≡ literal_lines vs ++ literal_lines us
lines_then [] us = refl
lines_then (v ∷ vs) us = ap (λ ts. literal v ∷ ts) (lines_then vs us)

held_then : (hs gs : List (ℕ × Holds)) → each_held (hs ++ gs) ≡ each_held hs ++ each_held gs
held_then [] gs = refl
held_then (h ∷ hs) gs = ap (λ xs. values (held_count h.1) h.0 h.1 [] ∷ xs) (held_then hs gs)

total_then : (hs gs : List (ℕ × Holds)) → total (hs ++ gs) ≡ total hs + total gs
total_then [] gs = omega arith
total_then (h ∷ hs) gs = let later = total_then hs gs in omega (arith, later)

pub as_many_held : (ps : List Piece) → IsTrue (pieces_fit ps) → total (holds_of ps) ≡ length (values_held ps)
as_many_held [] h = refl
as_many_held (p ∷ ps) h =
    let x : Holds = held_in (part_at p.construct p.part) in
    let here = part_held (loops ps) p.held (part_at p.construct p.part) (first_holds (part_fits (loops ps) p.held (part_at p.construct p.part)) (pieces_fit ps) h) in
    let n = held_length (loops ps) x p.held here in
    let later = as_many_held ps (second_holds (part_fits (loops ps) p.held (part_at p.construct p.part)) (pieces_fit ps) h) in
    total_then (holds_of ps) ((loops ps, x) ∷ []) ∙ sums (total (holds_of ps)) (held_count x) (length (values_held ps)) (length p.held) later n ∙ sym (length-append (values_held ps) p.held)
  where
    sums : (a b c d : ℕ) → a ≡ c → d ≡ b → a + (b + 0) ≡ c + d
    sums a b c d e f = omega (arith, e, f)

split_first : (test : Datum → Bool) (vs us : List Datum) → IsTrue (list_all test (vs ++ us)) → IsTrue (list_all test vs)
split_first test [] us h = refl
split_first test (v ∷ vs) us h = both_hold (test v) (list_all test vs) (first_holds (test v) (list_all test (vs ++ us)) h) (split_first test vs us (second_holds (test v) (list_all test (vs ++ us)) h))

split_second : (test : Datum → Bool) (vs us : List Datum) → IsTrue (list_all test (vs ++ us)) → IsTrue (list_all test us)
split_second test [] us h = h
split_second test (v ∷ vs) us h = split_second test vs us (second_holds (test v) (list_all test (vs ++ us)) h)

pub held_fine : (ps : List Piece) (us : List Text) (more : List Awaited) → IsTrue (pieces_fit ps) → IsTrue (list_all is_value (values_held ps)) → IsTrue (list_all is_near (values_held ps)) → Fine us more
    → Fine (literal_lines (values_held ps) ++ us) (each_held (holds_of ps) ++ more)
held_fine [] us more h k l f = f
held_fine (p ∷ ps) us more h k l f =
    let x : Holds = held_in (part_at p.construct p.part) in
    let here = part_held (loops ps) p.held (part_at p.construct p.part) (first_holds (part_fits (loops ps) p.held (part_at p.construct p.part)) (pieces_fit ps) h) in
    let inner : Fine (literal_lines p.held ++ us) (values (length p.held) (loops ps) x [] ∷ more) =
    one_by_one (loops ps) x [] p.held us more (split_second is_value (values_held ps) p.held k) (split_second is_near (values_held ps) p.held l) (all_begin (loops ps) x p.held here) f in
    let counted : Fine (literal_lines p.held ++ us) (values (held_count x) (loops ps) x [] ∷ more) = subst (λ n. Fine (literal_lines p.held ++ us) (values n (loops ps) x [] ∷ more)) (held_length (loops ps) x p.held here) inner in
    let outer = held_fine ps (literal_lines p.held ++ us) (values (held_count x) (loops ps) x [] ∷ more) (second_holds (part_fits (loops ps) p.held (part_at p.construct p.part)) (pieces_fit ps) h)
    (split_first is_value (values_held ps) p.held k) (split_first is_near (values_held ps) p.held l) counted in
    let lines : literal_lines (values_held ps) ++ (literal_lines p.held ++ us) ≡ literal_lines (values_held (p ∷ ps)) ++ us =
    sym (append_assoc (literal_lines (values_held ps)) (literal_lines p.held) us) ∙ ap (λ ts. ts ++ us) (sym (lines_then (values_held ps) p.held)) in
    let waits : each_held (holds_of ps) ++ (values (held_count x) (loops ps) x [] ∷ more) ≡ each_held (holds_of (p ∷ ps)) ++ more =
    sym (append_assoc (each_held (holds_of ps)) (values (held_count x) (loops ps) x [] ∷ []) more) ∙ ap (λ xs. xs ++ more) (sym (held_then (holds_of ps) ((loops ps, x) ∷ []))) in
    subst (λ ts. Fine ts (each_held (holds_of (p ∷ ps)) ++ more)) lines (subst (λ xs. Fine (literal_lines (values_held ps) ++ (literal_lines p.held ++ us)) xs) waits outer)
