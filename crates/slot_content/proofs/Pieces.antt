-- Literals of values, one behind the other.
use Rattle.std.proofs.Common.{◌≡◌, ℕ, zero, suc, ◌+◌, ◌<◌, ◌≤◌, List, [], ◌∷◌, ◌++◌, length, get_or, take, drop, Option, Some, IsTrue, refl, ap, sym, subst, ◌∙◌, append_assoc, arith, IfSome, IfOk, MatchResult, Result, Ok, Err, true, length-append, take-append-drop}
use Rattle.std.specs.List.{slice_get, list_all}
use Rattle.std.proofs.lemmas.List.{append-nil, take_more}
use Rattle.std.proofs.Math.Seq.{take-append_seam, drop-append_seam}
use Rattle.std.proofs.lemmas.Option.{slice_get_within, get_or_from_slice_get, slice_get-get_or}
use Rattle.spec_value.specs.Datum.{Text, Datum, is_value, is_text}
use Rattle.spec_value.specs.Literal.{literal}
use Rattle.spec_value.proofs.Entries.{first_holds, second_holds, both_hold}
use Rattle.moo_value.proofs.Characters.{is_text-append}
use Rattle.moo_value.proofs.Written.{text_literal}
use Rattle.spec_world.specs.Checkpoint.{list_literal}
use Rattle.spec_checkpoint.proofs.Fields.{whole_value, whole_list}
use Rattle.spec_faults.specs.Literals.{value_of}
use Rattle.spec_faults.proofs.Spelling.{values_spelled}
use Rattle.slot_content.specs.Kept.{literals, marks, AreOf}

pub literals_more : (vs : List Datum) (v : Datum) → literals (vs ++ v ∷ []) ≡ literals vs ++ literal v
literals_more [] v = append-nil (literal v)
literals_more (u ∷ vs) v = ap (λ t. literal u ++ t) (literals_more vs v) ∙ sym (append_assoc (literal u) (literals vs) (literal v))

further : (start : ℕ) (t u w : Text) → (start + length t) + length (u ++ w) ≡ start + length ((t ++ u) ++ w)
further start t u w = omega (arith, ap length (append_assoc t u w), length-append t (u ++ w))

from_nothing : (n : ℕ) → 0 + n ≡ n
from_nothing n = omega arith

shorter : (t u w : Text) → w ≡ t ++ u → length t ≤ length w
shorter t u w e = omega (arith, ap length e, length-append t u)

pub marks_more : (start : ℕ) (vs : List Datum) (v : Datum) → marks start (vs ++ v ∷ []) ≡ marks start vs ++ (start + length (literals vs ++ literal v)) ∷ []
marks_more start [] v = refl
marks_more start (u ∷ vs) v = ap (λ ms. start ∷ ms) (marks_more (start + length (literal u)) vs v ∙ ap (λ n. marks (start + length (literal u)) vs ++ n ∷ []) (further start (literal u) (literals vs) (literal v)))

pub marks_length : (start : ℕ) (vs : List Datum) → length (marks start vs) ≡ length vs + 1
marks_length start [] = refl
marks_length start (v ∷ vs) = omega (arith, marks_length (start + length (literal v)) vs)

-- ---- where a literal lies

literals_join : (us vs : List Datum) → literals (us ++ vs) ≡ literals us ++ literals vs
literals_join [] vs = refl
literals_join (u ∷ us) vs = ap (λ t. literal u ++ t) (literals_join us vs) ∙ sym (append_assoc (literal u) (literals us) (literals vs))

literals_cut : (n : ℕ) (vs : List Datum) → literals vs ≡ literals (take n vs) ++ literals (drop n vs)
literals_cut n vs = ap literals (sym (take-append-drop n vs)) ∙ literals_join (take n vs) (drop n vs)

pub literals_next : (vs : List Datum) (i : ℕ) (d : Datum) → i < length vs → literals (take (i + 1) vs) ≡ literals (take i vs) ++ literal (get_or vs i d)
literals_next vs i d inside = ap literals (take_more vs i d inside) ∙ literals_more (take i vs) (get_or vs i d)

pub mark_at : (start : ℕ) (vs : List Datum) (i d : ℕ) → i ≤ length vs → get_or (marks start vs) i d ≡ start + length (literals (take i vs))
mark_at start [] zero d h = omega arith
mark_at start [] (suc i) d h = absurd (omega arith)
mark_at start (v ∷ vs) zero d h = omega arith
mark_at start (v ∷ vs) (suc i) d h = mark_at (start + length (literal v)) vs i d (omega arith) ∙ omega (arith, length-append (literal v) (literals (take i vs)))

pub marks_within : (vs : List Datum) (n : ℕ) → length (literals (take n vs)) ≤ length (literals vs)
marks_within vs n = shorter (literals (take n vs)) (literals (drop n vs)) (literals vs) (literals_cut n vs)

pub marks_ordered : (vs : List Datum) (i : ℕ) (d : Datum) → i < length vs → length (literals (take i vs)) ≤ length (literals (take (i + 1) vs))
marks_ordered vs i d inside = shorter (literals (take i vs)) (literal (get_or vs i d)) (literals (take (i + 1) vs)) (literals_next vs i d inside)

-- ---- what they are

pub literals_text : (vs : List Datum) → IsTrue (list_all is_value vs) → IsTrue (is_text (literals vs))
literals_text [] h = refl
literals_text (v ∷ vs) h =
    is_text-append (literal v) (literals vs) (text_literal v (first_holds (is_value v) (list_all is_value vs) h)) (literals_text vs (second_holds (is_value v) (list_all is_value vs) h))

pub value_at : (vs : List Datum) (i : ℕ) (v : Datum) → slice_get vs i ≡ Some v → IsTrue (list_all is_value vs) → IsTrue (is_value v)
value_at [] i v e h = cc
value_at (u ∷ vs) zero v e h = let same : u ≡ v = cc in subst (λ x. IsTrue (is_value x)) same (first_holds (is_value u) (list_all is_value vs) h)
value_at (u ∷ vs) (suc i) v e h = value_at vs i v e (second_holds (is_value u) (list_all is_value vs) h)

pub values_more : (vs : List Datum) (v : Datum) → IsTrue (list_all is_value vs) → IsTrue (is_value v) → IsTrue (list_all is_value (vs ++ v ∷ []))
values_more [] v h k = both_hold (is_value v) true k refl
values_more (u ∷ vs) v h k = both_hold (is_value u) (list_all is_value (vs ++ v ∷ [])) (first_holds (is_value u) (list_all is_value vs) h) (values_more vs v (second_holds (is_value u) (list_all is_value vs) h) k)

pub values_next : (vs : List Datum) (i : ℕ) (d : Datum) → i < length vs → IsTrue (list_all is_value (take i vs)) → IsTrue (is_value (get_or vs i d)) → IsTrue (list_all is_value (take (i + 1) vs))
values_next vs i d inside h k = subst (λ us. IsTrue (list_all is_value us)) (sym (take_more vs i d inside)) (values_more (take i vs) (get_or vs i d) h k)

pub marks_next : (vs : List Datum) (i : ℕ) (d : Datum) → i < length vs → marks 0 (take (i + 1) vs) ≡ marks 0 (take i vs) ++ length (literals (take (i + 1) vs)) ∷ []
marks_next vs i d inside =
    ap (marks 0) (take_more vs i d inside) ∙ marks_more 0 (take i vs) (get_or vs i d)
    ∙ ap (λ n. marks 0 (take i vs) ++ n ∷ []) (from_nothing (length (literals (take i vs) ++ literal (get_or vs i d))))
    ∙ ap (λ t. marks 0 (take i vs) ++ length t ∷ []) (sym (literals_next vs i d inside))

pub take_found : (vs : List Datum) (i : ℕ) (v : Datum) → slice_get vs i ≡ Some v → take (i + 1) vs ≡ take i vs ++ v ∷ []
take_found vs i v e = take_more vs i v (slice_get_within vs i v e) ∙ ap (λ u. take i vs ++ u ∷ []) (get_or_from_slice_get vs i v v e)

-- ---- read in the text

pub mark_is : (ms : List ℕ) (vs : List Datum) (i x : ℕ) → ms ≡ marks 0 vs → i ≤ length vs → x ≡ get_or ms i x → x ≡ length (literals (take i vs))
mark_is ms vs i x same h e = e ∙ ap (λ l. get_or l i x) same ∙ mark_at 0 vs i x h ∙ from_nothing (length (literals (take i vs)))

pub front_is : (t : Text) (vs : List Datum) (i x : ℕ) → t ≡ literals vs → x ≡ length (literals (take i vs)) → take x t ≡ literals (take i vs)
front_is t vs i x same e =
    ap (take x) same ∙ ap (λ n. take n (literals vs)) e ∙ ap (take (length (literals (take i vs)))) (literals_cut i vs) ∙ take-append_seam (literals (take i vs)) (literals (drop i vs))

pub back_is : (t : Text) (vs : List Datum) (i x : ℕ) (d : Datum) → i < length vs → t ≡ literals (take (i + 1) vs) → x ≡ length (literals (take i vs)) → drop x t ≡ literal (get_or vs i d)
back_is t vs i x d inside same e =
    ap (drop x) (same ∙ literals_next vs i d inside) ∙ ap (λ n. drop n (literals (take i vs) ++ literal (get_or vs i d))) e ∙ drop-append_seam (literals (take i vs)) (literal (get_or vs i d))

abbrev pub IsPiece : Text → Option Datum → Type 0
IsPiece t o = IfSome o (λ v. (t ≡ literal v) × IsTrue (is_value v))

pub piece_at : (vs : List Datum) (i : ℕ) (t : Text) (d : Datum) → i < length vs → IsTrue (list_all is_value vs) → t ≡ literal (get_or vs i d) → IsPiece t (slice_get vs i)
piece_at vs i t d inside all e = let there = slice_get-get_or vs i d inside in subst (IsPiece t) (sym there) (e, value_at vs i (get_or vs i d) there all)

pub read_back : (vs : List Datum) (i : ℕ) (t : Text) (u : Datum) → i < length vs → IsPiece t (slice_get vs i) → value_of t ≡ Some u → slice_get vs i ≡ Some u
read_back vs i t u inside is e =
    let there = slice_get-get_or vs i u inside in
    let piece : IsPiece t (Some (get_or vs i u)) = subst (IsPiece t) there is in
    let read = values_spelled t u e in
    there ∙ ap Some (whole_value (get_or vs i u) u piece.1 read.range (sym piece.0 ∙ sym read.spelled))

pub read_same : (t : Text) (vs us : List Datum) → AreOf t us → IsTrue (list_all is_value vs) → t ≡ list_literal vs → us ≡ vs
read_same t vs us are all room = whole_list us vs are.values all (are.literal ∙ room)

pub copied : {E : Type 0} → (Q : E → Type 0) (r : Result Datum E) (o : Option Datum) (x : Datum) → MatchResult r (λ v. v ≡ x) Q → o ≡ Some x → IfOk r (λ v. o ≡ Some v)
copied Q (Ok v) o x e there = there ∙ ap Some (sym e)
copied Q (Err _) o x e there = tt
