-- Entries, the outermost first: frames, and built-ins that wait.
use Rattle.std.proofs.Common.{◌≡◌, List, [], ◌∷◌, ◌++◌, map, IsTrue, Bool, true, false, not, ◌==◌, refl, ap, sym, ◌∙◌, cond, codes, arith}
use Rattle.std.specs.List.{list_all}
use Rattle.std.specs.Fmt.{decimal}
use Rattle.std.proofs.lemmas.List.{append_cancel_left}
use Rattle.spec_value.specs.Datum.{Text, is_value}
use Rattle.spec_value.proofs.Entries.{first_holds, second_holds}
use Rattle.spec_world.specs.World.{NativeName, move_native, create_native, recycle_native, eval_native, Native, Entry, frame_entry, native_entry}
use Rattle.spec_world.specs.Checkpoint.{list_literal, native_text, entry_lines, each_entry}
use Rattle.spec_checkpoint.specs.Holding.{is_number, native_holds, entry_holds}
use Rattle.spec_checkpoint.proofs.Numbers.{head_same, tail_same, numbers_read_once}
use Rattle.spec_checkpoint.proofs.Lines.{is_without, cut_same}
use Rattle.spec_checkpoint.proofs.Runs.{first_same, rest_same, stops, each_of, AreRecords, records_read_once, begins_with}
use Rattle.spec_checkpoint.proofs.Fields.{number_small, whole_list}
use Rattle.spec_checkpoint.proofs.Turned.{turned, turned_same, turned_holds, each_turned, map_turned}
use Rattle.spec_checkpoint.proofs.FrameRecords.{FrameShown, frame_key, is_value_line, frame_same}

-- ---- what is shown of an entry

pub data Shown : Type 0 where
  frame_shown : FrameShown → Shown
  native_shown : Native → Shown

abbrev pub entry_key : Entry → Shown
entry_key (frame_entry f) = frame_shown (frame_key f)
entry_key (native_entry n) = native_shown n

-- ---- a built-in

native_of : Text → NativeName
native_of [] = move_native
native_of (c ∷ t) = cond (c == 109) move_native (cond (c == 99) create_native (cond (c == 114) recycle_native eval_native))

native_back : (n : NativeName) → native_of (native_text n) ≡ n
unfolding native_of
native_back move_native = refl
native_back create_native = refl
native_back recycle_native = refl
native_back eval_native = refl

native_no_space : (n : NativeName) → IsTrue (is_without 32 (native_text n))
native_no_space move_native = refl
native_no_space create_native = refl
native_no_space recycle_native = refl
native_no_space eval_native = refl

native_told : (m n : Native) → IsTrue (native_holds m) → IsTrue (native_holds n)
    → native_text m.name ++ (32 ∷ (decimal m.stage ++ (32 ∷ list_literal m.arguments))) ≡ native_text n.name ++ (32 ∷ (decimal n.stage ++ (32 ∷ list_literal n.arguments))) → m ≡ n
native_told m n h k e =
    let name = cut_same 32 (native_text m.name) (native_text n.name) (decimal m.stage ++ (32 ∷ list_literal m.arguments)) (decimal n.stage ++ (32 ∷ list_literal n.arguments)) (native_no_space m.name) (native_no_space n.name) e in
    let stage = numbers_read_once m.stage n.stage (32 ∷ list_literal m.arguments) (32 ∷ list_literal n.arguments) (number_small m.stage (first_holds (is_number m.stage) _ h)) (number_small n.stage (first_holds (is_number n.stage) _ k)) refl refl name.1 in
    let arguments = whole_list m.arguments n.arguments (second_holds (is_number m.stage) (list_all is_value m.arguments) h) (second_holds (is_number n.stage) (list_all is_value n.arguments) k)
    (tail_same 32 32 (list_literal m.arguments) (list_literal n.arguments) stage.1) in
    let same : m.name ≡ n.name = sym (native_back m.name) ∙ ap native_of name.0 ∙ native_back n.name in
    λ i. record { name = same i; stage = stage.0 i; arguments = arguments i }

-- ---- entries, the outermost first

abbrev pub is_entry_line : Text → Bool
is_entry_line [] = false
is_entry_line (c ∷ t) = cond (c == 102) true (c == 110)

no_native : (t u : Text) (r s : List Text) → ((102 ∷ t) ∷ r) ≡ ((110 ∷ u) ∷ s) → ⊥
no_native t u r s e = absurd (omega (arith, head_same 102 110 t u (first_same (102 ∷ t) (110 ∷ u) r s e)))

entry_same : (x y : Entry) (r s : List Text) → IsTrue (entry_holds x) → IsTrue (entry_holds y) → IsTrue (stops is_value_line r) → IsTrue (stops is_value_line s)
    → entry_lines x ++ r ≡ entry_lines y ++ s → (entry_key x ≡ entry_key y) × (r ≡ s)
entry_same (frame_entry f) (frame_entry g) r s h k a b e = let p = frame_same f g r s h k a b e in (ap frame_shown p.0, p.1)
entry_same (frame_entry f) (native_entry n) r s h k a b e = absurd (no_native _ _ _ s e)
entry_same (native_entry m) (frame_entry g) r s h k a b e = absurd (no_native _ _ _ r (sym e))
entry_same (native_entry m) (native_entry n) r s h k a b e =
    (ap native_shown (native_told m n h k (append_cancel_left (codes "native ") _ _ (first_same _ _ r s e))), rest_same _ _ r s e)

entry_starts : (x : Entry) (r : List Text) → IsTrue (begins_with is_entry_line (entry_lines x ++ r))
entry_starts (frame_entry f) r = refl
entry_starts (native_entry n) r = refl

entry_goes : (x : Entry) (r : List Text) → IsTrue (stops is_value_line (entry_lines x ++ r))
entry_goes (frame_entry f) r = refl
entry_goes (native_entry n) r = refl

entries_are : AreRecords entry_lines entry_key entry_holds (begins_with is_entry_line) (stops is_value_line)
entries_are = record { starts = entry_starts; goes = entry_goes; one = entry_same }

entries_each : (es : List Entry) → each_entry es ≡ each_of entry_lines (turned es)
entries_each [] = refl
entries_each (e ∷ es) = ap (λ ts. ts ++ entry_lines e) (entries_each es) ∙ sym (each_turned entry_lines e es)

-- in front of a line that is neither an entry's nor a value's
pub entries_in_front : (es fs : List Entry) (r s : List Text) → IsTrue (list_all entry_holds es) → IsTrue (list_all entry_holds fs) → IsTrue (stops is_value_line r) → IsTrue (stops is_value_line s)
    → IsTrue (not (begins_with is_entry_line r)) → IsTrue (not (begins_with is_entry_line s)) → each_entry es ++ r ≡ each_entry fs ++ s → (map entry_key es ≡ map entry_key fs) × (r ≡ s)
entries_in_front es fs r s h k a b m n e =
    let p = records_read_once entry_lines entry_key entry_holds (begins_with is_entry_line) (stops is_value_line) (entries_are) (turned es) (turned fs) r s (turned_holds entry_holds es h) (turned_holds entry_holds fs k) a b m n
    (ap (λ ts. ts ++ r) (sym (entries_each es)) ∙ e ∙ ap (λ ts. ts ++ s) (entries_each fs)) in
    (turned_same (map entry_key es) (map entry_key fs) (sym (map_turned entry_key es) ∙ p.0 ∙ map_turned entry_key fs), p.1)
