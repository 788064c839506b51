-- What is left of a text behind what it begins with.
use Rattle.std.proofs.Common.{◌≡◌, ℕ, ℤ, ◌+◌, ◌<◌, ◌≤◌, List, [], ◌∷◌, ◌++◌, Some, None, length, drop, get_or, refl, sym, ap, ◌∙◌, append_assoc}
use Rattle.std.specs.Prelude.{codes, MatchOption, Option}
use Rattle.std.specs.Borrow.{Bor}
use Rattle.std.proofs.lemmas.List.{append-nil, append_cancel_left, drop_all}
use Rattle.spec_value.specs.Datum.{Text}
use Rattle.spec_value.specs.Table.{Numbered, at}
use Rattle.spec_world.specs.World.{World}
use Rattle.spec_world.specs.Checkpoint.{checkpoint_text, with_line_ends}
use Rattle.checkpoint_text.specs.Behind.{BeginsOtherwise}
use Rattle.checkpoint_text.specs.Each.{of_found, of_each}
use Rattle.checkpoint_text.specs.Parts.{front, object_part, task_part, back}
use Rattle.checkpoint_text.proofs.Joined.{lines_behind}
use Rattle.checkpoint_text.proofs.Turns.{next_found}

-- of a text that begins with one and then another

pub behind_both : (one two whole bytes rest last : Text) → one ++ two ≡ whole → bytes ≡ one ++ rest → rest ≡ two ++ last → bytes ≡ whole ++ last
behind_both one two whole bytes rest last w e f = e ∙ ap (λ t. one ++ t) f ∙ sym (append_assoc one two last) ∙ ap (λ t. t ++ last) w

pub otherwise_first : (one two whole bytes : Text) → one ++ two ≡ whole → BeginsOtherwise one bytes → BeginsOtherwise whole bytes
otherwise_first one two whole bytes w other = λ rest e. other (two ++ rest) (e ∙ ap (λ t. t ++ rest) (sym w) ∙ append_assoc one two rest)

pub otherwise_second : (one two whole bytes rest : Text) → one ++ two ≡ whole → bytes ≡ one ++ rest → BeginsOtherwise two rest → BeginsOtherwise whole bytes
otherwise_second one two whole bytes rest w e other = λ last f.
    other last (append_cancel_left one rest (two ++ last) (sym e ∙ f ∙ ap (λ t. t ++ last) (sym w) ∙ append_assoc one two last))

pub match_second : (one two whole bytes rest : Text) (o : Option (Bor Text)) → one ++ two ≡ whole → bytes ≡ one ++ rest
    → MatchOption o (BeginsOtherwise two rest) (λ last. rest ≡ two ++ last.now) → MatchOption o (BeginsOtherwise whole bytes) (λ last. bytes ≡ whole ++ last.now)
match_second one two whole bytes rest None w e other = otherwise_second one two whole bytes rest w e other
match_second one two whole bytes rest (Some last) w e f = behind_both one two whole bytes rest last.now w e f

-- of one that begins with what is written of some records

module _ {X : Type 0} (f : ℤ → X → List Text) (m : Numbered X) where
  -- what is left behind so many of them
  abbrev pub IsLeft : List ℤ → ℕ → Text → Text → Type 0
  IsLeft ks i bytes left =
      (done : Text) × (bytes ≡ done ++ left) × (done ++ with_line_ends (of_each f m (drop i ks)) ≡ with_line_ends (of_each f m ks))

  pub next_left : (ks : List ℤ) (i : ℕ) (k : ℤ) (bytes left rest : Text) → i < length ks → k ≡ get_or ks i k
      → left ≡ with_line_ends (of_found f k (at m k)) ++ rest → IsLeft ks i bytes left → IsLeft ks (i + 1) bytes rest
  next_left ks i k bytes left rest inside is e l =
      let found = with_line_ends (of_found f k (at m k)) in (
        l.0 ++ found,
        l.1 ∙ ap (λ t. l.0 ++ t) e ∙ sym (append_assoc l.0 found rest),
        next_found f m ks i k l.0 (l.0 ++ found) (with_line_ends (of_each f m ks)) inside is refl l.2,
      )

  pub none_left : (ks : List ℤ) (i : ℕ) (k : ℤ) (bytes left : Text) → i < length ks → k ≡ get_or ks i k
      → BeginsOtherwise (with_line_ends (of_found f k (at m k))) left → IsLeft ks i bytes left → BeginsOtherwise (with_line_ends (of_each f m ks)) bytes
  none_left ks i k bytes left inside is other l = λ rest e.
      let found = with_line_ends (of_found f k (at m k)) in
      let later = with_line_ends (of_each f m (drop (i + 1) ks)) in
      let whole = next_found f m ks i k l.0 (l.0 ++ found) (with_line_ends (of_each f m ks)) inside is refl l.2 in
      other (later ++ rest) (append_cancel_left l.0 left (found ++ (later ++ rest))
      (sym l.1 ∙ e ∙ ap (λ t. t ++ rest) (sym whole) ∙ append_assoc (l.0 ++ found) later rest ∙ append_assoc l.0 found (later ++ rest)))

  pub all_left : (ks : List ℤ) (i : ℕ) (bytes left : Text) → length ks ≤ i → IsLeft ks i bytes left → bytes ≡ with_line_ends (of_each f m ks) ++ left
  all_left ks i bytes left end l =
      l.1 ∙ ap (λ t. t ++ left) (sym (append-nil l.0) ∙ ap (λ js. l.0 ++ with_line_ends (of_each f m js)) (sym (drop_all i ks end)) ∙ l.2)

-- of one that begins with several others

-- what is left behind the first ones, of which the later ones are still to come
abbrev pub AreLeft : Text → Text → Text → Text → Type 0
AreLeft whole later bytes left = (done : Text) × (bytes ≡ done ++ left) × (done ++ later ≡ whole)

pub next_part : (whole later one others bytes left rest : Text) → later ≡ one ++ others → left ≡ one ++ rest → AreLeft whole later bytes left → AreLeft whole others bytes rest
next_part whole later one others bytes left rest e f l = (
  l.0 ++ one,
  l.1 ∙ ap (λ t. l.0 ++ t) f ∙ sym (append_assoc l.0 one rest),
  append_assoc l.0 one others ∙ ap (λ t. l.0 ++ t) (sym e) ∙ l.2,
)

pub no_part : (whole later one others bytes left : Text) → later ≡ one ++ others → BeginsOtherwise one left → AreLeft whole later bytes left → BeginsOtherwise whole bytes
no_part whole later one others bytes left e other l = λ rest is.
    other (others ++ rest) (append_cancel_left l.0 left (one ++ (others ++ rest))
    (sym l.1 ∙ is ∙ ap (λ t. t ++ rest) (sym l.2) ∙ append_assoc l.0 later rest ∙ ap (λ t. l.0 ++ (t ++ rest)) e ∙ ap (λ t. l.0 ++ t) (append_assoc one others rest)))

pub no_more : (whole later bytes left : Text) → later ≡ [] → AreLeft whole later bytes left → bytes ≡ whole ++ left
no_more whole later bytes left e l = l.1 ∙ ap (λ t. t ++ left) (sym (append-nil l.0) ∙ ap (λ t. l.0 ++ t) (sym e) ∙ l.2)

-- of a whole world's

module _ (w : World) where
  abbrev first : Text
  first = with_line_ends (front w)

  abbrev objects : Text
  objects = with_line_ends (object_part w)

  abbrev tasks : Text
  tasks = with_line_ends (task_part w)

  abbrev end : Text
  end = with_line_ends (codes "end" ∷ [])

  in_parts : first ++ (objects ++ (tasks ++ end)) ≡ checkpoint_text w
  unfolding checkpoint_text
  in_parts =
      ap (λ t. first ++ (objects ++ t)) (sym (lines_behind (task_part w) (codes "end" ∷ []))) ∙ ap (λ t. first ++ t) (sym (lines_behind (object_part w) (back w)))
      ∙ sym (lines_behind (front w) (object_part w ++ back w))

  -- what is left behind what stands before the objects, and then behind them
  behind_first : (bytes rest : Text) → bytes ≡ first ++ rest → bytes ≡ checkpoint_text w → rest ≡ objects ++ (tasks ++ end)
  behind_first bytes rest e is = append_cancel_left first rest (objects ++ (tasks ++ end)) (sym e ∙ is ∙ sym in_parts)

  behind_objects : (bytes rest left : Text) → bytes ≡ first ++ rest → rest ≡ objects ++ left → bytes ≡ checkpoint_text w → left ≡ tasks ++ end
  behind_objects bytes rest left e f is = append_cancel_left objects left (tasks ++ end) (sym f ∙ behind_first bytes rest e is)

  pub no_first : (bytes : Text) → BeginsOtherwise first bytes → bytes ≡ checkpoint_text w → ⊥
  no_first bytes other is = other (objects ++ (tasks ++ end)) (is ∙ sym in_parts)

  pub no_objects : (bytes rest : Text) → bytes ≡ first ++ rest → BeginsOtherwise objects rest → bytes ≡ checkpoint_text w → ⊥
  no_objects bytes rest e other is = other (tasks ++ end) (behind_first bytes rest e is)

  pub no_tasks : (bytes rest left : Text) → bytes ≡ first ++ rest → rest ≡ objects ++ left → BeginsOtherwise tasks left → bytes ≡ checkpoint_text w → ⊥
  no_tasks bytes rest left e f other is = other end (behind_objects bytes rest left e f is)

  pub is_whole : (bytes rest left last : Text) → bytes ≡ first ++ rest → rest ≡ objects ++ left → left ≡ tasks ++ last → last ≡ end → bytes ≡ checkpoint_text w
  is_whole bytes rest left last e f g h =
      e ∙ ap (λ t. first ++ t) (f ∙ ap (λ t. objects ++ t) (g ∙ ap (λ t. tasks ++ t) h)) ∙ in_parts

  pub is_end : (bytes rest left last : Text) → bytes ≡ first ++ rest → rest ≡ objects ++ left → left ≡ tasks ++ last → bytes ≡ checkpoint_text w → last ≡ end
  is_end bytes rest left last e f g is = append_cancel_left tasks last end (sym g ∙ behind_objects bytes rest left e f is)
