-- Characters that are kept, all at once.
use Rattle.std.proofs.Common.{◌≡◌, ℕ, zero, suc, ◌+◌, ◌-◌, ◌<◌, Bool, true, false, cond, ◌&&◌, List, [], ◌∷◌, ◌++◌, length, take, get_or, refl, sym, ap, ◌∙◌, arith, append_assoc, append-nil, length-append, add-one}
use Rattle.std.specs.Prelude.{◌==◌, nat_lt}
use Rattle.std.specs.List.{list_all}
use Rattle.std.proofs.Math.Seq.{take-suc}
use Rattle.std.proofs.lemmas.Bool.{cond-false, ltb-true, ltb-false}
use Rattle.std.proofs.lemmas.Bool.Decides.{nat_tests}
use Rattle.spec_value.specs.Datum.{is_character}
use Rattle.telnet_line.specs.Telnet.{max_line, Data, with_data}
use Rattle.telnet_line.specs.TelnetReading.{Nothing, Reading}
use Rattle.telnet_line.specs.TelnetSteps.{Step, takes, step_data, reading_after, events_after, with_all}
use Rattle.telnet_line.specs.declared.draft.Draft.{Draft}
use Rattle.telnet_line.specs.Events.{events_given}
use Rattle.telnet_line.specs.Drafts.{begun_of, reading_of, ReadsUpTo, ReadsAll}
use Rattle.telnet_line.proofs.Texts.{and_true, all_snoc}
use Rattle.telnet_line.proofs.Readings.{reading_after-append, events_after-append}

-- one more that is kept
pub kept_more : (piece : List ℕ) (place d : ℕ) → place < length piece → list_all is_character (take place piece) ≡ true → is_character (get_or piece place d) ≡ true → list_all is_character (take (place + 1) piece) ≡ true
kept_more piece place d h k e = rw (add-one, take-suc piece place d h) (all_snoc (take place piece) (get_or piece place d) k e)

not_ended : (b : ℕ) → is_character b ≡ true → (b == 10) ≡ false
not_ended b h = grind (arith, nat_tests)

not_returned : (b : ℕ) → is_character b ≡ true → (b == 13) ≡ false
not_returned b h = grind (arith, nat_tests)

not_iac : (b : ℕ) → is_character b ≡ true → (b == 255) ≡ false
not_iac b h = grind (arith, nat_tests)

kept_step : (b : ℕ) (line : List ℕ) → is_character b ≡ true → step_data b line ≡ takes (Data b) line
kept_step b line h = cond-false (b == 10) _ _ (not_ended b h) ∙ cond-false (b == 13) _ _ (not_returned b h) ∙ cond-false (b == 255) _ _ (not_iac b h)

stuck : (t : Bool) (b : ℕ) (line : List ℕ) → is_character b ≡ true → cond (is_character b && t) (line ++ b ∷ []) line ≡ cond t (line ++ b ∷ []) line
stuck t b line h = ap (λ x. cond (x && t) (line ++ b ∷ []) line) h

with_more : (t : Bool) (b : ℕ) (bs line : List ℕ) → nat_lt (length line) max_line ≡ t → with_all (cond t (line ++ b ∷ []) line) bs ≡ with_all line (b ∷ bs)
with_more true b bs line h =
    let room : max_line - length line ≡ suc (max_line - length (line ++ b ∷ [])) = omega (arith, ltb-true (length line) max_line h, length-append line (b ∷ [])) in
    append_assoc line (b ∷ []) (take (max_line - length (line ++ b ∷ [])) bs) ∙ ap (λ n. line ++ take n (b ∷ bs)) (sym room)
with_more false b bs line h =
    let none : max_line - length line ≡ 0 = omega (arith, ltb-false (length line) max_line h) in
    ap (λ n. line ++ take n bs) none ∙ ap (λ n. line ++ take n (b ∷ bs)) (sym none)

with_next : (b : ℕ) (bs line : List ℕ) → is_character b ≡ true → with_all (with_data line b) bs ≡ with_all line (b ∷ bs)
with_next b bs line h = ap (λ x. with_all x bs) (stuck (nat_lt (length line) max_line) b line h) ∙ with_more (nat_lt (length line) max_line) b bs line refl

abbrev pub ready : List ℕ → Reading
ready line = record { begun = Nothing; line = line }

take_nothing : (n : ℕ) → take n [] ≡ ◌++◌ {A = ℕ} [] []
take_nothing zero = refl
take_nothing (suc n) = refl

pub characters_reading : (bs line : List ℕ) → list_all is_character bs ≡ true → reading_after (ready line) bs ≡ ready (with_all line bs)
characters_reading [] line h = ap ready (sym (ap (λ x. line ++ x) (take_nothing (max_line - length line)) ∙ append-nil line))
characters_reading (b ∷ bs) line h =
    let k = and_true (is_character b) (list_all is_character bs) h in
    ap (λ (s : Step). reading_after s.reading bs) (kept_step b line k.0) ∙ characters_reading bs (with_data line b) k.1 ∙ ap ready (with_next b bs line k.0)

pub characters_events : (bs line : List ℕ) → list_all is_character bs ≡ true → events_after (ready line) bs ≡ []
characters_events [] line h = refl
characters_events (b ∷ bs) line h =
    let k = and_true (is_character b) (list_all is_character bs) h in
    ap (λ (s : Step). s.events ++ events_after s.reading bs) (kept_step b line k.0) ∙ characters_events bs (with_data line b) k.1

-- a draft that has begun no unit, and takes characters
pub characters_draft : (bs : List ℕ) (old new : Draft) → begun_of old.begun ≡ Nothing → list_all is_character bs ≡ true → begun_of new.begun ≡ begun_of old.begun → new.line ≡ with_all old.line bs → new.events ≡ old.events → ReadsAll bs old new
characters_draft bs old new nothing kept begun line events =
    let same : reading_of old ≡ ready old.line = ap (λ x. record { begun = x; line = old.line }) nothing in
    record {
      reading = ap (λ x. record { begun = x; line = new.line }) (begun ∙ nothing) ∙ ap ready line ∙ sym (ap (λ r. reading_after r bs) same ∙ characters_reading bs old.line kept);
      events = ap (λ x. events_given x.items) events ∙ sym (append-nil (events_given old.events.items)) ∙ ap (λ x. events_given old.events.items ++ x) (sym (ap (λ r. events_after r bs) same ∙ characters_events bs old.line kept));
    }

-- what is read of the beginning leaves the rest
pub up_to : (piece front left : List ℕ) (old new : Draft) → front ++ left ≡ piece → ReadsAll front old new → ReadsUpTo piece left old new
up_to piece front left old new e h =
    record {
      reading = ap (λ r. reading_after r left) h.reading ∙ sym (reading_after-append front left (reading_of old)) ∙ ap (reading_after (reading_of old)) e;
      events =
          ap (λ x. x ++ events_after (reading_of new) left) h.events
          ∙ append_assoc (events_given old.events.items) (events_after (reading_of old) front) (events_after (reading_of new) left)
          ∙ ap (λ x. events_given old.events.items ++ x) (ap (λ r. events_after (reading_of old) front ++ events_after r left) h.reading ∙ sym (events_after-append front left (reading_of old)) ∙ ap (events_after (reading_of old)) e);
    }
