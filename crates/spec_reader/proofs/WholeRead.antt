-- The steps lead to the end, and what comes out there is the tree of the text or its first fault.
use Rattle.std.proofs.Common.{◌≡◌, ℕ, zero, suc, ◌+◌, ◌<◌, ◌≤◌, Bool, true, false, List, length, refl, sym, ap, ◌∙◌, arith}
use Rattle.spec_program.specs.Tokens.{Placed, tokens_of}
use Rattle.spec_program.specs.Reading.{got}
use Rattle.spec_program.specs.ReadPrograms.{parsed_by, parsed}
use Rattle.spec_program.specs.Frames.{Kind, Of, Frames, push, whole_text, means}
use Rattle.spec_program.proofs.TextMovesHold.{tokens_start}
use Rattle.spec_reader.specs.Next.{Next, found, sticks, State, state_means, next_means}
use Rattle.spec_reader.specs.Behind.{found_by}
use Rattle.spec_reader.specs.Step.{step, step_of}
use Rattle.spec_reader.specs.Work.{work, is_whole, is_over}
use Rattle.spec_reader.specs.Whole.{start, after, ended, found_whole, come_out}
use Rattle.spec_reader.specs.Laws.{StartMeans, EndMeans, TextsReadToEnd}
use Rattle.spec_reader.proofs.StepHolds.{step_keeps}
use Rattle.spec_reader.proofs.StepWorks.{step_works}

pub start_means : StartMeans
start_means n ts h = sym (tokens_start n ts h)

end_found : {a : Kind} (n : ℕ) (fs : Frames a) (v : Of a) (ts : List Placed) → is_whole fs ≡ true → means n fs (got v ts) ≡ found_whole fs v ts
end_found n whole_text v ts h = refl
end_found n (push g fs) v ts h = absurd (cc)

end_is : (n : ℕ) (x : Next) (ts : List Placed) → is_over x ≡ true → next_means n x ts ≡ come_out x ts
end_is n (found fs v) ts h = end_found n fs v ts h
end_is n sticks ts h = refl
end_is n x ts h = absurd (cc)

pub end_means : EndMeans
end_means n all s h = ap (λ r. parsed_by all r) (end_is n s.next s.left h)

-- ---- so many steps

-- where the machine has ended a step changes nothing
rests_found : {a : Kind} (fs : Frames a) (v : Of a) (ts : List Placed) → is_whole fs ≡ true → is_over (found_by fs v ts).next ≡ true
rests_found whole_text v ts h = refl
rests_found (push g fs) v ts h = absurd (cc)

rests : (x : Next) (ts : List Placed) → is_over x ≡ true → is_over (step_of x ts).next ≡ true
rests (found fs v) ts h = rests_found fs v ts h
rests sticks ts h = refl
rests x ts h = absurd (cc)

rests_after : (n : ℕ) (s : State) → is_over s.next ≡ true → is_over (after n s).next ≡ true
unfolding after
rests_after zero s h = h
rests_after (suc n) s h = rests_after n (step s) (rests s.next s.left h)

-- with as many steps as there is work the machine ends
over_after : (n : ℕ) (s : State) → work s ≤ n → is_over (after n s).next ≡ true
unfolding after
over_after n s h = by_end n (is_over s.next) s refl h
  where
    by_end : (n : ℕ) (c : Bool) (s : State) → is_over s.next ≡ c → work s ≤ n → is_over (after n s).next ≡ true
    by_end n true s e h = rests_after n s e
    by_end zero false s e h = let w = step_works s e in absurd (omega (arith, w))
    by_end (suc n) false s e h = let w = step_works s e in by_end n (is_over (step s).next) (step s) refl (omega (arith, w, h))

-- what is meant stays
kept_after : (i n : ℕ) (s : State) → suc (length s.left) < n → state_means n (after i s) ≡ state_means n s
unfolding after
kept_after zero n s h = refl
kept_after (suc i) n s h =
    let k = step_keeps n s h in
    let l = k.left in
    kept_after i n (step s) (omega (arith, h, l)) ∙ k.means

pub texts_read_to_end : TextsReadToEnd
unfolding parsed
texts_read_to_end t =
    let ts = tokens_of t in
    let n = 2 + length ts in
    let enough : suc (length ts) < n = omega arith in
    let over = over_after (work (start ts)) (start ts) (omega arith) in
    record {
      over = over;
      answer =
          sym (end_means n ts (ended ts) over) ∙ ap (λ r. parsed_by ts r) (kept_after (work (start ts)) n (start ts) enough) ∙ start_means n ts enough;
    }
