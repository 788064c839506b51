-- Steps that are added to a list: one after another, and all that connections say.
use Rattle.std.proofs.Common.{◌≡◌, ◌≤◌, ◌<◌, ℕ, zero, suc, ◌+◌, pos, Bool, true, false, IsTrue, IsFalse, List, [], ◌∷◌, ◌++◌, length, refl, sym, ap, subst, append_assoc, append-nil, length-append, ◌∙◌, arith, ◌==◌, ◌&&◌, nat_le, nat_lt}
use Rattle.std.specs.List.{list_all}
use Rattle.std.proofs.lemmas.Bool.{true≢false, and_parts}
use Rattle.std.proofs.lemmas.List.Folds.{list_all-append}
use Rattle.spec_value.specs.Datum.{Text, is_text}
use Rattle.spec_value.proofs.Entries.{second_holds}
use Rattle.spec_world.specs.WellFormed.{is_connection, is_moment}
use Rattle.telnet_line.specs.Telnet as telnet
use Rattle.spec_world.specs.Step.{Step, Event, open_link, close_link, line_of, in_range, event_in_range, AllInRange}
use Rattle.view.proofs.Renumbered.{number_small}
use Rattle.moo_session.specs.declared.draft.Draft.{Draft}
use Rattle.moo_session.specs.Sessions.{opens, closes, lines_of, talk, happenings, steps_from}
use Rattle.moo_session.specs.Drafts.{Adds, Grows}

steps_append : (n moment : ℕ) (key : List ℕ) (xs ys : List Event) → steps_from n moment key (xs ++ ys) ≡ steps_from n moment key xs ++ steps_from (n + length xs) moment key ys
steps_append n moment key [] ys = let z : n + 0 ≡ n = omega arith in ap (λ m. steps_from m moment key ys) (sym z)
steps_append n moment key (x ∷ xs) ys =
    let z : suc n + length xs ≡ n + suc (length xs) = omega arith in
    ap (λ t. record { number = n; moment = moment; key = key; event = x } ∷ t) (steps_append (suc n) moment key xs ys ∙ ap (λ m. steps_from (suc n) moment key xs ++ steps_from m moment key ys) z)

in_range_parts : (xs ys : List Step) → AllInRange (xs ++ ys) → AllInRange xs × AllInRange ys
in_range_parts xs ys all = and_parts (list_all in_range xs) (list_all in_range ys) (sym (list_all-append in_range xs ys) ∙ all)

pub adds_none : (d : Draft) → Adds [] d d
adds_none d = record {
  kept = λ fits. record { fits = fits; steps = sym (append-nil d.steps.items); next = omega arith; moment = refl; key = refl };
  lost = λ unfit fits all. true≢false (sym fits ∙ unfit);
}

-- nothing is added to a list that does not fit any more
pub adds_lost : (events : List Event) (d : Draft) → d.fits ≡ false → Adds events d d
adds_lost events d unfit = record {
  kept = λ fits. absurd (true≢false (sym fits ∙ unfit));
  lost = λ again fits all. true≢false (sym fits ∙ unfit);
}

-- nor is anything where a step is out of its range
pub adds_unfit : (events : List Event) (a b : Draft) → b.fits ≡ false → (AllInRange (steps_from a.next a.moment a.key events) → ⊥) → Adds events a b
adds_unfit events a b unfit wrong = record {
  kept = λ fits. absurd (true≢false (sym fits ∙ unfit));
  lost = λ again fits all. wrong all;
}

pub adds_one : (e : Event) (a b : Draft) → a.fits ≡ true → b.fits ≡ true → b.steps.items ≡ a.steps.items ++ record { number = a.next; moment = a.moment; key = a.key; event = e } ∷ [] → b.next ≡ a.next + 1 → b.moment ≡ a.moment → b.key ≡ a.key → Adds (e ∷ []) a b
adds_one e a b was fits steps next moment key = record {
  kept = λ again. record { fits = was; steps = steps; next = next; moment = moment; key = key };
  lost = λ unfit again all. true≢false (sym fits ∙ unfit);
}

later : (a b : Draft) (xs ys : List Event) → Grows xs a b → steps_from b.next b.moment b.key ys ≡ steps_from (a.next + length xs) a.moment a.key ys
later a b xs ys one =
    ap (λ n. steps_from n b.moment b.key ys) one.next ∙ (ap (λ m. steps_from (a.next + length xs) m b.key ys) one.moment ∙ ap (λ k. steps_from (a.next + length xs) a.moment k ys) one.key)

grows_more : (xs ys : List Event) (a b c : Draft) → Grows xs a b → Grows ys b c → Grows (xs ++ ys) a c
grows_more xs ys a b c one two =
    record {
      fits = one.fits;
      steps = two.steps ∙ (ap (λ t. t ++ steps_from b.next b.moment b.key ys) one.steps ∙ (append_assoc a.steps.items (steps_from a.next a.moment a.key xs) (steps_from b.next b.moment b.key ys)
          ∙ ap (λ t. a.steps.items ++ t) (ap (λ t. steps_from a.next a.moment a.key xs ++ t) (later a b xs ys one) ∙ sym (steps_append a.next a.moment a.key xs ys))));
      next = two.next ∙ omega (arith, one.next, length-append xs ys);
      moment = two.moment ∙ one.moment;
      key = two.key ∙ one.key;
    }

lost_more : (xs ys : List Event) (a b c : Draft) (fits : Bool) → b.fits ≡ fits → Adds xs a b → Adds ys b c → c.fits ≡ false → a.fits ≡ true → AllInRange (steps_from a.next a.moment a.key (xs ++ ys)) → ⊥
lost_more xs ys a b c true there one two unfit was all =
    two.lost unfit there
    (subst AllInRange (sym (later a b xs ys (one.kept there)))
    (in_range_parts (steps_from a.next a.moment a.key xs) (steps_from (a.next + length xs) a.moment a.key ys) (subst AllInRange (steps_append a.next a.moment a.key xs ys) all)).1)
lost_more xs ys a b c false there one two unfit was all =
    one.lost there was (in_range_parts (steps_from a.next a.moment a.key xs) (steps_from (a.next + length xs) a.moment a.key ys) (subst AllInRange (steps_append a.next a.moment a.key xs ys) all)).0

pub adds_more : (xs ys : List Event) (a b c : Draft) → Adds xs a b → Adds ys b c → Adds (xs ++ ys) a c
adds_more xs ys a b c one two = record {
  kept = λ fits. let second : Grows ys b c = two.kept fits in grows_more xs ys a b c (one.kept second.fits) second;
  lost = λ unfit was all. lost_more xs ys a b c b.fits refl one two unfit was all;
}

first_in_range : (s : Step) → AllInRange (s ∷ []) → IsTrue (in_range s)
first_in_range s all = (and_parts (in_range s) true all).0

last_of_six : (a b c d e f : Bool) → IsTrue (a && b && c && d && e && f) → IsTrue f
last_of_six a b c d e f h = second_holds (a && b && c && d && e) f h

-- a step whose number has no number after it
pub no_number : (n moment : ℕ) (key : List ℕ) (e : Event) → 33554431 < n → AllInRange (steps_from n moment key (e ∷ [])) → ⊥
no_number n moment key e great all =
    let step : Step = record { number = n; moment = moment; key = key; event = e } in
    let small : n ≤ 33554431 = number_small step (first_in_range step all) in
    omega (arith, great, small)

-- a line that is no text
pub no_text : (n moment c : ℕ) (key : List ℕ) (t : Text) → IsFalse (is_text t) → AllInRange (steps_from n moment key (line_of (pos c) t ∷ [])) → ⊥
no_text n moment c key t not_text all =
    let step : Step = record { number = n; moment = moment; key = key; event = line_of (pos c) t } in
    let event : IsTrue (event_in_range (line_of (pos c) t)) =
    last_of_six (nat_le 1 n) (nat_le n 33554431) (is_moment moment) (length key == 32) (list_all (λ b. nat_lt b 256) key) (event_in_range (line_of (pos c) t)) (first_in_range step all) in
    let text : IsTrue (is_text t) = second_holds (nat_le (length t) 4096) (is_text t) (second_holds (is_connection (pos c)) (nat_le (length t) 4096 && is_text t) event) in
    true≢false (sym text ∙ not_text)

opens_snoc : (c k : ℕ) → opens c (suc k) ≡ opens c k ++ open_link (pos (c + k)) ∷ []
opens_snoc c zero = let z : c ≡ c + 0 = omega arith in ap (λ n. open_link (pos n) ∷ []) z
opens_snoc c (suc k) =
    let z : suc c + k ≡ c + suc k = omega arith in
    ap (λ t. open_link (pos c) ∷ t) (opens_snoc (suc c) k ∙ ap (λ n. opens (suc c) k ++ open_link (pos n) ∷ []) z)

closes_snoc : (c k : ℕ) → closes c (suc k) ≡ closes c k ++ close_link (pos (c + k)) ∷ []
closes_snoc c zero = let z : c ≡ c + 0 = omega arith in ap (λ n. close_link (pos n) ∷ []) z
closes_snoc c (suc k) =
    let z : suc c + k ≡ c + suc k = omega arith in
    ap (λ t. close_link (pos c) ∷ t) (closes_snoc (suc c) k ∙ ap (λ n. closes (suc c) k ++ close_link (pos n) ∷ []) z)

pub opens_more : (k : ℕ) (a b c : Draft) → Adds (opens 1 k) a b → Adds (open_link (pos (k + 1)) ∷ []) b c → Adds (opens 1 (k + 1)) a c
opens_more k a b c one two =
    let z : k + 1 ≡ 1 + k = omega arith in
    let y : k + 1 ≡ suc k = omega arith in
    subst (λ es. Adds es a c) (sym (ap (opens 1) y ∙ opens_snoc 1 k)) (adds_more (opens 1 k) (open_link (pos (1 + k)) ∷ []) a b c one (subst (λ n. Adds (open_link (pos n) ∷ []) b c) z two))

pub closes_more : (k : ℕ) (a b c : Draft) → Adds (closes 1 k) a b → Adds (close_link (pos (k + 1)) ∷ []) b c → Adds (closes 1 (k + 1)) a c
closes_more k a b c one two =
    let z : k + 1 ≡ 1 + k = omega arith in
    let y : k + 1 ≡ suc k = omega arith in
    subst (λ es. Adds es a c) (sym (ap (closes 1) y ∙ closes_snoc 1 k)) (adds_more (closes 1 k) (close_link (pos (1 + k)) ∷ []) a b c one (subst (λ n. Adds (close_link (pos n) ∷ []) b c) z two))

lines_append : (c : ℕ) (xs ys : List telnet.Event) → lines_of c (xs ++ ys) ≡ lines_of c xs ++ lines_of c ys
lines_append c [] ys = refl
lines_append c (telnet.Line t ∷ xs) ys = ap (λ r. line_of (pos c) t ∷ r) (lines_append c xs ys)
lines_append c (telnet.Reply b ∷ xs) ys = lines_append c xs ys

pub lines_more : (n : ℕ) (past all : List telnet.Event) (e : telnet.Event) (a b c : Draft) → all ≡ past ++ e ∷ [] → Adds (lines_of n past) a b → Adds (lines_of n (e ∷ [])) b c → Adds (lines_of n all) a c
lines_more n past all e a b c given one two =
    subst (λ es. Adds es a c) (sym (ap (lines_of n) given ∙ lines_append n past (e ∷ []))) (adds_more (lines_of n past) (lines_of n (e ∷ [])) a b c one two)

talk_snoc : (c : ℕ) (past : List (List telnet.Event)) (es : List telnet.Event) → talk c (past ++ es ∷ []) ≡ talk c past ++ lines_of (c + length past) es
talk_snoc c [] es = let z : c ≡ c + 0 = omega arith in append-nil (lines_of c es) ∙ ap (λ n. lines_of n es) z
talk_snoc c (p ∷ past) es =
    let z : suc c + length past ≡ c + suc (length past) = omega arith in
    ap (λ t. lines_of c p ++ t) (talk_snoc (suc c) past es ∙ ap (λ n. talk (suc c) past ++ lines_of n es) z)
    ∙ sym (append_assoc (lines_of c p) (talk (suc c) past) (lines_of (c + suc (length past)) es))

pub talk_more : (k : ℕ) (past all : List (List telnet.Event)) (es : List telnet.Event) (a b c : Draft) → length past ≡ k → all ≡ past ++ es ∷ [] → Adds (talk 1 past) a b → Adds (lines_of (k + 1) es) b c → Adds (talk 1 all) a c
talk_more k past all es a b c len given one two =
    let z : k + 1 ≡ 1 + length past = omega (arith, len) in
    subst (λ x. Adds x a c) (sym (ap (talk 1) given ∙ talk_snoc 1 past es)) (adds_more (talk 1 past) (lines_of (1 + length past) es) a b c one (subst (λ n. Adds (lines_of n es) b c) z two))

pub fills : (all : List (List telnet.Event)) (k : ℕ) (a b c d : Draft) → length all ≡ k → Adds (opens 1 k) a b → Adds (talk 1 all) b c → Adds (closes 1 k) c d → Adds (happenings all) a d
fills all k a b c d len one two three =
    subst (λ n. Adds (opens 1 n ++ (talk 1 all ++ closes 1 n)) a d) (sym len)
    (adds_more (opens 1 k) (talk 1 all ++ closes 1 k) a b d one (adds_more (talk 1 all) (closes 1 k) b c d two three))
