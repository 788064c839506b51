-- Texts written one behind the other.
use Rattle.std.proofs.Common.{◌≡◌, ℕ, zero, suc, ◌+◌, ◌<◌, ◌≤◌, List, [], ◌∷◌, ◌++◌, length, get_or, take, Option, Some, None, Result, Ok, Err, OnOk, refl, sym, ap, ◌∙◌, subst, arith, add-one, append_assoc}
use Rattle.std.specs.Io.KnownBytes.{Keeps, Appends}
use Rattle.std.proofs.lemmas.List.{append-nil}
use Rattle.spec_world.specs.Step.{Step}
use Rattle.spec_world.specs.Outcome.{Outcome}
use Rattle.moo_server.specs.Printed.{outcome_lines, printed}

pub nothing_written : (old : Option (List ℕ)) → Appends old old []
nothing_written None = tt
nothing_written (Some xs) = sym (append-nil xs)

pub written_on : (old middle new : Option (List ℕ)) (xs ys : List ℕ) → Appends old middle xs → Appends middle new ys → Appends old new (xs ++ ys)
written_on None m n xs ys h k = tt
written_on (Some a) None n xs ys h k = absurd h
written_on (Some a) (Some b) None xs ys h k = absurd k
written_on (Some a) (Some b) (Some c) xs ys h k = k ∙ ap (λ l. l ++ ys) h ∙ append_assoc a xs ys

pub kept_on : (old middle new : Option (List ℕ)) (xs : List ℕ) → Appends old middle xs → Keeps middle new → Appends old new xs
kept_on None m n xs h k = tt
kept_on (Some a) None n xs h k = absurd h
kept_on (Some a) (Some b) None xs h k = absurd k
kept_on (Some a) (Some b) (Some c) xs h k = k ∙ h

pub written_as : (old new : Option (List ℕ)) (xs ys : List ℕ) → xs ≡ ys → Appends old new xs → Appends old new ys
written_as old new xs ys e h = let P : List ℕ → Type 0 = λ l. Appends old new l in subst P e h

-- the lines of one step more
more_printed : (ss : List Step) (os : List Outcome) (i : ℕ) (s : Step) (o : Outcome) → i < length ss → i < length os
    → printed (take (suc i) ss) (take (suc i) os) ≡ printed (take i ss) (take i os) ++ outcome_lines (get_or ss i s).number (get_or os i o)
more_printed [] os i s o l m = absurd (omega (arith, l))
more_printed (t ∷ ss) [] i s o l m = absurd (omega (arith, m))
more_printed (t ∷ ss) (p ∷ os) zero s o l m = append-nil (outcome_lines t.number p)
more_printed (t ∷ ss) (p ∷ os) (suc i) s o l m =
    ap (λ x. outcome_lines t.number p ++ x) (more_printed ss os i s o (omega (arith, l)) (omega (arith, m)))
    ∙ sym (append_assoc (outcome_lines t.number p) (printed (take i ss) (take i os)) (outcome_lines (get_or ss i s).number (get_or os i o)))

pub one_step_more : (old middle new : Option (List ℕ)) (ss : List Step) (os : List Outcome) (i : ℕ) (s : Step) (o : Outcome) → i < length ss → i < length os
    → Appends old middle (printed (take i ss) (take i os)) → Appends middle new (outcome_lines (get_or ss i s).number (get_or os i o)) → Appends old new (printed (take (i + 1) ss) (take (i + 1) os))
one_step_more old middle new ss os i s o l m h k =
    rw add-one (written_as old new _ _ (sym (more_printed ss os i s o l m)) (written_on old middle new _ _ h k))

-- steps without an outcome have no lines
pub whole_printed : (ss : List Step) (os : List Outcome) → length os ≤ length ss → printed (take (length os) ss) (take (length os) os) ≡ printed ss os
whole_printed [] [] l = refl
whole_printed [] (o ∷ os) l = absurd (omega (arith, l))
whole_printed (s ∷ ss) [] l = refl
whole_printed (s ∷ ss) (o ∷ os) l = ap (λ x. outcome_lines s.number o ++ x) (whole_printed ss os (omega (arith, l)))

pub on_any : {A E P : Type 0} (r : Result A E) → P → OnOk r P
on_any (Ok a) p = p
on_any (Err e) p = tt
