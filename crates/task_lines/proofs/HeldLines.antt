-- What is awaited of held values while they are read one by one.
use Rattle.std.proofs.Common.{◌≡◌, ◌∙◌, ap, sym, refl, subst, ℕ, zero, suc, List, [], ◌∷◌, ◌++◌, length, Option, Some, IsTrue}
use Rattle.spec_value.specs.Datum.{Datum}
use Rattle.spec_program.specs.Place.{Holds, holds, held_count}
use Rattle.spec_faults.specs.Awaited.{Awaited, values, each_held, opened}
use Rattle.checkpoint_lines.specs.declared.fault.DecodeError.{DecodeError}
use Rattle.checkpoint_lines.specs.declared.lines.Lines.{Lines}
use Rattle.checkpoint_lines.specs.Told.{HasRoom, GoesOn, TellsFault}
use Rattle.held_values.specs.declared.fits.Wanted.{Wanted}
use Rattle.held_values.specs.Wanted.{wanted_fits, wanted_in}
use Rattle.task_lines.specs.Wanting.{wanted_for, IsWantedBy, GoesWith}
use Rattle.checkpoint_lines.proofs.Telling.{goes_then, goes_behind, fault_then, fault_behind}
use Rattle.task_lines.proofs.Telling.{goes_alike}
use Rattle.task_lines.proofs.Wanting.{Follows, all_follow, as_many_wanted}

-- ---- what comes first of what is awaited

-- the same awaits behind what was read
pub goes_same : (l m : Lines) (A B C : List Awaited) → GoesOn l m A B → ((more : List Awaited) → opened (B ++ more) ≡ opened (C ++ more)) → GoesOn l m A C
goes_same l m A B C g same = goes_then l m m A B C g (goes_alike m B C same g.room)

-- ---- while values are read

-- so far from the first lines to the second: some values of what is held, the last of them before; these are wanted
pub record Reading (l m : Lines) (hs : List (ℕ × Holds)) (before : Option Datum) (ws : List Wanted) : Type 0 where
  pub around : ℕ
  pub here : Holds
  pub done : List Datum
  pub next : List Wanted
  pub later : List (ℕ × Holds)
  pub follows : Follows around here done before next
  pub left : ws ≡ next ++ wanted_for later
  pub goes : GoesOn l m (each_held hs) (values (length next) around here done ∷ each_held later)

pub begins : (l : Lines) (hs : List (ℕ × Holds)) (ws : List Wanted) (before : Option Datum) → HasRoom l → IsWantedBy hs ws → Reading l l hs before ws
begins l hs ws before room is =
    record {
      around = 0;
      here = holds [];
      done = [];
      next = [];
      later = hs;
      follows = tt;
      left = is;
      goes = goes_alike l (each_held hs) (values zero 0 (holds []) [] ∷ each_held hs) (λ more. refl) room;
    }

-- one more is wanted, and then these
pub record OneMore (l m : Lines) (hs : List (ℕ × Holds)) (before : Option Datum) (w : Wanted) (ws : List Wanted) : Type 0 where
  pub around : ℕ
  pub here : Holds
  pub done : List Datum
  pub next : List Wanted
  pub later : List (ℕ × Holds)
  pub goes_with : GoesWith around here done w before
  pub follows : (v : Datum) → IsTrue (wanted_fits w before v) → Follows around here (done ++ v ∷ []) (Some v) next
  pub left : ws ≡ next ++ wanted_for later
  pub goes : GoesOn l m (each_held hs) (values (suc (length next)) around here done ∷ each_held later)

one_of : (l m : Lines) (hs : List (ℕ × Holds)) (before : Option Datum) (w : Wanted) (ws : List Wanted) (around : ℕ) (here : Holds) (done : List Datum) (next : List Wanted) (later : List (ℕ × Holds))
    → Follows around here done before next → w ∷ ws ≡ next ++ wanted_for later → GoesOn l m (each_held hs) (values (length next) around here done ∷ each_held later) → OneMore l m hs before w ws
one_of l m hs before w ws around here done [] [] f e g = absurd (cc)
one_of l m hs before w ws around here done [] (k ∷ later) f e g =
    one_of l m hs before w ws k.0 k.1 [] (wanted_in k.0 k.1) later (all_follow k.0 k.1 before) e
    (goes_same l m (each_held hs) (values zero around here done ∷ each_held (k ∷ later)) (values (length (wanted_in k.0 k.1)) k.0 k.1 [] ∷ each_held later) g
    (λ more. ap (λ n. opened (values n k.0 k.1 [] ∷ (each_held later ++ more))) (as_many_wanted k.0 k.1)))
one_of l m hs before w ws around here done (x ∷ next) later f e g =
    let same : w ≡ x = cc in
    let rest : ws ≡ next ++ wanted_for later = cc in
    record {
      around = around;
      here = here;
      done = done;
      next = next;
      later = later;
      goes_with = subst (λ u. GoesWith around here done u before) (sym same) f.0;
      follows = λ v fits. f.1 v (subst (λ u. IsTrue (wanted_fits u before v)) same fits);
      left = rest;
      goes = g;
    }

pub one_more : (l m : Lines) (hs : List (ℕ × Holds)) (before : Option Datum) (w : Wanted) (ws us : List Wanted) → us ≡ w ∷ ws → Reading l m hs before us → OneMore l m hs before w ws
one_more l m hs before w ws us is r = one_of l m hs before w ws r.around r.here r.done r.next r.later r.follows (sym is ∙ r.left) r.goes

pub read_one : (l m k : Lines) (hs : List (ℕ × Holds)) (before : Option Datum) (w : Wanted) (ws : List Wanted) (o : OneMore l m hs before w ws) (v : Datum) (now : Option Datum) → now ≡ Some v → IsTrue (wanted_fits w before v)
    → GoesOn m k (values (suc (length o.next)) o.around o.here o.done ∷ []) (values (length o.next) o.around o.here (o.done ++ v ∷ []) ∷ []) → Reading l k hs now ws
read_one l m k hs before w ws o v now is fits g =
    record {
      around = o.around;
      here = o.here;
      done = o.done ++ v ∷ [];
      next = o.next;
      later = o.later;
      follows = subst (λ b. Follows o.around o.here (o.done ++ v ∷ []) b o.next) (sym is) (o.follows v fits);
      left = o.left;
      goes =
          goes_then l m k (each_held hs) (values (suc (length o.next)) o.around o.here o.done ∷ each_held o.later) (values (length o.next) o.around o.here (o.done ++ v ∷ []) ∷ each_held o.later) o.goes
          (goes_behind m k (values (suc (length o.next)) o.around o.here o.done ∷ []) (values (length o.next) o.around o.here (o.done ++ v ∷ []) ∷ []) (each_held o.later) g);
    }

pub read_none : (e : DecodeError) (l m : Lines) (hs : List (ℕ × Holds)) (before : Option Datum) (w : Wanted) (ws : List Wanted) (o : OneMore l m hs before w ws)
    → (HasRoom m → TellsFault e m (values (suc (length o.next)) o.around o.here o.done ∷ [])) → TellsFault e l (each_held hs)
read_none e l m hs before w ws o t =
    fault_then e l m (each_held hs) (values (suc (length o.next)) o.around o.here o.done ∷ each_held o.later) o.goes
    (fault_behind e m (values (suc (length o.next)) o.around o.here o.done ∷ []) (each_held o.later) (t o.goes.room))

-- ---- behind all of them

no_values : (h : ℕ × Holds) → wanted_in h.0 h.1 ≡ [] → held_count h.1 ≡ 0
no_values h e = as_many_wanted h.0 h.1 ∙ ap length e

first_none : (ws us : List Wanted) → ws ++ us ≡ [] → ws ≡ []
first_none [] us e = refl
first_none (w ∷ ws) us e = absurd (cc)

second_none : (ws us : List Wanted) → ws ++ us ≡ [] → us ≡ []
second_none [] us e = e
second_none (w ∷ ws) us e = absurd (cc)

none_awaited : (hs : List (ℕ × Holds)) (more : List Awaited) → wanted_for hs ≡ [] → opened (each_held hs ++ more) ≡ opened more
none_awaited [] more e = refl
none_awaited (h ∷ hs) more e =
    ap (λ n. opened (values n h.0 h.1 [] ∷ (each_held hs ++ more))) (no_values h (first_none (wanted_in h.0 h.1) (wanted_for hs) e))
    ∙ none_awaited hs more (second_none (wanted_in h.0 h.1) (wanted_for hs) e)

pub all_read : (l m : Lines) (hs : List (ℕ × Holds)) (before : Option Datum) (ws : List Wanted) → ws ≡ [] → Reading l m hs before ws → GoesOn l m (each_held hs) []
all_read l m hs before ws none r =
    let left : r.next ++ wanted_for r.later ≡ [] = sym r.left ∙ none in
    goes_same l m (each_held hs) (values (length r.next) r.around r.here r.done ∷ each_held r.later) [] r.goes
    (λ more. ap (λ n. opened (values n r.around r.here r.done ∷ (each_held r.later ++ more))) (ap length (first_none r.next (wanted_for r.later) left))
    ∙ none_awaited r.later more (second_none r.next (wanted_for r.later) left))
