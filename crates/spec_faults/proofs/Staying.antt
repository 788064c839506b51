-- A fault stays the first whatever comes behind the text.
use Rattle.std.proofs.Common.{◌≡◌, ◌⊎◌, inl, inr, ℕ, suc, ◌==◌, Bool, true, false, List, [], ◌∷◌, ◌++◌, Option, Some, None, refl, ap, sym, ◌∙◌}
use Rattle.spec_value.specs.Datum.{Text}
use Rattle.spec_world.specs.Checkpoint as fault
use Rattle.spec_world.specs.Checkpoint.{CheckpointFault, checkpoint_text}
use Rattle.spec_faults.specs.Cutting.{Cut, onto, with_character, lines_of}
use Rattle.spec_faults.specs.Awaited.{Awaited, Verdict, faulty, goes_on, told, opened, whole}
use Rattle.spec_faults.specs.Faults.{LineFault, at_last, at_line, behind_line, fault_among, fault_in, first_fault}
use Rattle.spec_faults.specs.TextLaws.{FaultStays, BeginningsEnd}
use Rattle.spec_faults.proofs.WorldsFine.{worlds_have_none}

-- ---- lines of a text that goes on

abbrev cut : List Text → Text → Cut
cut ts r = record { lines = ts; rest = r }

abbrev longer : Cut → Text → Cut
longer k r = cut (k.lines ++ (lines_of (k.rest ++ r)).lines) (lines_of (k.rest ++ r)).rest

onto_longer : (c : ℕ) (ts : List Text) (rest r : Text) → (c == 10) ≡ false
    → onto c (ts ++ (lines_of (rest ++ r)).lines) (lines_of (rest ++ r)).rest ≡ longer (onto c ts rest) r
onto_longer c [] rest r e = ap (λ b. with_character b c (lines_of (rest ++ r))) (sym e)
onto_longer c (t ∷ ts) rest r e = refl

goes_longer : (c : ℕ) (k : Cut) (r : Text) (b : Bool) → (c == 10) ≡ b → with_character b c (longer k r) ≡ longer (with_character b c k) r
goes_longer c k r true e = refl
goes_longer c k r false e = onto_longer c k.lines k.rest r e

lines_longer : (t r : Text) → lines_of (t ++ r) ≡ longer (lines_of t) r
lines_longer [] r = refl
lines_longer (c ∷ t) r = ap (with_character (c == 10) c) (lines_longer t r) ∙ goes_longer c (lines_of t) r (c == 10) refl

-- ---- faults

some_same : (f g : LineFault) → Some f ≡ Some g → f ≡ g
some_same f g e = cc

module _ (us : List Text) (rest more : Text) (f : LineFault) (other : f.kind ≡ fault.ended → ⊥) where
  at_end : (awaited : List Awaited) (n : ℕ) → at_last awaited rest n ≡ Some f → ⊥
  at_end [] n e = go rest e
    where
      go : (r : Text) → at_last [] r n ≡ Some f → ⊥
      go [] d = cc
      go (c ∷ r) d = other (ap (λ g. g.kind) (sym (some_same (record { line = n; kind = fault.ended }) f d)))
  at_end (a ∷ awaited) n e = other (ap (λ g. g.kind) (sym (some_same (record { line = n; kind = fault.ended }) f e)))

  -- of the lines behind one
  abbrev Stays : List Text → Type 0
  Stays ts = (n : ℕ) (awaited : List Awaited) → fault_among ts rest n awaited ≡ Some f → fault_among (ts ++ us) more n awaited ≡ Some f

  verdict : (ts : List Text) → Stays ts → (v : Verdict) (left : List Awaited) (n : ℕ) → behind_line v left n (λ next. fault_among ts rest (suc n) next) ≡ Some f
      → behind_line v left n (λ next. fault_among (ts ++ us) more (suc n) next) ≡ Some f
  verdict ts later (faulty before k) left n e = e
  verdict ts later (goes_on next) left n e = later (suc n) (next ++ left) e

  line : (ts : List Text) → Stays ts → (found : List Awaited) (t : Text) (n : ℕ) → at_line found t n (λ next. fault_among ts rest (suc n) next) ≡ Some f
      → at_line found t n (λ next. fault_among (ts ++ us) more (suc n) next) ≡ Some f
  line ts later [] t n e = e
  line ts later (a ∷ left) t n e = verdict ts later (told a t) left n e

  stays : (ts : List Text) → Stays ts
  stays [] n awaited e = absurd (at_end (opened awaited) n e)
  stays (t ∷ ts) n awaited e = line ts (stays ts) (opened awaited) t n e

pub fault_stays : FaultStays
unfolding first_fault
fault_stays t r f e other =
    let k : Cut = lines_of t in
    let behind : Cut = lines_of (k.rest ++ r) in
    ap fault_in (lines_longer t r) ∙ stays behind.lines k.rest behind.rest f other k.lines 1 whole e

-- ---- beginnings of worlds' texts

ended_or_not : (k : CheckpointFault) → (k ≡ fault.ended) ⊎ (k ≡ fault.ended → ⊥)
ended_or_not fault.header = inr (λ e. cc)
ended_or_not fault.ended = inl refl
ended_or_not fault.line = inr (λ e. cc)
ended_or_not fault.number = inr (λ e. cc)
ended_or_not fault.value = inr (λ e. cc)
ended_or_not fault.code = inr (λ e. cc)
ended_or_not fault.world = inr (λ e. cc)
ended_or_not fault.frame = inr (λ e. cc)

none_some : (o : Option LineFault) (f : LineFault) → o ≡ None → o ≡ Some f → ⊥
none_some o f d e = cc

pub beginnings_end : BeginningsEnd
beginnings_end w t r f h e is = go (ended_or_not f.kind)
  where
    go : (f.kind ≡ fault.ended) ⊎ (f.kind ≡ fault.ended → ⊥) → f.kind ≡ fault.ended
    go (inl k) = k
    go (inr k) = absurd (none_some (first_fault (checkpoint_text w)) f (worlds_have_none w h) (ap first_fault e ∙ fault_stays t r f is k))
