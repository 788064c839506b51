-- The first fault of a text, by what its readers tell.
use Rattle.std.proofs.Common.{◌≡◌, ◌<◌, ◌^◌, ℕ, suc, length, Option, Some, None, IsSomeAnd, Result, Err, refl, ap, sym, ◌∙◌, subst, arith, inl, inr}
use Rattle.spec_value.specs.Datum.{Text}
use Rattle.spec_world.specs.World as meant
use Rattle.spec_world.specs.Checkpoint.{checkpoint_text}
use Rattle.spec_faults.specs.Cutting.{lines_of}
use Rattle.spec_faults.specs.Awaited.{whole}
use Rattle.spec_faults.specs.Faults.{fault_among, first_fault, IsNoWorlds}
use Rattle.spec_faults.proofs.InReach.{only_reach_has_none}
use Rattle.checkpoint_lines.specs.declared.fault.DecodeError.{DecodeError}
use Rattle.checkpoint_lines.specs.declared.fault.DecodeError.TheVariants.{Line, Memory}
use Rattle.checkpoint_lines.specs.declared.fault.FaultKind.TheVariants.{World}
use Rattle.checkpoint_lines.specs.declared.lines.Lines.{Lines}
use Rattle.checkpoint_lines.specs.Told.{IsFault, HasRoom, fault_left, lines_in}
use Rattle.world.specs.Counted.{Counted}
use Rattle.checkpoint.specs.Faulty.{TellsFirst}
use Rattle.checkpoint.specs.Readable.{IsReadable}
use Rattle.checkpoint.proofs.Reach.{readable}

-- ---- all of a text

pub of_all : (l : Lines) (t : Text) → l.left.now ≡ t → l.count ≡ 0 → fault_left l whole ≡ first_fault t
unfolding first_fault
of_all l t left none =
    ap (λ n. fault_among (lines_of l.left.now).lines (lines_of l.left.now).rest (suc n) whole) none
    ∙ ap (λ u. fault_among (lines_of u).lines (lines_of u).rest 1 whole) left

pub lines_of_all : (l : Lines) (t : Text) → l.left.now ≡ t → l.count ≡ 0 → lines_in l ≡ length (lines_of t).lines
lines_of_all l t left none = let same : length (lines_of l.left.now).lines ≡ length (lines_of t).lines = ap (λ u. length (lines_of u).lines) left in omega arith

-- ---- the fault that is told

told : (A : Type 0) (y : DecodeError) (t : Text) → IsFault y (first_fault t) → TellsFirst {A = A} (Err y) t
told A (Line n k) t f = inl f
told A (Memory e) t f = tt

pub tells_first : {A : Type 0} (r : Result A DecodeError) (y e : DecodeError) (t : Text) → r ≡ Err y → y ≡ e → IsFault e (first_fault t) → TellsFirst r t
tells_first {A = A} r y e t is same f = subst (λ s. TellsFirst s t) (sym is) (told A y t (subst (λ d. IsFault d (first_fault t)) (sym same) f))

pub tells_world : {A : Type 0} (r : Result A DecodeError) (n : ℕ) (t : Text) → r ≡ Err (Line n World) → first_fault t ≡ None → n ≡ length (lines_of t).lines → IsNoWorlds t → TellsFirst r t
tells_world r n t is none line no_world =
    subst (λ s. TellsFirst s t) (sym is) (inr (record { none = none; kind = refl; line = line; no_world = no_world }))

-- ---- a text that no world has

-- a well-formed world of values whose text has no fault is readable
no_worlds : (t : Text) → length t < 2 ^ 63 → first_fault t ≡ None → ((w : meant.World) → IsReadable w → t ≡ checkpoint_text w → ⊥) → IsNoWorlds t
no_worlds t small none missing = λ w f h e.
    let size : length (checkpoint_text w) ≡ length t = ap length e in
    missing w (readable w f h (only_reach_has_none w f h (omega arith) (ap first_fault e ∙ none))) (sym e)

-- the world of a text is found, and stays when it is compared with the text
not_missing : (found world : Option Counted) (w : meant.World) (t : Text) → IsSomeAnd found (λ x. x.plain ≡ w) → ((x : Counted) → found ≡ Some x → t ≡ checkpoint_text x.plain → world ≡ Some x)
    → t ≡ checkpoint_text w → world ≡ None → ⊥
not_missing None world w t h stays e missing = h
not_missing (Some x) world w t h stays e missing =
    let is : world ≡ Some x = stays x refl (e ∙ ap checkpoint_text (sym h)) in cc

-- of all lines of a text, which have no fault, a world is found or none, and none has the text
pub tells_none : (l : Lines) (t : Text) (n : ℕ) (found world : Option Counted) (r : Result Counted DecodeError) → l.left.now ≡ t → HasRoom l
    → first_fault l.left.now ≡ None → n ≡ length (lines_of l.left.now).lines
    → ((w : meant.World) → IsReadable w → l.left.now ≡ checkpoint_text w → IsSomeAnd found (λ x. x.plain ≡ w))
    → ((x : Counted) → found ≡ Some x → t ≡ checkpoint_text x.plain → world ≡ Some x) → world ≡ None → r ≡ Err (Line n World) → TellsFirst r t
tells_none l t n found world r left room none line finds stays missing is =
    let size : length l.left.now ≡ length t = ap length left in
    let faultless : first_fault t ≡ None = ap first_fault (sym left) ∙ none in
    tells_world r n t is faultless (line ∙ ap (λ u. length (lines_of u).lines) left)
    (no_worlds t (omega arith) faultless (λ w h e. not_missing found world w t (finds w h (left ∙ e)) stays e missing))
