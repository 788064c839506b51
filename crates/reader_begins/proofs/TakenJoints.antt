-- What stands between two expressions is taken if it binds as tightly as is wanted.
use Rattle.std.proofs.Common.{◌≡◌, ℕ, Bool, true, false, List, [], ◌∷◌, if◌then◌else◌, Option, refl, sym, ap, ◌∙◌}
use Rattle.std.specs.Prelude.{nat_le}
use Rattle.spec_program.specs.Tokens.{Placed}
use Rattle.spec_program.specs.Spelling.{operator_level}
use Rattle.spec_program.specs.ReadExpressions as by
use Rattle.spec_program.specs.ReadExpressions.{Found}
use Rattle.spec_program.specs.Frames.{an_expression, Frames}
use Rattle.spec_reader.specs.Next.{found, goes}
use Rattle.spec_reader.specs.Begins.{operators_begin, joint_by, if_tight}
use Rattle.moo_token.specs.declared.fault.TokenFault.{TokenFault}
use Rattle.moo_token.specs.Tokens.{Ending, whole, faulty}
use Rattle.moo_token.specs.Views.{ending_of}
use Rattle.moo_token.specs.Meaning.{ending_meant}
use Rattle.spec_program.specs.Moves.{is_tight}
use Rattle.reader_begins.specs.Joints.{joint_at, tight_joint, left_behind, joint_next}

either : (b : Bool) (k : ℕ) (a : Found) (fs : Frames an_expression) (j : by.Joint) (c : Bool) (p : Placed) (ts : List Placed)
    → if_tight c (joint_next b k a fs j) (found fs a) ts (p ∷ ts)
    ≡ goes (joint_next b k a fs (if c then j else by.no_joint)) (if c then ts else p ∷ ts)
either b k a fs j true p ts = refl
either b k a fs j false p ts = refl

by_joint : (b : Bool) (k : ℕ) (a : Found) (fs : Frames an_expression) (j : by.Joint) (p : Placed) (ts : List Placed)
    → joint_by b k a fs j ts (p ∷ ts) ≡ goes (joint_next b k a fs (tight_joint k j)) (if is_tight k j then ts else p ∷ ts)
by_joint b k a fs (by.operator op) p ts = either b k a fs (by.operator op) (nat_le k (operator_level op)) p ts
by_joint b k a fs by.and_joint p ts = either b k a fs by.and_joint (nat_le k 2) p ts
by_joint b k a fs by.or_joint p ts = either b k a fs by.or_joint (nat_le k 2) p ts
by_joint b k a fs by.question_joint p ts = either b k a fs by.question_joint (nat_le k 1) p ts
by_joint b k a fs by.no_joint p ts = refl

pub operators_taken : (b : Bool) (k : ℕ) (a : Found) (fs : Frames an_expression) (ts : List Placed)
    → operators_begin b k a fs ts ≡ goes (joint_next b k a fs (tight_joint k (joint_at ts))) (left_behind k ts)
operators_taken b k a fs [] = refl
operators_taken b k a fs (p ∷ ts) = by_joint b k a fs (by.joint p.token) p ts

left_at_end : (k : ℕ) (e : Ending) → ending_meant e ≡ left_behind k (ending_meant e)
left_at_end k whole = refl
left_at_end k (faulty c line) = refl

pub nothing_taken : (k : ℕ) (o : Option TokenFault) (ts : List Placed) → ts ≡ ending_meant (ending_of o) → ts ≡ left_behind k ts
nothing_taken k o ts h = rw h (left_at_end k (ending_of o))

-- what binds as tightly is taken, and anything else stays where it lies

pub tight_taken : (k : ℕ) (ts : List Placed) (j : by.Joint) → j ≡ joint_at ts → is_tight k j ≡ true → j ≡ tight_joint k (joint_at ts)
tight_taken k ts j e t = sym (ap (tight_joint k) (sym e) ∙ ap (λ c. if c then j else by.no_joint) t)

pub joint_taken : (k : ℕ) (old new : List Placed) (p : Placed) (j : by.Joint) → old ≡ p ∷ new → j ≡ joint_at old → is_tight k j ≡ true
    → new ≡ left_behind k old
joint_taken k old new p j h e t =
    let tight : is_tight k (by.joint p.token) ≡ true = ap (is_tight k) (sym (e ∙ ap joint_at h)) ∙ t in
    sym (ap (left_behind k) h ∙ ap (λ c. if c then new else p ∷ new) tight)

pub loose_stays : (k : ℕ) (ts : List Placed) (j : by.Joint) → j ≡ joint_at ts → is_tight k j ≡ false → by.no_joint ≡ tight_joint k (joint_at ts)
loose_stays k ts j e t = sym (ap (tight_joint k) (sym e) ∙ ap (λ c. if c then j else by.no_joint) t)

pub joint_stays : (k : ℕ) (ts : List Placed) (j : by.Joint) → j ≡ joint_at ts → is_tight k j ≡ false → ts ≡ left_behind k ts
joint_stays k [] j e t = refl
joint_stays k (p ∷ ts) j e t = sym (ap (λ c. if c then ts else p ∷ ts) (ap (is_tight k) (sym e) ∙ t))
