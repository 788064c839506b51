-- What comes of a text, by its tree or its fault.
use Rattle.std.proofs.Common.{◌≡◌, ◌∙◌, ℕ, ℤ, ◌++◌, List, [], ◌∷◌, Some, Result, Ok, refl, sym, ap, subst}
use Rattle.std.specs.Prelude.{pos, codes}
use Rattle.std.specs.Fmt.{decimal}
use Rattle.spec_value.specs.Datum.{Datum, Text, text, integer}
use Rattle.spec_value.specs.Answer.{Answer, gives}
use Rattle.spec_program.specs.Tree.{Program}
use Rattle.spec_program.specs.ReadPrograms.{Parsed, program, faulty, Fault}
use Rattle.spec_world.specs.World.{World, Verb, Call}
use Rattle.spec_world.specs.Members.{verb_changed}
use Rattle.spec_world.specs.Questions.{verbs_at}
use Rattle.spec_moo.specs.Scene.{Scene, in_world}
use Rattle.spec_moo.specs.NativeEffect.{Caller, answers}
use Rattle.spec_moo.specs.Natives.Rows.{list_value}
use Rattle.spec_moo.specs.Natives.Verbs.{fault_value, programmed, evaluated}
use Rattle.syntax_fault.specs.declared.fault.FaultKind.{FaultKind}
use Rattle.syntax_fault.specs.declared.fault.FaultKind.TheVariants as fault
use Rattle.syntax_fault.specs.declared.fault.SyntaxFault.{SyntaxFault}
use Rattle.syntax_fault.specs.Meaning.{kind_meant, OfKind, IsFault}
use Rattle.moo_syntax.specs.Answer.{IsAnswer}
use Rattle.moo_task.specs.Effects.{effect_of}
use Rattle.moo_task.specs.declared.effect.NativeEffect as effect
use Rattle.view.specs.Law.{Goes}
use Rattle.builtins_view.specs.Programs.{with_program}
use Rattle.builtins.specs.Faults.{kind_told, fault_told, refusal_told}
use Rattle.builtins.specs.Later.{with_call, Programs}

-- whatever is done with the fault's text
module _ {X : Type 0} (does : Parsed → X) (tells : Datum → X) (so : (f : Fault) → does (faulty f) ≡ tells (fault_value f)) where
  told_by : (k : FaultKind) (line : ℕ) (p : Parsed) → OfKind (kind_meant k) line p
      → does p ≡ tells (list_value (text (codes "Line " ++ (decimal line ++ (codes ": " ++ kind_told k))) ∷ []))
  told_by fault.Character line p h = ap does h ∙ so _
  told_by fault.Unclosed line p h = ap does h ∙ so _
  told_by fault.Token line p h = ap does h ∙ so _
  told_by fault.Nesting line p h = ap does h ∙ so _
  told_by fault.Number line p h = ap does h ∙ so _
  told_by fault.LoopName line p h = ap does h ∙ so _
  told_by fault.Memory line p h = absurd h

pub fault_programs : (e : SyntaxFault) (p : Parsed) → IsFault e p → (s : Scene) (o : ℤ) (n : ℕ) → programmed s o n p ≡ answers s (gives (fault_told e))
fault_programs e p h s o n = told_by (programmed s o n) (λ d. answers s (gives d)) (λ f. refl) e.kind e.line p h

pub fault_evaluates : (e : SyntaxFault) (p : Parsed) → IsFault e p → (s : Scene) (c : Caller) (t : Text) → evaluated s c t p ≡ answers s (gives (refusal_told e))
fault_evaluates e p h s c t = told_by (evaluated s c t) (λ d. answers s (gives (list_value (integer (pos 0) ∷ d ∷ [])))) (λ f. refl) e.kind e.line p h

-- ---- of what was read

tree_came : (r : Result Program SyntaxFault) (t : Program) (p : Parsed) → r ≡ Ok t → IsAnswer r p → p ≡ program t
tree_came r t p is h = subst (λ z. IsAnswer z p) is h

-- ---- that is evaluated

pub tree_begins : (r : Result Program SyntaxFault) (t : Program) (d : Call) (x : Text) (e : effect.NativeEffect) → r ≡ Ok t
    → ((s : Scene) (c : Caller) → evaluated s (with_call c d) x (program t) ≡ effect_of e s)
    → (p : Parsed) → IsAnswer r p → (s : Scene) (c : Caller) → evaluated s (with_call c d) x p ≡ effect_of e s
tree_begins r t d x e is so p h s c = ap (λ q. evaluated s (with_call c d) x q) (tree_came r t p is h) ∙ so s c

-- ---- that a verb is given

module _ {V : Type 0} (holds : V → World → Type 0) (now : V → World → World) (old new : V) (o : ℤ) (vs : List Verb) (n : ℕ) where
  pub tree_put : (t q : Program) (v : Datum) → q ≡ t → v ≡ list_value []
      → Goes holds now old new (λ before after. verbs_at before o ≡ Some vs → after ≡ verb_changed before o n (with_program q))
      → Goes holds now old new (λ before after. verbs_at before o ≡ Some vs → Programs o n (program t) before after (gives v))
  tree_put t q v same none put w left =
      let u = put w left in (
        u.0,
        λ is s. ap (λ x. answers (in_world s x) (gives (list_value []))) (sym (u.1 is ∙ ap (λ x. verb_changed (now old w) o n (with_program x)) same))
            ∙ ap (λ x. answers (in_world s (now new w)) (gives x)) (sym none),
      )

  pub tree_programs : (r : Result Program SyntaxFault) (t : Program) (a : Answer) → r ≡ Ok t
      → Goes holds now old new (λ before after. verbs_at before o ≡ Some vs → Programs o n (program t) before after a)
      → Goes holds now old new (λ before after. verbs_at before o ≡ Some vs → (p : Parsed) → IsAnswer r p → Programs o n p before after a)
  tree_programs r t a is so w left =
      let u = so w left in (u.0, λ there p h. subst (λ q. Programs o n q (now old w) (now new w) a) (sym (tree_came r t p is h)) (u.1 there))
