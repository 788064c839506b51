-- With the few nodes that are kept something may stand in the place of another that is the same, unless it is too deep.
use Rattle.std.proofs.Common.{◌≡◌, List, [], Option, Some, None, reverse, refl, sym, ap, ◌∙◌, subst}
use Rattle.std.specs.Prelude.{Box, is_some}
use Rattle.std.specs.Global.{Global}
use Rattle.std.proofs.lemmas.List.{append-nil}
use Rattle.spec_program.specs.Tree.{Expr, Target}
use Rattle.spec_program.specs.Reading.{Node}
use Rattle.spec_program.specs.ReadPrograms.{too_deep}
use Rattle.spec_program.specs.ReadExpressions.{no_braces}
use Rattle.spec_program.specs.KeptNodes.{kept}
use Rattle.spec_program.specs.Similar.{Similar, SimilarTarget, no_target, a_target, SimilarBraces, SimilarOperand, none, perhaps, surely}
use Rattle.spec_program.proofs.KeptNodesTell.{kept_of_both}
use Rattle.moo_reader.specs.Views.{whole_of, target_if, braces_of}
use Rattle.moo_reader.specs.declared.found.Whole.{Whole}
use Rattle.moo_reader.specs.declared.found.Scattering.{Scattering}
use Rattle.moo_reader.specs.declared.found.Braces.{Braces}
use Rattle.moo_reader.specs.declared.found.Braces.TheVariants.{NoScatter, PerhapsScatter, SurelyScatter}
use Rattle.reader_trim.specs.Shallow.{IsShallowOperand, IsFew}

-- what is kept of what is kept is the same
kept_again : (ns ms : List Node) → ms ≡ kept ns → kept ns ≡ kept ms
kept_again ns ms h = ap kept (sym (append-nil ns)) ∙ kept_of_both ns [] ∙ ap kept (append-nil (kept ns)) ∙ ap kept (sym h)

pub few_nodes : {X : Type 0} (ns ms : List Node) (x y : X) → ms ≡ kept ns → (too_deep ns ≡ None → x ≡ y) → Similar ns ms x y
few_nodes ns ms x y h e = record { nodes = kept_again ns ms h; same = e }

pub few_items : {X Y : Type 0} (f : List X → Y) (ns ms : List Node) (xs ys : List X) → ms ≡ kept ns → (too_deep ns ≡ None → xs ≡ ys)
    → Similar ns ms (f xs) (f ys)
few_items f ns ms xs ys h e = few_nodes ns ms (f xs) (f ys) h (λ i. ap f (e i))

-- kept the last one first
pub few_reversed : {X Y : Type 0} (f : List X → Y) (ns ms : List Node) (xs ys : List X) → ms ≡ kept ns → (too_deep ns ≡ None → xs ≡ ys)
    → Similar ns ms (f (reverse xs)) (f (reverse ys))
few_reversed f ns ms xs ys h e = few_items (λ zs. f (reverse zs)) ns ms xs ys h e

either_target : (ns ms : List Node) (o q : Option Target) → kept ns ≡ kept ms → (too_deep ns ≡ None → o ≡ q) → is_some o ≡ is_some q
    → SimilarTarget ns ms o q
either_target ns ms None None k e s = no_target ns ms
either_target ns ms (Some t) (Some u) k e s = a_target ns ms t u (record { nodes = k; same = λ d. let h = e d in cc })
either_target ns ms None (Some u) k e s = absurd (cc)
either_target ns ms (Some t) None k e s = absurd (cc)

pub few_whole : (w : Whole) (ms : List Node) (d : Expr) (bs : Braces) → ms ≡ kept w.nodes → IsShallowOperand w.nodes w.is_target w.tree d
    → SimilarBraces (braces_of w.braces) (braces_of bs)
    → SimilarOperand (whole_of w)
    (whole_of (record { line = w.line; tree = d; nodes = ms; is_target = w.is_target; ranged = w.ranged; braces = bs }))
few_whole w ms d bs h s b =
    let parts = few_nodes w.nodes ms w.tree d h s.same in
    record {
      found = record { line = refl; parts = parts };
      target = either_target w.nodes ms (target_if w.is_target w.tree) (target_if w.is_target d) parts.nodes
          (λ x. ap (target_if w.is_target) (s.same x)) s.target;
      ranged = refl;
      braces = b;
    }

-- ---- in their boxes

pub not_scattered : (b : Braces) → b ≡ NoScatter → SimilarBraces (braces_of b) no_braces
not_scattered b i = subst (λ x. SimilarBraces (braces_of x) no_braces) (sym i) none

pub perhaps_scattered : (b : Braces) (s t : Box Scattering Global) → b ≡ PerhapsScatter s → IsFew s.value t.value
    → SimilarBraces (braces_of b) (braces_of (PerhapsScatter t))
perhaps_scattered b s t i f = subst (λ x. SimilarBraces (braces_of x) (braces_of (PerhapsScatter t))) (sym i) (perhaps _ _ _ _ f)

pub surely_scattered : (b : Braces) (s t : Box Scattering Global) → b ≡ SurelyScatter s → IsFew s.value t.value
    → SimilarBraces (braces_of b) (braces_of (SurelyScatter t))
surely_scattered b s t i f = subst (λ x. SimilarBraces (braces_of x) (braces_of (SurelyScatter t))) (sym i) (surely _ _ _ _ f)
