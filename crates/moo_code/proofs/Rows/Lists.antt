-- Rows of lists and calls: any list of arguments, and then an operation.
use Rattle.std.proofs.Common.{◌≡◌, ℕ, zero, suc, List, [], ◌∷◌, length, None, refl, sym, ap, ◌∙◌, subst, drop}
use Rattle.std.specs.Prelude.{is_none, codes, if◌then◌else◌}
use Rattle.spec_value.specs.Datum.{Datum, Text, same_text, to_list}
use Rattle.spec_value.specs.Table.{Named}
use Rattle.spec_value.specs.Answer.{limited}
use Rattle.spec_program.specs.Tree.{Expr, listing, call, verb_call, Arguments, no_arguments, argument, splice}
use Rattle.spec_program.specs.Construct.{Construct, of_expr, Piece}
use Rattle.spec_program.specs.Place.{Kind, any_value, any_list, Part, part, nth, parts, argument_parts}
use Rattle.spec_moo.specs.Scene.{Scene}
use Rattle.spec_moo.specs.Leaving.{Leaving}
use Rattle.spec_moo.specs.Pending.{Focus, calls_of}
use Rattle.spec_moo.specs.Natives.{native}
use Rattle.spec_moo.specs.Effect.{natively, on_one}
use Rattle.spec_moo.specs.Held.{Way, listed, spliced, argument_ways, nth_way, ways}
use Rattle.spec_moo.specs.Effects.Calls.{call_effect, with_arguments, pass_effect}
use Rattle.spec_moo.specs.Tables.{has_step, effect, catches, passed_by}
use Rattle.moo_code.specs.Instruction.{Operation, make_list, call_function, call_verb, as_value, arity}
use Rattle.moo_code.specs.Layout.{Around, within, stop, own, above, layout, arguments_layout}
use Rattle.moo_code.specs.Performing.{performed}
use Rattle.moo_code.specs.Machine.{Outer, entries, seen}
use Rattle.moo_code.specs.Stands.{Verb, pending, kept}
use Rattle.moo_code.proofs.Fits.{Fits, FailsAs, Does}
use Rattle.moo_code.proofs.Suiting.{one_answers, calling_verb, calling_function}
use Rattle.moo_code.proofs.Rows.Expressions.{Row}

pub nth_drop : (n : ℕ) (ps : List Part) → nth ps n ≡ nth (drop n ps) 0
nth_drop zero ps = refl
nth_drop (suc n) [] = refl
nth_drop (suc n) (p ∷ ps) = nth_drop n ps

pub drop_next : {X : Type 0} (n : ℕ) (ps : List X) (p : X) (qs : List X) → drop n ps ≡ p ∷ qs → drop (suc n) ps ≡ qs
drop_next {X} n [] p qs e = no_drop n e
  where
    no_drop : (n : ℕ) → drop {A = X} n [] ≡ p ∷ qs → [] ≡ qs
    no_drop zero e = cc
    no_drop (suc n) e = cc
drop_next zero (x ∷ ps) p qs e = ap (drop 1) e
drop_next (suc n) (x ∷ ps) p qs e = drop_next n ps p qs e

pub way_drop : (n : ℕ) (ws : List Way) → nth_way ws n ≡ nth_way (drop n ws) 0
way_drop zero ws = refl
way_drop (suc n) [] = refl
way_drop (suc n) (w ∷ ws) = way_drop n ws

-- it catches nothing in its parts
abbrev pub CatchesNone : Construct → ℕ → Type 0
CatchesNone c m = (s : Scene) (held : List Datum) (l : Leaving) → (catches s c m held l ≡ None) × (passed_by c m l ≡ l)

module _ (x : Around) (c : Construct) (k : ℕ) (kinds : List Kind) (op : Operation) (many : length kinds ≡ k) (takes_all : arity op ≡ k) (fails : FailsAs c as_value) where
  all_fit : ((n : ℕ) → has_step c n ≡ is_none (nth (parts c) n)) → ((n : ℕ) → CatchesNone c (suc n)) → ((n : ℕ) → within x c (suc n) k ≡ above x k) → ((n : ℕ) → Does x c n op [] stop)
      → (es : Arguments) (n : ℕ) → drop n (parts c) ≡ argument_parts kinds es → drop n (ways c) ≡ argument_ways es → Fits x c n k (argument_parts kinds es) (arguments_layout (above x k) k as_value es (own op [] stop))
  all_fit steps none inside does no_arguments n d w = (steps n ∙ ap is_none (nth_drop n (parts c) ∙ ap (λ z. nth z 0) d), takes_all, does n, tt)
  all_fit steps none inside does (argument e more) n d w =
      let a : within x c (suc n) (length kinds) ≡ above x k = ap (within x c (suc n)) many ∙ inside n in (
        steps n ∙ ap is_none (nth_drop n (parts c) ∙ ap (λ z. nth z 0) d),
        many,
        (
          none n,
          (
            refl,
            ap (λ z. layout z (of_expr e)) (sym a),
            (way_drop n (ways c) ∙ ap (λ z. nth_way z 0) w, tt, sym many, tt, fails),
            subst (λ z. Fits x c (suc n) z (argument_parts kinds more) (arguments_layout (above x k) k as_value more (own op [] stop))) (sym many)
                (all_fit steps none inside does more (suc n) (drop_next n (parts c) (part (of_expr e) kinds) (argument_parts kinds more) d) (drop_next n (ways c) listed (argument_ways more) w)),
          ),
        ),
      )
  all_fit steps none inside does (splice e more) n d w =
      let a : within x c (suc n) (length kinds) ≡ above x k = ap (within x c (suc n)) many ∙ inside n in (
        steps n ∙ ap is_none (nth_drop n (parts c) ∙ ap (λ z. nth z 0) d),
        many,
        (
          none n,
          (
            refl,
            ap (λ z. layout z (of_expr e)) (sym a),
            (way_drop n (ways c) ∙ ap (λ z. nth_way z 0) w, tt, sym many, tt, fails),
            subst (λ z. Fits x c (suc n) z (argument_parts kinds more) (arguments_layout (above x k) k as_value more (own op [] stop))) (sym many)
                (all_fit steps none inside does more (suc n) (drop_next n (parts c) (part (of_expr e) kinds) (argument_parts kinds more) d) (drop_next n (ways c) spliced (argument_ways more) w)),
          ),
        ),
      )

-- a function sees of what waits the calls alone
called : (s : Scene) (f : Verb) (vars : Named Datum) (ps : List Piece) (g : Focus) (ks : List Outer) (y : Text) (vs : List Datum) → calls_of f.outer ≡ calls_of (entries ks)
    → call_effect s (seen f.player (kept f vars 0 []) ks) y vs ≡ call_effect s (pending f vars g ps) y vs
called s f vars ps g ks y vs e =
    ap (λ cs. on_one s (λ l. with_arguments s (λ xs. if same_text y (codes "pass") then pass_effect s (pending f vars g ps) xs
    else natively (native s (record { player = f.player; call = f.call; start = f.start_with; callers = cs }) y (to_list xs))) l) vs) (sym e)

pub listing_fits : (es : Arguments) → Row (of_expr (listing es))
unfolding performed effect
listing_fits es x =
    all_fit x (of_expr (listing es)) 1 (any_list ∷ []) make_list refl refl tt (λ n. refl) (λ n s h l. (refl, refl)) (λ n. refl)
    (λ n f vars g ps ks st s vs to after sees count falls. (refl, refl, one_answers (listing es) after to [] stop (falls.0 refl) s limited vs)) es 0 refl refl

pub call_fits : (g : Text) (es : Arguments) → Row (of_expr (call g es))
unfolding performed effect
call_fits y es x =
    all_fit x (of_expr (call y es)) 1 (any_list ∷ []) (call_function y) refl refl tt (λ n. refl) (λ n s h l. (refl, refl)) (λ n. refl)
    (λ n f vars g ps ks st s vs to after sees count falls. (called s f vars ps g ks y vs sees.0, refl, calling_function (call y es) after to [] stop (falls.0 refl) refl s (pending f vars g ps) y vs)) es 0 refl refl

pub verb_call_fits : (o v : Expr) (es : Arguments) → Row (of_expr (verb_call o v es))
unfolding performed effect
verb_call_fits o v es x =
    let c = of_expr (verb_call o v es) in (
      refl,
      refl,
      (
        λ s h l. (refl, refl),
        (
          refl,
          refl,
          refl,
          (
            refl,
            refl,
            (
              λ s h l. (refl, refl),
              (
                refl,
                refl,
                (refl, tt, refl, tt, tt),
                all_fit x c 3 (any_value ∷ any_value ∷ any_list ∷ []) call_verb refl refl tt (λ n. refl) (λ n s h l. (refl, refl)) (λ n. refl)
                    (λ n f vars g ps ks st s vs to after sees count falls. (refl, refl, calling_verb (verb_call o v es) after to [] stop (falls.0 refl) refl s (pending f vars g ps) vs)) es 2 refl refl,
              ),
            ),
          ),
        ),
      ),
    )
