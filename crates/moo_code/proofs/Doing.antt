-- What an effect leads to in the definition and in a machine: on in the same verb, out through handlers, into a verb or a built-in, to a wait.
use Rattle.std.proofs.Common.{◌≡◌, ℕ, zero, suc, ◌+◌, List, [], ◌∷◌, ◌++◌, length, cond, Option, Some, None, refl, sym, ap, ◌∙◌, subst, arith}
use Rattle.spec_value.specs.Datum.{Datum}
use Rattle.spec_value.specs.Table.{Named, with_name}
use Rattle.spec_program.specs.Tree.{Program}
use Rattle.spec_program.specs.Construct.{Construct, of_expr, of_target, of_default, of_statement, of_program, Piece}
use Rattle.spec_program.specs.Place.{Part, parts, part_at, nth, tree_of, held_count, Linked}
use Rattle.spec_moo.specs.Scene.{Scene}
use Rattle.spec_moo.specs.Leaving.{Leaving}
use Rattle.spec_moo.specs.Pending.{Focus, begin, hand, next, leave}
use Rattle.spec_moo.specs.Effect.{Effect, hands, errs, takes, ends, leaves, stays, sets, calls, natively}
use Rattle.spec_moo.specs.Tables.{catches, passed_by}
use Rattle.spec_moo.specs.Turn.{ticks_of, piece, on_tree, on_part, reach, taking, effected, passing, out_of_verb, turn_on, turn}
use Rattle.spec_moo.specs.Segment.{runs, led, paying, after}
use Rattle.moo_code.specs.Instruction.{sign_parts, placed, Sign}
use Rattle.moo_code.specs.Layout.{Caught, front, size, handler}
use Rattle.moo_code.specs.Performing.{onto, catches_by, passes_by}
use Rattle.moo_code.specs.Machine as M
use Rattle.moo_code.specs.Machine.{Kept, Outer, verb, native, Step, on, halts, waits, verbs, lowest, with_operands, place_for, handlers_at, handlers_here, raises_always, code_onto, out_of}
use Rattle.moo_code.specs.Stands.{outcome, part_count, Counted, first_size, operands, around, body, caught_of, part_of, part_size, start, target, marks, Means, Verb, pending, kept, AllWait, Follows}
use Rattle.moo_code.proofs.Fits.{IsExpr, IsEmpty, HasTree, HoldsIn, Lands, CaughtFits, Catching, AllFit}
use Rattle.moo_code.proofs.Stacks.{onto_length, operands_taken, lowest_is, over}
use Rattle.moo_code.proofs.Points.{start_is}
use Rattle.moo_code.proofs.Points as points
use Rattle.moo_code.proofs.Surroundings.{height_is}
use Rattle.moo_code.proofs.Waiting.{later}

-- how a leaving goes on in what waits for a verb
abbrev pub Outs : Verb → List Outer → Type 0
Outs f ks = (vars : Named Datum) (g : Focus) (qs : List Piece) (l : Leaving) (t : ℕ) (s : Scene) → Follows f.player (led t (out_of_verb s (pending f vars g qs) l)) (out_of f.player t ks s l)

-- one turn that costs nothing
pub one_turn : (f : Verb) (t : ℕ) (s : Scene) (vars : Named Datum) (g : Focus) (ps : List Piece) (step : Step) → ticks_of g ≡ 0
    → Follows f.player (led t (turn_on s (pending f vars g ps) g ps)) step → Follows f.player (runs t s (pending f vars g ps)) step
unfolding after turn
one_turn f t s vars g ps step free h = later f.player (runs t s (pending f vars g ps)) (led t (turn_on s (pending f vars g ps) g ps)) step (1, ap (λ k. paying k t s (pending f vars g ps)) free) h

expr_outcome : (c : Construct) → IsExpr c → outcome c ≡ 1
expr_outcome (of_expr e) h = refl
expr_outcome c h = absurd h

module _ (fit : AllFit) (f : Verb) (ks : List Outer) (waiting_are : AllWait f.outer ks) (outs : Outs f ks) where
  abbrev pub root : Construct
  root = of_program f.whole

  abbrev out : ℕ → Scene → Leaving → Step
  out t = out_of f.player t ks

  abbrev put : Named Datum → Scene → ℕ → List Datum → ℕ → Step
  put vars s pc st t = on s (kept f vars pc st) ks t

  pub now : (vars : Named Datum) (t : ℕ) (s : Scene) (g : Focus) (ps : List Piece) (pc : ℕ) (st : List Datum) → Means root g ps pc st → Follows f.player (runs t s (pending f vars g ps)) (put vars s pc st t)
  unfolding after
  now vars t s g ps pc st m = record { by = (f, vars, g, ps, refl, (0, refl), record { place = pc; stack = st; is = refl; means = m; waiting = waiting_are }) }

  -- ---- on in the same verb

  module _ (c : Construct) (ps : List Piece) (linked : Linked c ps root) (counted : Counted ps) where
    abbrev end : ℕ
    end = start ps + size (body ps c)

    pub value_now : IsExpr c → (vars : Named Datum) (v : Datum) (t : ℕ) (s : Scene) (pc : ℕ) → pc ≡ end → Follows f.player (runs t s (pending f vars (hand v) ps)) (put vars s pc (v ∷ operands ps) t)
    value_now i vars v t s pc e = by c i linked refl e
      where
        by : (d : Construct) → IsExpr d → Linked d ps root → c ≡ d → pc ≡ start ps + size (body ps c) → Follows f.player (runs t s (pending f vars (hand v) ps)) (put vars s pc (v ∷ operands ps) t)
        by (of_expr x) i l same e =
            now vars t s (hand v) ps pc (v ∷ operands ps) (x, record { linked = l; counted = counted; count = refl; place = e ∙ ap (λ z. start ps + size (body ps z)) same; stack = refl })
        by (of_target x) i l same e = absurd i
        by (of_default x y) i l same e = absurd i
        by (of_statement x) i l same e = absurd i
        by (of_program x) i l same e = absurd i

    pub empty_now : IsEmpty c → (vars : Named Datum) (t : ℕ) (s : Scene) (pc : ℕ) → pc ≡ end → Follows f.player (runs t s (pending f vars next ps)) (put vars s pc (operands ps) t)
    empty_now i vars t s pc e = now vars t s next ps pc (operands ps) (c, i.1, record { linked = linked; counted = counted; count = sym i.0; place = e; stack = refl })

    part_now : (vars : Named Datum) (m : ℕ) (vs : List Datum) (g : Focus) (qs : List Piece) (t : ℕ) (s : Scene) (pc : ℕ) → HoldsIn (part_at c m) (length vs) → pc ≡ target ps c m
        → Follows f.player (led t (taking s (pending f vars g qs) c m vs ps)) (put vars s pc (onto vs (operands ps)) t)
    part_now vars zero vs g qs t s pc h e = absurd h
    part_now vars (suc m) vs g qs t s pc h e = on_the_part (nth (parts c) m) refl h
      where
        on_the_tree : (x : Part) → nth (parts c) m ≡ Some x → length vs ≡ held_count x.held → (o : Option Construct) → x.tree ≡ o → HasTree o
            → Follows f.player (led t (on_tree s (pending f vars g qs) c m vs ps o)) (put vars s pc (onto vs (operands ps)) t)
        on_the_tree x is k None i h = absurd h
        on_the_tree x is k (Some d) i h =
            let there : tree_of (part_at c (suc m)) ≡ Some d = ap tree_of is ∙ i in
            let q = piece c (suc m) vs in
            let opened : front (points.piece fit ps q d there).link ≡ first_size d = ap (λ b. cond b 1 0) (points.piece fit ps q d there).opened in
            now vars t s (begin d) (q ∷ ps) pc (onto vs (operands ps))
            (record { linked = (there, linked); counted = (k ∙ sym (ap part_count is), counted); place = omega (arith, e, opened, start_is fit f.whole q ps d there); stack = refl })

        on_the_part : (o : Option Part) → nth (parts c) m ≡ o → HoldsIn o (length vs) → Follows f.player (led t (on_part s (pending f vars g qs) c m vs ps o)) (put vars s pc (onto vs (operands ps)) t)
        on_the_part None is h = absurd h
        on_the_part (Some x) is h = on_the_tree x is h.0 x.tree refl h.1

    -- at a place that is known
    pub lands : (vars : Named Datum) (go : ℕ → ℕ) (e : Effect) (pc : ℕ) (g : Focus) (qs : List Piece) (t : ℕ) (s : Scene) → Lands c go (target ps c) e
        → Follows f.player (led t (effected s (pending f vars g qs) c ps e)) (M.lands f.player t ks (out t) s (kept f vars pc (operands ps)) go e)
    unfolding effected
    lands vars go (hands u v) pc g qs t s h = value_now h.1 vars v t u (go 0) h.0
    lands vars go (takes m vs) pc g qs t s h = part_now vars m vs g qs t s (go m) h.1 h.0
    lands vars go (ends u) pc g qs t s h = empty_now h.1 vars t u (go 0) h.0
    lands vars go (sets x v e) pc g qs t s h = lands (with_name vars x v) go e pc g qs t s h
    lands vars go (errs u x) pc g qs t s h = absurd h
    lands vars go (leaves l) pc g qs t s h = absurd h
    lands vars go stays pc g qs t s h = absurd h
    lands vars go (calls d b a) pc g qs t s h = absurd h
    lands vars go (natively x) pc g qs t s h = absurd h

  -- ---- a leaving on its way out

  -- the end of a part, as if it had ended there
  abbrev pub Ended : Type 0
  Ended =
      (vars : Named Datum) (q : Piece) (ps : List Piece) (p : Program) → Linked (of_program p) (q ∷ ps) root → Counted (q ∷ ps) → (g : Focus) (qs : List Piece) (t : ℕ) (s : Scene) (pc : ℕ)
      → pc ≡ start (q ∷ ps) + size (body (q ∷ ps) (of_program p)) → Follows f.player (led t (reach s (pending f vars g qs) q.construct q.part q.held ps)) (put vars s pc (operands (q ∷ ps)) t)

  module _ (ended : Ended) where
    module _ (vars : Named Datum) (q : Piece) (ps : List Piece) (d : Construct) (linked : Linked d (q ∷ ps) root) (counted : Counted (q ∷ ps)) (l : Leaving) (t : ℕ) (s : Scene) (pc : ℕ) (st : List Datum) (past : ℕ) (at : past ≡ start (q ∷ ps) + size (body (q ∷ ps) d)) where
      abbrev whole_of : List Piece → List Datum
      whole_of ps = operands ps

      caught : (go : ℕ → ℕ) (first : ℕ) (sign : Sign) (places : List (ℕ × ℕ)) (more : Step) → Follows f.player (runs t s (pending f vars (leave (passed_by q.construct q.part l)) ps)) more
          → (o : Option Effect) → CaughtFits q.construct (place_for 0 places) (target ps q.construct) q.part o
          → Follows f.player (led t (passing s (pending f vars (leave l) (q ∷ ps)) l q ps o))
          (M.caught_by f.player t ks (out t) s (kept f vars pc (operands ps)) (operands (q ∷ ps)) (record { first = first; past = past; height = 0; held = 0; places = places; sign = sign }) more o)
      caught go first sign places more r None h = r
      caught go first sign places more r (Some stays) h =
          let same : d ≡ of_program h.0 = points.same_construct d (of_program h.0) (sym linked.0 ∙ h.1) in
          ended vars q ps h.0 (h.1, linked.1) counted (leave l) (q ∷ ps) t s past (at ∙ ap (λ z. start (q ∷ ps) + size (body (q ∷ ps) z)) same)
      caught go first sign places more r (Some (hands u v)) h = lands q.construct ps linked.1 counted.1 vars (place_for 0 places) (hands u v) pc (leave l) (q ∷ ps) t s h
      caught go first sign places more r (Some (takes m vs)) h = lands q.construct ps linked.1 counted.1 vars (place_for 0 places) (takes m vs) pc (leave l) (q ∷ ps) t s h
      caught go first sign places more r (Some (ends u)) h = lands q.construct ps linked.1 counted.1 vars (place_for 0 places) (ends u) pc (leave l) (q ∷ ps) t s h
      caught go first sign places more r (Some (sets x v e)) h = lands q.construct ps linked.1 counted.1 vars (place_for 0 places) (sets x v e) pc (leave l) (q ∷ ps) t s h
      caught go first sign places more r (Some (errs u x)) h = absurd h
      caught go first sign places more r (Some (leaves x)) h = absurd h
      caught go first sign places more r (Some (calls a b x)) h = absurd h
      caught go first sign places more r (Some (natively x)) h = absurd h

      abbrev rest_out : Leaving → Step
      rest_out x = M.unwound f.player t ks (out t) s (kept f vars pc st) (marks ps) x

      -- by the handler of a part, if it has one
      by_handler : (o : Option Caught) → Catching (around ps) q.construct q.part (part_count (part_at q.construct q.part)) o → (pre : List Datum) → st ≡ pre ++ operands (q ∷ ps) → (first : ℕ)
          → ((x : Leaving) → Follows f.player (runs t s (pending f vars (leave x) ps)) (rest_out x))
          → Follows f.player (led t (passing s (pending f vars (leave l) (q ∷ ps)) l q ps (catches s q.construct q.part q.held l)))
          (M.unwound f.player t ks (out t) s (kept f vars pc st) (handler (target ps q.construct) first past o ++ marks ps) l)
      by_handler None h pre e first r =
          let k = h s q.held l in
          subst (λ z. Follows f.player (led t (passing s (pending f vars (leave l) (q ∷ ps)) l q ps z)) (rest_out l)) (sym k.0)
          (subst (λ z. Follows f.player (runs t s (pending f vars (leave z) ps)) (rest_out l)) (sym k.1) (r l))
      by_handler (Some g) h pre e first r =
          let n : length q.held ≡ part_count (part_at q.construct q.part) = counted.0 in
          let k = h.2 s q.held l (target ps q.construct) n in
          let many : g.height + g.held ≡ length (operands (q ∷ ps)) = omega (arith, h.0, h.1, n, height_is ps counted.1, onto_length q.held (operands ps)) in
          let held_are : g.held ≡ length q.held = h.1 ∙ sym n in
          let whole_is : lowest (g.height + g.held) st ≡ operands (q ∷ ps) = ap (λ x. lowest x st) many ∙ ap (lowest (length (operands (q ∷ ps)))) e ∙ lowest_is pre (operands (q ∷ ps)) in
          let places = placed (target ps q.construct) (sign_parts g.sign) in
          let now_handled : Leaving → Option Effect → List Datum → List Datum → Step =
          λ x o whole below. M.caught_by f.player t ks (out t) s (kept f vars pc below) whole (record { first = first; past = past; height = g.height; held = g.held; places = places; sign = g.sign }) (rest_out x) o in
          let with_whole : List Datum → Step = λ whole. with_operands g.held [] whole (λ held below. now_handled (passes_by g.sign l) (catches_by s g.sign held l) whole below) in
          let is : with_whole (lowest (g.height + g.held) st) ≡ now_handled (passed_by q.construct q.part l) (catches s q.construct q.part q.held l) (operands (q ∷ ps)) (operands ps) =
          ap with_whole whole_is
          ∙ operands_taken g.held q.held (operands ps) (λ held below. now_handled (passes_by g.sign l) (catches_by s g.sign held l) (operands (q ∷ ps)) below) held_are
          ∙ ap (λ x. now_handled x (catches_by s g.sign q.held l) (operands (q ∷ ps)) (operands ps)) k.0
          ∙ ap (λ o. now_handled (passed_by q.construct q.part l) o (operands (q ∷ ps)) (operands ps)) k.1 in
          subst (Follows f.player (led t (passing s (pending f vars (leave l) (q ∷ ps)) l q ps (catches s q.construct q.part q.held l)))) (sym is)
          (caught (target ps q.construct) first g.sign places (rest_out (passed_by q.construct q.part l)) (r (passed_by q.construct q.part l)) (catches s q.construct q.part q.held l) k.2)

    pub leaving : (ps : List Piece) (c : Construct) → Linked c ps root → Counted ps → (vars : Named Datum) (l : Leaving) (t : ℕ) (s : Scene) (pc : ℕ) (pre st : List Datum) → st ≡ pre ++ operands ps
        → Follows f.player (runs t s (pending f vars (leave l) ps)) (M.unwound f.player t ks (out t) s (kept f vars pc st) (marks ps) l)
    unfolding turn_on
    leaving [] c h k vars l t s pc pre st e = one_turn f t s vars (leave l) [] _ refl (outs vars (leave l) [] l t s)
    leaving (q ∷ ps) c h k vars l t s pc pre st e =
        let r = points.piece fit ps q c h.0 in
        let e' : st ≡ (pre ++ onto q.held []) ++ operands ps = e ∙ over pre q.held (operands ps) in
        let sized : part_size (part_of q.part (body ps q.construct)) ≡ size (body (q ∷ ps) c) = ap part_size r.code_is ∙ ap size r.same in
        let past = start (q ∷ ps) + part_size (part_of q.part (body ps q.construct)) in
        one_turn f t s vars (leave l) (q ∷ ps) _ refl
        (subst (λ o. Follows f.player (led t (passing s (pending f vars (leave l) (q ∷ ps)) l q ps (catches s q.construct q.part q.held l)))
        (M.unwound f.player t ks (out t) s (kept f vars pc st) (handler (target ps q.construct) (start (q ∷ ps)) past (caught_of o) ++ marks ps) l)) (sym r.link_is)
        (by_handler vars q ps c h k l t s pc st past (ap (λ n. start (q ∷ ps) + n) sized) r.link.caught r.catching pre e (start (q ∷ ps))
        (λ x. leaving ps q.construct h.1 k.1 vars x t s pc (pre ++ onto q.held []) st e')))
